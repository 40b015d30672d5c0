use Rattle.std.proofs.Common.{◌≡◌, drop}
use Rattle.nsi_primitive.specs.Kinds.{first_error_named}
use Rattle.nsi_primitive.proofs.kind.first_error_named.Given as goal

abbrev pub invariant-loop-error : goal.invariant-loop-error
invariant-loop-error l = first_error_named l.name l.errors ≡ first_error_named l.name (drop l.error-index l.errors)
