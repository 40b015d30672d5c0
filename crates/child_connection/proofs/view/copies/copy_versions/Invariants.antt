use Rattle.std.proofs.Common.{◌≡◌, take}
use Rattle.child_connection.proofs.view.copies.copy_versions.Given as goal

abbrev pub invariant-loop-version : goal.invariant-loop-version
invariant-loop-version l = l.copy.items ≡ take l.version-index l.versions
