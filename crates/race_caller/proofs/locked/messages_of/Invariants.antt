use Rattle.std.proofs.Common.{All}
use Rattle.nsi_primitive.specs.Printable.{IsPrintable}
use Rattle.race_caller.proofs.locked.messages_of.Given as goal

abbrev pub invariant-loop-line : goal.invariant-loop-line
invariant-loop-line l = All IsPrintable l.messages.items
