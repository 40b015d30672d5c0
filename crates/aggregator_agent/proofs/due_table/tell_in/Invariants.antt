use Rattle.std.proofs.Common.{take}
use Rattle.aggregator_agent.specs.Dues.{AreToldAt}
use Rattle.aggregator_agent.proofs.due_table.tell_in.Given as goal

abbrev pub invariant-loop-place : goal.invariant-loop-place
invariant-loop-place l = AreToldAt (take l.place-index l.places) l.initial.dues.items l.dues.items
