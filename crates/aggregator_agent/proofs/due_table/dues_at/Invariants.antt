use Rattle.std.proofs.Common.{◌≡◌, map, take}
use Rattle.aggregator_agent.specs.Dues.{due_at}
use Rattle.aggregator_agent.proofs.due_table.dues_at.Given as goal

abbrev pub invariant-loop-place : goal.invariant-loop-place
invariant-loop-place l = l.some.items ≡ map (λ p. due_at p l.dues) (take l.place-index l.places)
