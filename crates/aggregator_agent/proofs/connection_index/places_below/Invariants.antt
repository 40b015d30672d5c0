use Rattle.std.proofs.Common.{◌≡◌, take, filter, nat_lt}
use Rattle.aggregator_agent.proofs.connection_index.places_below.Given as goal

abbrev pub invariant-loop-place : goal.invariant-loop-place
invariant-loop-place l = l.below.items ≡ filter (λ p. nat_lt p l.count) (take l.place-index l.places)
