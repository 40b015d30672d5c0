use Rattle.aggregator_agent.proofs.FirstOwned.{IsPassed}
use Rattle.aggregator_agent.proofs.find.place_among.Given as goal

abbrev pub invariant-loop-place : goal.invariant-loop-place
invariant-loop-place l = IsPassed l.id l.owner l.connections l.places l.place-index
