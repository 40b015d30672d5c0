use Rattle.provider_agent.proofs.FirstNamed.{IsIdleBefore}
use Rattle.provider_agent.proofs.work.first_place.Given as goal

abbrev pub invariant-loop-place : goal.invariant-loop-place
invariant-loop-place l = IsIdleBefore l.records l.waiting l.place-index
