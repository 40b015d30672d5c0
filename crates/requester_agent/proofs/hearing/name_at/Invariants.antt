use Rattle.std.proofs.Common.{drop}
use Rattle.requester_agent.proofs.Naming.{AreNamedBut}
use Rattle.requester_agent.proofs.hearing.name_at.Given as goal

abbrev pub invariant-loop-place : goal.invariant-loop-place
invariant-loop-place l = AreNamedBut l.id l.places (drop l.place-index l.places) l.fn.ids l.ids
