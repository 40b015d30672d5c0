use Rattle.followed_agent.specs.Kept.{AreNoted}
use Rattle.followed_agent.proofs.receipts.note_all.Given as goal

abbrev pub invariant-loop-place : goal.invariant-loop-place
invariant-loop-place l = AreNoted l.got l.place l.journal
