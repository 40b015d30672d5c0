use Rattle.race_caller.specs.Hearing.{HasHeardSome}
use Rattle.race_caller.proofs.asker.Asker.hear_all.Given as goal

abbrev pub invariant-loop-message : goal.invariant-loop-message
invariant-loop-message l = HasHeardSome l.fn.topology l.fn.place l.fn.messages.items l.fn.self l.self l.message-iterator.rest.items
