use Rattle.std.proofs.Common.{◌≡◌, ◌++◌, take}
use Rattle.message_retry.proofs.outbox.Outbox.put_some.Given as goal

abbrev pub invariant-loop-message : goal.invariant-loop-message
invariant-loop-message l = (l.count ≡ l.message-index) × (l.self ≡ l.fn.self ++ take l.count l.messages)
