use Rattle.std.proofs.Common.{◌≡◌}
use Rattle.message_retry.specs.Numbered.{first_number}
use Rattle.message_retry.proofs.outbox.first_among.Given as goal

abbrev pub invariant-loop-number : goal.invariant-loop-number
invariant-loop-number l = first_number l.fn.i l.fn.messages ≡ first_number l.fn.i l.number-iterator
