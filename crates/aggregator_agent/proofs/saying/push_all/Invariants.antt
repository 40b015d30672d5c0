use Rattle.std.proofs.Common.{◌≡◌, ◌++◌}
use Rattle.aggregator_agent.proofs.saying.push_all.Given as goal

-- what is said, and behind it what is still to be said
abbrev pub invariant-loop-message : goal.invariant-loop-message
invariant-loop-message l = l.out.items ++ l.message-iterator.rest.items ≡ l.initial.out.items ++ l.fn.messages.items
