use Rattle.std.proofs.Common.{◌≡◌, ◌++◌}
use Rattle.connection_record.specs.Replies.{addressed}
use Rattle.agent_state.proofs.saying.push_replies.Given as goal

-- what is said, and behind it what is still to be said
abbrev pub invariant-loop-reply : goal.invariant-loop-reply
invariant-loop-reply l = l.out.items ++ addressed l.agent l.owner l.reply-iterator.rest.items ≡ l.initial.out.items ++ addressed l.agent l.owner l.fn.replies.items
