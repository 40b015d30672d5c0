use Rattle.std.proofs.Common.{◌≡◌, drop}
use Rattle.sole_requester.specs.Sole.{first_named}
use Rattle.race_caller.proofs.serving.first_named.Given as goal

abbrev pub invariant-loop-message : goal.invariant-loop-message
invariant-loop-message l = first_named l.fn.messages ≡ first_named (drop l.message-index l.fn.messages)
