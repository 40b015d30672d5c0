use Rattle.std.specs.Map.{values_of}
use Rattle.message_retry.proofs.NumberLemmas.{popped_more}
use Rattle.message_retry.proofs.outbox.pop_some.Goals as goal

pub loop-turn-preserved : goal.loop-turn-preserved
loop-turn-preserved c = (
  popped_more c.loop-turn._turn (values_of c.args.messages.now.entries) (values_of c.loop-turn.messages.entries) (values_of c.pop.new.messages.entries) c.loop-turn.invariant.0 c.pop.ensures.front,
  λ names spans all. c.pop.ensures.kept names spans (c.loop-turn.invariant.1 names spans all),
)
