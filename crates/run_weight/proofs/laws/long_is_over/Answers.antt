use Rattle.run_weight.proofs.Settling.{stopped_long_is_over, long_is_over as it_is_over}
use Rattle.run_weight.proofs.laws.long_is_over.Goals as goal

pub returns-clause-stopped : goal.returns-clause-stopped
returns-clause-stopped c = stopped_long_is_over c.messages_are_few.ensures c.plays_ask_few.ensures c.plays_are_short.ensures.stopped c.plays_are_scripted.ensures.counts

pub returns-clause-calm : goal.returns-clause-calm
returns-clause-calm c = it_is_over c.messages_are_few.ensures c.plays_ask_few.ensures c.plays_are_short.ensures.stopped c.plays_are_scripted.ensures.counts
