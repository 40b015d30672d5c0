use Rattle.run_weight.proofs.Settling.{stopped_plays_settle, plays_settle as they_settle}
use Rattle.run_weight.proofs.laws.plays_settle.Goals as goal

pub returns-clause-stopped : goal.returns-clause-stopped
returns-clause-stopped c = stopped_plays_settle c.messages_are_few.ensures c.plays_ask_few.ensures c.plays_are_short.ensures.stopped

pub returns-clause-calm : goal.returns-clause-calm
returns-clause-calm c = they_settle c.messages_are_few.ensures c.plays_ask_few.ensures c.plays_are_short.ensures.stopped c.plays_are_scripted.ensures.counts
