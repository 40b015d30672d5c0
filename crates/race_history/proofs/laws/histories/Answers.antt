use Rattle.std.proofs.Common.{refl}
use Rattle.provider_agent.specs.Setting.{setting_of, own_stp}
use Rattle.race_history.proofs.Books.{history_alike, may_all, capped_gone, few_events}
use Rattle.race_history.proofs.laws.histories.Goals as goal

pub returns-clause-alike : goal.returns-clause-alike
returns-clause-alike c = λ t u p events h. history_alike (setting_of t p) (setting_of u p) (own_stp t p) (own_stp u p) events refl h

pub returns-clause-again : goal.returns-clause-again
returns-clause-again c = may_all

pub returns-clause-capped : goal.returns-clause-capped
returns-clause-capped c = capped_gone

pub returns-clause-short : goal.returns-clause-short
returns-clause-short c = λ t p events h. few_events (setting_of t p) (own_stp t p) events h
