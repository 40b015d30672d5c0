use Rattle.request_worth.proofs.Journals.{aggregators_ask_no_more as they_ask_no_more}
use Rattle.request_worth.proofs.laws.aggregators_ask_no_more.Goals as goal

pub returns : goal.returns
returns c = they_ask_no_more c.reach_is_a_sum.ensures
