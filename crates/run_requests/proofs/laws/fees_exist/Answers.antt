use Rattle.run_requests.proofs.Exist.{fees_exist as they_exist}
use Rattle.run_requests.proofs.laws.fees_exist.Goals as goal

pub returns : goal.returns
returns c = they_exist c.reach_is_a_sum.ensures c.views_were_reserved.ensures
