use Rattle.run_growth.proofs.Sent.{one_is_outstanding}
use Rattle.run_growth.proofs.laws.outstanding.Goals as goal

pub returns : goal.returns
returns c = one_is_outstanding c.sent.ensures.heard
