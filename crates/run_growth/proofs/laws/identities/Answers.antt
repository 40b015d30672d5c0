use Rattle.run_growth.proofs.Sent.{identities_are_one}
use Rattle.run_growth.proofs.laws.identities.Goals as goal

pub returns : goal.returns
returns c = identities_are_one c.sent.ensures.heard
