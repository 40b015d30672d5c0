use Rattle.nsi_world.proofs.Sending.{heard_was_sent, sent_stays_sent}
use Rattle.nsi_world.proofs.laws.sent.Goals as goal

pub returns-clause-heard : goal.returns-clause-heard
returns-clause-heard c = heard_was_sent

pub returns-clause-stays : goal.returns-clause-stays
returns-clause-stays c = sent_stays_sent
