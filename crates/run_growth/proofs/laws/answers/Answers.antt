use Rattle.run_growth.proofs.Sent.{answers_are_of_requests}
use Rattle.run_growth.proofs.laws.answers.Goals as goal

pub returns : goal.returns
returns c = answers_are_of_requests c.sent.ensures.heard
