use Rattle.run_requests.proofs.Taken.{taken_were_said as those_were_said}
use Rattle.run_requests.proofs.laws.taken_were_said.Goals as goal

pub returns : goal.returns
returns c = those_were_said c.sent.ensures.heard
