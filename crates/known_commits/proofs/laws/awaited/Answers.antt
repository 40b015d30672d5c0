use Rattle.known_commits.proofs.Runs.{confirmations_are_awaited}
use Rattle.known_commits.proofs.laws.awaited.Goals as goal

pub returns : goal.returns
returns c = confirmations_are_awaited c.agents.ensures.own c.sent.ensures.heard
