use Rattle.known_commits.proofs.Runs.{confirmations_are_known}
use Rattle.known_commits.proofs.laws.known.Goals as goal

pub returns : goal.returns
returns c = confirmations_are_known c.agents.ensures.own c.sent.ensures.heard c.awaited.ensures c.confirmed_is_committed.ensures
