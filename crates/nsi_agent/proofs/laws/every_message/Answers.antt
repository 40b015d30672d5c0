use Rattle.nsi_agent.proofs.RequesterSays.{AreLaws}
use Rattle.nsi_agent.proofs.OwnMessages.{what_is_said_is_its_own, is_named_as_declared}
use Rattle.nsi_agent.proofs.LeastWays.{asks_go_along_links}
use Rattle.nsi_agent.proofs.laws.every_message.Goals as goal

pub returns-clause-own : goal.returns-clause-own
returns-clause-own c =
    let laws : AreLaws = record { asks = c.places.ensures.asks; messages = c.places.ensures.messages } in
    what_is_said_is_its_own laws

pub returns-clause-named : goal.returns-clause-named
returns-clause-named c = is_named_as_declared

pub returns-clause-links : goal.returns-clause-links
returns-clause-links c = asks_go_along_links
