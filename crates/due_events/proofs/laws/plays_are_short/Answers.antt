use Rattle.due_events.proofs.CalmPlays.{calm_plays_are_short}
use Rattle.due_events.proofs.ShortPlays.{plays_are_short as they_are}
use Rattle.due_events.proofs.laws.plays_are_short.Goals as goal

pub returns-clause-stopped : goal.returns-clause-stopped
returns-clause-stopped c =
    they_are (record { own = c.agents.ensures.own; once = c.agents.ensures.once; printable = c.agents.ensures.printable }) c.sent.ensures.heard c.every_state.ensures.blank c.every_state.ensures.good

pub returns-clause-calm : goal.returns-clause-calm
returns-clause-calm c =
    calm_plays_are_short (record { own = c.agents.ensures.own; once = c.agents.ensures.once; printable = c.agents.ensures.printable }) c.sent.ensures.heard c.every_state.ensures.blank
    c.every_state.ensures.good
