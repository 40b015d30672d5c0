use Rattle.nsi_agent.proofs.RequesterSays.{AreLaws}
use Rattle.circuit_laws.proofs.Backing.{runs_are_backed, views_rise}
use Rattle.circuit_laws.proofs.laws.views.Goals as goal

pub returns-clause-backed : goal.returns-clause-backed
returns-clause-backed c =
    let laws : AreLaws = record { asks = c.places.ensures.asks; messages = c.places.ensures.messages } in
    runs_are_backed laws c.sent.ensures.heard

pub returns-clause-rise : goal.returns-clause-rise
returns-clause-rise c =
    let laws : AreLaws = record { asks = c.places.ensures.asks; messages = c.places.ensures.messages } in
    views_rise laws c.sent.ensures.heard c.rising.ensures.rise c.in_step.ensures
