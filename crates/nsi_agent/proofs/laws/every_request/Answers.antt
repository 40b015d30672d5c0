use Rattle.nsi_agent.proofs.RequesterSays.{AreLaws}
use Rattle.nsi_agent.proofs.DrawnOnce.{AreLawsOfIds, requests_have_ids, requests_are_drawn_once}
use Rattle.nsi_agent.proofs.laws.every_request.Goals as goal

pub returns-clause-ids : goal.returns-clause-ids
returns-clause-ids c =
    let views : AreLaws = record { asks = c.places.ensures.asks; messages = c.places.ensures.messages } in
    let laws : AreLawsOfIds = record { views = views; ids = c.every_entry.ensures.ids; blank = c.every_state.ensures.blank; good = c.every_state.ensures.good } in
    requests_have_ids laws

pub returns-clause-apart : goal.returns-clause-apart
returns-clause-apart c =
    let views : AreLaws = record { asks = c.places.ensures.asks; messages = c.places.ensures.messages } in
    let laws : AreLawsOfIds = record { views = views; ids = c.every_entry.ensures.ids; blank = c.every_state.ensures.blank; good = c.every_state.ensures.good } in
    requests_are_drawn_once laws
