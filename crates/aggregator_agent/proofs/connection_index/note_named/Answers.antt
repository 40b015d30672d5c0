use Rattle.std.proofs.Common.{◌∙◌, sym}
use Rattle.aggregator_agent.proofs.Noting.{about_none, about_noted}
use Rattle.aggregator_agent.proofs.connection_index.note_named.Goals as goal

pub returns-in-None : goal.returns-in-None
returns-in-None c = about_none c.args.ids.now c.args.message.now c.args.places.now.items (sym c.named_connection.ensures ∙ c.in-None.is)

pub returns-in-Some : goal.returns-in-Some
returns-in-Some c = about_noted c.note_places.result c.args.ids.now c.args.message.now c.args.places.now.items c.note_places.new.places.items c.in-Some.id (sym c.named_connection.ensures ∙ c.in-Some.is) c.note_places.ensures
