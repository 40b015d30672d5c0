use Rattle.std.proofs.Common.{◌∙◌, ap}
use Rattle.std.proofs.lemmas.List.{get_or_default}
use Rattle.aggregator_agent.specs.Bonds.{is_owned}
use Rattle.aggregator_agent.proofs.find.is_owned_at.Goals as goal

pub returns : goal.returns
returns c y = c.is_of.ensures ∙ ap (is_owned c.args.id c.args.owner.now) (c.index-connections-place.is ∙ get_or_default c.args.connections.now c.args.place c.index-connections-place.result y c.requires)
