use Rattle.std.proofs.Common.{◌∙◌, ap}
use Rattle.stp_topology.specs.Names.{place_of}
use Rattle.stp_topology.proofs.NamePlaces.{place_texts}
use Rattle.stp_topology.proofs.names.Names.place.Goals as goal

pub returns-clause-place : goal.returns-clause-place
returns-clause-place c =
    c.get_index_of.ensures.index ∙ place_texts c.args.name.now c.self.inside.places.keys
    ∙ ap (λ t. place_of t c.args.name.now) (c.self.invariant ∙ c.self.view_is)
