use Rattle.std.proofs.Common.{◌↔◌, subst, sym}
use Rattle.std.specs.List.{Contains}
use Rattle.aggregator_agent.specs.Indexed.{id_at}
use Rattle.aggregator_agent.proofs.Noting.{below_is, named_alone}
use Rattle.aggregator_agent.proofs.connection_index.ConnectionIndex.named.Goals as goal

pub returns : goal.returns
returns c =
    let ids = c.args.self.now.ids in
    let id = c.args.id in
    below_is (λ p. Contains c.deref.result.now p) (λ p. Contains ids (id_at id p)) c.args.count c.places_below.result
    (λ p. subst (λ xs. Contains xs p ↔ Contains ids (id_at id p)) (sym c.deref.ensures.value) (named_alone ids id c.new-places.result.items c.note_places.new.places.items c.new-places.ensures.items c.in_ok-note_places.ensures p))
    c.places_below.ensures
