use Rattle.std.proofs.Common.{◌↔◌, subst, sym}
use Rattle.std.specs.List.{Contains}
use Rattle.aggregator_agent.specs.Indexed.{MayHear}
use Rattle.aggregator_agent.proofs.Noting.{below_is, may_hear}
use Rattle.aggregator_agent.proofs.connection_index.ConnectionIndex.hearing.Goals as goal

pub returns : goal.returns
returns c =
    let ids = c.args.self.now.ids in
    let m = c.args.message.now in
    let all = c.note_named.new.places.items in
    below_is (λ p. Contains c.deref.result.now p) (λ p. MayHear ids m p) c.args.count c.places_below.result
    (λ p. subst (λ xs. Contains xs p ↔ MayHear ids m p) (sym c.deref.ensures.value) (may_hear ids m c.new-places.result.items c.note_places.new.places.items all c.new-places.ensures.items c.in_ok-note_places.ensures c.in_ok-note_named.ensures p))
    c.places_below.ensures
