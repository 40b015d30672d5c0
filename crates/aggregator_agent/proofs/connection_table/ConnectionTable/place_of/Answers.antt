use Rattle.std.proofs.Common.{◌≡◌, ◌∙◌, ◌<◌, IfSome, length, sym, ap, subst, rules, arith}
use Rattle.std.proofs.lemmas.List.{length-map}
use Rattle.connection_record.specs.Refusal.{place_of}
use Rattle.aggregator_agent.specs.Bonds.{bond, bonds, records_of}
use Rattle.aggregator_agent.specs.Finding.{AreOwned}
use Rattle.aggregator_agent.proofs.Found.{owned_places, some_more}
use Rattle.aggregator_agent.proofs.connection_table.ConnectionTable.place_of.Goals as goal

pub place_among-requires : goal.place_among-requires
place_among-requires c =
    let xs = c.self.inside.items.items in
    let counted : c.len.result ≡ length xs = search rules in
    subst (λ zs. AreOwned c.args.id c.args.owner.now zs c.items.result.now) (sym c.deref.ensures.value)
    (owned_places c.self.inside.index xs c.args.id c.args.owner.now c.in_ok-places.places c.items.result.now c.len.result c.items.ensures.items counted c.self.invariant.0 c.items.ensures.rising c.in_ok-places.ensures)

pub returns-clause-place : goal.returns-clause-place
returns-clause-place c =
    c.place_among.ensures.place
    ∙ (ap (λ zs. place_of c.args.id c.args.owner.now (records_of (bonds zs))) c.deref.ensures.value ∙ ap (λ bs. place_of c.args.id c.args.owner.now (records_of bs)) c.self.view_is)

pub returns-clause-within : goal.returns-clause-within
returns-clause-within c =
    let xs = c.self.inside.items.items in
    let found = c.place_among.result in
    let long = length-map xs bond in
    subst (λ bs. IfSome found (λ n. n < length bs)) c.self.view_is
    (some_more _ _ found (subst (λ zs. IfSome found (λ n. n < length zs)) c.deref.ensures.value c.place_among.ensures.within) (λ n l. omega (arith, l, long)))
