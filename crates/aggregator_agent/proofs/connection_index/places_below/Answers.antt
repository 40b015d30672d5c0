use Rattle.std.proofs.Common.{◌≡◌, ◌<◌, ◌↔◌, ◌∙◌, nat_lt, filter, ap, subst, sym}
use Rattle.std.specs.List.{Contains}
use Rattle.std.proofs.lemmas.List.{take_all}
use Rattle.aggregator_agent.proofs.Noting.{kept_below}
use Rattle.aggregator_agent.proofs.connection_index.places_below.Goals as goal

pub returns : goal.returns
returns c p =
    let xs = c.args.places.now in
    let count = c.args.count in
    let is : c.loop-place.below.items ≡ filter (λ q. nat_lt q count) xs = c.loop-place.invariant ∙ ap (λ ys. filter (λ q. nat_lt q count) ys) (take_all c.loop-place.place-index xs c.loop-place-test.false) in
    let kept = subst (λ ys. Contains ys p ↔ (Contains xs p × (p < count))) (sym is) (kept_below count xs p) in
    (λ has. kept.0 ((c.among.ensures p).0 has), λ both. (c.among.ensures p).1 (kept.1 both))
