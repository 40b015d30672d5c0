use Rattle.std.proofs.Common.{◌≡◌, ◌<◌, ◌++◌, ◌∷◌, [], ℕ, Some, cond, length, get_or, set, arith, sym, ap, ◌∙◌, subst}
use Rattle.std.proofs.lemmas.List.{get_or_read}
use Rattle.nsi_base.specs.declared.flow.Flow.{Flow}
use Rattle.capacity_calendar.specs.ByPoint.{of_flow, nothing, AreByPoint}
use Rattle.capacity_calendar.specs.Lack.{or_else}
use Rattle.capacity_calendar.specs.Places.{is_same_flow}
use Rattle.capacity_calendar.proofs.ByPoint.{by_point-pushed}
use Rattle.capacity_calendar.proofs.capacities.note.Goals as goal

pub returns-clause-kept : goal.returns-clause-kept
returns-clause-kept c =
    let lt : c.args.capacity.now.stp < length c.args.by_point.now.items = omega (arith, c.get-place.ensures.value, c.get-place.ensures.in_range, c.requires) in
    let place_lt : c.get-place.result < length c.args.by_point.now.items = omega (arith, c.get-place.ensures.value, lt) in
    let read : c.index.result.now ≡ get_or c.args.by_point.now.items c.args.capacity.now.stp nothing =
    get_or_read c.args.by_point.now.items c.get-place.result c.index.result.now place_lt c.index.ensures nothing ∙ ap (λ p. get_or c.args.by_point.now.items p nothing) c.get-place.ensures.value in
    let is : (f : Flow) → of_flow f c.with-kept.result
    ≡ cond (is_same_flow c.args.capacity.now.flow f) (or_else (of_flow f (get_or c.args.by_point.now.items c.args.capacity.now.stp nothing)) (Some c.args.capacity.now.mbps)) (of_flow f (get_or c.args.by_point.now.items c.args.capacity.now.stp nothing)) =
    λ f. c.with-kept.ensures f ∙ ap (λ x. cond (is_same_flow c.args.capacity.now.flow f) (or_else (of_flow f x) (Some c.args.capacity.now.mbps)) (of_flow f x)) read in
    λ front h. subst (λ (p : ℕ). AreByPoint (front ++ c.args.capacity.now ∷ []) (set c.args.by_point.now.items p c.with-kept.result)) (sym c.get-place.ensures.value)
    (by_point-pushed front c.args.capacity.now c.args.by_point.now.items c.with-kept.result lt is h)
