use Rattle.std.proofs.Common.{◌≡◌, ◌<◌, length, eqb, arith, refl, sym, ap, ◌∙◌}
use Rattle.std.proofs.lemmas.Bool.Decides.{nat_tests}
use Rattle.capacity_calendar.specs.Index.{one_if, point_at, second_at, ends_by, AreLoads}
use Rattle.capacity_calendar.proofs.Points.{ends_less, ends_removed, loads_set, loads_removed, none_at}
use Rattle.capacity_calendar.proofs.index.Index.unmark.Goals as goal

pub returns-then-point-eq1-clause-ends : goal.returns-then-point-eq1-clause-ends
returns-then-point-eq1-clause-ends c = λ u.
    let ps = c.self.inside.points.items in
    let k = c.count_before-place.result in
    let here : second_at ps k ≡ c.args.t = rw (← c.self.view_is) at (c.is_at.ensures.same c.if-is_at.true) in
    let lt : k < length ps = rw (← c.self.view_is) at (c.is_at.ensures.within c.if-is_at.true) in
    let point : c.point.result ≡ point_at ps k = rw (← c.self.view_is) at c.point.ensures.point in
    let one : (point_at ps k).ends ≡ 1 = ap (λ p. p.ends) (sym point) ∙ grind (arith, nat_tests, c.if-point-eq1.true) in
    rw (← c.self.view_is, c.remove-point.ensures.items) (rw here at (ends_removed ps k u lt one))

pub returns-then-point-eq1-clause-loads : goal.returns-then-point-eq1-clause-loads
returns-then-point-eq1-clause-loads c = λ f h.
    let ps = c.self.inside.points.items in
    let k = c.count_before-place.result in
    let lt : k < length ps = rw (← c.self.view_is) at (c.is_at.ensures.within c.if-is_at.true) in
    let loads : AreLoads f ps = rw (← c.self.view_is) at h in
    rw c.remove-point.ensures.items (loads_removed f ps k lt loads)

pub returns-else-point-eq1-clause-ends : goal.returns-else-point-eq1-clause-ends
returns-else-point-eq1-clause-ends c = λ u.
    let ps = c.self.inside.points.items in
    let k = c.count_before-place.result in
    let here : second_at ps k ≡ c.args.t = rw (← c.self.view_is) at (c.is_at.ensures.same c.if-is_at.true) in
    let lt : k < length ps = rw (← c.self.view_is) at (c.is_at.ensures.within c.if-is_at.true) in
    rw (← c.self.view_is, c.count_less.ensures) (omega (arith, ends_less ps k u lt (c.self.invariant.used k lt), ap (λ s. one_if (eqb s u)) here))

pub returns-else-point-eq1-clause-loads : goal.returns-else-point-eq1-clause-loads
returns-else-point-eq1-clause-loads c = λ f h.
    let ps = c.self.inside.points.items in
    let k = c.count_before-place.result in
    let lt : k < length ps = rw (← c.self.view_is) at (c.is_at.ensures.within c.if-is_at.true) in
    let loads : AreLoads f ps = rw (← c.self.view_is) at h in
    rw c.count_less.ensures (loads_set f ps k _ lt refl refl loads)

pub returns-else-is_at-clause-ends : goal.returns-else-is_at-clause-ends
returns-else-is_at-clause-ends c = λ u.
    let ps = c.self.inside.points.items in
    let none : ends_by ps c.args.t ≡ 0 =
    none_at ps c.args.t c.count_before-place.result c.self.invariant (rw (← c.self.view_is, c.get.ensures.value) at c.count_before-place.ensures.count)
    (rw (← c.self.view_is) at (c.is_at.ensures.other c.if-is_at.false)) in
    let some : 0 < ends_by ps c.args.t = rw (← c.self.view_is) at c.requires in
    absurd (omega (arith, none, some))
