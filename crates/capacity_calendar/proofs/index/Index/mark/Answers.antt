use Rattle.std.proofs.Common.{◌≡◌, ◌<◌, ◌+◌, length, eqb, arith, refl, ap, ◌∙◌}
use Rattle.capacity_calendar.specs.Index.{one_if, second_at, ends_by, Tells}
use Rattle.capacity_calendar.proofs.Steady.{told_before}
use Rattle.capacity_calendar.proofs.Points.{ends_of_point, ends_more, ends_entered, orderly_entered, loads_set, loads_entered, tells_more, count_above}
use Rattle.capacity_calendar.proofs.index.Index.mark.Goals as goal

pub count_more-requires-clause-few : goal.count_more-requires-clause-few
count_more-requires-clause-few c =
    let ps = c.self.inside.points.items in
    let k = c.count_before-place.result in
    let at : second_at ps k ≡ c.args.t = rw (← c.self.view_is) at (c.is_at.ensures.same c.if-is_at.true) in
    let few : ends_by ps c.args.t + 1 < 4294967296 = rw (← c.self.view_is) at c.requires.few in
    omega (arith, ends_of_point ps k (rw (← c.self.view_is) at (c.is_at.ensures.within c.if-is_at.true)), ap (ends_by ps) at, few)

pub invariant_of-self-else-is_at : goal.invariant_of-self-else-is_at
invariant_of-self-else-is_at c =
    rw c.enter.ensures.items
    (orderly_entered c.self.inside.points.items c.count_before-place.result _ c.self.invariant (rw (← c.self.view_is, c.get.ensures.value) at c.count_before-place.ensures.count) (rw (← c.self.view_is) at (c.is_at.ensures.other c.if-is_at.false)) (omega arith))

pub returns-then-is_at-clause-ends : goal.returns-then-is_at-clause-ends
returns-then-is_at-clause-ends c = λ u.
    let ps = c.self.inside.points.items in
    let k = c.count_before-place.result in
    let at : second_at ps k ≡ c.args.t = rw (← c.self.view_is) at (c.is_at.ensures.same c.if-is_at.true) in
    rw (← c.self.view_is, c.count_more.ensures.items) (ends_more ps k u (rw (← c.self.view_is) at (c.is_at.ensures.within c.if-is_at.true)) ∙ ap (λ s. ends_by ps u + one_if (eqb s u)) at)

pub returns-then-is_at-clause-tells : goal.returns-then-is_at-clause-tells
returns-then-is_at-clause-tells c = λ f h.
    let ps = c.self.inside.points.items in
    let k = c.count_before-place.result in
    let lt : k < length ps = rw (← c.self.view_is) at (c.is_at.ensures.within c.if-is_at.true) in
    let told : Tells f ps = rw (← c.self.view_is) at h in
    rw c.count_more.ensures.items
    (tells_more f ps _ (loads_set f ps k _ lt refl refl told.loads) (λ u. omega (arith, ends_more ps k u lt)) told)

pub returns-else-is_at-clause-ends : goal.returns-else-is_at-clause-ends
returns-else-is_at-clause-ends c = λ u.
    rw (← c.self.view_is, c.enter.ensures.items) (ends_entered c.self.inside.points.items c.count_before-place.result u c.args.t c.load_before-load.result)

pub returns-else-is_at-clause-tells : goal.returns-else-is_at-clause-tells
returns-else-is_at-clause-tells c = λ f h.
    let ps = c.self.inside.points.items in
    let k = c.count_before-place.result in
    let told : Tells f ps = rw (← c.self.view_is) at h in
    let above = count_above ps c.args.t k c.self.invariant (rw (← c.self.view_is, c.get.ensures.value) at c.count_before-place.ensures.count) (rw (← c.self.view_is) at (c.is_at.ensures.other c.if-is_at.false)) in
    let load = (rw (← c.self.view_is) at c.load_before-load.ensures.load) ∙ told_before f ps (c.args.t + 1) k c.args.t c.self.invariant above refl told in
    rw c.enter.ensures.items
    (tells_more f ps _ (loads_entered f ps k _ above.within load told.loads) (λ u. omega (arith, ends_entered ps k u c.args.t c.load_before-load.result)) told)
