use Rattle.std.proofs.Common.{◌≡◌, ◌≤◌, ◌<◌, ◌+◌, ◌-◌, ◌/◌, ℕ, length, arith, ap, ◌∙◌, subst}
use Rattle.std.proofs.lemmas.Bool.Decides.{nat_tests}
use Rattle.capacity_calendar.specs.Index.{Timeline, second_at, IsOrderly}
use Rattle.capacity_calendar.proofs.Halves.{halved_once}
use Rattle.capacity_calendar.proofs.Steady.{up_to}
use Rattle.capacity_calendar.proofs.index.Index.count_before.Goals as goal

pub loop-low-preserved-then-get-bound : goal.loop-low-preserved-then-get-bound
loop-low-preserved-then-get-bound g c =
    let ps = c.args.self.now.points in
    let low : ℕ = c.loop-low.low in
    let high : ℕ = c.loop-low.high in
    let middle : ℕ = low + (high - low) / 2 in
    let some : low < high = grind (arith, nat_tests, c.loop-low-test.true) in
    let inside : middle < high = omega (arith, some) in
    let within : middle < length ps = omega (arith, inside, c.loop-low.invariant.within) in
    let orderly : IsOrderly ps = subst (λ (t : Timeline). IsOrderly t.points) c.self.view_is c.self.invariant in
    let second : c.get.result ≡ second_at ps middle = c.get.ensures.value ∙ ap (λ p. p.second) c.point.ensures.point in
    let test : c.get.result < c.args.bound = grind (arith, nat_tests, c.if-get-bound.true) in
    record {
      between = omega (arith, inside);
      within = c.loop-low.invariant.within;
      before = λ k lt. omega (arith, up_to ps k middle orderly (omega (arith, lt)) within, second, test);
      after = c.loop-low.invariant.after;
      halved = halved_once (length ps) (high - low) (high - (middle + 1)) _ _ _ (omega (arith, some)) (omega (arith, some)) (omega (arith, c.point.ensures.step)) c.loop-low.invariant.halved;
    }

pub loop-low-preserved : goal.loop-low-preserved
loop-low-preserved g c =
    let ps = c.args.self.now.points in
    let low : ℕ = c.loop-low.low in
    let high : ℕ = c.loop-low.high in
    let middle : ℕ = low + (high - low) / 2 in
    let some : low < high = grind (arith, nat_tests, c.loop-low-test.true) in
    let inside : middle < high = omega (arith, some) in
    let within : middle < length ps = omega (arith, inside, c.loop-low.invariant.within) in
    let orderly : IsOrderly ps = subst (λ (t : Timeline). IsOrderly t.points) c.self.view_is c.self.invariant in
    let second : c.get.result ≡ second_at ps middle = c.get.ensures.value ∙ ap (λ p. p.second) c.point.ensures.point in
    let test : c.args.bound ≤ c.get.result = grind (arith, nat_tests, c.if-get-bound.false) in
    record {
      between = omega (arith, some);
      within = omega (arith, within);
      before = c.loop-low.invariant.before;
      after = λ k a lt. omega (arith, up_to ps middle k orderly a lt, second, test);
      halved = halved_once (length ps) (high - low) (middle - low) _ _ _ (omega (arith, some)) (omega (arith, some)) (omega (arith, c.point.ensures.step)) c.loop-low.invariant.halved;
    }
