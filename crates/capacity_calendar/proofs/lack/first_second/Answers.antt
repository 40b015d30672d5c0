use Rattle.std.proofs.Common.{◌≡◌, ◌≤◌, ◌<◌, ◌+◌, length, false, arith, sym, ap, ◌∙◌}
use Rattle.std.proofs.lemmas.Bool.Decides.{nat_tests}
use Rattle.capacity_calendar.specs.Load.{load, others}
use Rattle.capacity_calendar.specs.Lack.{is_lacking}
use Rattle.capacity_calendar.specs.Index.{second_at}
use Rattle.capacity_calendar.proofs.Steady.{tells_load, told_before, up_to}
use Rattle.capacity_calendar.proofs.Walk.{clear_at_start, clear_behind, load_told, least_of, rest_is, rest_within, lacks_is, covered_in}
use Rattle.capacity_calendar.proofs.Quick.{walked_first, walked_on, walk_is_quick}
use Rattle.capacity_calendar.proofs.lack.first_second.Goals as goal

pub load_of_others-load-requires : goal.load_of_others-load-requires
load_of_others-load-requires g c =
    let p = c.args.demand.now.place in
    let bs = c.args.bookings.now in
    let ps = c.args.index.now.points in
    let n = c.args.demand.now.number in
    let t = c.start-start.result in
    let told : c.load_before.result ≡ load p.flow p.stp t bs =
    c.load_before.ensures.load ∙ told_before (λ s. load p.flow p.stp s bs) ps _ _ t c.count_before-place.ensures.orderly c.count_before-place.ensures.count (ap (λ s. s + 1) c.get.ensures.value) (tells_load p.flow p.stp bs ps c.requires.index) in
    least_of p bs ps n t _ _ c.requires told c.own-own.ensures

pub is_too_much-requires : goal.is_too_much-requires
is_too_much-requires g c =
    let p = c.args.demand.now.place in
    let bs = c.args.bookings.now in
    let ps = c.args.index.now.points in
    let n = c.args.demand.now.number in
    let t = c.start-start.result in
    let told : c.load_before.result ≡ load p.flow p.stp t bs =
    c.load_before.ensures.load ∙ told_before (λ s. load p.flow p.stp s bs) ps _ _ t c.count_before-place.ensures.orderly c.count_before-place.ensures.count (ap (λ s. s + 1) c.get.ensures.value) (tells_load p.flow p.stp bs ps c.requires.index) in
    let rest : c.load_of_others-load.result ≡ load p.flow p.stp t (others n bs) = c.load_of_others-load.ensures ∙ rest_is p bs ps n t _ _ c.requires told c.own-own.ensures in
    rest_within p bs ps n t _ c.requires rest

pub returns-then-is_too_much-clause-first : goal.returns-then-is_too_much-clause-first
returns-then-is_too_much-clause-first g c =
    let p = c.args.demand.now.place in
    let bs = c.args.bookings.now in
    let ps = c.args.index.now.points in
    let n = c.args.demand.now.number in
    let t = c.start-start.result in
    let told : c.load_before.result ≡ load p.flow p.stp t bs =
    c.load_before.ensures.load ∙ told_before (λ s. load p.flow p.stp s bs) ps _ _ t c.count_before-place.ensures.orderly c.count_before-place.ensures.count (ap (λ s. s + 1) c.get.ensures.value) (tells_load p.flow p.stp bs ps c.requires.index) in
    let rest : c.load_of_others-load.result ≡ load p.flow p.stp t (others n bs) = c.load_of_others-load.ensures ∙ rest_is p bs ps n t _ _ c.requires told c.own-own.ensures in
    record {
      covered = covered_in c.args.demand.now.interval t (omega (arith, c.start-start.ensures.start)) (omega (arith, c.start-start.ensures.start, c.start-start.ensures.ordered));
      lacking = sym (lacks_is p bs n c.args.demand.now.mbps t _ rest) ∙ sym c.is_too_much.ensures ∙ c.if-is_too_much.true;
      before = λ s a b. absurd (omega (arith, c.start-start.ensures.start, a, b));
    }

pub returns-then-is_too_much-clause-load : goal.returns-then-is_too_much-clause-load
returns-then-is_too_much-clause-load g c =
    let p = c.args.demand.now.place in
    let bs = c.args.bookings.now in
    let ps = c.args.index.now.points in
    let n = c.args.demand.now.number in
    let t = c.start-start.result in
    let told : c.load_before.result ≡ load p.flow p.stp t bs =
    c.load_before.ensures.load ∙ told_before (λ s. load p.flow p.stp s bs) ps _ _ t c.count_before-place.ensures.orderly c.count_before-place.ensures.count (ap (λ s. s + 1) c.get.ensures.value) (tells_load p.flow p.stp bs ps c.requires.index) in
    let rest : c.load_of_others-load.result ≡ load p.flow p.stp t (others n bs) = c.load_of_others-load.ensures ∙ rest_is p bs ps n t _ _ c.requires told c.own-own.ensures in
    rest

pub returns-then-is_too_much-clause-quick : goal.returns-then-is_too_much-clause-quick
returns-then-is_too_much-clause-quick g c =
    let p = c.args.demand.now.place in
    let bs = c.args.bookings.now in
    let ps = c.args.index.now.points in
    let n = c.args.demand.now.number in
    let bound : c.get.result + 1 ≡ c.args.demand.now.interval.start + 1 = ap (λ s. s + 1) (c.get.ensures.value ∙ c.start-start.ensures.start) in
    let walked = walked_first ps c.args.demand.now.interval (c.get.result + 1) c.count_before-place.result c.args.steps.now c.count_before-place.new.steps c.load_before.new.steps c.count_before-place.ensures.count bound c.count_before-place.ensures.halved c.load_before.ensures.step in
    walk_is_quick p.flow p.stp bs ps c.args.demand.now.interval c.count_before-place.result c.args.steps.now c.load_before.new.steps c.load_before.new.steps c.count_before-place.ensures.orderly c.requires.index walked (omega arith)

pub loop-place-init : goal.loop-place-init
loop-place-init g c =
    let p = c.args.demand.now.place in
    let bs = c.args.bookings.now in
    let ps = c.args.index.now.points in
    let n = c.args.demand.now.number in
    let t = c.start-start.result in
    let told : c.load_before.result ≡ load p.flow p.stp t bs =
    c.load_before.ensures.load ∙ told_before (λ s. load p.flow p.stp s bs) ps _ _ t c.count_before-place.ensures.orderly c.count_before-place.ensures.count (ap (λ s. s + 1) c.get.ensures.value) (tells_load p.flow p.stp bs ps c.requires.index) in
    let rest : c.load_of_others-load.result ≡ load p.flow p.stp t (others n bs) = c.load_of_others-load.ensures ∙ rest_is p bs ps n t _ _ c.requires told c.own-own.ensures in
    let bound : c.get.result + 1 ≡ c.args.demand.now.interval.start + 1 = ap (λ s. s + 1) (c.get.ensures.value ∙ c.start-start.ensures.start) in
    let walked = walked_first ps c.args.demand.now.interval (c.get.result + 1) c.count_before-place.result c.args.steps.now c.count_before-place.new.steps c.load_before.new.steps c.count_before-place.ensures.count bound c.count_before-place.ensures.halved c.load_before.ensures.step in
    let none = sym (lacks_is p bs n c.args.demand.now.mbps t _ rest) ∙ sym c.is_too_much.ensures ∙ c.if-is_too_much.false in
    record {
      clear = λ s a b behind.
          clear_at_start p bs n c.args.demand.now.mbps ps t _ _ c.requires c.count_before-place.ensures.count (ap (λ x. x + 1) c.get.ensures.value) none s
          (omega (arith, a, c.start-start.ensures.start)) behind;
      walked = walked;
    }

pub returns-then-ge-clause-first : goal.returns-then-ge-clause-first
returns-then-ge-clause-first g c =
    λ s a b.
    let ps = c.args.index.now.points in
    let at : c.point-second.result.second ≡ second_at ps c.loop-place.place = ap (λ x. x.second) c.point-second.ensures.point in
    let past : c.args.demand.now.interval.end ≤ c.point-second.result.second = grind (arith, nat_tests, c.ge.ensures, c.if-ge.true, c.end.ensures.end) in
    c.loop-place.invariant.clear s a b (λ k q h. omega (arith, b, past, at, up_to ps c.loop-place.place k c.count_before-place.ensures.orderly q h))

pub returns-then-ge-clause-quick : goal.returns-then-ge-clause-quick
returns-then-ge-clause-quick g c =
    let p = c.args.demand.now.place in
    let bs = c.args.bookings.now in
    let ps = c.args.index.now.points in
    let n = c.args.demand.now.number in
    walk_is_quick p.flow p.stp bs ps c.args.demand.now.interval c.loop-place.place c.args.steps.now c.loop-place.steps c.point-second.new.steps c.count_before-place.ensures.orderly c.requires.index c.loop-place.invariant.walked (omega (arith, c.point-second.ensures.step))

pub load_of_others-load-requires-in-loop-place : goal.load_of_others-load-requires-in-loop-place
load_of_others-load-requires-in-loop-place g c =
    let p = c.args.demand.now.place in
    let bs = c.args.bookings.now in
    let ps = c.args.index.now.points in
    let n = c.args.demand.now.number in
    let k = c.loop-place.place in
    let t = c.point-second.result.second in
    let lt : k < length ps = grind (arith, nat_tests, c.len.ensures, c.loop-place-test.true) in
    let at : t ≡ second_at ps k = ap (λ x. x.second) c.point-second.ensures.point in
    let told : c.point-second.result.load ≡ load p.flow p.stp t bs = ap (λ x. x.load) c.point-second.ensures.point ∙ load_told p bs ps k c.requires lt ∙ ap (λ x. load p.flow p.stp x.second bs) (sym c.point-second.ensures.point) in
    least_of p bs ps n t _ _ c.requires told c.own-own.ensures

pub is_too_much-requires-in-loop-place : goal.is_too_much-requires-in-loop-place
is_too_much-requires-in-loop-place g c =
    let p = c.args.demand.now.place in
    let bs = c.args.bookings.now in
    let ps = c.args.index.now.points in
    let n = c.args.demand.now.number in
    let k = c.loop-place.place in
    let t = c.point-second.result.second in
    let lt : k < length ps = grind (arith, nat_tests, c.len.ensures, c.loop-place-test.true) in
    let at : t ≡ second_at ps k = ap (λ x. x.second) c.point-second.ensures.point in
    let told : c.point-second.result.load ≡ load p.flow p.stp t bs = ap (λ x. x.load) c.point-second.ensures.point ∙ load_told p bs ps k c.requires lt ∙ ap (λ x. load p.flow p.stp x.second bs) (sym c.point-second.ensures.point) in
    let rest : c.load_of_others-load-in-loop-place.result ≡ load p.flow p.stp t (others n bs) = c.load_of_others-load-in-loop-place.ensures ∙ rest_is p bs ps n t _ _ c.requires told c.own-own.ensures in
    rest_within p bs ps n t _ c.requires rest

pub returns-then-is_too_much-2-clause-first : goal.returns-then-is_too_much-2-clause-first
returns-then-is_too_much-2-clause-first g c =
    let p = c.args.demand.now.place in
    let bs = c.args.bookings.now in
    let ps = c.args.index.now.points in
    let n = c.args.demand.now.number in
    let k = c.loop-place.place in
    let t = c.point-second.result.second in
    let lt : k < length ps = grind (arith, nat_tests, c.len.ensures, c.loop-place-test.true) in
    let at : t ≡ second_at ps k = ap (λ x. x.second) c.point-second.ensures.point in
    let told : c.point-second.result.load ≡ load p.flow p.stp t bs = ap (λ x. x.load) c.point-second.ensures.point ∙ load_told p bs ps k c.requires lt ∙ ap (λ x. load p.flow p.stp x.second bs) (sym c.point-second.ensures.point) in
    let rest : c.load_of_others-load-in-loop-place.result ≡ load p.flow p.stp t (others n bs) = c.load_of_others-load-in-loop-place.ensures ∙ rest_is p bs ps n t _ _ c.requires told c.own-own.ensures in
    let within : t < c.args.demand.now.interval.end = grind (arith, nat_tests, c.ge.ensures, c.if-ge.false, c.end.ensures.end) in
    record {
      covered = covered_in c.args.demand.now.interval t (omega (arith, at, c.loop-place.invariant.walked.behind k c.loop-place.invariant.walked.from lt)) within;
      lacking = sym (lacks_is p bs n c.args.demand.now.mbps t _ rest) ∙ sym c.is_too_much-in-loop-place.ensures ∙ c.if-is_too_much-2.true;
      before = λ s a b. c.loop-place.invariant.clear s a (omega (arith, b, within)) (λ j q h. omega (arith, b, at, up_to ps k j c.count_before-place.ensures.orderly q h));
    }

pub returns-then-is_too_much-2-clause-load : goal.returns-then-is_too_much-2-clause-load
returns-then-is_too_much-2-clause-load g c =
    let p = c.args.demand.now.place in
    let bs = c.args.bookings.now in
    let ps = c.args.index.now.points in
    let n = c.args.demand.now.number in
    let k = c.loop-place.place in
    let t = c.point-second.result.second in
    let lt : k < length ps = grind (arith, nat_tests, c.len.ensures, c.loop-place-test.true) in
    let at : t ≡ second_at ps k = ap (λ x. x.second) c.point-second.ensures.point in
    let told : c.point-second.result.load ≡ load p.flow p.stp t bs = ap (λ x. x.load) c.point-second.ensures.point ∙ load_told p bs ps k c.requires lt ∙ ap (λ x. load p.flow p.stp x.second bs) (sym c.point-second.ensures.point) in
    let rest : c.load_of_others-load-in-loop-place.result ≡ load p.flow p.stp t (others n bs) = c.load_of_others-load-in-loop-place.ensures ∙ rest_is p bs ps n t _ _ c.requires told c.own-own.ensures in
    rest

pub returns-then-is_too_much-2-clause-quick : goal.returns-then-is_too_much-2-clause-quick
returns-then-is_too_much-2-clause-quick g c =
    let p = c.args.demand.now.place in
    let bs = c.args.bookings.now in
    let ps = c.args.index.now.points in
    let n = c.args.demand.now.number in
    walk_is_quick p.flow p.stp bs ps c.args.demand.now.interval c.loop-place.place c.args.steps.now c.loop-place.steps c.point-second.new.steps c.count_before-place.ensures.orderly c.requires.index c.loop-place.invariant.walked (omega (arith, c.point-second.ensures.step))

pub loop-place-preserved : goal.loop-place-preserved
loop-place-preserved g c =
    let p = c.args.demand.now.place in
    let bs = c.args.bookings.now in
    let ps = c.args.index.now.points in
    let n = c.args.demand.now.number in
    let k = c.loop-place.place in
    let t = c.point-second.result.second in
    let lt : k < length ps = grind (arith, nat_tests, c.len.ensures, c.loop-place-test.true) in
    let at : t ≡ second_at ps k = ap (λ x. x.second) c.point-second.ensures.point in
    let told : c.point-second.result.load ≡ load p.flow p.stp t bs = ap (λ x. x.load) c.point-second.ensures.point ∙ load_told p bs ps k c.requires lt ∙ ap (λ x. load p.flow p.stp x.second bs) (sym c.point-second.ensures.point) in
    let rest : c.load_of_others-load-in-loop-place.result ≡ load p.flow p.stp t (others n bs) = c.load_of_others-load-in-loop-place.ensures ∙ rest_is p bs ps n t _ _ c.requires told c.own-own.ensures in
    let within : t < c.args.demand.now.interval.end = grind (arith, nat_tests, c.ge.ensures, c.if-ge.false, c.end.ensures.end) in
    let none : is_lacking p (others n bs) c.args.demand.now.mbps t ≡ false = sym (lacks_is p bs n c.args.demand.now.mbps t _ rest) ∙ sym c.is_too_much-in-loop-place.ensures ∙ c.if-is_too_much-2.false in
    record {
      clear = clear_behind p bs n c.args.demand.now.mbps ps _ c.args.demand.now.interval.end k c.requires c.count_before-place.ensures.orderly lt (ap (is_lacking p (others n bs) c.args.demand.now.mbps) (sym at) ∙ none) c.loop-place.invariant.clear;
      walked = walked_on ps c.args.demand.now.interval k _ _ _ lt (omega (arith, at, within)) (omega (arith, c.point-second.ensures.step)) c.loop-place.invariant.walked;
    }

pub returns-clause-quick : goal.returns-clause-quick
returns-clause-quick g c =
    let p = c.args.demand.now.place in
    let bs = c.args.bookings.now in
    let ps = c.args.index.now.points in
    let n = c.args.demand.now.number in
    walk_is_quick p.flow p.stp bs ps c.args.demand.now.interval c.loop-place.place c.args.steps.now c.loop-place.steps c.loop-place.steps c.count_before-place.ensures.orderly c.requires.index c.loop-place.invariant.walked (omega arith)
