use Rattle.std.proofs.Common.{◌+◌, ◌∙◌, get_or, refl, sym, subst, arith}
use Rattle.provider_agent.proofs.TickSeams.{IsTicked, ticked_none, ticked_here, ticked_more, ticked_next, ticked_all, ticked_as, place_within, touched_at}
use Rattle.provider_agent.proofs.TickUndo.{none_saved, none_moved}
use Rattle.provider_agent.proofs.tick.Ticking.tick_each.Goals as goal

pub loop-place-init : goal.loop-place-init
loop-place-init c =
    let a = c.args.self.now in
    let xs = c.args.records.now.items in
    record {
      ticked = subst (λ out. IsTicked c.args.agent.now a.before a.now a.next xs c.args.due.now 0 (ticked_as xs out a.next)) (sym c.requires.none_said)
          (ticked_none c.args.agent.now a.before a.now a.next xs c.args.due.now c.requires.due);
      before = refl;
      now = refl;
      undo = record { saved = none_saved xs a.kept.items c.requires.none_kept; back = none_moved xs a.kept.items };
    }

pub tick_at-requires-clause-within : goal.tick_at-requires-clause-within
tick_at-requires-clause-within c =
    let a = c.args.self.now in
    let inside = place_within a.before a.now c.args.records.now.items c.args.due.now c.loop-place.place-index c.requires.due c.loop-place-test.true in
    omega (arith, inside, c.loop-place.invariant.undo.back.long)

pub tick_at-requires-clause-next : goal.tick_at-requires-clause-next
tick_at-requires-clause-next c =
    let a = c.args.self.now in
    let t = ticked_as c.loop-place.records.items c.loop-place.self.out.items c.loop-place.self.next in
    let most = ticked_next c.args.agent.now a.before a.now a.next c.args.records.now.items c.args.due.now c.requires.due c.loop-place.place-index t c.loop-place-test.true c.loop-place.invariant.ticked in
    omega (arith, most, c.requires.next, c.requires.few)

pub returns-in_err-tick_at-clause-undo : goal.returns-in_err-tick_at-clause-undo
returns-in_err-tick_at-clause-undo c =
    let a = c.args.self.now in
    let xs = c.args.records.now.items in
    let t = ticked_as c.loop-place.records.items c.loop-place.self.out.items c.loop-place.self.next in
    let here = ticked_here c.args.agent.now a.before a.now a.next xs c.args.due.now c.requires.due c.loop-place.place-index t c.loop-place-test.true c.loop-place.invariant.ticked in
    c.tick_at.ensures.undo xs c.loop-place.invariant.undo here

pub loop-place-preserved : goal.loop-place-preserved
loop-place-preserved c =
    let a = c.args.self.now in
    let b = c.loop-place.self in
    let agent = c.args.agent.now in
    let xs = c.args.records.now.items in
    let due = c.args.due.now in
    let i = c.loop-place.place-index in
    let t = ticked_as c.loop-place.records.items b.out.items b.next in
    let here = ticked_here agent a.before a.now a.next xs due c.requires.due i t c.loop-place-test.true c.loop-place.invariant.ticked in
    let more = ticked_more agent a.before a.now a.next xs due c.requires.due i t c.loop-place-test.true c.loop-place.invariant.ticked in
    let is = touched_at agent a.before a.now b.before b.now t (get_or due i 0) c.tick_at.new.records.items c.tick_at.new.self.out.items c.tick_at.new.self.next c.loop-place.invariant.before c.loop-place.invariant.now
    c.in_ok-tick_at.ensures.records c.in_ok-tick_at.ensures.out c.in_ok-tick_at.ensures.next in
    record {
      ticked = subst (IsTicked agent a.before a.now a.next xs due (i + 1)) (sym is) more;
      before = c.tick_at.ensures.same.0 ∙ c.loop-place.invariant.before;
      now = c.tick_at.ensures.same.1 ∙ c.loop-place.invariant.now;
      undo = c.tick_at.ensures.undo xs c.loop-place.invariant.undo here;
    }

pub returns-clause-ticked : goal.returns-clause-ticked
returns-clause-ticked c =
    let a = c.args.self.now in
    let t = ticked_as c.loop-place.records.items c.loop-place.self.out.items c.loop-place.self.next in
    ticked_all c.args.agent.now a.before a.now a.next c.args.records.now.items c.args.due.now c.requires.due c.loop-place.place-index t (omega arith) c.loop-place-test.false c.loop-place.invariant.ticked
