use Rattle.std.proofs.Common.{◌-◌, ◌+◌, ◌*◌, ◌<◌, Bool, if◌then◌else◌, subst, ◌++◌, ◌∙◌, sym, refl, ap, arith, length, [], append-nil, append_assoc, Err}
use Rattle.std.proofs.lemmas.Result.{err_from_is_err_and}
use Rattle.nsi_agent.specs.Homes.{home_in}
use Rattle.agent_threads.specs.declared.fault.RunFault.{RunFault}
use Rattle.agent_threads.specs.Nets.{seats_by}
use Rattle.agent_threads.specs.Made.{counted, HasSettleCause}
use Rattle.agent_threads.proofs.Same.{still_of}
use Rattle.agent_threads.proofs.Causes.{same_error, if_err, settle_before, shelf_failed, shelf_still, listed_same, listed_stays}
use Rattle.agent_threads.proofs.Left.{left_same, left_twice, none_later}
use Rattle.agent_threads.proofs.Leaves.{leaves_none, leaves_then}
use Rattle.agent_threads.proofs.Owning.{still_seen}
use Rattle.agent_threads.proofs.Going.{still_one, room_after, go_count, rests_or_fills}
use Rattle.agent_threads.proofs.Stepping.{are_settled_none, are_settled_then, overrun_later, rises_then}
use Rattle.agent_threads.proofs.group.settle.Goals as goal

pub loop-quiet-init : goal.loop-quiet-init
loop-quiet-init g c = record {
  way = λ t o routes r b v. ([], sym (append-nil c.args.events.now.items), are_settled_none (home_in t routes) b _ _ (seats_by b c.args.nodes.now.items), λ q. cc);
  leaves = leaves_none 0 c.args.nodes.now.items c.args.events.now.items c.requires.net c.requires.told c.requires.printable;
  within = c.requires.within;
  stays = λ n h. h;
  faults = refl;
  stops = refl;
}

pub advance-requires-clause-bounded : goal.advance-requires-clause-bounded
advance-requires-clause-bounded g c κs within = c.loop-quiet.invariant.leaves.bounded c.requires.bounded

pub advance-requires-clause-one : goal.advance-requires-clause-one
advance-requires-clause-one g c κs within = still_one c.args.nodes.now.items c.loop-quiet.nodes.items c.loop-quiet.invariant.leaves.same c.requires.one

pub advance-requires-clause-few : goal.advance-requires-clause-few
advance-requires-clause-few g c κs within =
    let l = c.loop-quiet in
    let f = l.invariant.leaves.further in
    let count = go_count 0 c.args.nodes.now.items l.nodes.items c.args.events.now.items l.events.items f in
    room_after 0 (c.args.room - length c.args.events.now.items) (c.args.room - length l.events.items) (length f.own) c.args.nodes.now.items l.nodes.items
    (omega (arith, count, l.invariant.within)) f.each c.requires.few

pub advance-requires-clause-listed : goal.advance-requires-clause-listed
advance-requires-clause-listed g c κs within =
    let l = c.loop-quiet in
    listed_stays (g.B.Reopen.listed c.args.shelf.now) (g.B.Reopen.listed l.shelf) l.invariant.stays l.nodes.items (listed_same (g.B.Reopen.listed c.args.shelf.now) c.args.nodes.now.items l.nodes.items l.invariant.leaves.same c.requires.listed)

---- Where a round has failed

pub returns-in_err-quiet-clause-long : goal.returns-in_err-quiet-clause-long
returns-in_err-quiet-clause-long g c = λ t o routes r b v h.
    let l = c.loop-quiet in
    let w = l.invariant.way t o routes r b v in
    let now = still_of t c.args.nodes.now.items l.nodes.items l.invariant.leaves.same o in
    let u = still_seen t c.args.nodes.now.items l.nodes.items l.invariant.leaves.owned o routes r b v in
    let p = err_from_is_err_and c.from_residual.result c.from_residual.ensures.1 in
    let is_long = ap (λ e. Err e) (same_error c.from_residual.result p.0 c.in_err-quiet.field-0.0 _ p.1 p.2 h) in
    overrun_later (home_in t routes) b c.args.nodes.now.items l.nodes.items c.advance.new.nodes.items c.args.events.now.items l.events.items w.0 c.args.room l.invariant.leaves (c.in_err-quiet.ensures.rises is_long) w.1 w.2
    (c.in_err-quiet.ensures.long t now routes r b u is_long)

pub returns-in_err-quiet-clause-rises : goal.returns-in_err-quiet-clause-rises
returns-in_err-quiet-clause-rises g c = λ h.
    let l = c.loop-quiet in
    let p = err_from_is_err_and c.from_residual.result c.from_residual.ensures.1 in
    rises_then 0 c.args.nodes.now.items l.nodes.items c.advance.new.nodes.items c.args.events.now.items l.events.items l.invariant.leaves
    (c.in_err-quiet.ensures.rises (ap (λ e. Err e) (same_error c.from_residual.result p.0 c.in_err-quiet.field-0.0 _ p.1 p.2 h)))

pub returns-in_err-quiet-clause-agents : goal.returns-in_err-quiet-clause-agents
returns-in_err-quiet-clause-agents g c =
    let l = c.loop-quiet in
    left_twice c.args.nodes.now.items l.nodes.items c.advance.new.nodes.items _ _ _ (left_same c.args.nodes.now.items l.nodes.items (counted (g.B.Reopen.faults c.args.shelf.now) (g.B.Reopen.stops c.args.shelf.now)) (counted (g.B.Reopen.faults l.shelf) (g.B.Reopen.stops l.shelf)) l.invariant.leaves.same l.invariant.stops)
    c.in_err-quiet.ensures.agents

pub returns-in_err-quiet-clause-shelf : goal.returns-in_err-quiet-clause-shelf
returns-in_err-quiet-clause-shelf g c =
    let l = c.loop-quiet in
    let p = err_from_is_err_and c.from_residual.result c.from_residual.ensures.1 in
    shelf_failed _ _ _ _ _ p.0 p.1 l.invariant.faults l.invariant.stops c.in_err-quiet.ensures.shelf

pub returns-in_err-quiet-clause-stays : goal.returns-in_err-quiet-clause-stays
returns-in_err-quiet-clause-stays g c = λ n h. c.in_err-quiet.ensures.stays n (c.loop-quiet.invariant.stays n h)

pub returns-in_err-quiet-clause-cause : goal.returns-in_err-quiet-clause-cause
returns-in_err-quiet-clause-cause g c =
    let l = c.loop-quiet in
    let olds = c.args.nodes.now.items in
    let news = c.advance.new.nodes.items in
    let before = counted (g.B.Reopen.faults c.args.shelf.now) (g.B.Reopen.stops c.args.shelf.now) in
    let mid = counted (g.B.Reopen.faults l.shelf) (g.B.Reopen.stops l.shelf) in
    let after = counted (g.B.Reopen.faults c.advance.new.shelf) (g.B.Reopen.stops c.advance.new.shelf) in
    let p = err_from_is_err_and c.from_residual.result c.from_residual.ensures.1 in
    if_err c.from_residual.result (HasSettleCause [] olds news before after) p.0 p.1
    (subst (λ (e : RunFault). HasSettleCause [] olds news before after e) (sym p.2)
    (settle_before [] [] olds l.nodes.items news before mid after c.in_err-quiet.field-0.0 l.invariant.leaves.same l.invariant.leaves.owned (λ b shows. shows) (none_later olds l.nodes.items news before mid after l.invariant.leaves.same l.invariant.stops)
    l.invariant.faults l.invariant.stops c.in_err-quiet.ensures.cause))

pub returns-in_err-quiet-clause-mild : goal.returns-in_err-quiet-clause-mild
returns-in_err-quiet-clause-mild g c = λ h.
    let p = err_from_is_err_and c.from_residual.result c.from_residual.ensures.1 in
    c.in_err-quiet.ensures.mild (ap (λ e. Err e) (same_error c.from_residual.result p.0 c.in_err-quiet.field-0.0 _ p.1 p.2 h))

---- Rounds that were made

pub loop-quiet-smaller : goal.loop-quiet-smaller
loop-quiet-smaller g c =
    let l = c.loop-quiet in
    let before = length l.events.items in
    let after = length c.advance.new.events.items in
    let count = go_count 0 l.nodes.items c.advance.new.nodes.items l.events.items c.advance.new.events.items c.in_ok-quiet.ensures.leaves.further in
    subst (λ (b : Bool). 2 * (c.args.room - after) + (if c.in_ok-quiet.quiet then 0 else 1) < 2 * (c.args.room - before) + (if b then 0 else 1)) (sym c.loop-quiet-test.true)
    (rests_or_fills c.args.room before after c.in_ok-quiet.quiet (omega (arith, count)) c.in_ok-quiet.ensures.within c.in_ok-quiet.ensures.more)

pub loop-quiet-preserved : goal.loop-quiet-preserved
loop-quiet-preserved g c =
    let l = c.loop-quiet in
    let olds = c.args.nodes.now.items in
    let mids = l.nodes.items in
    let news = c.advance.new.nodes.items in
    record {
      way = λ t o routes r b v.
          let w = l.invariant.way t o routes r b v in
          let s = c.in_ok-quiet.ensures.ok t (still_of t olds mids l.invariant.leaves.same o) routes r b (still_seen t olds mids l.invariant.leaves.owned o routes r b v) in (
            w.0 ++ s.0,
            s.1 ∙ (ap (λ es. es ++ s.0) w.1 ∙ append_assoc c.args.events.now.items w.0 s.0),
            are_settled_then (home_in t routes) b olds mids news c.args.events.now.items l.events.items c.advance.new.events.items w.0 s.0 l.invariant.leaves c.in_ok-quiet.ensures.leaves w.2 s.2,
            s.3,
          );
      leaves = leaves_then 0 c.args.nodes.now.items c.loop-quiet.nodes.items c.advance.new.nodes.items c.args.events.now.items c.loop-quiet.events.items c.advance.new.events.items c.loop-quiet.invariant.leaves c.in_ok-quiet.ensures.leaves;
      within = c.in_ok-quiet.ensures.within;
      stays = λ n h. c.in_ok-quiet.ensures.stays n (l.invariant.stays n h);
      faults = c.in_ok-quiet.ensures.shelf.quiet ∙ l.invariant.faults;
      stops = c.in_ok-quiet.ensures.shelf.calm ∙ l.invariant.stops;
    }

pub returns-clause-ok : goal.returns-clause-ok
returns-clause-ok g c = λ t o routes r b v.
    let w = c.loop-quiet.invariant.way t o routes r b v in
    (w.0, w.1, w.2, w.3 c.loop-quiet-test.false)

pub returns-clause-agents : goal.returns-clause-agents
returns-clause-agents g c = left_same c.args.nodes.now.items c.loop-quiet.nodes.items _ _ c.loop-quiet.invariant.leaves.same c.loop-quiet.invariant.stops

pub returns-clause-shelf : goal.returns-clause-shelf
returns-clause-shelf g c = shelf_still _ _ _ c.loop-quiet.invariant.faults c.loop-quiet.invariant.stops
