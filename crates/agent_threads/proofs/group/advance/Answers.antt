use Rattle.std.proofs.Common.{◌≡◌, ◌<◌, ◌-◌, ◌++◌, ◌∙◌, inr, sym, refl, ap, subst, arith, length, [], append-nil, append_assoc, List, Err, false, true}
use Rattle.std.proofs.lemmas.Result.{err_from_is_err_and}
use Rattle.nsi_agent.specs.Homes.{home_in}
use Rattle.agent_node.specs.Kept.{Kept}
use Rattle.nsi_play.specs.Rounds.{all_quiet}
use Rattle.quiet_rounds.specs.Left.{left}
use Rattle.agent_threads.specs.declared.fault.RunFault.{RunFault}
use Rattle.agent_threads.specs.Nets.{seats, seats_by, AreOwned, AtHomes}
use Rattle.agent_threads.specs.Made.{counted, HasSettleCause}
use Rattle.agent_threads.proofs.Same.{still_of}
use Rattle.agent_threads.proofs.Causes.{same_error, if_err, settle_before, shelf_failed, shelf_still, listed_same, listed_stays}
use Rattle.agent_threads.proofs.Left.{left_same, left_twice, none_later}
use Rattle.agent_threads.proofs.Leaves.{leaves_none, leaves_then}
use Rattle.agent_threads.proofs.Bounding.{falls_told}
use Rattle.agent_threads.proofs.Owning.{still_seen}
use Rattle.std.proofs.lemmas.Bool.{false≢true}
use Rattle.agent_threads.proofs.Going.{anyhow, still_one, room_after, go_count}
use Rattle.agent_threads.proofs.Stepping.{are_settled_none, are_settled_more, overrun_next, rises_then, told_none}
use Rattle.agent_threads.proofs.group.advance.Goals as goal

pub loop-events-init : goal.loop-events-init
loop-events-init g c = record {
  way = λ t o routes r b v. ([], sym (append-nil c.args.events.now.items), are_settled_none (home_in t routes) b _ _ (seats_by b c.args.nodes.now.items));
  leaves = leaves_none 0 c.args.nodes.now.items c.args.events.now.items c.requires.net c.requires.told c.requires.printable;
  within = c.requires.within;
  stays = λ n h. h;
  faults = refl;
  stops = refl;
}

pub step-requires-clause-one : goal.step-requires-clause-one
step-requires-clause-one g c κs within = still_one c.args.nodes.now.items c.loop-events.nodes.items c.loop-events.invariant.leaves.same c.requires.one

pub step-requires-clause-few : goal.step-requires-clause-few
step-requires-clause-few g c κs within =
    let l = c.loop-events in
    let f = l.invariant.leaves.further in
    let count = go_count 0 c.args.nodes.now.items l.nodes.items c.args.events.now.items l.events.items f in
    room_after 0 (c.args.room - length c.args.events.now.items) (c.args.room - length l.events.items) (length f.own) c.args.nodes.now.items l.nodes.items
    (omega (arith, count, l.invariant.within)) f.each c.requires.few

pub step-requires-clause-listed : goal.step-requires-clause-listed
step-requires-clause-listed g c κs within =
    let l = c.loop-events in
    listed_stays (g.B.Reopen.listed c.args.shelf.now) (g.B.Reopen.listed l.shelf) l.invariant.stays l.nodes.items (listed_same (g.B.Reopen.listed c.args.shelf.now) c.args.nodes.now.items l.nodes.items l.invariant.leaves.same c.requires.listed)

---- Where a round has failed

pub returns-in_err-step-clause-long : goal.returns-in_err-step-clause-long
returns-in_err-step-clause-long g c = λ t o routes r b v h.
    let l = c.loop-events in
    let w = l.invariant.way t o routes r b v in
    let now = still_of t c.args.nodes.now.items l.nodes.items l.invariant.leaves.same o in
    let u = still_seen t c.args.nodes.now.items l.nodes.items l.invariant.leaves.owned o routes r b v in
    let q : AtHomes l.nodes.items (λ homes tells. c.settled.result ≡ all_quiet homes (seats_by tells l.nodes.items)) =
    subst (λ (ks : List Kept). AtHomes ks (λ homes tells. c.settled.result ≡ all_quiet homes (seats_by tells ks))) c.deref.ensures.value c.settled.ensures in
    let p = err_from_is_err_and c.from_residual.result c.from_residual.ensures.1 in
    let is_long = ap (λ e. Err e) (same_error c.from_residual.result p.0 c.in_err-step.field-0.0 _ p.1 p.2 h) in
    overrun_next (home_in t routes) b c.args.nodes.now.items l.nodes.items c.step.new.nodes.items c.args.events.now.items l.events.items w.0 c.args.room l.invariant.leaves (c.in_err-step.ensures.rises is_long) w.1
    (sym (q t now routes r b u) ∙ c.loop-events-test.true) w.2 (c.in_err-step.ensures.long t now routes r b u is_long)

pub returns-in_err-step-clause-rises : goal.returns-in_err-step-clause-rises
returns-in_err-step-clause-rises g c = λ h.
    let l = c.loop-events in
    let p = err_from_is_err_and c.from_residual.result c.from_residual.ensures.1 in
    rises_then 0 c.args.nodes.now.items l.nodes.items c.step.new.nodes.items c.args.events.now.items l.events.items l.invariant.leaves
    (c.in_err-step.ensures.rises (ap (λ e. Err e) (same_error c.from_residual.result p.0 c.in_err-step.field-0.0 _ p.1 p.2 h)))

pub returns-in_err-step-clause-agents : goal.returns-in_err-step-clause-agents
returns-in_err-step-clause-agents g c =
    let l = c.loop-events in
    left_twice c.args.nodes.now.items l.nodes.items c.step.new.nodes.items _ _ _ (left_same c.args.nodes.now.items l.nodes.items (counted (g.B.Reopen.faults c.args.shelf.now) (g.B.Reopen.stops c.args.shelf.now)) (counted (g.B.Reopen.faults l.shelf) (g.B.Reopen.stops l.shelf)) l.invariant.leaves.same l.invariant.stops)
    c.in_err-step.ensures.agents

pub returns-in_err-step-clause-shelf : goal.returns-in_err-step-clause-shelf
returns-in_err-step-clause-shelf g c =
    let l = c.loop-events in
    let p = err_from_is_err_and c.from_residual.result c.from_residual.ensures.1 in
    shelf_failed _ _ _ _ _ p.0 p.1 l.invariant.faults l.invariant.stops c.in_err-step.ensures.shelf

pub returns-in_err-step-clause-stays : goal.returns-in_err-step-clause-stays
returns-in_err-step-clause-stays g c = λ n h. c.in_err-step.ensures.stays n (c.loop-events.invariant.stays n h)

pub returns-in_err-step-clause-cause : goal.returns-in_err-step-clause-cause
returns-in_err-step-clause-cause g c =
    let l = c.loop-events in
    let olds = c.args.nodes.now.items in
    let news = c.step.new.nodes.items in
    let before = counted (g.B.Reopen.faults c.args.shelf.now) (g.B.Reopen.stops c.args.shelf.now) in
    let mid = counted (g.B.Reopen.faults l.shelf) (g.B.Reopen.stops l.shelf) in
    let after = counted (g.B.Reopen.faults c.step.new.shelf) (g.B.Reopen.stops c.step.new.shelf) in
    let p = err_from_is_err_and c.from_residual.result c.from_residual.ensures.1 in
    if_err c.from_residual.result (HasSettleCause [] olds news before after) p.0 p.1
    (subst (λ (e : RunFault). HasSettleCause [] olds news before after e) (sym p.2)
    (settle_before [] [] olds l.nodes.items news before mid after c.in_err-step.field-0.0 l.invariant.leaves.same l.invariant.leaves.owned (λ b shows. shows) (none_later olds l.nodes.items news before mid after l.invariant.leaves.same l.invariant.stops)
    l.invariant.faults l.invariant.stops c.in_err-step.ensures.cause))

pub returns-in_err-step-clause-mild : goal.returns-in_err-step-clause-mild
returns-in_err-step-clause-mild g c = λ h.
    let p = err_from_is_err_and c.from_residual.result c.from_residual.ensures.1 in
    c.in_err-step.ensures.mild (ap (λ e. Err e) (same_error c.from_residual.result p.0 c.in_err-step.field-0.0 _ p.1 p.2 h))

---- Where something has happened

pub returns-then-len-before-clause-ok : goal.returns-then-len-before-clause-ok
returns-then-len-before-clause-ok g c = λ t o routes r b v.
    let l = c.loop-events in
    let q : AtHomes l.nodes.items (λ homes tells. c.settled.result ≡ all_quiet homes (seats_by tells l.nodes.items)) =
    subst (λ (ks : List Kept). AtHomes ks (λ homes tells. c.settled.result ≡ all_quiet homes (seats_by tells ks))) c.deref.ensures.value c.settled.ensures in
    let w = l.invariant.way t o routes r b v in
    let now = still_of t c.args.nodes.now.items l.nodes.items l.invariant.leaves.same o in
    let u = still_seen t c.args.nodes.now.items l.nodes.items l.invariant.leaves.owned o routes r b v in
    let f = c.in_ok-step.ensures.leaves.further in (
      w.0 ++ f.own,
      f.told ∙ (ap (λ es. es ++ f.own) w.1 ∙ append_assoc c.args.events.now.items w.0 f.own),
      are_settled_more (home_in t routes) b c.args.nodes.now.items l.nodes.items c.step.new.nodes.items c.args.events.now.items l.events.items c.step.new.events.items w.0 f.own l.invariant.leaves c.in_ok-step.ensures.leaves f.told
          (sym (q t now routes r b u) ∙ c.loop-events-test.true) w.2 (c.in_ok-step.ensures.ok t now routes r b u),
      (λ q. cc),
    )

pub returns-then-len-before-clause-more : goal.returns-then-len-before-clause-more
returns-then-len-before-clause-more g c = λ e.
    let l = c.loop-events in
    let count = go_count 0 c.args.nodes.now.items l.nodes.items c.args.events.now.items l.events.items l.invariant.leaves.further in
    omega (arith, count, c.if-len-before.true)

pub returns-then-len-before-clause-leaves : goal.returns-then-len-before-clause-leaves
returns-then-len-before-clause-leaves g c = leaves_then 0 c.args.nodes.now.items c.loop-events.nodes.items c.step.new.nodes.items c.args.events.now.items c.loop-events.events.items c.step.new.events.items c.loop-events.invariant.leaves c.in_ok-step.ensures.leaves

pub returns-then-len-before-clause-agents : goal.returns-then-len-before-clause-agents
returns-then-len-before-clause-agents g c =
    let l = c.loop-events in
    left_twice c.args.nodes.now.items l.nodes.items c.step.new.nodes.items _ _ _ (left_same c.args.nodes.now.items l.nodes.items (counted (g.B.Reopen.faults c.args.shelf.now) (g.B.Reopen.stops c.args.shelf.now)) (counted (g.B.Reopen.faults l.shelf) (g.B.Reopen.stops l.shelf)) l.invariant.leaves.same l.invariant.stops)
    c.in_ok-step.ensures.agents

pub returns-then-len-before-clause-shelf : goal.returns-then-len-before-clause-shelf
returns-then-len-before-clause-shelf g c =
    let l = c.loop-events in
    shelf_still _ _ _ (c.in_ok-step.ensures.shelf.quiet ∙ l.invariant.faults) (c.in_ok-step.ensures.shelf.calm ∙ l.invariant.stops)

pub returns-then-len-before-clause-stays : goal.returns-then-len-before-clause-stays
returns-then-len-before-clause-stays g c = λ n h. c.in_ok-step.ensures.stays n (c.loop-events.invariant.stays n h)

---- Where nothing has happened

pub loop-events-smaller : goal.loop-events-smaller
loop-events-smaller g c =
    let l = c.loop-events in
    let olds = c.args.nodes.now.items in
    let q : AtHomes l.nodes.items (λ homes tells. c.settled.result ≡ all_quiet homes (seats_by tells l.nodes.items)) =
    subst (λ (ks : List Kept). AtHomes ks (λ homes tells. c.settled.result ≡ all_quiet homes (seats_by tells ks))) c.deref.ensures.value c.settled.ensures in
    let f = c.in_ok-step.ensures.leaves.further in
    let count = go_count 0 l.nodes.items c.step.new.nodes.items l.events.items c.step.new.events.items f in
    let same : length c.step.new.events.items ≡ length l.events.items = omega (arith, count, c.if-len-before.false) in
    let less : left (seats c.step.new.nodes.items) < left (seats l.nodes.items) =
    anyhow c.routes_exist.ensures.exist olds (left (seats c.step.new.nodes.items) < left (seats l.nodes.items)) c.requires.one
    (λ t o routes r b v.
    let now = still_of t olds l.nodes.items l.invariant.leaves.same o in
    let raw : false ≡ true → AreOwned (home_in t routes) l.nodes.items = λ e. absurd (false≢true e) in
    let s = (c.in_ok-step.ensures.ok t now routes r false raw).calm (inr (told_none 0 l.nodes.items c.step.new.nodes.items l.events.items c.step.new.events.items f same)) in
    let noisy : all_quiet (home_in t routes) (seats l.nodes.items) ≡ false = sym (q t now routes r false raw) ∙ c.loop-events-test.true in
    let bounded = l.invariant.leaves.bounded c.requires.bounded in
    falls_told c.left_falls.ensures.falls c.left_falls.ensures.told (home_in t routes) (seats l.nodes.items) (seats c.step.new.nodes.items) l.events.items c.step.new.events.items bounded noisy s same)
    in
    less

pub loop-events-preserved : goal.loop-events-preserved
loop-events-preserved g c = record {
  way = λ t o routes r b v.
      let l = c.loop-events in
      let q : AtHomes l.nodes.items (λ homes tells. c.settled.result ≡ all_quiet homes (seats_by tells l.nodes.items)) =
      subst (λ (ks : List Kept). AtHomes ks (λ homes tells. c.settled.result ≡ all_quiet homes (seats_by tells ks))) c.deref.ensures.value c.settled.ensures in
      let w = l.invariant.way t o routes r b v in
      let now = still_of t c.args.nodes.now.items l.nodes.items l.invariant.leaves.same o in
      let u = still_seen t c.args.nodes.now.items l.nodes.items l.invariant.leaves.owned o routes r b v in
      let f = c.in_ok-step.ensures.leaves.further in (
        w.0 ++ f.own,
        f.told ∙ (ap (λ es. es ++ f.own) w.1 ∙ append_assoc c.args.events.now.items w.0 f.own),
        are_settled_more (home_in t routes) b c.args.nodes.now.items l.nodes.items c.step.new.nodes.items c.args.events.now.items l.events.items c.step.new.events.items w.0 f.own l.invariant.leaves c.in_ok-step.ensures.leaves f.told
            (sym (q t now routes r b u) ∙ c.loop-events-test.true) w.2 (c.in_ok-step.ensures.ok t now routes r b u),
      );
  leaves = leaves_then 0 c.args.nodes.now.items c.loop-events.nodes.items c.step.new.nodes.items c.args.events.now.items c.loop-events.events.items c.step.new.events.items c.loop-events.invariant.leaves c.in_ok-step.ensures.leaves;
  within = c.in_ok-step.ensures.within;
  stays = λ n h. c.in_ok-step.ensures.stays n (c.loop-events.invariant.stays n h);
  faults = c.in_ok-step.ensures.shelf.quiet ∙ c.loop-events.invariant.faults;
  stops = c.in_ok-step.ensures.shelf.calm ∙ c.loop-events.invariant.stops;
}

---- Where all are quiet

pub returns-clause-ok : goal.returns-clause-ok
returns-clause-ok g c = λ t o routes r b v.
    let l = c.loop-events in
    let w = l.invariant.way t o routes r b v in
    let q : AtHomes l.nodes.items (λ homes tells. c.settled.result ≡ all_quiet homes (seats_by tells l.nodes.items)) =
    subst (λ (ks : List Kept). AtHomes ks (λ homes tells. c.settled.result ≡ all_quiet homes (seats_by tells ks))) c.deref.ensures.value c.settled.ensures in
    (w.0, w.1, w.2, λ e. sym (q t (still_of t c.args.nodes.now.items l.nodes.items l.invariant.leaves.same o) routes r b (still_seen t c.args.nodes.now.items l.nodes.items l.invariant.leaves.owned o routes r b v)) ∙ c.loop-events-test.false)

pub returns-clause-agents : goal.returns-clause-agents
returns-clause-agents g c = left_same c.args.nodes.now.items c.loop-events.nodes.items _ _ c.loop-events.invariant.leaves.same c.loop-events.invariant.stops

pub returns-clause-shelf : goal.returns-clause-shelf
returns-clause-shelf g c = shelf_still _ _ _ c.loop-events.invariant.faults c.loop-events.invariant.stops
