use Rattle.std.proofs.Common.{◌≤◌, arith, [], length, false, sym, refl, ap, subst, Err}
use Rattle.std.proofs.lemmas.Result.{err_from_is_err_and}
use Rattle.nsi_agent.specs.Homes.{home_in}
use Rattle.nsi_play.specs.Rounds.{Net, Homes, round}
use Rattle.quiet_rounds.specs.Bounded.{IsBounded}
use Rattle.agent_threads.specs.declared.fault.RunFault.{RunFault}
use Rattle.agent_threads.specs.Nets.{seats, seats_by, EachIs}
use Rattle.agent_threads.specs.Bounds.{MovesOn}
use Rattle.agent_threads.specs.Made.{counted, HasSettleCause}
use Rattle.agent_threads.specs.Stopping.{IsStepped, NoneStopped, stops_among, more_stops}
use Rattle.std.proofs.lemmas.Bool.{false≢true}
use Rattle.agent_threads.proofs.Same.{still_of, same_twice}
use Rattle.agent_threads.proofs.Draining.{is_told}
use Rattle.agent_threads.proofs.Emptying.{emptied_drained, emptied_halted, emptied_same, emptied_told, emptied_were}
use Rattle.agent_threads.proofs.Causes.{same_error, if_err, listed_same, met_settle, met_writes, go_settle, restart_fits, restart_writes, shelf_failed, shelf_still}
use Rattle.agent_threads.proofs.Seen.{seen_events}
use Rattle.agent_threads.proofs.Going.{anyhow}
use Rattle.agent_threads.proofs.Leaves.{leaves_drained}
use Rattle.agent_threads.proofs.Stepping.{HasStop, step_calm, step_halted, overruns_calm, room_first, room_second, stop_counted, counts_up, second_rises, leaves_halted}
use Rattle.agent_threads.proofs.Left.{left_agents, left_unstopped, left_twice}
use Rattle.agent_threads.proofs.group.step.Goals as goal

pub returns-in_err-has_stopped-clause-long : goal.returns-in_err-has_stopped-clause-long
returns-in_err-has_stopped-clause-long g c = λ t o routes r b w h.
    let olds = c.args.nodes.now.items in
    let p = err_from_is_err_and c.from_residual.result c.from_residual.ensures.1 in
    let long = c.in_err-has_stopped.ensures.long t o routes r b w (ap (λ e. Err e) (same_error c.from_residual.result p.0 c.in_err-has_stopped.field-0.0 _ p.1 p.2 h)) in
    overruns_calm c.rounds.ensures.whole (home_in t routes) b _ _ (seats_by b olds) (length c.args.events.now.items) c.args.room
    (omega (arith, long, c.requires.within, ap length (seen_events b olds), ap length c.requires.told))

pub returns-in_err-has_stopped-clause-rises : goal.returns-in_err-has_stopped-clause-rises
returns-in_err-has_stopped-clause-rises g c = λ h. let n = c.in_err-has_stopped.ensures.counts in omega (arith, n)

pub returns-in_err-has_stopped-clause-agents : goal.returns-in_err-has_stopped-clause-agents
returns-in_err-has_stopped-clause-agents g c = left_agents c.args.nodes.now.items c.meet.new.nodes.items (counted (g.B.Reopen.faults c.args.shelf.now) (g.B.Reopen.stops c.args.shelf.now)) (counted (g.B.Reopen.faults c.args.shelf.now) (g.B.Reopen.stops c.args.shelf.now)) c.in_err-has_stopped.ensures.agents (let n = c.in_err-has_stopped.ensures.counts in omega (arith, n)) refl

pub returns-in_err-has_stopped-clause-cause : goal.returns-in_err-has_stopped-clause-cause
returns-in_err-has_stopped-clause-cause g c =
    let olds = c.args.nodes.now.items in
    let mids = c.meet.new.nodes.items in
    let now = counted (g.B.Reopen.faults c.args.shelf.now) (g.B.Reopen.stops c.args.shelf.now) in
    let p = err_from_is_err_and c.from_residual.result c.from_residual.ensures.1 in
    if_err c.from_residual.result (HasSettleCause [] olds mids now now) p.0 p.1
    (subst (λ (e : RunFault). HasSettleCause [] olds mids now now e) (sym p.2) (met_settle [] olds mids now now c.in_err-has_stopped.field-0.0 c.in_err-has_stopped.ensures.cause))

pub returns-in_err-has_stopped-clause-mild : goal.returns-in_err-has_stopped-clause-mild
returns-in_err-has_stopped-clause-mild g c = λ h.
    let p = err_from_is_err_and c.from_residual.result c.from_residual.ensures.1 in
    met_writes c.meet.new.nodes.items c.in_err-has_stopped.field-0.0 c.in_err-has_stopped.ensures.cause (same_error c.from_residual.result p.0 c.in_err-has_stopped.field-0.0 _ p.1 p.2 h)

pub returns-in_err-drain-clause-agents : goal.returns-in_err-drain-clause-agents
returns-in_err-drain-clause-agents g c =
    let olds = c.args.nodes.now.items in
    let mids = c.meet.new.nodes.items in
    let now = counted (g.B.Reopen.faults c.args.shelf.now) (g.B.Reopen.stops c.args.shelf.now) in
    left_twice olds mids c.drain.new.nodes.items now now now (left_agents olds mids now now c.in_ok-has_stopped.ensures.agents (let n = c.in_ok-has_stopped.ensures.counts in omega (arith, n)) refl) (left_unstopped mids c.drain.new.nodes.items now now c.in_err-drain.ensures.agents refl)

---- Too many events in the round

pub returns-then-len-room-clause-long : goal.returns-then-len-room-clause-long
returns-then-len-room-clause-long g c = λ t o routes r b w h.
    let olds = c.args.nodes.now.items in
    let mids = c.meet.new.nodes.items in
    let lefts = c.drain.new.nodes.items in
    let before = c.args.events.now.items in
    let now = c.drain.new.events.items in
    let homes : Homes = home_in t routes in
    room_first c.rounds.ensures.whole homes b c.in_ok-has_stopped.has_stopped olds mids lefts before now c.args.room
    (λ s. is_told b (round homes (seats_by b olds)) mids lefts before now (c.in_ok-has_stopped.ensures.calm t o routes r b w s)
    (emptied_drained mids lefts c.in_ok-drain.ensures.made (c.in_ok-has_stopped.ensures.net s).usable) c.in_ok-drain.ensures.events)
    (λ s e. record { halts = c.in_ok-has_stopped.ensures.halts t o routes r (w e); emptied = c.in_ok-drain.ensures.made; told = c.in_ok-drain.ensures.events })
    (λ s. record { counts = c.in_ok-has_stopped.ensures.counts; some = c.in_ok-has_stopped.ensures.some s; emptied = c.in_ok-drain.ensures.made; told = c.in_ok-drain.ensures.events })
    c.in_ok-has_stopped.ensures.still c.in_ok-has_stopped.ensures.halted.apart (omega (arith, c.if-len-room.true))

pub returns-then-len-room-clause-rises : goal.returns-then-len-room-clause-rises
returns-then-len-room-clause-rises g c = λ h. counts_up c.args.nodes.now.items c.meet.new.nodes.items c.drain.new.nodes.items c.in_ok-has_stopped.ensures.counts c.in_ok-drain.ensures.made

pub returns-then-len-room-clause-agents : goal.returns-then-len-room-clause-agents
returns-then-len-room-clause-agents g c =
    let olds = c.args.nodes.now.items in
    let mids = c.meet.new.nodes.items in
    let now = counted (g.B.Reopen.faults c.args.shelf.now) (g.B.Reopen.stops c.args.shelf.now) in
    left_twice olds mids c.drain.new.nodes.items now now now (left_agents olds mids now now c.in_ok-has_stopped.ensures.agents (let n = c.in_ok-has_stopped.ensures.counts in omega (arith, n)) refl) (left_unstopped mids c.drain.new.nodes.items now now c.in_ok-drain.ensures.agents refl)

---- Where no disk has stopped

pub returns-then-not-has_stopped-clause-ok : goal.returns-then-not-has_stopped-clause-ok
returns-then-not-has_stopped-clause-ok g c = λ t o routes r b w.
    let olds = c.args.nodes.now.items in
    let mids = c.meet.new.nodes.items in
    let lefts = c.drain.new.nodes.items in
    let homes : Homes = home_in t routes in
    let s = c.if-not-has_stopped.true in
    step_calm c.rounds.ensures.whole homes b _ _ (seats_by b olds) c.args.events.now.items c.drain.new.events.items (seats_by b lefts)
    (is_told b (round homes (seats_by b olds)) mids lefts c.args.events.now.items c.drain.new.events.items (c.in_ok-has_stopped.ensures.calm t o routes r b w s)
    (emptied_drained mids lefts c.in_ok-drain.ensures.made (c.in_ok-has_stopped.ensures.net s).usable) c.in_ok-drain.ensures.events)

pub returns-then-not-has_stopped-clause-leaves : goal.returns-then-not-has_stopped-clause-leaves
returns-then-not-has_stopped-clause-leaves g c =
    let olds = c.args.nodes.now.items in
    let mids = c.meet.new.nodes.items in
    let lefts = c.drain.new.nodes.items in
    let exist = c.routes_exist.ensures.exist in
    let one = c.requires.one in
    let s = c.if-not-has_stopped.true in
    let net = c.in_ok-has_stopped.ensures.net s in
    leaves_drained 0 olds mids lefts c.args.events.now.items c.drain.new.events.items c.requires.net net c.in_ok-has_stopped.ensures.still
    (anyhow exist olds (EachIs (MovesOn 0) olds mids) one c.in_ok-has_stopped.ensures.moved)
    (anyhow exist olds (IsBounded (seats olds) → IsBounded (seats mids)) one
    (λ t o routes r b w h. subst (λ (z : Net). IsBounded z) (sym (c.in_ok-has_stopped.ensures.calm t o routes r false (λ e. absurd (false≢true e)) s)) (c.nets_are_bounded.ensures.steps (home_in t routes) (seats olds) h).round))
    (c.in_ok-has_stopped.ensures.owned s) c.nets_are_bounded.ensures.steps (home_in one.network (exist one.network).0)
    (emptied_drained mids lefts c.in_ok-drain.ensures.made net.usable) c.requires.told c.in_ok-drain.ensures.events c.in_ok-drain.ensures.printable

pub returns-then-not-has_stopped-clause-agents : goal.returns-then-not-has_stopped-clause-agents
returns-then-not-has_stopped-clause-agents g c =
    let olds = c.args.nodes.now.items in
    let mids = c.meet.new.nodes.items in
    let now = counted (g.B.Reopen.faults c.args.shelf.now) (g.B.Reopen.stops c.args.shelf.now) in
    left_twice olds mids c.drain.new.nodes.items now now now (left_agents olds mids now now c.in_ok-has_stopped.ensures.agents (let n = c.in_ok-has_stopped.ensures.counts in omega (arith, n)) refl) (left_unstopped mids c.drain.new.nodes.items now now c.in_ok-drain.ensures.agents refl)

---- Those whose disks have stopped

pub reopen-requires-clause-halted : goal.reopen-requires-clause-halted
reopen-requires-clause-halted g c = emptied_halted c.meet.new.nodes.items c.drain.new.nodes.items c.in_ok-drain.ensures.made c.in_ok-has_stopped.ensures.halted

pub reopen-requires-clause-told : goal.reopen-requires-clause-told
reopen-requires-clause-told g c = emptied_told c.meet.new.nodes.items c.drain.new.nodes.items c.in_ok-drain.ensures.made

pub reopen-requires-clause-listed : goal.reopen-requires-clause-listed
reopen-requires-clause-listed g c =
    let olds = c.args.nodes.now.items in
    let mids = c.meet.new.nodes.items in
    let lefts = c.drain.new.nodes.items in
    listed_same (g.B.Reopen.listed c.args.shelf.now) olds lefts (same_twice olds mids lefts c.in_ok-has_stopped.ensures.still (emptied_same mids lefts c.in_ok-drain.ensures.made)) c.requires.listed

pub returns-in_err-reopen-clause-agents : goal.returns-in_err-reopen-clause-agents
returns-in_err-reopen-clause-agents g c =
    let olds = c.args.nodes.now.items in
    let mids = c.meet.new.nodes.items in
    let lefts = c.drain.new.nodes.items in
    let now = counted (g.B.Reopen.faults c.args.shelf.now) (g.B.Reopen.stops c.args.shelf.now) in
    let up : stops_among olds ≤ stops_among mids = let n = c.in_ok-has_stopped.ensures.counts in omega (arith, n) in
    left_twice olds lefts c.reopen.new.nodes.items now now _ (left_twice olds mids lefts now now now (left_agents olds mids now now c.in_ok-has_stopped.ensures.agents up refl) (left_unstopped mids lefts now now c.in_ok-drain.ensures.agents refl))
    c.in_err-reopen.ensures.agents

pub returns-in_err-reopen-clause-shelf : goal.returns-in_err-reopen-clause-shelf
returns-in_err-reopen-clause-shelf g c =
    let p = err_from_is_err_and c.from_residual-in_err-reopen.result c.from_residual-in_err-reopen.ensures.1 in
    shelf_failed _ _ _ _ _ p.0 p.1 refl refl c.in_err-reopen.ensures.shelf

pub returns-in_err-reopen-clause-cause : goal.returns-in_err-reopen-clause-cause
returns-in_err-reopen-clause-cause g c =
    let olds = c.args.nodes.now.items in
    let mids = c.meet.new.nodes.items in
    let lefts = c.drain.new.nodes.items in
    let news = c.reopen.new.nodes.items in
    let before = counted (g.B.Reopen.faults c.args.shelf.now) (g.B.Reopen.stops c.args.shelf.now) in
    let after = counted (g.B.Reopen.faults c.reopen.new.shelf) (g.B.Reopen.stops c.reopen.new.shelf) in
    let p = err_from_is_err_and c.from_residual-in_err-reopen.result c.from_residual-in_err-reopen.ensures.1 in
    if_err c.from_residual-in_err-reopen.result (HasSettleCause [] olds news before after) p.0 p.1
    (subst (λ (e : RunFault). HasSettleCause [] olds news before after e) (sym p.2)
    (go_settle [] olds lefts news before after c.in_err-reopen.field-0.0 (same_twice olds mids lefts c.in_ok-has_stopped.ensures.still (emptied_same mids lefts c.in_ok-drain.ensures.made))
    (λ t o routes r w. emptied_were (home_in t routes) mids lefts c.in_ok-drain.ensures.made (c.in_ok-has_stopped.ensures.were t o routes r w))
    (stop_counted olds mids lefts news c.args.events.now.items c.drain.new.events.items before after
    (record { counts = c.in_ok-has_stopped.ensures.counts; some = c.in_ok-has_stopped.ensures.some c.if-not-has_stopped.false; emptied = c.in_ok-drain.ensures.made; told = c.in_ok-drain.ensures.events }) c.in_err-reopen.ensures.agents)
    c.in_err-reopen.ensures.cause))

pub returns-in_err-reopen-clause-long : goal.returns-in_err-reopen-clause-long
returns-in_err-reopen-clause-long g c = λ t o routes r b w h.
    let p = err_from_is_err_and c.from_residual-in_err-reopen.result c.from_residual-in_err-reopen.ensures.1 in
    absurd (restart_fits c.in_err-reopen.field-0.0 c.in_err-reopen.ensures.mild (same_error c.from_residual-in_err-reopen.result p.0 c.in_err-reopen.field-0.0 _ p.1 p.2 h))

pub returns-in_err-reopen-clause-rises : goal.returns-in_err-reopen-clause-rises
returns-in_err-reopen-clause-rises g c = λ h.
    let p = err_from_is_err_and c.from_residual-in_err-reopen.result c.from_residual-in_err-reopen.ensures.1 in
    absurd (restart_fits c.in_err-reopen.field-0.0 c.in_err-reopen.ensures.mild (same_error c.from_residual-in_err-reopen.result p.0 c.in_err-reopen.field-0.0 _ p.1 p.2 h))

pub returns-in_err-reopen-clause-mild : goal.returns-in_err-reopen-clause-mild
returns-in_err-reopen-clause-mild g c = λ h.
    let p = err_from_is_err_and c.from_residual-in_err-reopen.result c.from_residual-in_err-reopen.ensures.1 in
    restart_writes c.in_err-reopen.field-0.0 c.in_err-reopen.ensures.mild (same_error c.from_residual-in_err-reopen.result p.0 c.in_err-reopen.field-0.0 _ p.1 p.2 h)

---- Too many events with the restarts

pub returns-then-len-room-2-clause-long : goal.returns-then-len-room-2-clause-long
returns-then-len-room-2-clause-long g c = λ t o routes r b w h.
    let olds = c.args.nodes.now.items in
    let mids = c.meet.new.nodes.items in
    let lefts = c.drain.new.nodes.items in
    let news = c.reopen.new.nodes.items in
    let before = c.args.events.now.items in
    let now = c.drain.new.events.items in
    let events = c.reopen.new.events.items in
    let homes : Homes = home_in t routes in
    let same = same_twice olds mids lefts c.in_ok-has_stopped.ensures.still (emptied_same mids lefts c.in_ok-drain.ensures.made) in
    let stop : HasStop olds mids lefts before now = record { counts = c.in_ok-has_stopped.ensures.counts; some = c.in_ok-has_stopped.ensures.some c.if-not-has_stopped.false; emptied = c.in_ok-drain.ensures.made; told = c.in_ok-drain.ensures.events } in
    let made : IsStepped homes b (NoneStopped olds news before events) (more_stops olds news) (seats_by b olds) before events (seats_by b news) =
    step_halted homes b olds mids lefts news before now events
    (λ e. record { halts = c.in_ok-has_stopped.ensures.halts t o routes r (w e); emptied = c.in_ok-drain.ensures.made; told = c.in_ok-drain.ensures.events })
    (λ e. c.in_ok-reopen.ensures.ok t (still_of t olds lefts same o) routes r (emptied_were homes mids lefts c.in_ok-drain.ensures.made (c.in_ok-has_stopped.ensures.were t o routes r (w e))))
    stop c.in_ok-has_stopped.ensures.still c.in_ok-reopen.ensures.still c.in_ok-reopen.ensures.shows in
    room_second homes b olds mids lefts news before now events c.args.room (more_stops olds news) made stop c.in_ok-reopen.ensures.still (omega (arith, c.if-len-room-2.true))

pub returns-then-len-room-2-clause-rises : goal.returns-then-len-room-2-clause-rises
returns-then-len-room-2-clause-rises g c = λ h.
    second_rises c.args.nodes.now.items c.meet.new.nodes.items c.drain.new.nodes.items c.reopen.new.nodes.items c.args.events.now.items c.drain.new.events.items
    (record { counts = c.in_ok-has_stopped.ensures.counts; some = c.in_ok-has_stopped.ensures.some c.if-not-has_stopped.false; emptied = c.in_ok-drain.ensures.made; told = c.in_ok-drain.ensures.events })
    c.in_ok-reopen.ensures.still

pub returns-then-len-room-2-clause-agents : goal.returns-then-len-room-2-clause-agents
returns-then-len-room-2-clause-agents g c =
    let olds = c.args.nodes.now.items in
    let mids = c.meet.new.nodes.items in
    let lefts = c.drain.new.nodes.items in
    let now = counted (g.B.Reopen.faults c.args.shelf.now) (g.B.Reopen.stops c.args.shelf.now) in
    let up : stops_among olds ≤ stops_among mids = let n = c.in_ok-has_stopped.ensures.counts in omega (arith, n) in
    left_twice olds lefts c.reopen.new.nodes.items now now _ (left_twice olds mids lefts now now now (left_agents olds mids now now c.in_ok-has_stopped.ensures.agents up refl) (left_unstopped mids lefts now now c.in_ok-drain.ensures.agents refl))
    c.in_ok-reopen.ensures.agents

pub returns-then-len-room-2-clause-shelf : goal.returns-then-len-room-2-clause-shelf
returns-then-len-room-2-clause-shelf g c = shelf_still _ _ _ c.in_ok-reopen.ensures.shelf.quiet c.in_ok-reopen.ensures.shelf.calm

---- They have gone on

pub returns-clause-ok : goal.returns-clause-ok
returns-clause-ok g c = λ t o routes r b w.
    let olds = c.args.nodes.now.items in
    let mids = c.meet.new.nodes.items in
    let lefts = c.drain.new.nodes.items in
    let news = c.reopen.new.nodes.items in
    let before = c.args.events.now.items in
    let now = c.drain.new.events.items in
    let homes : Homes = home_in t routes in
    let same = same_twice olds mids lefts c.in_ok-has_stopped.ensures.still (emptied_same mids lefts c.in_ok-drain.ensures.made) in
    step_halted homes b olds mids lefts news before now c.reopen.new.events.items
    (λ e. record { halts = c.in_ok-has_stopped.ensures.halts t o routes r (w e); emptied = c.in_ok-drain.ensures.made; told = c.in_ok-drain.ensures.events })
    (λ e. c.in_ok-reopen.ensures.ok t (still_of t olds lefts same o) routes r (emptied_were homes mids lefts c.in_ok-drain.ensures.made (c.in_ok-has_stopped.ensures.were t o routes r (w e))))
    (record { counts = c.in_ok-has_stopped.ensures.counts; some = c.in_ok-has_stopped.ensures.some c.if-not-has_stopped.false; emptied = c.in_ok-drain.ensures.made; told = c.in_ok-drain.ensures.events })
    c.in_ok-has_stopped.ensures.still c.in_ok-reopen.ensures.still c.in_ok-reopen.ensures.shows

pub returns-clause-leaves : goal.returns-clause-leaves
returns-clause-leaves g c =
    let olds = c.args.nodes.now.items in
    let mids = c.meet.new.nodes.items in
    let s = c.if-not-has_stopped.false in
    leaves_halted c.routes_exist.ensures.exist c.rounds.ensures.bounded c.nets_are_bounded.ensures.steps olds mids c.drain.new.nodes.items c.reopen.new.nodes.items c.args.events.now.items c.drain.new.events.items c.reopen.new.events.items
    c.requires.one c.requires.told c.in_ok-reopen.ensures.net c.in_ok-reopen.ensures.told c.in_ok-reopen.ensures.printable
    (record {
      halted = c.in_ok-has_stopped.ensures.halted;
      first = c.in_ok-has_stopped.ensures.still;
      moves = c.in_ok-has_stopped.ensures.moved;
      plain = λ t o routes r b w. c.in_ok-has_stopped.ensures.plain t o routes r b w s;
      were = c.in_ok-has_stopped.ensures.were;
      emptied = c.in_ok-drain.ensures.made;
      told = c.in_ok-drain.ensures.events;
      second = c.in_ok-reopen.ensures.still;
      owned = c.in_ok-reopen.ensures.owned;
      bounded = c.in_ok-reopen.ensures.bounded;
      further = c.in_ok-reopen.ensures.further;
    })

pub returns-clause-within : goal.returns-clause-within
returns-clause-within g c = omega (arith, c.if-len-room-2.false)

pub returns-clause-agents : goal.returns-clause-agents
returns-clause-agents g c =
    let olds = c.args.nodes.now.items in
    let mids = c.meet.new.nodes.items in
    let lefts = c.drain.new.nodes.items in
    let now = counted (g.B.Reopen.faults c.args.shelf.now) (g.B.Reopen.stops c.args.shelf.now) in
    let up : stops_among olds ≤ stops_among mids = let n = c.in_ok-has_stopped.ensures.counts in omega (arith, n) in
    left_twice olds lefts c.reopen.new.nodes.items now now _ (left_twice olds mids lefts now now now (left_agents olds mids now now c.in_ok-has_stopped.ensures.agents up refl) (left_unstopped mids lefts now now c.in_ok-drain.ensures.agents refl))
    c.in_ok-reopen.ensures.agents

pub returns-clause-shelf : goal.returns-clause-shelf
returns-clause-shelf g c = shelf_still _ _ _ c.in_ok-reopen.ensures.shelf.quiet c.in_ok-reopen.ensures.shelf.calm
