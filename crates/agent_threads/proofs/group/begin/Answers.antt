use Rattle.std.proofs.Common.{ℕ, inl, ◌≡◌, ◌<◌, ◌+◌, ◌∙◌, [], ◌∷◌, sym, refl, ap, subst, arith, length, drop, get_or, map, List}
use Rattle.nsi_agent.specs.Homes.{home_in}
use Rattle.nsi_primitive.specs.declared.entry.Event.{Event}
use Rattle.nsi_script.specs.declared.script.Act.{Act}
use Rattle.nsi_play.specs.Play.{asks_in, ticked_in}
use Rattle.agent_threads.specs.Nets.{seats_by}
use Rattle.agent_threads.specs.Coming.{IsTold}
use Rattle.agent_threads.specs.Promise.{CanBeDone, Shows}
use Rattle.agent_threads.proofs.Same.{still_of, stops_up}
use Rattle.agent_threads.proofs.Owning.{still_seen}
use Rattle.agent_threads.proofs.Causes.{same_error, if_err, cause_before, restart_fits, restart_writes, shelf_failed, shelf_still, listed_same, listed_stays}
use Rattle.agent_threads.proofs.Left.{left_same, left_unstopped, left_twice}
use Rattle.std.proofs.lemmas.Result.{err_from_is_err_and}
use Rattle.agent_threads.specs.declared.fault.RunFault.{RunFault}
use Rattle.agent_threads.specs.Made.{counted, HasRunCause}
use Rattle.agent_threads.proofs.Acting.{ActsGo, acts_go_first, acts_go_more, acts_go_end, acts_go_past}
use Rattle.agent_threads.proofs.Coming.{asks_next, asks_end}
use Rattle.agent_threads.proofs.Stepping.{none_before}
use Rattle.agent_threads.specs.Stopping.{stops_among, more_stops, NoneStopped, IsDone}
use Rattle.agent_threads.proofs.Told.{act_at, shown_one}
use Rattle.agent_threads.proofs.Leaves.{leaves_then}
use Rattle.agent_threads.proofs.Going.{room_less, room_after, go_count}
use Rattle.agent_threads.proofs.group.begin.Goals as goal

pub tick-requires-clause-one : goal.tick-requires-clause-one
tick-requires-clause-one g c =
    let can = c.requires.can in
    record { network = can.network; of = can.of }

pub tick-requires-clause-few : goal.tick-requires-clause-few
tick-requires-clause-few g c = room_less (c.args.start.room + 1) 1 c.args.nodes.now.items (omega arith) c.requires.few

pub loop-action-init : goal.loop-action-init
loop-action-init g c = record {
  way = λ t o routes r b v shows.
      acts_go_first (home_in t routes) b (NoneStopped c.args.nodes.now.items c.tick.new.nodes.items c.args.events.now.items c.tick.new.events.items) (more_stops c.args.nodes.now.items c.tick.new.nodes.items) c.args.group.now c.args.start.number
      (seats_by b c.args.nodes.now.items) c.tick.new.events.items (seats_by b c.tick.new.nodes.items)
      (subst (λ (es : List Event). IsTold (map (ticked_in c.args.group.now.at (home_in t routes)) (seats_by b c.args.nodes.now.items)) es c.tick.new.events.items (seats_by b c.tick.new.nodes.items)) c.requires.none (c.in_ok-tick.ensures.ok t o routes r b v));
  asks = refl;
  leaves = c.in_ok-tick.ensures.leaves;
  stays = λ n h. h;
  faults = refl;
  stops = refl;
}

pub act-requires-clause-can : goal.act-requires-clause-can
act-requires-clause-can g c =
    let l = c.loop-action in
    let todo = c.args.group.now.acts in
    let here : l.action-index < length todo = omega (arith, c.loop-action-test.true, ap length c.items-action-items.ensures) in
    let can = c.requires.can in
    let one : CanBeDone can.network (get_or todo l.action-index c.action-item.result) = act_at can.network todo l.action-index c.action-item.result here can.can in
    let is : get_or todo l.action-index c.action-item.result ≡ c.action-item.result = sym (c.action-item.is ∙ ap (λ (xs : List Act). get_or xs l.action-index c.action-item.result) c.items-action-items.ensures) in
    record {
      network = can.network;
      of = still_of can.network c.args.nodes.now.items l.nodes.items l.invariant.leaves.same can.of;
      can = subst (λ (a : Act). CanBeDone can.network a) is one;
    }

pub next_ask-later-requires : goal.next_ask-later-requires
next_ask-later-requires g c =
    let l = c.loop-action in
    let todo = c.args.group.now.acts in
    let d = c.action-item.result in
    let here : l.action-index < length todo = omega (arith, c.loop-action-test.true, ap length c.items-action-items.ensures) in
    let is : d ≡ get_or todo l.action-index d = c.action-item.is ∙ ap (λ (xs : List Act). get_or xs l.action-index d) c.items-action-items.ensures in
    omega (arith, ap asks_in is, asks_next todo l.action-index d here, l.invariant.asks, c.requires.asks)

pub act-requires-clause-few : goal.act-requires-clause-few
act-requires-clause-few g c =
    let l = c.loop-action in
    let f = l.invariant.leaves.further in
    let count = go_count c.args.group.now.at c.args.nodes.now.items l.nodes.items c.args.events.now.items l.events.items f in
    room_after c.args.group.now.at (c.args.start.room + 1) 1 (length f.own) c.args.nodes.now.items l.nodes.items
    (omega (arith, count, ap length c.requires.none, c.if-len-start.false)) f.each c.requires.few

pub act-requires-clause-listed : goal.act-requires-clause-listed
act-requires-clause-listed g c =
    let l = c.loop-action in
    listed_stays (g.B.Reopen.listed c.args.shelf.now) (g.B.Reopen.listed l.shelf) l.invariant.stays l.nodes.items (listed_same (g.B.Reopen.listed c.args.shelf.now) c.args.nodes.now.items l.nodes.items l.invariant.leaves.same c.requires.listed)

pub loop-action-preserved : goal.loop-action-preserved
loop-action-preserved g c =
    let l = c.loop-action in
    let todo = c.args.group.now.acts in
    let d = c.action-item.result in
    let here : l.action-index < length todo = omega (arith, c.loop-action-test.true, ap length c.items-action-items.ensures) in
    let is : d ≡ get_or todo l.action-index d = c.action-item.is ∙ ap (λ (xs : List Act). get_or xs l.action-index d) c.items-action-items.ensures in
    let later = c.next_ask-later.ensures ∙ ap (λ (a : Act). l.next + asks_in a) is in
    record {
      way = λ t o routes r b v shows.
          let now = still_of t c.args.nodes.now.items l.nodes.items l.invariant.leaves.same o in
          let u = still_seen t c.args.nodes.now.items l.nodes.items l.invariant.leaves.owned o routes r b v in
          let shown : Shows b d = subst (λ (a : Act). Shows b a) (sym is) (shows l.action-index d here) in
          let olds = c.args.nodes.now.items in
          let mids = l.nodes.items in
          let news = c.act.new.nodes.items in
          let before = c.args.events.now.items in
          let homes = home_in t routes in
          let Calm : Type 0 = NoneStopped olds mids before l.events.items in
          let Here : Type 0 = NoneStopped mids news l.events.items c.act.new.events.items in
          let Later : Type 0 = NoneStopped olds news before c.act.new.events.items in
          let one = subst (λ (a : Act). IsDone homes b Here (more_stops mids news) a l.next (seats_by b mids) l.events.items c.act.new.events.items (seats_by b news)) is (c.in_ok-act.ensures.ok t now routes r b u shown) in
          let split : Later → Calm × Here = λ none. none_before c.args.group.now.at olds mids news before l.events.items c.act.new.events.items l.invariant.leaves c.in_ok-act.ensures.leaves none in
          subst (λ (n : ℕ). ActsGo homes b Later (more_stops olds news) c.args.group.now c.args.start.number (seats_by b olds) c.act.new.events.items (drop (l.action-index + 1) todo) n (seats_by b news)) (sym later)
          (acts_go_more homes b Calm Here Later (more_stops olds mids) (more_stops mids news) (more_stops olds news) split
          (let up = stops_up olds mids l.invariant.leaves.same in let more = stops_up mids news c.in_ok-act.ensures.leaves.same in omega (arith, up, more)) c.args.group.now c.args.start.number (seats_by b olds)
          l.events.items c.act.new.events.items l.action-index d l.next (seats_by b mids) (seats_by b news) here (l.invariant.way t o routes r b v shows) one);
      asks = omega (arith, later, asks_next todo l.action-index d here, l.invariant.asks);
      leaves = leaves_then c.args.group.now.at c.args.nodes.now.items l.nodes.items c.act.new.nodes.items c.args.events.now.items l.events.items c.act.new.events.items l.invariant.leaves c.in_ok-act.ensures.leaves;
      stays = λ n h. c.in_ok-act.ensures.stays n (l.invariant.stays n h);
      faults = c.in_ok-act.ensures.shelf.quiet ∙ l.invariant.faults;
      stops = c.in_ok-act.ensures.shelf.calm ∙ l.invariant.stops;
    }

pub returns-clause-ok : goal.returns-clause-ok
returns-clause-ok g c = λ t o routes r b v shows.
    let l = c.loop-action in
    let olds = c.args.nodes.now.items in
    let homes = home_in t routes in
    let way = subst (λ (es : List Event). ActsGo homes b (NoneStopped olds l.nodes.items es l.events.items) (more_stops olds l.nodes.items) c.args.group.now c.args.start.number (seats_by b olds) l.events.items (drop l.action-index c.args.group.now.acts)
    l.next (seats_by b l.nodes.items)) c.requires.none (l.invariant.way t o routes r b v shows) in
    acts_go_end homes b (NoneStopped olds l.nodes.items [] l.events.items) (more_stops olds l.nodes.items) c.args.group.now c.args.start.number (seats_by b olds) l.events.items l.action-index l.next (seats_by b l.nodes.items)
    (omega (arith, c.loop-action-test.false, ap length c.items-action-items.ensures)) way

pub returns-clause-next : goal.returns-clause-next
returns-clause-next g c =
    let l = c.loop-action in
    omega (arith, l.invariant.asks, asks_end c.args.group.now.acts l.action-index (omega (arith, c.loop-action-test.false, ap length c.items-action-items.ensures)))

pub returns-in_err-tick-clause-agents : goal.returns-in_err-tick-clause-agents
returns-in_err-tick-clause-agents g c = left_unstopped c.args.nodes.now.items c.tick.new.nodes.items (counted (g.B.Reopen.faults c.args.shelf.now) (g.B.Reopen.stops c.args.shelf.now)) (counted (g.B.Reopen.faults c.args.shelf.now) (g.B.Reopen.stops c.args.shelf.now)) c.in_err-tick.ensures.agents refl

pub returns-then-len-start-clause-agents : goal.returns-then-len-start-clause-agents
returns-then-len-start-clause-agents g c = left_same c.args.nodes.now.items c.loop-action.nodes.items _ _ c.loop-action.invariant.leaves.same c.loop-action.invariant.stops

pub returns-then-len-start-2-clause-agents : goal.returns-then-len-start-2-clause-agents
returns-then-len-start-2-clause-agents g c = left_same c.args.nodes.now.items c.loop-action.nodes.items _ _ c.loop-action.invariant.leaves.same c.loop-action.invariant.stops

pub returns-clause-agents : goal.returns-clause-agents
returns-clause-agents g c = left_same c.args.nodes.now.items c.loop-action.nodes.items _ _ c.loop-action.invariant.leaves.same c.loop-action.invariant.stops

pub returns-in_err-act-clause-agents : goal.returns-in_err-act-clause-agents
returns-in_err-act-clause-agents g c =
    let l = c.loop-action in
    left_twice c.args.nodes.now.items l.nodes.items c.act.new.nodes.items _ _ _ (left_same c.args.nodes.now.items l.nodes.items (counted (g.B.Reopen.faults c.args.shelf.now) (g.B.Reopen.stops c.args.shelf.now)) (counted (g.B.Reopen.faults l.shelf) (g.B.Reopen.stops l.shelf)) l.invariant.leaves.same l.invariant.stops)
    c.in_err-act.ensures.agents

---- Where an act has failed

pub returns-in_err-act-clause-shelf : goal.returns-in_err-act-clause-shelf
returns-in_err-act-clause-shelf g c =
    let l = c.loop-action in
    let p = err_from_is_err_and c.from_residual-in_err-act.result c.from_residual-in_err-act.ensures.1 in
    shelf_failed _ _ _ _ _ p.0 p.1 l.invariant.faults l.invariant.stops c.in_err-act.ensures.shelf

pub returns-in_err-act-clause-stays : goal.returns-in_err-act-clause-stays
returns-in_err-act-clause-stays g c = λ n h. c.in_err-act.ensures.stays n (c.loop-action.invariant.stays n h)

pub returns-in_err-act-clause-cause : goal.returns-in_err-act-clause-cause
returns-in_err-act-clause-cause g c =
    let l = c.loop-action in
    let olds = c.args.nodes.now.items in
    let mids = l.nodes.items in
    let news = c.act.new.nodes.items in
    let todo = c.args.group.now.acts in
    let d = c.action-item.result in
    let here : l.action-index < length todo = omega (arith, c.loop-action-test.true, ap length c.items-action-items.ensures) in
    let is : d ≡ get_or todo l.action-index d = c.action-item.is ∙ ap (λ (xs : List Act). get_or xs l.action-index d) c.items-action-items.ensures in
    let p = err_from_is_err_and c.from_residual-in_err-act.result c.from_residual-in_err-act.ensures.1 in
    let before = counted (g.B.Reopen.faults c.args.shelf.now) (g.B.Reopen.stops c.args.shelf.now) in
    let mid = counted (g.B.Reopen.faults l.shelf) (g.B.Reopen.stops l.shelf) in
    let after = counted (g.B.Reopen.faults c.act.new.shelf) (g.B.Reopen.stops c.act.new.shelf) in
    if_err c.from_residual-in_err-act.result (HasRunCause todo olds news before after) p.0 p.1
    (subst (λ (e : RunFault). HasRunCause todo olds news before after e) (sym p.2)
    (cause_before todo (d ∷ []) olds mids news before mid after c.in_err-act.field-0.0 l.invariant.leaves.same l.invariant.leaves.owned (shown_one todo l.action-index d here is) l.invariant.faults l.invariant.stops c.in_err-act.ensures.cause))

pub returns-in_err-act-clause-long : goal.returns-in_err-act-clause-long
returns-in_err-act-clause-long g c = λ t o routes r b v shows h.
    let p = err_from_is_err_and c.from_residual-in_err-act.result c.from_residual-in_err-act.ensures.1 in
    absurd (restart_fits c.in_err-act.field-0.0 c.in_err-act.ensures.mild (same_error c.from_residual-in_err-act.result p.0 c.in_err-act.field-0.0 _ p.1 p.2 h))

pub returns-in_err-act-clause-mild : goal.returns-in_err-act-clause-mild
returns-in_err-act-clause-mild g c = λ h.
    let p = err_from_is_err_and c.from_residual-in_err-act.result c.from_residual-in_err-act.ensures.1 in
    restart_writes c.in_err-act.field-0.0 c.in_err-act.ensures.mild (same_error c.from_residual-in_err-act.result p.0 c.in_err-act.field-0.0 _ p.1 p.2 h)

pub returns-in_err-act-clause-rises : goal.returns-in_err-act-clause-rises
returns-in_err-act-clause-rises g c = λ h.
    let p = err_from_is_err_and c.from_residual-in_err-act.result c.from_residual-in_err-act.ensures.1 in
    absurd (restart_fits c.in_err-act.field-0.0 c.in_err-act.ensures.mild (same_error c.from_residual-in_err-act.result p.0 c.in_err-act.field-0.0 _ p.1 p.2 h))

---- Too many events

pub returns-then-len-start-clause-rises : goal.returns-then-len-start-clause-rises
returns-then-len-start-clause-rises g c = λ h. stops_up c.args.nodes.now.items c.loop-action.nodes.items c.loop-action.invariant.leaves.same

pub returns-then-len-start-2-clause-rises : goal.returns-then-len-start-2-clause-rises
returns-then-len-start-2-clause-rises g c = λ h. stops_up c.args.nodes.now.items c.loop-action.nodes.items c.loop-action.invariant.leaves.same

pub returns-then-len-start-clause-long : goal.returns-then-len-start-clause-long
returns-then-len-start-clause-long g c = λ t o routes r b v shows h.
    let l = c.loop-action in
    let olds = c.args.nodes.now.items in
    acts_go_past (home_in t routes) b (NoneStopped olds l.nodes.items c.args.events.now.items l.events.items) (stops_among l.nodes.items ≡ stops_among olds) (more_stops olds l.nodes.items) c.args.start.room (λ same. inl same) c.args.group.now c.args.start.number
    (seats_by b olds) l.events.items (drop l.action-index c.args.group.now.acts) l.next (seats_by b l.nodes.items) (l.invariant.way t o routes r b v shows) (omega (arith, c.if-len-start.true))

pub returns-then-len-start-clause-shelf : goal.returns-then-len-start-clause-shelf
returns-then-len-start-clause-shelf g c = shelf_still _ _ _ c.loop-action.invariant.faults c.loop-action.invariant.stops

pub returns-then-len-start-2-clause-long : goal.returns-then-len-start-2-clause-long
returns-then-len-start-2-clause-long g c = λ t o routes r b v shows h.
    let l = c.loop-action in
    let olds = c.args.nodes.now.items in
    acts_go_past (home_in t routes) b (NoneStopped olds l.nodes.items c.args.events.now.items l.events.items) (stops_among l.nodes.items ≡ stops_among olds) (more_stops olds l.nodes.items) c.args.start.room (λ same. inl same) c.args.group.now c.args.start.number
    (seats_by b olds) l.events.items (drop l.action-index c.args.group.now.acts) l.next (seats_by b l.nodes.items) (l.invariant.way t o routes r b v shows) (omega (arith, c.if-len-start-2.true))

pub returns-then-len-start-2-clause-shelf : goal.returns-then-len-start-2-clause-shelf
returns-then-len-start-2-clause-shelf g c = shelf_still _ _ _ c.loop-action.invariant.faults c.loop-action.invariant.stops

pub returns-clause-shelf : goal.returns-clause-shelf
returns-clause-shelf g c = shelf_still _ _ _ c.loop-action.invariant.faults c.loop-action.invariant.stops
