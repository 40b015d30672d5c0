use Rattle.std.proofs.Common.{◌≡◌, ◌+◌, ◌-◌, ◌∙◌, sym, ap, subst, arith, length, List, [], Err, inl, refl}
use Rattle.std.proofs.lemmas.Result.{err_from_is_err_and}
use Rattle.nsi_primitive.specs.declared.entry.Event.{Event}
use Rattle.nsi_agent.specs.Homes.{home_in}
use Rattle.agent_threads.specs.declared.fault.RunFault.{RunFault}
use Rattle.agent_threads.specs.Nets.{seats_by}
use Rattle.agent_threads.specs.Bounds.{AreOfOne}
use Rattle.agent_threads.specs.Made.{counted, HasSettleCause}
use Rattle.agent_threads.specs.Stopping.{stops_among, more_stops, NoneStopped, IsOver}
use Rattle.agent_threads.proofs.Same.{still_of, stops_up}
use Rattle.agent_threads.proofs.Owning.{still_seen}
use Rattle.agent_threads.proofs.Stepping.{none_before, numbers_by}
use Rattle.agent_threads.proofs.Playing.{are_over, group_overruns, begun_passes, same_split, rises_behind}
use Rattle.agent_threads.proofs.Causes.{same_error, if_err, shelf_failed, run_settle, settle_before, shelf_still, listed_same, listed_stays}
use Rattle.agent_threads.proofs.Left.{left_twice, none_later}
use Rattle.agent_threads.specs.Promise.{Shows}
use Rattle.std.proofs.lemmas.List.Elements.{All-nil}
use Rattle.agent_threads.proofs.Leaves.{leaves_then}
use Rattle.agent_threads.proofs.Going.{still_one, room_after, go_count}
use Rattle.agent_threads.proofs.run.make_group.Goals as goal

pub returns-in_err-next-clause-long : goal.returns-in_err-next-clause-long
returns-in_err-next-clause-long g c = λ t o routes r b v shows h.
    let p = err_from_is_err_and c.from_residual.result c.from_residual.ensures.1 in
    begun_passes (home_in t routes) b (stops_among c.begin.new.nodes.items ≡ stops_among c.args.nodes.now.items) (more_stops c.args.nodes.now.items c.begin.new.nodes.items) c.args.group.now c.args.start.number (seats_by b c.args.nodes.now.items)
    c.args.start.room (c.in_err-next.ensures.long t o routes r b v shows (ap (λ e. Err e) (same_error c.from_residual.result p.0 c.in_err-next.field-0.0 _ p.1 p.2 h)))

pub returns-in_err-next-clause-rises : goal.returns-in_err-next-clause-rises
returns-in_err-next-clause-rises g c = λ h.
    let p = err_from_is_err_and c.from_residual.result c.from_residual.ensures.1 in
    c.in_err-next.ensures.rises (ap (λ e. Err e) (same_error c.from_residual.result p.0 c.in_err-next.field-0.0 _ p.1 p.2 h))

pub settle-requires-clause-one : goal.settle-requires-clause-one
settle-requires-clause-one g c κs within =
    let can = c.requires.can in
    let one : AreOfOne c.args.nodes.now.items = record { network = can.network; of = can.of } in
    still_one c.args.nodes.now.items c.begin.new.nodes.items c.in_ok-next.ensures.leaves.same one

pub settle-requires-clause-few : goal.settle-requires-clause-few
settle-requires-clause-few g c κs within =
    let f = c.in_ok-next.ensures.leaves.further in
    let news = c.begin.new.nodes.items in
    let count = go_count c.args.group.now.at c.args.nodes.now.items news c.args.events.now.items c.begin.new.events.items f in
    room_after c.args.group.now.at (c.args.start.room + 1) (c.args.start.room - length c.begin.new.events.items) (length f.own) c.args.nodes.now.items news
    (omega (arith, count, ap length c.requires.none, c.in_ok-next.ensures.within)) f.each c.requires.few

pub settle-requires-clause-bounded : goal.settle-requires-clause-bounded
settle-requires-clause-bounded g c κs within = c.in_ok-next.ensures.leaves.bounded c.requires.bounded

pub settle-requires-clause-listed : goal.settle-requires-clause-listed
settle-requires-clause-listed g c κs within =
    listed_stays (g.B.Reopen.listed c.args.shelf.now) (g.B.Reopen.listed c.begin.new.shelf) c.in_ok-next.ensures.stays c.begin.new.nodes.items
    (listed_same (g.B.Reopen.listed c.args.shelf.now) c.args.nodes.now.items c.begin.new.nodes.items c.in_ok-next.ensures.leaves.same c.requires.listed)

---- A group that is over

pub returns-clause-ok : goal.returns-clause-ok
returns-clause-ok g c = λ t o routes r b v shows.
    let olds = c.args.nodes.now.items in
    let mids = c.begin.new.nodes.items in
    let news = c.settle.new.nodes.items in
    let x = seats_by b olds in
    let y = seats_by b news in
    let homes = home_in t routes in
    let begun = c.in_ok-next.ensures.ok t o routes r b v shows in
    let now = still_of t olds mids c.in_ok-next.ensures.leaves.same o in
    let u = still_seen t olds mids c.in_ok-next.ensures.leaves.owned o routes r b v in
    let s = c.in_ok-settle.ensures.ok t now routes r b u in
    let Calm : Type 0 = NoneStopped mids news c.begin.new.events.items c.settle.new.events.items in
    let Later : Type 0 = NoneStopped olds news [] c.settle.new.events.items in
    let first = c.begin.new.events.items in
    let Here : Type 0 = NoneStopped olds mids [] first in
    let same = c.in_ok-next.ensures.leaves.same in
    let up = stops_up olds mids same in
    let more = stops_up mids news c.in_ok-settle.ensures.leaves.same in
    let later : Later → Here × Calm = λ none.
    let both = none_before c.args.group.now.at olds mids news c.args.events.now.items first c.settle.new.events.items c.in_ok-next.ensures.leaves c.in_ok-settle.ensures.leaves
    (subst (λ (es : List Event). NoneStopped olds news es c.settle.new.events.items) (sym c.requires.none) none) in
    (subst (λ (es : List Event). NoneStopped olds mids es first) c.requires.none both.0, both.1) in
    subst (λ (es : List Event). IsOver homes b Later (more_stops olds news) c.args.group.now c.args.start.number x es y) (sym s.1)
    (are_over homes b Here Calm Later (more_stops olds mids) (more_stops mids news) (more_stops olds news) later (omega (arith, up, more)) c.args.group.now c.args.start.number x first (seats_by b mids) s.0 y (numbers_by b olds mids same) begun s.2 s.3)

pub returns-clause-leaves : goal.returns-clause-leaves
returns-clause-leaves g c =
    leaves_then c.args.group.now.at c.args.nodes.now.items c.begin.new.nodes.items c.settle.new.nodes.items c.args.events.now.items c.begin.new.events.items c.settle.new.events.items c.in_ok-next.ensures.leaves c.in_ok-settle.ensures.leaves

pub returns-clause-agents : goal.returns-clause-agents
returns-clause-agents g c =
    left_twice c.args.nodes.now.items c.begin.new.nodes.items c.settle.new.nodes.items _ _ _ c.in_ok-next.ensures.agents c.in_ok-settle.ensures.agents

pub returns-clause-shelf : goal.returns-clause-shelf
returns-clause-shelf g c = shelf_still _ _ _ (c.in_ok-settle.ensures.shelf.quiet ∙ c.in_ok-next.ensures.shelf.quiet) (c.in_ok-settle.ensures.shelf.calm ∙ c.in_ok-next.ensures.shelf.calm)

pub returns-clause-stays : goal.returns-clause-stays
returns-clause-stays g c = λ n h. c.in_ok-settle.ensures.stays n (c.in_ok-next.ensures.stays n h)

---- Where rounds have failed

pub returns-in_err-settle-clause-agents : goal.returns-in_err-settle-clause-agents
returns-in_err-settle-clause-agents g c =
    left_twice c.args.nodes.now.items c.begin.new.nodes.items c.settle.new.nodes.items _ _ _ c.in_ok-next.ensures.agents c.in_err-settle.ensures.agents

pub returns-in_err-settle-clause-shelf : goal.returns-in_err-settle-clause-shelf
returns-in_err-settle-clause-shelf g c =
    let p = err_from_is_err_and c.from_residual-in_err-settle.result c.from_residual-in_err-settle.ensures.1 in
    shelf_failed _ _ _ _ _ p.0 p.1 c.in_ok-next.ensures.shelf.quiet c.in_ok-next.ensures.shelf.calm c.in_err-settle.ensures.shelf

pub returns-in_err-settle-clause-stays : goal.returns-in_err-settle-clause-stays
returns-in_err-settle-clause-stays g c = λ n h. c.in_err-settle.ensures.stays n (c.in_ok-next.ensures.stays n h)

pub returns-in_err-settle-clause-cause : goal.returns-in_err-settle-clause-cause
returns-in_err-settle-clause-cause g c =
    let olds = c.args.nodes.now.items in
    let news = c.settle.new.nodes.items in
    let before = counted (g.B.Reopen.faults c.args.shelf.now) (g.B.Reopen.stops c.args.shelf.now) in
    let mid = counted (g.B.Reopen.faults c.begin.new.shelf) (g.B.Reopen.stops c.begin.new.shelf) in
    let after = counted (g.B.Reopen.faults c.settle.new.shelf) (g.B.Reopen.stops c.settle.new.shelf) in
    let p = err_from_is_err_and c.from_residual-in_err-settle.result c.from_residual-in_err-settle.ensures.1 in
    let acts = c.args.group.now.acts in
    let mids = c.begin.new.nodes.items in
    let same = c.in_ok-next.ensures.leaves.same in
    let calm = c.in_ok-next.ensures.shelf.calm in
    if_err c.from_residual-in_err-settle.result (HasSettleCause acts olds news before after) p.0 p.1
    (subst (λ (e : RunFault). HasSettleCause acts olds news before after e) (sym p.2)
    (settle_before acts [] olds mids news before mid after c.in_err-settle.field-0.0 same c.in_ok-next.ensures.leaves.owned (λ b shows. All-nil (Shows b)) (none_later olds mids news before mid after same calm) c.in_ok-next.ensures.shelf.quiet calm
    c.in_err-settle.ensures.cause))

pub returns-in_err-settle-clause-mild : goal.returns-in_err-settle-clause-mild
returns-in_err-settle-clause-mild g c = λ h.
    let p = err_from_is_err_and c.from_residual-in_err-settle.result c.from_residual-in_err-settle.ensures.1 in
    c.in_err-settle.ensures.mild (ap (λ e. Err e) (same_error c.from_residual-in_err-settle.result p.0 c.in_err-settle.field-0.0 _ p.1 p.2 h))

pub returns-in_err-settle-clause-rises : goal.returns-in_err-settle-clause-rises
returns-in_err-settle-clause-rises g c = λ h.
    let p = err_from_is_err_and c.from_residual-in_err-settle.result c.from_residual-in_err-settle.ensures.1 in
    rises_behind c.args.nodes.now.items c.begin.new.nodes.items c.settle.new.nodes.items c.in_ok-next.ensures.leaves.same
    (c.in_err-settle.ensures.rises (ap (λ e. Err e) (same_error c.from_residual-in_err-settle.result p.0 c.in_err-settle.field-0.0 _ p.1 p.2 h)))

pub returns-in_err-settle-clause-long : goal.returns-in_err-settle-clause-long
returns-in_err-settle-clause-long g c = λ t o routes r b v shows h.
    let olds = c.args.nodes.now.items in
    let mids = c.begin.new.nodes.items in
    let news = c.settle.new.nodes.items in
    let x = seats_by b olds in
    let homes = home_in t routes in
    let begun = c.in_ok-next.ensures.ok t o routes r b v shows in
    let now = still_of t olds mids c.in_ok-next.ensures.leaves.same o in
    let u = still_seen t olds mids c.in_ok-next.ensures.leaves.owned o routes r b v in
    let p = err_from_is_err_and c.from_residual-in_err-settle.result c.from_residual-in_err-settle.ensures.1 in
    let is_long = ap (λ e. Err e) (same_error c.from_residual-in_err-settle.result p.0 c.in_err-settle.field-0.0 _ p.1 p.2 h) in
    let long = c.in_err-settle.ensures.long t now routes r b u is_long in
    let up = c.in_err-settle.ensures.rises is_long in
    let first = c.begin.new.events.items in
    let Here : Type 0 = NoneStopped olds mids [] first in
    let Calm : Type 0 = stops_among news ≡ stops_among mids in
    let Later : Type 0 = stops_among news ≡ stops_among olds in
    let same = c.in_ok-next.ensures.leaves.same in
    let before = stops_up olds mids same in
    let later : Later → Here × Calm = λ e. let both = same_split olds mids news same up e in (inl both.0, both.1) in
    group_overruns homes b Here Calm Later (more_stops olds mids) (more_stops mids news) (more_stops olds news) later (omega (arith, before, up)) c.args.group.now c.args.start.number x first (seats_by b mids) c.args.start.room (numbers_by b olds mids same) begun long

---- Where acts have failed

pub returns-in_err-next-clause-shelf : goal.returns-in_err-next-clause-shelf
returns-in_err-next-clause-shelf g c =
    let p = err_from_is_err_and c.from_residual.result c.from_residual.ensures.1 in
    shelf_failed _ _ _ _ _ p.0 p.1 refl refl c.in_err-next.ensures.shelf

pub returns-in_err-next-clause-cause : goal.returns-in_err-next-clause-cause
returns-in_err-next-clause-cause g c =
    let olds = c.args.nodes.now.items in
    let news = c.begin.new.nodes.items in
    let before = counted (g.B.Reopen.faults c.args.shelf.now) (g.B.Reopen.stops c.args.shelf.now) in
    let after = counted (g.B.Reopen.faults c.begin.new.shelf) (g.B.Reopen.stops c.begin.new.shelf) in
    let p = err_from_is_err_and c.from_residual.result c.from_residual.ensures.1 in
    let acts = c.args.group.now.acts in
    if_err c.from_residual.result (HasSettleCause acts olds news before after) p.0 p.1
    (subst (λ (e : RunFault). HasSettleCause acts olds news before after e) (sym p.2) (run_settle acts olds news before after c.in_err-next.field-0.0 c.in_err-next.ensures.cause))

pub returns-in_err-next-clause-mild : goal.returns-in_err-next-clause-mild
returns-in_err-next-clause-mild g c = λ h.
    let p = err_from_is_err_and c.from_residual.result c.from_residual.ensures.1 in
    c.in_err-next.ensures.mild (ap (λ e. Err e) (same_error c.from_residual.result p.0 c.in_err-next.field-0.0 _ p.1 p.2 h))
