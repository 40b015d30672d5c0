use Rattle.std.proofs.Common.{rules, ◌≡◌, ◌≤◌, ℕ, List, length, sym, subst}
use Rattle.nsi_script.specs.declared.script.Group.{Group}
use Rattle.nsi_script.specs.Fits.{IsRising}
use Rattle.nsi_script.specs.Lines.{greatest_asks}
use Rattle.nsi_script.specs.Scripts.{asks_of, seconds_of}
use Rattle.nsi_play.specs.Openings.{plans_of}
use Rattle.agent_threads.specs.Promise.{CanBePlayed}
use Rattle.net_run.specs.Begun.{restarts_from}
use Rattle.net_run.specs.Behind.{PlaysBehind}
use Rattle.net_run.specs.Held.{AreTold, IsShown}
use Rattle.agent_threads.specs.Stopping.{counted}
use Rattle.net_run.proofs.Counting.{start_rises}
use Rattle.net_run.proofs.Running.{can_be_played, done_of, long_of, whole_of, some_of, no_groups, nothing_of, start_cause, fault_if, none_of_count, rose_of_count, rose_by_count, rose_within, none_before, still_of_count, up_of_count, calm_of, listed_of, listed_among}
use Rattle.net_run.proofs.Holding.{IsFit, run_keeps}
use Rattle.net_run.proofs.Readying.{fresh_of, ready_of}
use Rattle.net_run.proofs.world.run_world.Goals as goal

pub returns-in-Err-clause-whole : goal.returns-in-Err-clause-whole
returns-in-Err-clause-whole g c = λ of.
    no_groups c.args.topology.now c.args.options (plans_of c.args.script.now.lose) (g.H.Shelf.holds c.args.shelf.now) (g.H.Shelf.stops c.args.shelf.now) (g.H.Shelf.stops c.open_net.new.shelf) c.args.script.now.groups (g.K.Sink.content c.args.out.now)
    (start_rises (length c.args.topology.now.agents) (g.H.Shelf.faults c.args.shelf.now) (g.H.Shelf.faults c.open_net.new.shelf) (g.H.Shelf.stops c.args.shelf.now) (g.H.Shelf.stops c.open_net.new.shelf) c.in-Err.fault c.in-Err.ensures.cause)

pub returns-in-Err-clause-front : goal.returns-in-Err-clause-front
returns-in-Err-clause-front g c = nothing_of c.args.topology.now c.args.options (plans_of c.args.script.now.lose) (g.H.Shelf.holds c.args.shelf.now) (g.H.Shelf.stops c.args.shelf.now) (g.H.Shelf.stops c.open_net.new.shelf) c.args.script.now.groups (g.K.Sink.content c.args.out.now)
    (start_rises (length c.args.topology.now.agents) (g.H.Shelf.faults c.args.shelf.now) (g.H.Shelf.faults c.open_net.new.shelf) (g.H.Shelf.stops c.args.shelf.now) (g.H.Shelf.stops c.open_net.new.shelf) c.in-Err.fault c.in-Err.ensures.cause)

pub returns-in-Err-clause-cause : goal.returns-in-Err-clause-cause
returns-in-Err-clause-cause g c =
    start_cause c.args.topology.now (AreTold c.args.topology.now (g.H.Shelf.holds c.args.shelf.now)) (IsShown c.args.topology.now c.args.script.now.groups (g.H.Shelf.holds c.args.shelf.now)) (g.H.Shelf.faults c.args.shelf.now) (g.H.Shelf.faults c.open_net.new.shelf) (g.H.Shelf.stops c.args.shelf.now) (g.H.Shelf.stops c.open_net.new.shelf)
    c.in-Err.fault c.in-Err.ensures.cause

pub play_behind-played-requires-clause-can : goal.play_behind-played-requires-clause-can
play_behind-played-requires-clause-can g c κs within =
    subst (λ (gs : List Group). CanBePlayed c.args.topology.now gs) (sym c.items.ensures) (can_be_played c.args.topology.now c.args.script.now.groups c.requires.fits.acts)

pub play_behind-played-requires-clause-ready : goal.play_behind-played-requires-clause-ready
play_behind-played-requires-clause-ready g c κs within =
    ready_of c.nets_are_bounded.ensures.opening (g.H.Shelf.listed c.open_net.new.shelf) c.args.topology.now (plans_of c.args.script.now.lose) c.args.script.now.stops c.in-Ok.opened.1.items c.in-Ok.opened.0.items c.in-Ok.ensures.opened c.in-Ok.ensures.listed

pub play_behind-played-requires-clause-rising : goal.play_behind-played-requires-clause-rising
play_behind-played-requires-clause-rising g c κs within =
    subst (λ (gs : List Group). IsRising (seconds_of gs)) (sym c.items.ensures) c.requires.fits.rising

pub play_behind-played-requires-clause-asks : goal.play_behind-played-requires-clause-asks
play_behind-played-requires-clause-asks g c κs within =
    subst (λ (gs : List Group). asks_of gs ≤ greatest_asks) (sym c.items.ensures) c.requires.fits.few_asks

pub play_behind-played-requires-clause-listed : goal.play_behind-played-requires-clause-listed
play_behind-played-requires-clause-listed g c κs within =
    listed_of (g.H.Shelf.listed c.open_net.new.shelf) c.args.topology.now c.in-Ok.opened.0.items c.in-Ok.ensures.opened.of c.in-Ok.ensures.listed

pub close_net-requires : goal.close_net-requires
close_net-requires g c = record {
  listed =
      listed_among (g.H.Shelf.listed c.open_net.new.shelf) (g.H.Shelf.listed c.play_behind-played.new.shelf) c.args.topology.now c.in-Ok.opened.0.items c.play_behind-played.new.nodes.items c.play_behind-played.ensures.stays c.play_behind-played.ensures.behind.agents.among
      c.in-Ok.ensures.listed;
}

pub returns-clause-done : goal.returns-clause-done
returns-clause-done g c =
    let same : c.deref.result.now ≡ c.in-Ok.opened.1.items = search rules in
    let behind = subst
    (λ (ns : List ℕ). PlaysBehind c.args.topology.now c.args.options (restarts_from 0 ns) c.items.result.now c.in-Ok.opened.0.items c.play_behind-played.new.nodes.items (counted (g.H.Shelf.faults c.open_net.new.shelf) (g.H.Shelf.stops c.open_net.new.shelf))
    (counted (g.H.Shelf.faults c.play_behind-played.new.shelf) (g.H.Shelf.stops c.play_behind-played.new.shelf)) (g.K.Sink.content c.args.out.now) (g.K.Sink.content c.play_behind-played.new.out) (g.K.Sink.faults c.args.out.now) (g.K.Sink.faults c.play_behind-played.new.out) c.play_behind-played.result)
    same c.play_behind-played.ensures.behind
    in
    let fresh = fresh_of c.args.topology.now (plans_of c.args.script.now.lose) c.args.script.now.stops c.in-Ok.opened.1.items (g.H.Shelf.holds c.args.shelf.now) (g.H.Shelf.listed c.open_net.new.shelf) c.in-Ok.opened.0.items c.in-Ok.ensures.opened c.in-Ok.ensures.listed c.in-Ok.ensures.empty in
    let fit : IsFit c.args.topology.now c.args.script.now.groups = record { formed = c.laws.ensures; rising = c.requires.fits.rising; acts = c.requires.fits.acts } in
    let keeps = run_keeps (record { stands = c.runs.ensures.stands; rests = c.runs.ensures.rests; exist = c.routes_exist.ensures.exist })
    c.args.topology.now (plans_of c.args.script.now.lose) c.args.script.now.stops c.in-Ok.opened.1.items (g.H.Shelf.holds c.args.shelf.now) (g.H.Shelf.holds c.close_net.new.shelf) (g.H.Shelf.listed c.open_net.new.shelf) c.args.script.now.groups c.in-Ok.opened.0.items c.play_behind-played.new.nodes.items
    c.play_behind-played.result fit fresh c.in-Ok.ensures.listed c.close_net.ensures.held c.play_behind-played.ensures.behind.same c.play_behind-played.ensures.behind.usable c.play_behind-played.ensures.behind.owned in
    done_of c.args.topology.now c.args.options (plans_of c.args.script.now.lose) c.args.script.now.stops c.in-Ok.opened.1.items (g.H.Shelf.holds c.args.shelf.now) (g.H.Shelf.holds c.close_net.new.shelf) (g.H.Shelf.stops c.args.shelf.now) (g.H.Shelf.stops c.close_net.new.shelf) c.args.script.now.groups c.items.result.now c.in-Ok.opened.0.items c.play_behind-played.new.nodes.items
    (g.K.Sink.content c.args.out.now) (g.K.Sink.content c.play_behind-played.new.out) fresh c.items.ensures c.needs_no_past.ensures.play c.needs_no_past.ensures.front
    (none_before c.args.topology.now (plans_of c.args.script.now.lose) c.args.script.now.stops c.in-Ok.opened.1.items c.in-Ok.opened.0.items c.play_behind-played.new.nodes.items (g.H.Shelf.faults c.open_net.new.shelf) (g.H.Shelf.faults c.play_behind-played.new.shelf) (g.H.Shelf.stops c.args.shelf.now) (g.H.Shelf.stops c.open_net.new.shelf) (g.H.Shelf.stops c.play_behind-played.new.shelf) (g.H.Shelf.stops c.close_net.new.shelf) c.in-Ok.ensures.opened c.in-Ok.ensures.stops c.play_behind-played.ensures.behind.agents c.close_net.ensures.stops)
    (still_of_count c.args.topology.now (plans_of c.args.script.now.lose) c.args.script.now.stops c.in-Ok.opened.1.items c.in-Ok.opened.0.items c.play_behind-played.new.nodes.items (g.H.Shelf.faults c.open_net.new.shelf) (g.H.Shelf.faults c.play_behind-played.new.shelf) (g.H.Shelf.stops c.args.shelf.now) (g.H.Shelf.stops c.open_net.new.shelf) (g.H.Shelf.stops c.play_behind-played.new.shelf) (g.H.Shelf.stops c.close_net.new.shelf) c.in-Ok.ensures.opened c.in-Ok.ensures.stops c.play_behind-played.ensures.behind.agents c.close_net.ensures.stops)
    (rose_of_count c.args.topology.now (plans_of c.args.script.now.lose) c.args.script.now.stops c.in-Ok.opened.1.items c.in-Ok.opened.0.items c.play_behind-played.new.nodes.items (g.H.Shelf.faults c.open_net.new.shelf) (g.H.Shelf.faults c.play_behind-played.new.shelf) (g.H.Shelf.stops c.args.shelf.now) (g.H.Shelf.stops c.open_net.new.shelf) (g.H.Shelf.stops c.play_behind-played.new.shelf) (g.H.Shelf.stops c.close_net.new.shelf) c.in-Ok.ensures.opened c.in-Ok.ensures.stops c.play_behind-played.ensures.behind.agents c.close_net.ensures.stops)
    c.play_behind-played.result keeps behind.done

pub returns-clause-long : goal.returns-clause-long
returns-clause-long g c = λ e.
    let same : c.deref.result.now ≡ c.in-Ok.opened.1.items = search rules in
    let behind = subst
    (λ (ns : List ℕ). PlaysBehind c.args.topology.now c.args.options (restarts_from 0 ns) c.items.result.now c.in-Ok.opened.0.items c.play_behind-played.new.nodes.items (counted (g.H.Shelf.faults c.open_net.new.shelf) (g.H.Shelf.stops c.open_net.new.shelf))
    (counted (g.H.Shelf.faults c.play_behind-played.new.shelf) (g.H.Shelf.stops c.play_behind-played.new.shelf)) (g.K.Sink.content c.args.out.now) (g.K.Sink.content c.play_behind-played.new.out) (g.K.Sink.faults c.args.out.now) (g.K.Sink.faults c.play_behind-played.new.out) c.play_behind-played.result)
    same c.play_behind-played.ensures.behind
    in
    let fresh = fresh_of c.args.topology.now (plans_of c.args.script.now.lose) c.args.script.now.stops c.in-Ok.opened.1.items (g.H.Shelf.holds c.args.shelf.now) (g.H.Shelf.listed c.open_net.new.shelf) c.in-Ok.opened.0.items c.in-Ok.ensures.opened c.in-Ok.ensures.listed c.in-Ok.ensures.empty in
    long_of c.args.topology.now c.args.options (plans_of c.args.script.now.lose) c.args.script.now.stops c.in-Ok.opened.1.items (g.H.Shelf.holds c.args.shelf.now) (g.H.Shelf.holds c.close_net.new.shelf) (g.H.Shelf.stops c.args.shelf.now) (g.H.Shelf.stops c.close_net.new.shelf) c.args.script.now.groups c.items.result.now c.in-Ok.opened.0.items c.play_behind-played.new.nodes.items
    (g.K.Sink.content c.args.out.now) (g.K.Sink.content c.play_behind-played.new.out) fresh c.items.ensures c.needs_no_past.ensures.play c.needs_no_past.ensures.front
    (none_before c.args.topology.now (plans_of c.args.script.now.lose) c.args.script.now.stops c.in-Ok.opened.1.items c.in-Ok.opened.0.items c.play_behind-played.new.nodes.items (g.H.Shelf.faults c.open_net.new.shelf) (g.H.Shelf.faults c.play_behind-played.new.shelf) (g.H.Shelf.stops c.args.shelf.now) (g.H.Shelf.stops c.open_net.new.shelf) (g.H.Shelf.stops c.play_behind-played.new.shelf) (g.H.Shelf.stops c.close_net.new.shelf) c.in-Ok.ensures.opened c.in-Ok.ensures.stops c.play_behind-played.ensures.behind.agents c.close_net.ensures.stops)
    (up_of_count c.args.topology.now (plans_of c.args.script.now.lose) c.args.script.now.stops c.in-Ok.opened.1.items c.in-Ok.opened.0.items c.play_behind-played.new.nodes.items (g.H.Shelf.faults c.open_net.new.shelf) (g.H.Shelf.faults c.play_behind-played.new.shelf) (g.H.Shelf.stops c.args.shelf.now) (g.H.Shelf.stops c.open_net.new.shelf) (g.H.Shelf.stops c.play_behind-played.new.shelf) (g.H.Shelf.stops c.close_net.new.shelf) c.in-Ok.ensures.opened c.in-Ok.ensures.stops c.play_behind-played.ensures.behind.agents c.close_net.ensures.stops)
    (still_of_count c.args.topology.now (plans_of c.args.script.now.lose) c.args.script.now.stops c.in-Ok.opened.1.items c.in-Ok.opened.0.items c.play_behind-played.new.nodes.items (g.H.Shelf.faults c.open_net.new.shelf) (g.H.Shelf.faults c.play_behind-played.new.shelf) (g.H.Shelf.stops c.args.shelf.now) (g.H.Shelf.stops c.open_net.new.shelf) (g.H.Shelf.stops c.play_behind-played.new.shelf) (g.H.Shelf.stops c.close_net.new.shelf) c.in-Ok.ensures.opened c.in-Ok.ensures.stops c.play_behind-played.ensures.behind.agents c.close_net.ensures.stops)
    (rose_within c.args.topology.now (plans_of c.args.script.now.lose) c.args.script.now.stops c.in-Ok.opened.1.items c.in-Ok.opened.0.items c.play_behind-played.new.nodes.items (g.H.Shelf.faults c.open_net.new.shelf) (g.H.Shelf.faults c.play_behind-played.new.shelf) (g.H.Shelf.stops c.args.shelf.now) (g.H.Shelf.stops c.open_net.new.shelf) (g.H.Shelf.stops c.play_behind-played.new.shelf) (g.H.Shelf.stops c.close_net.new.shelf) c.in-Ok.ensures.opened c.in-Ok.ensures.stops c.play_behind-played.ensures.behind.agents c.close_net.ensures.stops c.close_net.ensures.few (c.play_behind-played.ensures.behind.level e))
    (behind.long e)

pub returns-clause-whole : goal.returns-clause-whole
returns-clause-whole g c =
    let same : c.deref.result.now ≡ c.in-Ok.opened.1.items = search rules in
    let behind = subst
    (λ (ns : List ℕ). PlaysBehind c.args.topology.now c.args.options (restarts_from 0 ns) c.items.result.now c.in-Ok.opened.0.items c.play_behind-played.new.nodes.items (counted (g.H.Shelf.faults c.open_net.new.shelf) (g.H.Shelf.stops c.open_net.new.shelf))
    (counted (g.H.Shelf.faults c.play_behind-played.new.shelf) (g.H.Shelf.stops c.play_behind-played.new.shelf)) (g.K.Sink.content c.args.out.now) (g.K.Sink.content c.play_behind-played.new.out) (g.K.Sink.faults c.args.out.now) (g.K.Sink.faults c.play_behind-played.new.out) c.play_behind-played.result)
    same c.play_behind-played.ensures.behind
    in
    let fresh = fresh_of c.args.topology.now (plans_of c.args.script.now.lose) c.args.script.now.stops c.in-Ok.opened.1.items (g.H.Shelf.holds c.args.shelf.now) (g.H.Shelf.listed c.open_net.new.shelf) c.in-Ok.opened.0.items c.in-Ok.ensures.opened c.in-Ok.ensures.listed c.in-Ok.ensures.empty in
    whole_of c.args.topology.now c.args.options (plans_of c.args.script.now.lose) c.args.script.now.stops c.in-Ok.opened.1.items (g.H.Shelf.holds c.args.shelf.now) (g.H.Shelf.holds c.close_net.new.shelf) (g.H.Shelf.stops c.args.shelf.now) (g.H.Shelf.stops c.close_net.new.shelf) c.args.script.now.groups c.items.result.now c.in-Ok.opened.0.items c.play_behind-played.new.nodes.items
    (g.K.Sink.content c.args.out.now) (g.K.Sink.content c.play_behind-played.new.out) fresh c.items.ensures c.needs_no_past.ensures.play c.needs_no_past.ensures.front
    (none_before c.args.topology.now (plans_of c.args.script.now.lose) c.args.script.now.stops c.in-Ok.opened.1.items c.in-Ok.opened.0.items c.play_behind-played.new.nodes.items (g.H.Shelf.faults c.open_net.new.shelf) (g.H.Shelf.faults c.play_behind-played.new.shelf) (g.H.Shelf.stops c.args.shelf.now) (g.H.Shelf.stops c.open_net.new.shelf) (g.H.Shelf.stops c.play_behind-played.new.shelf) (g.H.Shelf.stops c.close_net.new.shelf) c.in-Ok.ensures.opened c.in-Ok.ensures.stops c.play_behind-played.ensures.behind.agents c.close_net.ensures.stops)
    (counted (g.H.Shelf.faults c.open_net.new.shelf) (g.H.Shelf.stops c.open_net.new.shelf)) (counted (g.H.Shelf.faults c.play_behind-played.new.shelf) (g.H.Shelf.stops c.play_behind-played.new.shelf))
    (none_of_count (g.H.Shelf.faults c.open_net.new.shelf) (g.H.Shelf.faults c.play_behind-played.new.shelf) (g.H.Shelf.stops c.args.shelf.now) (g.H.Shelf.stops c.open_net.new.shelf) (g.H.Shelf.stops c.play_behind-played.new.shelf) (g.H.Shelf.stops c.close_net.new.shelf) c.in-Ok.opened.0.items c.play_behind-played.new.nodes.items c.in-Ok.ensures.stops c.close_net.ensures.stops)
    (rose_by_count c.args.topology.now (plans_of c.args.script.now.lose) c.args.script.now.stops c.in-Ok.opened.1.items c.in-Ok.opened.0.items c.play_behind-played.new.nodes.items (g.H.Shelf.faults c.open_net.new.shelf) (g.H.Shelf.faults c.play_behind-played.new.shelf) (g.H.Shelf.stops c.args.shelf.now) (g.H.Shelf.stops c.open_net.new.shelf) (g.H.Shelf.stops c.play_behind-played.new.shelf) (g.H.Shelf.stops c.close_net.new.shelf) c.in-Ok.ensures.opened c.in-Ok.ensures.stops c.play_behind-played.ensures.behind.agents c.close_net.ensures.stops)
    c.play_behind-played.result behind.whole

pub returns-clause-front : goal.returns-clause-front
returns-clause-front g c =
    let same : c.deref.result.now ≡ c.in-Ok.opened.1.items = search rules in
    let behind = subst
    (λ (ns : List ℕ). PlaysBehind c.args.topology.now c.args.options (restarts_from 0 ns) c.items.result.now c.in-Ok.opened.0.items c.play_behind-played.new.nodes.items (counted (g.H.Shelf.faults c.open_net.new.shelf) (g.H.Shelf.stops c.open_net.new.shelf))
    (counted (g.H.Shelf.faults c.play_behind-played.new.shelf) (g.H.Shelf.stops c.play_behind-played.new.shelf)) (g.K.Sink.content c.args.out.now) (g.K.Sink.content c.play_behind-played.new.out) (g.K.Sink.faults c.args.out.now) (g.K.Sink.faults c.play_behind-played.new.out) c.play_behind-played.result)
    same c.play_behind-played.ensures.behind
    in
    let fresh = fresh_of c.args.topology.now (plans_of c.args.script.now.lose) c.args.script.now.stops c.in-Ok.opened.1.items (g.H.Shelf.holds c.args.shelf.now) (g.H.Shelf.listed c.open_net.new.shelf) c.in-Ok.opened.0.items c.in-Ok.ensures.opened c.in-Ok.ensures.listed c.in-Ok.ensures.empty in
    some_of c.args.topology.now c.args.options (plans_of c.args.script.now.lose) c.args.script.now.stops c.in-Ok.opened.1.items (g.H.Shelf.holds c.args.shelf.now) (g.H.Shelf.holds c.close_net.new.shelf) (g.H.Shelf.stops c.args.shelf.now) (g.H.Shelf.stops c.close_net.new.shelf) c.args.script.now.groups c.items.result.now c.in-Ok.opened.0.items c.play_behind-played.new.nodes.items
    (g.K.Sink.content c.args.out.now) (g.K.Sink.content c.play_behind-played.new.out) fresh c.items.ensures c.needs_no_past.ensures.play c.needs_no_past.ensures.front
    (none_before c.args.topology.now (plans_of c.args.script.now.lose) c.args.script.now.stops c.in-Ok.opened.1.items c.in-Ok.opened.0.items c.play_behind-played.new.nodes.items (g.H.Shelf.faults c.open_net.new.shelf) (g.H.Shelf.faults c.play_behind-played.new.shelf) (g.H.Shelf.stops c.args.shelf.now) (g.H.Shelf.stops c.open_net.new.shelf) (g.H.Shelf.stops c.play_behind-played.new.shelf) (g.H.Shelf.stops c.close_net.new.shelf) c.in-Ok.ensures.opened c.in-Ok.ensures.stops c.play_behind-played.ensures.behind.agents c.close_net.ensures.stops)
    (counted (g.H.Shelf.faults c.open_net.new.shelf) (g.H.Shelf.stops c.open_net.new.shelf)) (counted (g.H.Shelf.faults c.play_behind-played.new.shelf) (g.H.Shelf.stops c.play_behind-played.new.shelf))
    (none_of_count (g.H.Shelf.faults c.open_net.new.shelf) (g.H.Shelf.faults c.play_behind-played.new.shelf) (g.H.Shelf.stops c.args.shelf.now) (g.H.Shelf.stops c.open_net.new.shelf) (g.H.Shelf.stops c.play_behind-played.new.shelf) (g.H.Shelf.stops c.close_net.new.shelf) c.in-Ok.opened.0.items c.play_behind-played.new.nodes.items c.in-Ok.ensures.stops c.close_net.ensures.stops)
    (rose_by_count c.args.topology.now (plans_of c.args.script.now.lose) c.args.script.now.stops c.in-Ok.opened.1.items c.in-Ok.opened.0.items c.play_behind-played.new.nodes.items (g.H.Shelf.faults c.open_net.new.shelf) (g.H.Shelf.faults c.play_behind-played.new.shelf) (g.H.Shelf.stops c.args.shelf.now) (g.H.Shelf.stops c.open_net.new.shelf) (g.H.Shelf.stops c.play_behind-played.new.shelf) (g.H.Shelf.stops c.close_net.new.shelf) c.in-Ok.ensures.opened c.in-Ok.ensures.stops c.play_behind-played.ensures.behind.agents c.close_net.ensures.stops)
    (up_of_count c.args.topology.now (plans_of c.args.script.now.lose) c.args.script.now.stops c.in-Ok.opened.1.items c.in-Ok.opened.0.items c.play_behind-played.new.nodes.items (g.H.Shelf.faults c.open_net.new.shelf) (g.H.Shelf.faults c.play_behind-played.new.shelf) (g.H.Shelf.stops c.args.shelf.now) (g.H.Shelf.stops c.open_net.new.shelf) (g.H.Shelf.stops c.play_behind-played.new.shelf) (g.H.Shelf.stops c.close_net.new.shelf) c.in-Ok.ensures.opened c.in-Ok.ensures.stops c.play_behind-played.ensures.behind.agents c.close_net.ensures.stops)
    c.play_behind-played.result behind.front

pub returns-clause-cause : goal.returns-clause-cause
returns-clause-cause g c =
    let fresh = fresh_of c.args.topology.now (plans_of c.args.script.now.lose) c.args.script.now.stops c.in-Ok.opened.1.items (g.H.Shelf.holds c.args.shelf.now) (g.H.Shelf.listed c.open_net.new.shelf) c.in-Ok.opened.0.items c.in-Ok.ensures.opened c.in-Ok.ensures.listed c.in-Ok.ensures.empty in
    fault_if c.routes_exist.ensures.exist c.args.topology.now (plans_of c.args.script.now.lose) c.args.script.now.stops c.in-Ok.opened.1.items (g.H.Shelf.holds c.args.shelf.now) (g.H.Shelf.listed c.open_net.new.shelf) c.args.script.now.groups c.items.result.now c.in-Ok.opened.0.items c.play_behind-played.new.nodes.items
    (g.H.Shelf.faults c.args.shelf.now) (g.H.Shelf.faults c.open_net.new.shelf) (g.H.Shelf.faults c.play_behind-played.new.shelf) (g.H.Shelf.faults c.close_net.new.shelf) (g.H.Shelf.stops c.args.shelf.now) (g.H.Shelf.stops c.open_net.new.shelf) (g.H.Shelf.stops c.play_behind-played.new.shelf) (g.H.Shelf.stops c.close_net.new.shelf)
    c.items.ensures fresh c.in-Ok.ensures.listed c.play_behind-played.ensures.behind.agents.among c.in-Ok.ensures.faults c.in-Ok.ensures.stops c.play_behind-played.ensures.behind.shelf.faults c.close_net.ensures.faults c.close_net.ensures.stops
    c.play_behind-played.result c.play_behind-played.ensures.behind.cause

pub returns-clause-write : goal.returns-clause-write
returns-clause-write g c = c.play_behind-played.ensures.behind.write

pub returns-clause-quiet : goal.returns-clause-quiet
returns-clause-quiet g c = c.play_behind-played.ensures.behind.quiet

pub returns-clause-calm : goal.returns-clause-calm
returns-clause-calm g c =
    calm_of c.play_behind-played.result c.args.topology.now (plans_of c.args.script.now.lose) c.args.script.now.stops c.in-Ok.opened.1.items
    (g.H.Shelf.faults c.args.shelf.now) (g.H.Shelf.faults c.open_net.new.shelf) (g.H.Shelf.faults c.play_behind-played.new.shelf) (g.H.Shelf.faults c.close_net.new.shelf) (g.H.Shelf.stops c.args.shelf.now) (g.H.Shelf.stops c.open_net.new.shelf) (g.H.Shelf.stops c.play_behind-played.new.shelf) (g.H.Shelf.stops c.close_net.new.shelf)
    c.in-Ok.opened.0.items c.play_behind-played.new.nodes.items c.in-Ok.ensures.opened c.in-Ok.ensures.faults c.in-Ok.ensures.stops
    c.play_behind-played.ensures.behind.shelf.quiet c.play_behind-played.ensures.behind.shelf.stops c.play_behind-played.ensures.behind.calm c.close_net.ensures.faults c.close_net.ensures.stops
