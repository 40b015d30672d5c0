use Rattle.std.proofs.Common.{Result, Err, ◌≡◌, ap}
use Rattle.run_totals.specs.declared.totals.Totals.{Totals}
use Rattle.agent_threads.specs.declared.fault.RunFault.{RunFault}
use Rattle.run_command.specs.declared.command.RunEnd.{RunEnd}
use Rattle.run_command.specs.Runs.{disks}
use Rattle.run_command.proofs.Running.{settled_run, failing_run, kept_play, fails_not_done, fails_long, long_only, too_heavy, unread_cause, disk_cause, of_agent}
use Rattle.run_command.proofs.Wholes.{PlayLaws, CanRun}
use Rattle.run_command.proofs.command.play.Goals as goal

pub returns-in-Ok-clause-played : goal.returns-in-Ok-clause-played
returns-in-Ok-clause-played g c =
    let laws : PlayLaws =
    record {
      calm = c.calm.ensures.plays;
      is_run = c.runs.ensures.front;
      rests = c.runs.ensures.rests;
      asks = c.asks_whole.ensures;
      left = c.settled.ensures;
      safe = c.every_run_safe.ensures;
      stands = c.every_run.ensures;
      answers = c.at_rest.ensures;
      over = c.nothing_is_left.ensures;
      stopped_long = c.long_is_over.ensures.stopped;
      calm_long = c.long_is_over.ensures.calm;
    }
    in
    let can : CanRun c.args.options.limit c.args.topology.now c.args.script.now = record { laws = laws; few = c.requires.limit; sound = c.facts.ensures; well = c.laws.ensures; fits = c.requires.fits } in
    settled_run c.args.topology.now c.args.options
    (disks (g.H.Shelf.holds c.args.shelf.now) (g.H.Shelf.holds c.run_world.new.shelf) (g.H.Shelf.stops c.args.shelf.now) (g.H.Shelf.stops c.run_world.new.shelf))
    c.args.script.now _ (g.K.Sink.content c.run_world.new.out) _ _ _ _ _ _ (c.in-Ok.ensures.quiet (λ e. cc)) c.tell_totals.result can
    c.in-Ok.totals c.in-Ok.ensures.done c.tell_totals.ensures c.in-Ok.ensures.calm

pub returns-in-Ok-clause-journals : goal.returns-in-Ok-clause-journals
returns-in-Ok-clause-journals g c = λ done.
    kept_play c.args.topology.now c.args.options
    (disks (g.H.Shelf.holds c.args.shelf.now) (g.H.Shelf.holds c.run_world.new.shelf) (g.H.Shelf.stops c.args.shelf.now) (g.H.Shelf.stops c.run_world.new.shelf))
    c.args.script.now _ _ c.in-Ok.totals c.in-Ok.ensures.done

abbrev Failed : RunFault → Result Totals RunFault
Failed f = Err f

same_fault : (f h : RunFault) → Failed f ≡ Failed h → f ≡ h
same_fault f h e = cc

pub returns-in-Err-clause-played : goal.returns-in-Err-clause-played
returns-in-Err-clause-played g c =
    let o = c.in-Err.ensures in
    let laws : PlayLaws =
    record {
      calm = c.calm.ensures.plays;
      is_run = c.runs.ensures.front;
      rests = c.runs.ensures.rests;
      asks = c.asks_whole.ensures;
      left = c.settled.ensures;
      safe = c.every_run_safe.ensures;
      stands = c.every_run.ensures;
      answers = c.at_rest.ensures;
      over = c.nothing_is_left.ensures;
      stopped_long = c.long_is_over.ensures.stopped;
      calm_long = c.long_is_over.ensures.calm;
    }
    in
    let can : CanRun c.args.options.limit c.args.topology.now c.args.script.now = record { laws = laws; few = c.requires.limit; sound = c.facts.ensures; well = c.laws.ensures; fits = c.requires.fits } in
    failing_run c.args.topology.now c.args.options
    (disks (g.H.Shelf.holds c.args.shelf.now) (g.H.Shelf.holds c.run_world.new.shelf) (g.H.Shelf.stops c.args.shelf.now) (g.H.Shelf.stops c.run_world.new.shelf))
    c.args.script.now _ (g.K.Sink.content c.run_world.new.out) _ _ _ _ _ _ c.fail.result can c.in-Err.fault
    (record {
      long = λ e. o.long (ap (λ f. Err f) e);
      broken = o.whole;
      unread = λ agent place e. unread_cause c.args.topology.now _ _ _ _ _ _ c.in-Err.fault agent place e o.cause;
      disk = λ agent e. disk_cause c.args.topology.now _ _ _ _ _ _ c.in-Err.fault agent e o.cause;
      front = o.front;
      write = λ e. o.write (ap (λ f. Err f) e);
      quiet = λ n. o.quiet (λ e. n (same_fault c.in-Err.fault RunFault.WriteFault e));
    })
    c.fail.ensures

pub returns-in-Err-clause-journals : goal.returns-in-Err-clause-journals
returns-in-Err-clause-journals g c = λ done. absurd (fails_not_done c.args.topology.now c.in-Err.fault c.fail.result _ _ _ _ c.fail.ensures done)

pub returns-in-Ok-clause-settles : goal.returns-in-Ok-clause-settles
returns-in-Ok-clause-settles g c = λ long. absurd (long_only RunEnd.Done c.tell_totals.result c.tell_totals.ensures.kind (λ d. cc) long)

pub returns-in-Err-clause-settles : goal.returns-in-Err-clause-settles
returns-in-Err-clause-settles g c =
    let laws : PlayLaws =
    record {
      calm = c.calm.ensures.plays;
      is_run = c.runs.ensures.front;
      rests = c.runs.ensures.rests;
      asks = c.asks_whole.ensures;
      left = c.settled.ensures;
      safe = c.every_run_safe.ensures;
      stands = c.every_run.ensures;
      answers = c.at_rest.ensures;
      over = c.nothing_is_left.ensures;
      stopped_long = c.long_is_over.ensures.stopped;
      calm_long = c.long_is_over.ensures.calm;
    }
    in
    let can : CanRun c.args.options.limit c.args.topology.now c.args.script.now = record { laws = laws; few = c.requires.limit; sound = c.facts.ensures; well = c.laws.ensures; fits = c.requires.fits } in
    λ long.
    too_heavy c.args.topology.now c.args.options
    (disks (g.H.Shelf.holds c.args.shelf.now) (g.H.Shelf.holds c.run_world.new.shelf) (g.H.Shelf.stops c.args.shelf.now) (g.H.Shelf.stops c.run_world.new.shelf))
    c.args.script.now _ _ can (c.in-Err.ensures.long (ap (λ f. Err f) (fails_long c.args.topology.now c.in-Err.fault c.fail.result _ _ _ _ c.fail.ensures long)))

pub fail-requires : goal.fail-requires
fail-requires g c = of_agent c.args.topology.now _ _ _ _ _ _ c.in-Err.fault c.in-Err.ensures.cause
