use Rattle.std.proofs.Common.{◌≡◌, List, length, subst}
use Rattle.std.specs.List.{All}
use Rattle.nsi_script.specs.declared.script.PlanLine.{PlanLine}
use Rattle.nsi_script.specs.declared.script.StopLine.{StopLine}
use Rattle.nsi_play.specs.Openings.{plans_of}
use Rattle.net_run.specs.Joints.{IsPlannedJoint}
use Rattle.net_run.specs.Begun.{AreOpened, faults_among, stops_among}
use Rattle.net_run.proofs.Beginning.{opened_are}
use Rattle.net_run.proofs.Counting.{raised_up, start_fault}
use Rattle.net_run.proofs.opening.open_net.Goals as goal

pub begin_all-requires-clause-planned : goal.begin_all-requires-clause-planned
begin_all-requires-clause-planned g c = (plans_of c.items.result.now, c.in_ok-joints.ensures.planned)

pub returns-in-Ok-clause-opened : goal.returns-in-Ok-clause-opened
returns-in-Ok-clause-opened g c =
    let t = c.args.topology.now in
    let plans = plans_of c.args.script.now.lose in
    let tries = c.in-Ok.tries.items in
    let nodes = c.begin_all.new.nodes.items in
    let stops : c.items-2.result.now ≡ c.args.script.now.stops = c.items-2.ensures in
    let joints = c.in_ok-joints.joints.items in
    let planned = subst (λ (lines : List PlanLine). All (IsPlannedJoint (plans_of lines)) joints) c.items.ensures c.in_ok-joints.ensures.planned in
    subst (λ (ls : List StopLine). AreOpened t plans ls tries nodes) stops
    (opened_are t joints c.items-2.result.now plans tries nodes c.in_ok-joints.ensures.paired planned c.in-Ok.ensures.begun c.in-Ok.ensures.all)

pub returns-in-Err-clause-cause : goal.returns-in-Err-clause-cause
returns-in-Err-clause-cause g c =
    let nodes = c.begin_all.new.nodes.items in
    start_fault (length c.args.topology.now.agents) (g.H.Shelf.faults c.args.shelf.now) (g.H.Shelf.faults c.begin_all.new.shelf) (g.H.Shelf.faults c.close_net.new.shelf)
    (g.H.Shelf.stops c.args.shelf.now) (g.H.Shelf.stops c.begin_all.new.shelf) (g.H.Shelf.stops c.close_net.new.shelf) c.in-Err.fault c.in-Err.ensures.cause
    (raised_up (g.H.Shelf.faults c.begin_all.new.shelf) (faults_among nodes) (g.H.Shelf.faults c.close_net.new.shelf) c.close_net.ensures.faults)
    (raised_up (g.H.Shelf.stops c.begin_all.new.shelf) (stops_among nodes) (g.H.Shelf.stops c.close_net.new.shelf) c.close_net.ensures.stops)
