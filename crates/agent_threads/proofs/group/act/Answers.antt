use Rattle.std.proofs.Common.{refl, arith, ◌≤◌}
use Rattle.nsi_agent.specs.Homes.{home_in}
use Rattle.stopped_play.specs.Play.{acted_by}
use Rattle.quiet_rounds.specs.Bounded.{IsBounded}
use Rattle.agent_threads.specs.Nets.{seats, seats_by, EachIs}
use Rattle.agent_threads.specs.Bounds.{AreOfOne, MovesOn}
use Rattle.agent_threads.proofs.Draining.{is_told, act_seen}
use Rattle.agent_threads.proofs.Emptying.{emptied_drained, emptied_stops}
use Rattle.agent_threads.proofs.Acting.{calm_act}
use Rattle.agent_threads.specs.Coming.{IsTold}
use Rattle.agent_threads.specs.Stopping.{more_stops}
use Rattle.agent_threads.proofs.Owning.{act_owned}
use Rattle.agent_threads.proofs.Bounding.{act_bounded}
use Rattle.agent_threads.proofs.Restarting.{act_usable, act_net, act_same, act_moves}
use Rattle.agent_threads.proofs.Going.{anyhow}
use Rattle.agent_threads.specs.Made.{counted}
use Rattle.agent_threads.proofs.Left.{left_unstopped, left_twice}
use Rattle.agent_threads.proofs.Leaves.{leaves_drained}
use Rattle.agent_threads.proofs.group.act.Goals as goal

pub returns-clause-ok : goal.returns-clause-ok
returns-clause-ok g c = λ t o routes r b w shows.
    let act = c.args.act.now in
    let n = c.args.number in
    let olds = c.args.nodes.now.items in
    let mids = c.act_all.new.nodes.items in
    let news = c.drain.new.nodes.items in
    let before = c.args.events.now.items in
    let events = c.drain.new.events.items in
    let homes = home_in t routes in
    let x = seats_by b olds in
    let s = act_seen act n b olds mids c.in_ok-act_all.ensures.done c.requires.net.apart t o routes r w shows in
    let few : s.0 ≤ more_stops olds news = let few = s.1 in omega (arith, few, emptied_stops mids news c.in_ok-drain.ensures.made) in
    let told : IsTold (acted_by act s.0 n homes x) before events (seats_by b news) =
    is_told b (acted_by act s.0 n homes x) mids news before events s.2 (emptied_drained mids news c.in_ok-drain.ensures.made (act_usable act n olds mids c.in_ok-act_all.ensures.done)) c.in_ok-drain.ensures.events in
    record { told = λ e. (s.0, few, told); calm = λ none. calm_act act s.0 n homes x before events (seats_by b news) olds news few told none }

pub returns-in_err-drain-clause-agents : goal.returns-in_err-drain-clause-agents
returns-in_err-drain-clause-agents g c =
    let after = counted (g.B.Reopen.faults c.act_all.new.shelf) (g.B.Reopen.stops c.act_all.new.shelf) in
    left_twice c.args.nodes.now.items c.act_all.new.nodes.items c.drain.new.nodes.items _ after after c.in_ok-act_all.ensures.agents (left_unstopped c.act_all.new.nodes.items c.drain.new.nodes.items after after c.in_err-drain.ensures.agents refl)

pub returns-clause-agents : goal.returns-clause-agents
returns-clause-agents g c =
    let after = counted (g.B.Reopen.faults c.act_all.new.shelf) (g.B.Reopen.stops c.act_all.new.shelf) in
    left_twice c.args.nodes.now.items c.act_all.new.nodes.items c.drain.new.nodes.items _ after after c.in_ok-act_all.ensures.agents (left_unstopped c.act_all.new.nodes.items c.drain.new.nodes.items after after c.in_ok-drain.ensures.agents refl)

pub returns-clause-leaves : goal.returns-clause-leaves
returns-clause-leaves g c =
    let olds = c.args.nodes.now.items in
    let mids = c.act_all.new.nodes.items in
    let act = c.args.act.now in
    let n = c.args.number in
    let exist = c.routes_exist.ensures.exist in
    let can = c.requires.can in
    let one : AreOfOne olds = record { network = can.network; of = can.of } in
    let done = c.in_ok-act_all.ensures.done in
    leaves_drained 0 olds mids c.drain.new.nodes.items c.args.events.now.items c.drain.new.events.items c.requires.net (act_net act n olds mids done c.requires.net) (act_same act n olds mids done)
    (anyhow exist olds (EachIs (MovesOn 0) olds mids) one (act_moves act n olds mids done))
    (anyhow exist olds (IsBounded (seats olds) → IsBounded (seats mids)) one (λ t o routes r b w. act_bounded c.nets_are_bounded.ensures.steps act n olds mids done t o routes r))
    (act_owned act n olds mids done) c.nets_are_bounded.ensures.steps (home_in can.network (exist can.network).0)
    (emptied_drained mids c.drain.new.nodes.items c.in_ok-drain.ensures.made (act_usable act n olds mids done)) c.requires.told c.in_ok-drain.ensures.events c.in_ok-drain.ensures.printable
