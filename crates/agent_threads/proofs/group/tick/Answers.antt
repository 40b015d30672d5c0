use Rattle.std.proofs.Common.{false, map, subst, sym}
use Rattle.nsi_agent.specs.Homes.{home_in}
use Rattle.nsi_play.specs.Play.{ticked_in}
use Rattle.agent_threads.specs.Made.{tick_to}
use Rattle.agent_threads.proofs.Same.{does_net, does_same, does_usable, unstopped_twice}
use Rattle.agent_threads.proofs.Draining.{is_told}
use Rattle.agent_threads.proofs.Emptying.{emptied_drained}
use Rattle.agent_threads.proofs.Seen.{does_seen, tick_needs}
use Rattle.agent_threads.proofs.Owning.{tick_owns, does_owned}
use Rattle.nsi_play.specs.Rounds.{Net}
use Rattle.quiet_rounds.specs.Bounded.{IsBounded}
use Rattle.agent_threads.specs.Nets.{seats, seats_by, EachIs}
use Rattle.agent_threads.specs.Bounds.{MovesOn}
use Rattle.agent_threads.proofs.Moving.{tick_moves}
use Rattle.agent_threads.proofs.Going.{anyhow, does_move}
use Rattle.agent_threads.proofs.Leaves.{leaves_drained}
use Rattle.agent_threads.proofs.group.tick.Goals as goal

pub returns-clause-ok : goal.returns-clause-ok
returns-clause-ok g c = λ t o routes r b w.
    is_told b (map (ticked_in c.args.to (home_in t routes)) (seats_by b c.args.nodes.now.items)) c.tick_all.new.nodes.items c.drain.new.nodes.items c.args.events.now.items c.drain.new.events.items
    (does_seen (tick_to c.args.to) (tick_needs c.args.to) b c.args.nodes.now.items c.tick_all.new.nodes.items c.in_ok-tick_all.ensures.done t o routes r)
    (emptied_drained c.tick_all.new.nodes.items c.drain.new.nodes.items c.in_ok-drain.ensures.made (does_usable (tick_to c.args.to) c.args.nodes.now.items c.tick_all.new.nodes.items c.in_ok-tick_all.ensures.done)) c.in_ok-drain.ensures.events

pub returns-in_err-drain-clause-agents : goal.returns-in_err-drain-clause-agents
returns-in_err-drain-clause-agents g c = unstopped_twice c.args.nodes.now.items c.tick_all.new.nodes.items c.drain.new.nodes.items c.in_ok-tick_all.ensures.agents c.in_err-drain.ensures.agents

pub returns-clause-agents : goal.returns-clause-agents
returns-clause-agents g c = unstopped_twice c.args.nodes.now.items c.tick_all.new.nodes.items c.drain.new.nodes.items c.in_ok-tick_all.ensures.agents c.in_ok-drain.ensures.agents

pub returns-clause-leaves : goal.returns-clause-leaves
returns-clause-leaves g c =
    let olds = c.args.nodes.now.items in
    let mids = c.tick_all.new.nodes.items in
    let exist = c.routes_exist.ensures.exist in
    leaves_drained c.args.to olds mids c.drain.new.nodes.items c.args.events.now.items c.drain.new.events.items c.requires.net
    (does_net (tick_to c.args.to) c.args.nodes.now.items c.tick_all.new.nodes.items c.in_ok-tick_all.ensures.done c.requires.net)
    (does_same (tick_to c.args.to) c.args.nodes.now.items c.tick_all.new.nodes.items c.in_ok-tick_all.ensures.done)
    (anyhow exist olds (EachIs (MovesOn c.args.to) olds mids) c.requires.one (does_move c.args.to (tick_to c.args.to) olds mids (tick_moves c.args.to) c.in_ok-tick_all.ensures.done))
    (anyhow exist olds (IsBounded (seats olds) → IsBounded (seats mids)) c.requires.one
    (λ t o routes r b w h. subst (λ (net : Net). IsBounded net) (sym (does_seen (tick_to c.args.to) (tick_needs c.args.to) false olds mids c.in_ok-tick_all.ensures.done t o routes r)) ((c.nets_are_bounded.ensures.steps (home_in t routes) (seats olds) h).ticks c.args.to)))
    (does_owned (tick_to c.args.to) olds mids (tick_owns c.args.to) c.in_ok-tick_all.ensures.done)
    c.nets_are_bounded.ensures.steps (home_in c.requires.one.network (exist c.requires.one.network).0)
    (emptied_drained mids c.drain.new.nodes.items c.in_ok-drain.ensures.made (does_usable (tick_to c.args.to) olds mids c.in_ok-tick_all.ensures.done)) c.requires.told c.in_ok-drain.ensures.events c.in_ok-drain.ensures.printable
