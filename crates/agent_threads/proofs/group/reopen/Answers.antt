use Rattle.std.proofs.Common.{true, refl, arith}
use Rattle.nsi_agent.specs.Homes.{home_in}
use Rattle.stopped_play.specs.Counts.{cuts_of}
use Rattle.stopped_play.specs.Rounds.{reopens}
use Rattle.agent_threads.specs.Stopping.{seats_before}
use Rattle.agent_threads.proofs.Same.{links_same, same_twice, still_of}
use Rattle.agent_threads.proofs.Draining.{drained_net, drained_same, drained_told, is_told}
use Rattle.agent_threads.proofs.Emptying.{emptied_seats, emptied_stops, emptied_drained}
use Rattle.agent_threads.proofs.Showing.{reopened_shows}
use Rattle.agent_threads.proofs.Owning.{drained_owned}
use Rattle.agent_threads.proofs.Going.{go_on}
use Rattle.agent_threads.proofs.Stopping.{restarts_by_cuts, restarts_owned_again}
use Rattle.agent_threads.specs.Made.{counted}
use Rattle.agent_threads.proofs.Left.{left_unstopped, left_twice}
use Rattle.agent_threads.proofs.Reopening.{stopped_links, stopped_usable, stopped_net, stopped_move, reopened_bounded}
use Rattle.agent_threads.proofs.group.reopen.Goals as goal

pub returns-clause-ok : goal.returns-clause-ok
returns-clause-ok g c = λ t o routes r w.
    let mids = c.restart_stopped.new.nodes.items in
    let by = restarts_by_cuts c.args.nodes.now.items mids c.in_ok-restart_stopped.ensures.done c.requires.halted t o routes r w in
    let news = c.drain.new.nodes.items in
    let d = emptied_drained mids news c.in_ok-drain.ensures.made (stopped_usable c.args.nodes.now.items mids c.in_ok-restart_stopped.ensures.done) in
    let cuts = cuts_of by.cuts in
    record {
      cuts = cuts;
      agrees = by.agrees;
      few = let few = by.few in omega (arith, few, emptied_stops mids news c.in_ok-drain.ensures.made);
      told = is_told true (reopens cuts (home_in t routes) (seats_before c.args.nodes.now.items)) mids news c.args.events.now.items c.drain.new.events.items by.is d c.in_ok-drain.ensures.events;
    }

pub returns-clause-net : goal.returns-clause-net
returns-clause-net g c =
    let olds = c.args.nodes.now.items in
    let mids = c.restart_stopped.new.nodes.items in
    let done = c.in_ok-restart_stopped.ensures.done in
    drained_net mids c.drain.new.nodes.items (emptied_drained mids c.drain.new.nodes.items c.in_ok-drain.ensures.made (stopped_usable olds mids done)) (stopped_net olds mids done c.requires.halted)

pub returns-clause-still : goal.returns-clause-still
returns-clause-still g c =
    let olds = c.args.nodes.now.items in
    let mids = c.restart_stopped.new.nodes.items in
    let done = c.in_ok-restart_stopped.ensures.done in
    same_twice olds mids c.drain.new.nodes.items (links_same olds mids (stopped_links olds mids done c.requires.halted.going))
    (drained_same mids c.drain.new.nodes.items (emptied_drained mids c.drain.new.nodes.items c.in_ok-drain.ensures.made (stopped_usable olds mids done)))

pub returns-clause-owned : goal.returns-clause-owned
returns-clause-owned g c = λ t o routes r w.
    let olds = c.args.nodes.now.items in
    let mids = c.restart_stopped.new.nodes.items in
    let done = c.in_ok-restart_stopped.ensures.done in
    let going = c.requires.halted.going in
    drained_owned mids c.drain.new.nodes.items (emptied_drained mids c.drain.new.nodes.items c.in_ok-drain.ensures.made (stopped_usable olds mids done))
    t (still_of t olds mids (links_same olds mids (stopped_links olds mids done going)) o) routes r (restarts_owned_again olds mids done going t o routes r w)

pub returns-clause-further : goal.returns-clause-further
returns-clause-further g c =
    let olds = c.args.nodes.now.items in
    let mids = c.restart_stopped.new.nodes.items in
    let done = c.in_ok-restart_stopped.ensures.done in
    go_on 0 olds mids c.drain.new.nodes.items c.args.events.now.items c.drain.new.events.items (stopped_move olds mids done c.requires.halted.going)
    (emptied_seats mids c.drain.new.nodes.items c.in_ok-drain.ensures.made) c.requires.told c.in_ok-drain.ensures.events

pub returns-clause-told : goal.returns-clause-told
returns-clause-told g c =
    let mids = c.restart_stopped.new.nodes.items in
    drained_told mids c.drain.new.nodes.items (emptied_drained mids c.drain.new.nodes.items c.in_ok-drain.ensures.made (stopped_usable c.args.nodes.now.items mids c.in_ok-restart_stopped.ensures.done))

pub returns-clause-shows : goal.returns-clause-shows
returns-clause-shows g c =
    reopened_shows c.routes_exist.ensures.exist c.args.nodes.now.items c.restart_stopped.new.nodes.items c.args.events.now.items c.drain.new.events.items c.in_ok-restart_stopped.ensures.done
    c.requires.halted.going c.requires.told c.in_ok-drain.ensures.events

pub returns-clause-agents : goal.returns-clause-agents
returns-clause-agents g c =
    let mids = c.restart_stopped.new.nodes.items in
    let after = counted (g.B.Reopen.faults c.restart_stopped.new.shelf) (g.B.Reopen.stops c.restart_stopped.new.shelf) in
    left_twice c.args.nodes.now.items mids c.drain.new.nodes.items _ after after c.in_ok-restart_stopped.ensures.agents (left_unstopped mids c.drain.new.nodes.items after after c.in_ok-drain.ensures.agents refl)

pub returns-in_err-drain-clause-agents : goal.returns-in_err-drain-clause-agents
returns-in_err-drain-clause-agents g c =
    let mids = c.restart_stopped.new.nodes.items in
    let after = counted (g.B.Reopen.faults c.restart_stopped.new.shelf) (g.B.Reopen.stops c.restart_stopped.new.shelf) in
    left_twice c.args.nodes.now.items mids c.drain.new.nodes.items _ after after c.in_ok-restart_stopped.ensures.agents (left_unstopped mids c.drain.new.nodes.items after after c.in_err-drain.ensures.agents refl)

pub returns-clause-bounded : goal.returns-clause-bounded
returns-clause-bounded g c =
    reopened_bounded c.routes_exist.ensures.exist c.args.nodes.now.items c.restart_stopped.new.nodes.items c.drain.new.nodes.items c.in_ok-restart_stopped.ensures.done
    c.requires.halted.going c.in_ok-drain.ensures.made
