use Rattle.std.proofs.Common.{rules, ◌≡◌, ◌∙◌, ◌++◌, ◌∷◌, ap, sym, subst, ℕ, List, Option, None}
use Rattle.stp_topology.specs.Network.{agent_of}
use Rattle.nsi_agent.specs.Homes.{home_in}
use Rattle.agent_node.specs.Passing.{says_all}
use Rattle.agent_node.specs.Restarts.{restart_event, restart_events, tells_restart}
use Rattle.agent_node.specs.Seat.{Seat}
use Rattle.agent_node.specs.Seated.{Seated, AtSeat}
use Rattle.agent_node.proofs.Entering.{seat_by}
use Rattle.agent_node.proofs.Making.{home_agents}
use Rattle.agent_node.proofs.Restarting.{tells_is}
use Rattle.agent_node.proofs.seated.Core.tell_restart.Goals as goal

pub returns-clause-ok : goal.returns-clause-ok
returns-clause-ok c =
    let i = c.self.inside in
    let ms = c.args.waiting.items in
    let s = seat_by i.synced i.fresh i.unsaid i.events i.links.doors i.agent in
    let new : Seat = record { number = i.agent.number; state = i.agent.state; past = None; synced = i.synced; fresh = i.fresh; unsaid = i.unsaid; events = c.push_restarts.new.self; doors = c.say_all.new.self.doors } in
    let n = c.args.tries in
    let events : c.push_restarts.new.self ≡ i.events ++ restart_event i.agent.number i.synced ∷ restart_events n i.agent.number i.synced = search rules in
    let said : c.say_all.new.self.doors ≡ says_all (agent_of i.topology.now) ms i.links.doors = search rules in
    subst (λ (x : Seated). AtSeat x (λ h. new ≡ tells_restart h ms n x.seat)) c.self.view_is
    (λ routes are.
    tells_is (home_in i.agent.network routes i.agent.number) s ms n c.push_restarts.new.self c.say_all.new.self.doors events
    (said ∙ ap (λ (f : List ℕ → Option ℕ). says_all f ms i.links.doors) (ap agent_of c.self.invariant ∙ sym (home_agents i.agent.network routes i.agent.number))))
