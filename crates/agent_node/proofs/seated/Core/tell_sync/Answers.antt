use Rattle.std.proofs.Common.{rules, ◌≡◌, ◌+◌, ◌∙◌, ◌++◌, ◌∷◌, [], ap, sym, subst, length, ℕ, List, Option, None}
use Rattle.stp_topology.specs.Network.{agent_of}
use Rattle.nsi_agent.specs.Homes.{home_in}
use Rattle.agent_node.specs.Passing.{says_all}
use Rattle.agent_node.specs.Seat.{Seat}
use Rattle.agent_node.specs.Seated.{Seated, AtSeat}
use Rattle.agent_node.specs.Turns.{sync_event, syncs}
use Rattle.agent_node.proofs.Entering.{seat_by}
use Rattle.agent_node.proofs.Making.{told_is, home_agents}
use Rattle.agent_node.proofs.seated.Core.tell_sync.Goals as goal

pub returns-clause-ok : goal.returns-clause-ok
returns-clause-ok c =
    let i = c.self.inside in
    let s = seat_by i.synced i.fresh i.unsaid i.events i.links.doors i.agent in
    let new : Seat = record { number = i.agent.number; state = i.agent.state; past = None; synced = c.in-Some.count; fresh = c.clear.new.self; unsaid = c.take_all-said.new.self; events = c.push_sync.new.self; doors = c.say_all.new.self.doors } in
    let n : c.in-Some.count ≡ i.synced + length i.fresh = search rules in
    let events : c.push_sync.new.self ≡ i.events ++ sync_event i.agent.number c.in-Some.count ∷ [] = search rules in
    let said : c.say_all.new.self.doors ≡ says_all (agent_of i.topology.now) i.unsaid i.links.doors = search rules in
    subst (λ (x : Seated). AtSeat x (λ h. new ≡ syncs h x.seat)) c.self.view_is
    (λ routes are.
    told_is (home_in i.agent.network routes i.agent.number) s c.in-Some.count c.clear.new.self c.take_all-said.new.self c.push_sync.new.self c.say_all.new.self.doors n c.clear.ensures c.take_all-said.ensures.none events
    (said ∙ ap (λ (f : List ℕ → Option ℕ). says_all f i.unsaid i.links.doors) (ap agent_of c.self.invariant ∙ sym (home_agents i.agent.network routes i.agent.number))))
