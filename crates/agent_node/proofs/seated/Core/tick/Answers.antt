use Rattle.std.proofs.Common.{rules, ◌≡◌, ◌∙◌, ap, sym, List, Option, ℕ}
use Rattle.stp_topology.specs.Network.{agent_of}
use Rattle.nsi_agent.specs.Homes.{home_in}
use Rattle.agent_node.specs.Passing.{says_all}
use Rattle.agent_node.specs.Seated.{Seated}
use Rattle.agent_node.proofs.Entering.{seat_by}
use Rattle.agent_node.proofs.Filtering.{ticked_is}
use Rattle.agent_node.proofs.Making.{home_agents}
use Rattle.agent_node.proofs.seated.Core.tick.Goals as goal

pub returns-clause-ok : goal.returns-clause-ok
returns-clause-ok c = λ routes are.
    let a = c.args.self.now in
    let i = c.self.inside in
    let again = c.in_ok-again.again.items in
    let s = seat_by i.synced i.fresh i.unsaid i.events i.links.doors i.agent in
    let new : s ≡ c.enter.new.self.seat = ap (λ (x : Seated). x.seat) c.self.view_is in
    let network : i.agent.network ≡ a.network = ap (λ (x : Seated). x.network) c.self.view_is ∙ c.enter.ensures.stays.network in
    let said : c.say_all.new.self.doors ≡ says_all (agent_of i.topology.now) again i.links.doors = search rules in
    let agents = ap agent_of (c.self.invariant ∙ network) ∙ sym (home_agents a.network routes a.seat.number) in
    ticked_is (home_in a.network routes a.seat.number) c.args.to a.seat s c.say_all.new.self.doors again (new ∙ c.in_ok-enter.ensures.ok routes are) c.in_ok-again.ensures.overdue
    (said ∙ ap (λ (f : List ℕ → Option ℕ). says_all f again i.links.doors) agents)
