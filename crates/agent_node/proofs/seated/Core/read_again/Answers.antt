use Rattle.std.proofs.Common.{rules, ◌≡◌, ◌∙◌, ap, sym, None, length}
use Rattle.nsi_agent.specs.Homes.{Home, home_in}
use Rattle.nsi_agent.specs.Told.{told}
use Rattle.agent_node.specs.Restarts.{begun_again, tells_restart}
use Rattle.agent_node.specs.Seat.{Seat}
use Rattle.agent_node.specs.Seated.{Seated}
use Rattle.agent_node.proofs.Retaking.{moved}
use Rattle.agent_node.proofs.Restarting.{reads_is}
use Rattle.agent_node.proofs.seated.Core.read_again.Goals as goal

pub returns-clause-ok : goal.returns-clause-ok
returns-clause-ok c =
    let i = c.self.inside in
    let old = c.args.self.now in
    let es = c.args.entries.now in
    let state = c.in_ok-agent.agent.state in
    let ms = c.in_ok-waiting.waiting.items in
    let here = c.begin_again.new.self in
    let new = c.tell_restart.new.self in
    let none : old.seat.past ≡ None = ap (λ (x : Seated). x.seat.past) (sym c.self.view_is) in
    let begun : here.seat ≡ begun_again state (length es) old.seat = search rules in
    let network = c.self.invariant ∙ ap (λ (x : Seated). x.network) c.self.view_is in
    let number = c.number.ensures ∙ ap (λ (x : Seated). x.seat.number) c.self.view_is in
    let waits = c.in_ok-waiting.ensures.all ∙ (ap (λ (x : Seated). x.seat.state.base.waiting) c.self-2.view_is ∙ ap (λ (s : Seat). s.state.base.waiting) begun) in
    λ routes are.
    let told_so = moved old.network i.topology.now old.seat.number c.number.result (λ (h : Home). state ≡ (told h es).state) network number c.in_ok-agent.ensures.state in
    let tells = moved old.network here.network old.seat.number here.seat.number (λ (h : Home). new.seat ≡ tells_restart h ms c.args.tries here.seat) c.begin_again.ensures.same.network c.begin_again.ensures.same.number
    c.in_ok-tell_restart.ensures.ok in
    reads_is (home_in old.network routes old.seat.number) c.args.tries es old.seat here.seat new.seat state ms none (told_so routes are) waits begun (tells routes are)
