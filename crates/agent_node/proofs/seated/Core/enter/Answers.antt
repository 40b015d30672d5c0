use Rattle.std.proofs.Common.{rules, ◌≡◌, ◌∙◌, refl, subst, true}
use Rattle.stp_topology.specs.Network.{kind_of}
use Rattle.nsi_agent.specs.Homes.{home_in}
use Rattle.nsi_agent.specs.Steps.{may_take}
use Rattle.agent_node.specs.Seat.{enters}
use Rattle.agent_node.specs.Seated.{Seated, AtSeat, entry_at}
use Rattle.agent_node.proofs.Entering.{seat_by, entered_by, answered_by}
use Rattle.agent_node.proofs.seated.Core.enter.Goals as goal

pub note-requires-clause-taken : goal.note-requires-clause-taken
note-requires-clause-taken c =
    let a = c.self.inside.agent in
    let e = entry_at c.args.second c.args.input in
    let may : may_take (kind_of a.network a.number) a.state e ≡ true = search rules in
    record {
      entry = c.requires.printable;
      answered = answered_by a c.next.new.self c.in_ok-answer.answer c.in_ok-answer.said.items e may c.in_ok-answer.ensures.some;
    }

pub returns-clause-ok : goal.returns-clause-ok
returns-clause-ok c =
    let i = c.self.inside in
    let e = entry_at c.args.second c.args.input in
    subst (λ (x : Seated). AtSeat x (λ h. c.note.new.self.seat ≡ enters h e x.seat)) c.self.view_is
    (λ routes are.
    c.in_ok-note.ensures.ok
    ∙ entered_by (home_in i.agent.network routes i.agent.number) e (seat_by i.synced i.fresh i.unsaid i.events i.links.doors) i.agent c.next.new.self c.in_ok-answer.said.items c.in_ok-answer.answer
    (λ s x. refl) refl refl (c.in_ok-answer.ensures.state routes are) (c.in_ok-answer.ensures.out routes are) (c.in_ok-answer.ensures.answer routes are))

pub returns-clause-answered : goal.returns-clause-answered
returns-clause-answered c =
    let a = c.self.inside.agent in
    let e = entry_at c.args.second c.args.input in
    let may : may_take (kind_of a.network a.number) a.state e ≡ true = search rules in
    answered_by a c.next.new.self c.in_ok-answer.answer c.in_ok-answer.said.items e may c.in_ok-answer.ensures.some
