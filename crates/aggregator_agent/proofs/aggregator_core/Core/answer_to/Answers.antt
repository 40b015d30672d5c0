use Rattle.std.proofs.Common.{◌≡◌, ◌<◌, ◌∙◌, List, None, Some, IfSome, IfOk, length, map, sym, ap, subst, option_and_then}
use Rattle.nsi_primitive.specs.Messages.{connection_of}
use Rattle.connection_record.specs.Refusal.{place_of}
use Rattle.nsi_query.specs.Answers.{answer_about, summary_answer}
use Rattle.nsi_query.specs.Summary.{Shown, summary}
use Rattle.aggregator_agent.specs.Bonds.{Bond, bond_at, records_of, shown_of}
use Rattle.aggregator_agent.specs.Core.{state_at}
use Rattle.aggregator_agent.specs.Queries.{answer_by, shown_at}
use Rattle.aggregator_agent.specs.Turns.{joined_of}
use Rattle.aggregator_agent.proofs.Queried.{bond_there, shown_pairs, shown_there}
use Rattle.aggregator_agent.proofs.aggregator_core.Core.answer_to.Goals as goal

pub returns-in_default : goal.returns-in_default
returns-in_default c =
    let d = c.args.self.now in
    let m = c.args.message.now in
    let none : connection_of m.body ≡ None = sym c.connection.ensures ∙ c.in_default.is in
    ap Some
    (c.summary_answer.ensures
    ∙ ap summary_answer (c.in_ok-found.ensures ∙ ap (summary m.header.requester) (ap (map shown_of) c.items-all.ensures ∙ sym (shown_pairs d.connections))))
    ∙ sym (ap (λ o. answer_by o d.agent.name (state_at d) m) none)

pub returns : goal.returns
returns c =
    let d = c.args.self.now in
    let m = c.args.message.now in
    let n = c.in-Some-found.place in
    let some : connection_of m.body ≡ Some c.in-Some.id = sym c.connection.ensures ∙ c.in-Some.is in
    let there : place_of c.in-Some.id m.header.requester (records_of d.connections) ≡ Some n = sym c.in_ok-found-2.ensures.place ∙ c.in-Some-found.is in
    let inside : n < length d.connections = subst (λ o. IfSome o (λ k. k < length d.connections)) c.in-Some-found.is c.in_ok-found-2.ensures.within in
    let item = c.index-all-place.result in
    let at : bond_at n d.connections ≡ _ =
    sym (ap (bond_at n) c.items-all.ensures) ∙ bond_there c.items-all.result.now n item (subst (λ (bs : List Bond). n < length bs) (sym c.items-all.ensures) inside) c.index-all-place.is
    in
    let shown : shown_at n (state_at d) ≡ (item.own, c.in_ok-plane.plane) =
    shown_there d.connections n inside ∙ ap shown_of at ∙ sym (ap (λ p. (item.own, p)) (c.in_ok-plane.ensures ∙ ap joined_of c.deref.ensures.value))
    in
    subst (λ x. IfOk c.answer_about.result (λ answer. answer ≡ x))
    (ap (λ (x : Shown). answer_about d.agent.name x m.body) (sym shown)
    ∙ sym (ap (λ o. answer_by o d.agent.name (state_at d) m) some ∙ ap (λ o. option_and_then (λ k. answer_about d.agent.name (shown_at k (state_at d)) m.body) o) there))
    c.answer_about.ensures
