use Rattle.std.proofs.Common.{List, ◌∙◌, [], ◌∷◌, ◌++◌, ap, sym, map, take}
use Rattle.std.proofs.lemmas.List.{map-append}
use Rattle.nsi_query.specs.Summary.{summary}
use Rattle.nsi_query.proofs.Behind.{next_of}
use Rattle.aggregator_agent.specs.declared.connection.Connection.{Connection}
use Rattle.aggregator_agent.specs.Bonds.{bond, bonds, shown_of}
use Rattle.aggregator_agent.specs.Turns.{joined_of}
use Rattle.aggregator_agent.proofs.query.summary_over.Goals as goal

pub loop-connection-preserved : goal.loop-connection-preserved
loop-connection-preserved c =
    let all = c.args.all.now in
    let i = c.loop-connection.connection-index in
    let item = c.connection-item.result in
    let shown = λ (xs : List Connection). map shown_of (bonds xs) in
    c.in_ok-add_own.ensures (shown (take i all)) c.loop-connection.invariant
    ∙ ap (summary c.args.owner.now)
    (ap (λ p. shown (take i all) ++ (item.own, p) ∷ []) (c.in_ok-plane.ensures ∙ ap joined_of c.deref.ensures.value)
    ∙ sym (ap shown (next_of all i item c.loop-connection-test.true c.connection-item.is) ∙ ap (map shown_of) (map-append bond (take i all) (item ∷ [])) ∙ map-append shown_of (bonds (take i all)) (bond item ∷ [])))
