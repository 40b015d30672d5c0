use Rattle.std.proofs.Common.{◌∙◌, [], ◌∷◌, ◌++◌, ap, sym, map, take}
use Rattle.std.proofs.lemmas.List.{map-append}
use Rattle.nsi_query.specs.Answers.{shown_at}
use Rattle.nsi_query.specs.Summary.{summary}
use Rattle.nsi_query.proofs.Behind.{next_of}
use Rattle.nsi_query.proofs.summaries.summary_at.Goals as goal

pub loop-of-preserved : goal.loop-of-preserved
loop-of-preserved c =
    let all = c.args.all.now in
    let now = c.args.now in
    let i = c.loop-of.of-index in
    let item = c.of-item.result in
    c.in_ok-add_own.ensures (map (shown_at now) (take i all)) c.loop-of.invariant
    ∙ ap (summary c.args.requester.now)
    (ap (λ x. map (shown_at now) (take i all) ++ (item, x) ∷ []) c.status.ensures
    ∙ sym (ap (map (shown_at now)) (next_of all i item c.loop-of-test.true c.of-item.is) ∙ map-append (shown_at now) (take i all) (item ∷ [])))
