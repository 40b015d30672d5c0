use Rattle.std.proofs.Common.{◌∙◌, ap, sym, rules}
use Rattle.std.specs.Prelude.{position}
use Rattle.std.proofs.lemmas.List.Sorted.{answers_always}
use Rattle.connection_record.specs.declared.record.Record.{Record}
use Rattle.shared_provider.specs.Asked.{has_id}
use Rattle.shared_provider.proofs.Places.{place_searched, place_unsearched}
use Rattle.shared_provider.proofs.asked.place_of.Goals as goal

pub returns-in_default-clause-place : goal.returns-in_default-clause-place
returns-in_default-clause-place c =
    let n = c.number-number.result in
    let searched = c.in_default.ensures.position (λ (r : Record). r.id) (answers_always _ _ _ (λ f a r g called. search rules)) in
    sym (ap (λ x. position (has_id x) c.args.records.now) (sym c.number-number.ensures)
    ∙ place_unsearched c.requires.0 c.requires.1 n c.args.records.now c.requires.2 c.in_default.field-0 c.in_default.ensures.bound searched)

pub returns-clause-place : goal.returns-clause-place
returns-clause-place c =
    let n = c.number-number.result in
    let searched = c.in-Ok.ensures.position (λ (r : Record). r.id) (answers_always _ _ _ (λ f a r g called. search rules)) in
    sym (ap (λ x. position (has_id x) c.args.records.now) (sym c.number-number.ensures)
    ∙ place_searched c.requires.0 c.requires.1 n c.args.records.now c.requires.2 c.in-Ok.place c.in-Ok.ensures.bound searched)
