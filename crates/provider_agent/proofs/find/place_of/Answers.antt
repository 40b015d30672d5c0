use Rattle.std.proofs.Common.{◌∙◌, ap, sym, refl, rules, bytes_eq}
use Rattle.std.proofs.lemmas.List.Sorted.{answers_always}
use Rattle.std.proofs.lemmas.Option.{slice_get_read}
use Rattle.connection_record.specs.declared.record.Record.{Record}
use Rattle.connection_record.specs.Refusal.{place_of}
use Rattle.provider_agent.proofs.ByOwner.{found_of_owner, found_of_another, searched_at, searched_nowhere}
use Rattle.provider_agent.proofs.find.place_of.Goals as goal

pub returns-in_default-clause-place : goal.returns-in_default-clause-place
returns-in_default-clause-place c =
    let n = c.number-number.result in
    let searched = c.in_default.ensures.position (λ (r : Record). r.id) (answers_always _ _ _ (λ f a r g called. search rules)) in
    sym (ap (λ x. place_of x c.args.owner.now c.args.records.now) (sym c.number-number.ensures)
    ∙ searched_nowhere c.args.agent c.args.next n c.args.owner.now c.args.records.now c.requires c.in_default.field-0 c.in_default.ensures.bound searched)

pub returns-then-is-clause-place : goal.returns-then-is-clause-place
returns-then-is-clause-place c =
    let n = c.number-number.result in
    let r = c.index-records-place.result in
    let searched = c.in-Ok.ensures.position (λ (r : Record). r.id) (answers_always _ _ _ (λ f a r g called. search rules)) in
    let at = slice_get_read c.args.records.now _ c.in-Ok.place r refl c.in-Ok.ensures.bound c.index-records-place.is in
    let same = ap (λ (x : Record). x.id) c.index-records-place.is ∙ searched_at c.args.agent c.args.next n c.args.owner.now c.args.records.now c.requires c.in-Ok.place searched r in
    let own = ap (λ (x : Record). bytes_eq c.args.owner.now x.owner) c.index-records-place.is ∙ (sym c.is.ensures ∙ c.if-is.true) in
    sym (ap (λ x. place_of x c.args.owner.now c.args.records.now) (sym c.number-number.ensures)
    ∙ found_of_owner c.args.agent c.args.next n c.args.owner.now c.args.records.now c.requires c.in-Ok.place r at same own)

pub returns-else-is-clause-place : goal.returns-else-is-clause-place
returns-else-is-clause-place c =
    let n = c.number-number.result in
    let r = c.index-records-place.result in
    let searched = c.in-Ok.ensures.position (λ (r : Record). r.id) (answers_always _ _ _ (λ f a r g called. search rules)) in
    let at = slice_get_read c.args.records.now _ c.in-Ok.place r refl c.in-Ok.ensures.bound c.index-records-place.is in
    let same = ap (λ (x : Record). x.id) c.index-records-place.is ∙ searched_at c.args.agent c.args.next n c.args.owner.now c.args.records.now c.requires c.in-Ok.place searched r in
    let other = ap (λ (x : Record). bytes_eq c.args.owner.now x.owner) c.index-records-place.is ∙ (sym c.is.ensures ∙ c.if-is.false) in
    sym (ap (λ x. place_of x c.args.owner.now c.args.records.now) (sym c.number-number.ensures)
    ∙ found_of_another c.args.agent c.args.next n c.args.owner.now c.args.records.now c.requires c.in-Ok.place r at same other)
