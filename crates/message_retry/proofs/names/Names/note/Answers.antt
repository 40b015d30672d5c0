use Rattle.std.proofs.Common.{◌∙◌, sym, ap, subst, Some}
use Rattle.message_retry.specs.Names.{place_of, texts, Keeps}
use Rattle.message_retry.proofs.NameLemmas.{note_keeps, note_places}
use Rattle.message_retry.proofs.names.Names.note.Goals as goal

pub returns-clause-place : goal.returns-clause-place
returns-clause-place c =
    let key = c.in_ok-from_str.field-0 in
    let keys = c.self.inside.names.keys in
    ap (λ new. place_of (texts new) c.args.name.now) c.in_ok-place.ensures.keys
    ∙ (note_places c.args.name.now key c.in_ok-from_str.ensures.ok keys ∙ ap Some (sym c.in_ok-place.ensures.index))

pub returns-clause-kept : goal.returns-clause-kept
returns-clause-kept c =
    let key = c.in_ok-from_str.field-0 in
    let keys = c.self.inside.names.keys in
    subst (λ old. Keeps old (texts c.insert_full.new.self.keys)) c.self.view_is (subst (λ new. Keeps (texts keys) (texts new)) (sym c.in_ok-place.ensures.keys) (note_keeps key keys))
