use Rattle.std.proofs.Common.{refl, sym, ap, ◌∙◌}
use Rattle.std.proofs.lemmas.Option.{slice_get_read}
use Rattle.nsi_primitive.specs.declared.entry.Entry.{Entry}
use Rattle.followed_agent.proofs.Noting.{noted_none, noted_one}
use Rattle.followed_agent.proofs.receipts.note.Goals as goal

pub returns-in_ok-add : goal.returns-in_ok-add
returns-in_ok-add c =
    let e = c.index-journal-place.result in
    noted_one c.args.got.now c.args.place c.args.journal.now c.requires.before e (slice_get_read c.args.journal.now _ c.args.place e refl c.requires.within c.index-journal-place.is) c.add.new.self c.in-Got.message
    (ap (λ (x : Entry). x.input) c.index-journal-place.is ∙ c.in-Got.is) c.in_ok-add.ensures.ok

pub returns-in_default : goal.returns-in_default
returns-in_default c =
    let e = c.index-journal-place.result in
    noted_none c.args.got.now c.args.place c.args.journal.now c.requires.before e (slice_get_read c.args.journal.now _ c.args.place e refl c.requires.within c.index-journal-place.is)
    (λ n h. c.in_default.not-Got n (ap (λ (x : Entry). x.input) (sym c.index-journal-place.is) ∙ h))
