use Rattle.std.proofs.Common.{◌∙◌, ap, ◌++◌, ◌∷◌, []}
use Rattle.message_retry.proofs.NumberLemmas.{put_behind}
use Rattle.message_retry.proofs.outbox.push.Goals as goal

pub returns-clause-ok : goal.returns-clause-ok
returns-clause-ok c =
    let es = c.args.messages.now.entries in
    c.in_ok-insert.ensures.entries
    ∙ (put_behind c.args.number c.in_ok-copy.copy es c.requires
    ∙ ap (λ m. es ++ (c.args.number, m) ∷ []) c.in_ok-copy.ensures)
