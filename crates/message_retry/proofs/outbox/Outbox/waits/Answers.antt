use Rattle.std.proofs.Common.{◌∙◌, ap, is_some}
use Rattle.message_retry.specs.Retry.{is_waiting}
use Rattle.message_retry.proofs.NumberLemmas.{still_some, waits}
use Rattle.message_retry.proofs.outbox.Outbox.waits.Goals as goal

pub returns : goal.returns
returns c =
    let i = c.args.identity.now in
    c.is_some.ensures
    ∙ (still_some (λ p. p.1) c.find.result ∙ (ap is_some c.find.ensures.number ∙ (waits i c.self.inside.messages.entries ∙ ap (is_waiting i) c.self.view_is)))
