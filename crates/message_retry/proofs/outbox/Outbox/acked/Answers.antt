use Rattle.std.proofs.Common.{◌∙◌, sym, ap, subst, is_some, All}
use Rattle.std.specs.Map.{values_of}
use Rattle.message_retry.specs.Retry.{is_waiting, without}
use Rattle.message_retry.specs.Spans.{IsCovered}
use Rattle.message_retry.proofs.NumberLemmas.{waits, none_waits, taken_out}
use Rattle.message_retry.proofs.SpanLemmas.{still_covered_behind}
use Rattle.message_retry.proofs.outbox.Outbox.acked.Goals as goal

pub invariant_of-self : goal.invariant_of-self
invariant_of-self c =
    let names = c.self.inside.names in
    let es = c.self.inside.messages.entries in
    subst (All (IsCovered names c.forget.new.spans.entries)) (sym c.discard.ensures.rest)
    (still_covered_behind names c.self.inside.spans.entries c.forget.new.spans.entries c.args.identity.now c.in-Some.mark c.in-Some.number es c.discard.ensures.ordered
    c.in-Some.ensures.mark (sym c.in-Some.ensures.number) (c.forget.ensures names) c.self.invariant)

pub returns-in-Some-clause-waited : goal.returns-in-Some-clause-waited
returns-in-Some-clause-waited c =
    let i = c.args.identity.now in
    ap is_some c.in-Some.ensures.number ∙ (waits i c.self.inside.messages.entries ∙ ap (is_waiting i) c.self.view_is)

pub returns-in-Some-clause-rest : goal.returns-in-Some-clause-rest
returns-in-Some-clause-rest c =
    let i = c.args.identity.now in
    ap values_of c.discard.ensures.rest
    ∙ (taken_out i c.in-Some.number c.self.inside.messages.entries c.discard.ensures.ordered (sym c.in-Some.ensures.number) ∙ ap (without i) c.self.view_is)

pub returns-in-None-clause-waited : goal.returns-in-None-clause-waited
returns-in-None-clause-waited c =
    let i = c.args.identity.now in
    ap is_some c.in-None.ensures.number ∙ (waits i c.self.inside.messages.entries ∙ ap (is_waiting i) c.self.view_is)

pub returns-in-None-clause-rest : goal.returns-in-None-clause-rest
returns-in-None-clause-rest c =
    let i = c.args.identity.now in
    sym c.self.view_is ∙ (sym (none_waits i c.self.inside.messages.entries (sym c.in-None.ensures.number)) ∙ ap (without i) c.self.view_is)
