use Rattle.std.proofs.Common.{sym, subst, All}
use Rattle.std.proofs.lemmas.List.Elements.{All-push}
use Rattle.message_retry.specs.Spans.{IsCovered}
use Rattle.message_retry.proofs.SpanLemmas.{still_covered, all_widened}
use Rattle.message_retry.proofs.outbox.Outbox.put.Goals as goal

pub invariant_of-self-in_err-widen : goal.invariant_of-self-in_err-widen
invariant_of-self-in_err-widen c =
    let names = c.noted.new.names in
    let old = c.self.inside.spans.entries in
    let es = c.self.inside.messages.entries in
    all_widened names old c.widen.new.spans.entries c.in_ok-number.number (c.widen.ensures.kept names) es c.in_ok-number.ensures
    (still_covered c.self.inside.names names c.noted.ensures.kept old es c.self.invariant)

pub invariant_of-self-in_err-push : goal.invariant_of-self-in_err-push
invariant_of-self-in_err-push c =
    let names = c.noted.new.names in
    let old = c.self.inside.spans.entries in
    let es = c.self.inside.messages.entries in
    subst (All (IsCovered names c.widen.new.spans.entries)) (sym c.in_err-push.ensures.err)
    (all_widened names old c.widen.new.spans.entries c.in_ok-number.number (c.widen.ensures.kept names) es c.in_ok-number.ensures
    (still_covered c.self.inside.names names c.noted.ensures.kept old es c.self.invariant))

pub invariant_of-self-2 : goal.invariant_of-self-2
invariant_of-self-2 c =
    let names = c.noted.new.names in
    let old = c.self.inside.spans.entries in
    let es = c.self.inside.messages.entries in
    let n = c.in_ok-number.number in
    subst (All (IsCovered names c.widen.new.spans.entries)) (sym c.in_ok-push.ensures.ok)
    (All-push (IsCovered names c.widen.new.spans.entries) es (n, c.args.message.now)
    (all_widened names old c.widen.new.spans.entries n (c.widen.ensures.kept names) es c.in_ok-number.ensures
    (still_covered c.self.inside.names names c.noted.ensures.kept old es c.self.invariant))
    (c.in_ok-widen.ensures.covered names c.args.message.now c.in_ok-mark.ensures.mark))
