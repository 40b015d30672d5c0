use Rattle.std.proofs.Common.{◌∙◌, ap, sym, arith}
use Rattle.std.specs.Range.{range_inclusive_start, range_inclusive_end}
use Rattle.message_retry.specs.Numbered.{first_number}
use Rattle.message_retry.proofs.SpanLemmas.{among_range, none_within}
use Rattle.message_retry.proofs.outbox.first_within.Goals as goal

pub returns-then-span : goal.returns-then-span
returns-then-span c = sym (none_within c.args.i.now c.args.span c.args.messages.now.entries (omega (arith, c.if-span.true)) c.requires)

pub returns : goal.returns
returns c =
    c.first_among.ensures
    ∙ (ap (first_number c.args.i.now) (c.range.ensures.between c.new.ensures.exhausted)
    ∙ among_range c.args.i.now c.args.span (range_inclusive_start c.new.result) (range_inclusive_end c.new.result) c.new.ensures.start c.new.ensures.end c.args.messages.now.entries c.requires)
