use Rattle.std.proofs.Common.{◌∙◌, sym}
use Rattle.message_retry.proofs.SpanLemmas.{forgotten}
use Rattle.message_retry.proofs.span.forget.Goals as goal

pub returns-then-ends_at : goal.returns-then-ends_at
returns-then-ends_at c names e later covered =
    forgotten names c.args.spans.now.entries c.swap_remove-span.new.self.entries c.args.mark c.args.number c.swap_remove-span.ensures.updates.0 (sym c.ends_at.ensures ∙ c.if-ends_at.true) e later covered
