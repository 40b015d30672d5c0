use Rattle.message_retry.proofs.SpanLemmas.{widened}
use Rattle.message_retry.proofs.span.widen.Goals as goal

pub returns-clause-kept : goal.returns-clause-kept
returns-clause-kept c names e before covered =
    widened names c.args.spans.now.entries c.insert.new.self.entries c.args.mark c.first_for-first.result c.args.number c.in_ok-insert.ensures.updates.0 c.first_for-first.ensures.old e before covered
