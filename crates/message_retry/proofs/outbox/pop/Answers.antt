use Rattle.message_retry.specs.Spans.{IsCovered}
use Rattle.message_retry.proofs.NumberLemmas.{popped, popped_kept}
use Rattle.message_retry.proofs.outbox.pop.Goals as goal

pub returns-clause-front : goal.returns-clause-front
returns-clause-front c = popped c.args.messages.now.entries c.pop_last-last.new.self.entries c.pop_last-last.result c.pop_last-last.ensures.variant c.pop_last-last.ensures.removal

pub returns-clause-kept : goal.returns-clause-kept
returns-clause-kept c names spans all =
    popped_kept c.args.messages.now.entries c.pop_last-last.new.self.entries c.pop_last-last.result c.pop_last-last.ensures.removal c.pop_last-last.ensures.unchanged (IsCovered names spans) all
