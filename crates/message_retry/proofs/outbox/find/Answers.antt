use Rattle.std.proofs.Common.{◌∙◌, sym}
use Rattle.message_retry.proofs.SpanLemmas.{none_unmarked, none_spanned, all_within}
use Rattle.message_retry.proofs.outbox.find.Goals as goal

pub first_of-requires-clause-within : goal.first_of-requires-clause-within
first_of-requires-clause-within c span has =
    all_within c.args.names.now c.args.spans.now.entries c.args.i.now c.args.messages.now.entries c.requires c.in-Some.mark span (sym c.named.ensures ∙ c.in-Some.is) has

pub first_of-requires-clause-none : goal.first_of-requires-clause-none
first_of-requires-clause-none c none =
    none_spanned c.args.names.now c.args.spans.now.entries c.args.i.now c.args.messages.now.entries c.requires c.in-Some.mark (sym c.named.ensures ∙ c.in-Some.is) none

pub returns-in-None-clause-number : goal.returns-in-None-clause-number
returns-in-None-clause-number c = sym (none_unmarked c.args.names.now c.args.spans.now.entries c.args.i.now c.args.messages.now.entries c.requires (sym c.named.ensures ∙ c.in-None.is))
