use Rattle.std.proofs.Common.{Result, subst}
use Rattle.shared_provider.specs.declared.reply.Reply.{Reply}
use Rattle.shared_provider.specs.declared.reply.BookFault.{BookFault}
use Rattle.shared_provider.specs.Holds.{HasHeld}
use Rattle.shared_provider.proofs.shared.SharedProvider.tell.Goals as goal

pub returns-in-Ok-print_reply-clause-held : goal.returns-in-Ok-print_reply-clause-held
returns-in-Ok-print_reply-clause-held g c = λ asked h.
    record { reply = c.in-Ok.reply; held = subst (λ (r : Result Reply BookFault). HasHeld asked r) c.in-Ok.is h; printed = c.in-Ok-print_reply.ensures }
