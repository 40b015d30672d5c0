use Rattle.std.proofs.Common.{subst}
use Rattle.std.proofs.lemmas.List.Elements.{All-push, All-same}
use Rattle.std.specs.Prelude.{Option, IfSome}
use Rattle.nsi_primitive.specs.Printable.{IsPrintable}
use Rattle.nsi_primitive.specs.declared.message.Message.{Message}
use Rattle.race_caller.proofs.locked.messages_of.Goals as goal

pub loop-line-preserved : goal.loop-line-preserved
loop-line-preserved c =
    let printable : IsPrintable c.in-Some.message = subst (λ (o : Option Message). IfSome o IsPrintable) c.in-Some.is c.in_ok-message.ensures in
    All-same IsPrintable _ _ c.in_ok-push.ensures.items (All-push IsPrintable c.loop-line.messages.items c.in-Some.message c.loop-line.invariant printable)
