use Rattle.std.proofs.Common.{◌≡◌, ◌++◌, ℕ, List, All, length}
use Rattle.std.specs.Map.{values_of}
use Rattle.nsi_primitive.specs.declared.message.Message.{Message}
use Rattle.message_retry.specs.declared.mark.Mark.{Mark}
use Rattle.message_retry.specs.declared.span.Span.{Span}
use Rattle.message_retry.specs.Spans.{IsCovered}
use Rattle.message_retry.proofs.outbox.pop_some.Given as goal

abbrev pub invariant-loop-turn : goal.invariant-loop-turn
invariant-loop-turn l =
    ((front back : List Message) → length back ≡ l._turn → values_of l.fn.messages.entries ≡ front ++ back → values_of l.messages.entries ≡ front)
    × ((names : List (List ℕ)) (spans : List (Mark × Span)) → All (IsCovered names spans) l.fn.messages.entries → All (IsCovered names spans) l.messages.entries)
