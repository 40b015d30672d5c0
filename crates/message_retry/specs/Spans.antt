-- Between which numbers the waiting messages of a mark lie.
use Rattle.std.specs.Prelude.{◌≡◌, ◌≤◌, ℕ, List, Bool, true, false, ◌&&◌, ◌==◌, Option, Some, None}
use Rattle.std.specs.Map.{lookup}
use Rattle.nsi_primitive.specs.Messages.{identity}
use Rattle.nsi_primitive.specs.declared.message.Identity.{Identity}
use Rattle.nsi_primitive.specs.declared.message.Message.{Message}
use Rattle.message_retry.specs.declared.mark.Mark.{Mark}
use Rattle.message_retry.specs.declared.span.Span.{Span}
use Rattle.message_retry.specs.Retry.{is_same_identity}
use Rattle.message_retry.specs.Marks.{mark_of}

abbrev pub is_same_mark : Mark → Mark → Bool
is_same_mark a b = ((a.exchange.requester == b.exchange.requester) && ((a.exchange.provider == b.exchange.provider) && (a.exchange.correlation == b.exchange.correlation))) && (a.kind == b.kind)

-- the mark of a numbered message has a span, within which its number lies
pub record IsCovered (names : List (List ℕ)) (spans : List (Mark × Span)) (e : ℕ × Message) : Type 0 where
  pub mark : Mark
  pub span : Span
  pub is_of : mark_of names (identity e.1) ≡ Some mark
  pub has : lookup (is_same_mark mark) spans ≡ Some span
  pub low : span.first ≤ e.0
  pub high : e.0 ≤ span.last

-- a message of the identity has a number within the span
abbrev pub LiesWithin : Identity → Span → ℕ × Message → Type 0
LiesWithin i span e = is_same_identity i (identity e.1) ≡ true → (span.first ≤ e.0) × (e.0 ≤ span.last)

abbrev pub ends_at : Option Span → ℕ → Bool
ends_at (Some span) number = span.last == number
ends_at None number = false
