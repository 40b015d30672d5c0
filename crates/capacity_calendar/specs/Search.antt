-- What the first second that lacks is.
use Rattle.std.specs.Prelude.{◌≡◌, ◌≤◌, ◌<◌, ℕ, Bool, true, false, if◌then◌else◌, Option, Some, None, nat_le}
use Rattle.nsi_base.specs.Range.{Span, is_covered}
use Rattle.capacity_calendar.specs.declared.booking.Lack.{Lack}

-- a second that lacks, and none before it in the span does
pub record IsFirst (lacks : ℕ → Bool) (span : Span) (t : ℕ) : Type 0 where
  pub covered : is_covered span t ≡ true
  pub lacking : lacks t ≡ true
  pub before : (s : ℕ) → span.start ≤ s → s < t → lacks s ≡ false

-- none lacks
abbrev pub HasRoom : (ℕ → Bool) → Span → Type 0
HasRoom lacks span = (s : ℕ) → span.start ≤ s → s < span.end → lacks s ≡ false

-- the lack at the lesser second, of two that may be there; the first where they are at the same
abbrev pub sooner : Option Lack → Option Lack → Option Lack
sooner None o = o
sooner (Some a) None = Some a
sooner (Some a) (Some b) = if nat_le a.second b.second then Some a else Some b
