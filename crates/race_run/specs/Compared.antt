-- Two lists that are to be the same, and where they differ first.
use Rattle.std.specs.Prelude.{◌≡◌, ◌≢◌, ◌<◌, ◌≤◌, ◌==◌, ℕ, List, Option, Some, None, if◌then◌else◌, length, take, slice_get, IfSome}
use Rattle.std.specs.List.{All}
use Rattle.nsi_primitive.specs.Printable.{IsPrintableEntry}
use Rattle.nsi_primitive.specs.declared.entry.Event.{Event}
use Rattle.nsi_primitive.specs.declared.entry.Happening.{Happening}
use Rattle.stp_topology.specs.declared.network.Network.{Network}
use Rattle.trace_text.specs.Lines.{HasLine}
use Rattle.race_run.specs.declared.item.Item.{Item}
use Rattle.race_run.specs.declared.item.Difference.{Difference}

abbrev pub event_at : ℕ → Option Item → Option Event
event_at place None = None
event_at place (Some x) = if x.place == place then Some x.event else None

-- the place that is told is the found item's, or the kept one's where there is none
abbrev pub IsTold : Option Item → Option Item → Difference → Type 0
IsTold kept (Some f) d = d ≡ record { place = f.place; kept = event_at f.place kept; found = Some f.event }
IsTold (Some k) None d = d ≡ record { place = k.place; kept = Some k.event; found = None }
IsTold None None d = ⊥

-- the first item at which they differ
pub record IsFirst (kept found : List Item) (d : Difference) : Type 0 where
  pub at : ℕ
  pub before : take at kept ≡ take at found
  pub differs : slice_get kept at ≢ slice_get found at
  pub told : IsTold (slice_get kept at) (slice_get found at) d

---- Steps of a comparison

-- an event that can be compared by its bytes
abbrev pub IsWritten : Happening → Type 0
IsWritten (Happening.Entry e answer) = IsPrintableEntry e
IsWritten _ = Unit {0}

abbrev pub AreWritten : List Item → Type 0
AreWritten xs = All (λ x. IsWritten x.event.what) xs

-- an event that can be told
abbrev pub Stands : Network → Item → Type 0
Stands t x = HasLine t x.event

abbrev pub AllStand : Network → List Item → Type 0
AllStand t xs = All (Stands t) xs

-- they have the first items in common, and not the next one
pub record IsFront (kept found : List Item) (n : ℕ) : Type 0 where
  pub within_kept : n ≤ length kept
  pub within_found : n ≤ length found
  pub same : take n kept ≡ take n found
  pub differs : n < length kept → n < length found → slice_get kept n ≢ slice_get found n

-- both events can be told
pub record IsOfNetwork (t : Network) (d : Difference) : Type 0 where
  pub kept : IfSome d.kept (HasLine t)
  pub found : IfSome d.found (HasLine t)
