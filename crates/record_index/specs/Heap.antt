-- How the deadlines are kept: in a heap, with the soonest at its top.
use Rattle.std.specs.Prelude.{◌≡◌, ◌≤◌, ◌+◌, ◌/◌, ℕ, zero, suc, List, map, slice_get, Some}
use Rattle.std.specs.BinaryHeap.{IsHeap}
use Rattle.std.specs.Ordering.{nat_cmp, ordering_then}
use Rattle.std.specs.declared.cmp.Ordering.{Ordering}
use Rattle.std.specs.declared.cmp.Reverse.{Reverse}
use Rattle.record_index.specs.declared.deadlines.Deadline.{Deadline}

-- the deadlines of a heap, in which their order is turned round
abbrev pub deadlines_of : List (Reverse Deadline) → List Deadline
deadlines_of rs = map (λ r. r.0) rs

abbrev pub deadline_cmp : Deadline → Deadline → Ordering
deadline_cmp a b = ordering_then (nat_cmp a.second b.second) (nat_cmp a.place b.place)

-- none is sooner than the one that it stands under
abbrev pub IsSoonestFirst : List (Reverse Deadline) → Type 0
IsSoonestFirst rs = IsHeap (λ x y. deadline_cmp y.0 x.0) rs

-- the number so many steps above another, where the top of the heap has number 1
abbrev pub above : ℕ → ℕ → ℕ
above zero k = k
above (suc n) k = above n k / 2

-- A deadline of the place that has come stands at a place of the heap or under it.
pub record IsDueUnder (rs : List (Reverse Deadline)) (top now place : ℕ) : Type 0 where
  pub at : ℕ
  pub steps : ℕ
  pub is_under : above steps (at + 1) ≡ top + 1
  pub entry : Reverse Deadline
  pub is_at : slice_get rs at ≡ Some entry
  pub place_is : entry.0.place ≡ place
  pub due : entry.0.second ≤ now
