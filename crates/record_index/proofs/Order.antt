-- The order of deadlines: by their seconds, and then by their places.
use Rattle.std.proofs.Common.{◌≡◌, ◌≤◌, refl, false, Ordering, Less, Equal, Greater}
use Rattle.std.specs.Ordering.{nat_cmp, ordering_then, is_lt}
use Rattle.std.proofs.lemmas.Map.Keys.{ge_from_not_lt}
use Rattle.record_index.specs.declared.deadlines.Deadline.{Deadline}
use Rattle.record_index.specs.Heap.{deadline_cmp}

first_decides : (o p : Ordering) → is_lt (ordering_then o p) ≡ false → is_lt o ≡ false
first_decides Less p h = h
first_decides Equal p h = refl
first_decides Greater p h = refl

pub no_sooner_by : (a b : Deadline) → is_lt (deadline_cmp b a) ≡ false → a.second ≤ b.second
no_sooner_by a b h = ge_from_not_lt b.second a.second (first_decides (nat_cmp b.second a.second) (nat_cmp b.place a.place) h)
