-- What a change of a booking does to the loads and to the ends of slots.
use Rattle.std.proofs.Common.{◌≡◌, ◌≢◌, ◌≤◌, ◌<◌, ◌+◌, ◌*◌, ◌⊎◌, inl, inr, ℕ, suc, ◌&&◌, List, [], ◌∷◌, Bool, true, false, cond, eqb, max, length, Option, Some, None, arith, refl, sym, ap, ◌∙◌, subst}
use Rattle.std.proofs.lemmas.Bool.Decides.{nat_tests}
use Rattle.std.proofs.lemmas.List.Sums.{sum_by-cons}
use Rattle.nsi_base.specs.Range.{is_covered}
use Rattle.nsi_base.specs.Flows.{books}
use Rattle.nsi_base.specs.declared.flow.Flow.{Flow}
use Rattle.nsi_base.specs.declared.flow.Flow.TheVariants.{Both, In, Out}
use Rattle.capacity_calendar.specs.declared.booking.Booking.{Booking}
use Rattle.capacity_calendar.specs.declared.booking.Capacity.{Capacity}
use Rattle.capacity_calendar.specs.declared.booking.Change.{Change}
use Rattle.capacity_calendar.specs.declared.booking.Place.{Place}
use Rattle.capacity_calendar.specs.declared.booking.Point.{Point}
use Rattle.capacity_calendar.specs.declared.booking.Slot.{Slot}
use Rattle.capacity_calendar.specs.Load.{books_slot, taken, larger_taken, claim, load, others}
use Rattle.capacity_calendar.specs.Changes.{before, after, all_before, all_after}
use Rattle.capacity_calendar.specs.Index.{one_if, slot_ends, booking_ends, ends, point_at, second_at, ends_by, restated, AreLoads, ClaimSame, HaveClaims, HaveRoom, StaysWithin, IsIndex, IsIndexed, IsIndexedAt, Timeline, timeline_at}
use Rattle.capacity_calendar.proofs.Within.{others_le}

---- Ends

pub one_at_most : (c : Bool) → one_if c ≤ 1
one_at_most true = omega arith
one_at_most false = omega arith

slot_ends_le : (flow : Flow) (stp t : ℕ) (o : Option Slot) → slot_ends flow stp t o ≤ 2
unfolding slot_ends
slot_ends_le flow stp t None = omega arith
slot_ends_le flow stp t (Some s) = by_books (books_slot flow stp s)
  where
    by_books : (c : Bool) → cond c (one_if (eqb s.interval.start t) + one_if (eqb s.interval.end t)) 0 ≤ 2
    by_books true = omega (arith, one_at_most (eqb s.interval.start t), one_at_most (eqb s.interval.end t))
    by_books false = omega arith

ends_le : (flow : Flow) (stp t : ℕ) (bs : List Booking) → ends flow stp t bs ≤ length bs * 4
ends_le flow stp t [] = omega arith
ends_le flow stp t (b ∷ bs) =
    omega (arith, sum_by-cons (booking_ends flow stp t) b bs, slot_ends_le flow stp t b.committed, slot_ends_le flow stp t b.pending, ends_le flow stp t bs)

-- the ends at a second are few
pub few_ends : (flow : Flow) (stp t number : ℕ) (b : Booking) (bs : List Booking) → length bs ≤ 4194304 → ends flow stp t (b ∷ others number bs) ≤ 16777220
few_ends flow stp t number b bs few =
    omega (
      arith,
      sum_by-cons (booking_ends flow stp t) b (others number bs),
      slot_ends_le flow stp t b.committed,
      slot_ends_le flow stp t b.pending,
      others_le (booking_ends flow stp t) number bs,
      ends_le flow stp t bs,
      few,
    )

-- the start and the end of a slot at a second
abbrev pub both_ends : Slot → ℕ → ℕ
both_ends s u = one_if (eqb s.interval.start u) + one_if (eqb s.interval.end u)

with_ends : (flow : Flow) (stp u : ℕ) (c : Change) (b : Bool) → b ≡ true → books_slot flow stp c.slot ≡ true → slot_ends flow stp u (cond b (Some c.slot) None) ≡ both_ends c.slot u
unfolding slot_ends
with_ends flow stp u c b e booked = ap (λ d. slot_ends flow stp u (cond d (Some c.slot) None)) e ∙ ap (λ d. cond d (both_ends c.slot u) 0) booked

without_ends : (flow : Flow) (stp u : ℕ) (c : Change) (b : Bool) → b ≡ true → slot_ends flow stp u (cond b None (Some c.slot)) ≡ 0
unfolding slot_ends
without_ends flow stp u c b e = ap (λ d. slot_ends flow stp u (cond d None (Some c.slot))) e

with_ends_else : (flow : Flow) (stp u : ℕ) (c : Change) (b : Bool) → b ≡ false → books_slot flow stp c.slot ≡ true → slot_ends flow stp u (cond b None (Some c.slot)) ≡ both_ends c.slot u
unfolding slot_ends
with_ends_else flow stp u c b e booked = ap (λ d. slot_ends flow stp u (cond d None (Some c.slot))) e ∙ ap (λ d. cond d (both_ends c.slot u) 0) booked

without_ends_else : (flow : Flow) (stp u : ℕ) (c : Change) (b : Bool) → b ≡ false → slot_ends flow stp u (cond b (Some c.slot) None) ≡ 0
unfolding slot_ends
without_ends_else flow stp u c b e = ap (λ d. slot_ends flow stp u (cond d (Some c.slot) None)) e

pub ends_come : (flow : Flow) (stp u : ℕ) (c : Change) (bs : List Booking) → c.comes ≡ true → books_slot flow stp c.slot ≡ true → ends flow stp u (all_after c bs) ≡ ends flow stp u (all_before c bs) + both_ends c.slot u
ends_come flow stp u c bs e booked =
    omega (
      arith,
      sum_by-cons (booking_ends flow stp u) (after c) (others c.number bs),
      sum_by-cons (booking_ends flow stp u) (before c) (others c.number bs),
      with_ends flow stp u c c.comes e booked,
      without_ends flow stp u c c.comes e,
    )

pub ends_go : (flow : Flow) (stp u : ℕ) (c : Change) (bs : List Booking) → c.comes ≡ false → books_slot flow stp c.slot ≡ true → ends flow stp u (all_before c bs) ≡ ends flow stp u (all_after c bs) + both_ends c.slot u
ends_go flow stp u c bs e booked =
    omega (
      arith,
      sum_by-cons (booking_ends flow stp u) (after c) (others c.number bs),
      sum_by-cons (booking_ends flow stp u) (before c) (others c.number bs),
      with_ends_else flow stp u c c.comes e booked,
      without_ends_else flow stp u c c.comes e,
    )

pub one_of_same : (a : ℕ) → one_if (eqb a a) ≡ 1
one_of_same a = let e : eqb a a ≡ true = grind (arith, nat_tests) in ap one_if e

---- Loads

covers_nothing : (flow : Flow) (stp t : ℕ) (s : Slot) → is_covered s.interval t ≡ false → taken flow stp t (Some s) ≡ 0
covers_nothing flow stp t s h = by_test (books_slot flow stp s)
  where
    by_test : (c : Bool) → cond (c && is_covered s.interval t) s.mbps 0 ≡ 0
    by_test true = ap (λ c. cond c s.mbps 0) h
    by_test false = refl

books_nothing : (flow : Flow) (stp t : ℕ) (s : Slot) → books_slot flow stp s ≡ false → taken flow stp t (Some s) ≡ 0
books_nothing flow stp t s h = ap (λ c. cond (c && is_covered s.interval t) s.mbps 0) h

-- a slot that takes nothing makes no difference
same_claim : (flow : Flow) (stp t : ℕ) (c : Change) → taken flow stp t (Some c.slot) ≡ 0 → claim flow stp t (before c) ≡ claim flow stp t (after c)
unfolding larger_taken
same_claim flow stp t c e = by_way c.comes
  where
    by_way : (b : Bool) → max (taken flow stp t c.other) (taken flow stp t (cond b None (Some c.slot))) ≡ max (taken flow stp t c.other) (taken flow stp t (cond b (Some c.slot) None))
    by_way true = ap (max (taken flow stp t c.other)) (sym e)
    by_way false = ap (max (taken flow stp t c.other)) e

pub same_beside : (flow : Flow) (stp t : ℕ) (c : Change) → is_covered c.slot.interval t ≡ false → claim flow stp t (before c) ≡ claim flow stp t (after c)
same_beside flow stp t c h = same_claim flow stp t c (covers_nothing flow stp t c.slot h)

-- where the slot isn't booked nothing changes
same_ends : (flow : Flow) (stp u : ℕ) (c : Change) → books_slot flow stp c.slot ≡ false → booking_ends flow stp u (before c) ≡ booking_ends flow stp u (after c)
unfolding slot_ends
same_ends flow stp u c h = by_way c.comes
  where
    none : slot_ends flow stp u (Some c.slot) ≡ 0
    none = ap (λ d. cond d (both_ends c.slot u) 0) h

    by_way : (b : Bool) → slot_ends flow stp u c.other + slot_ends flow stp u (cond b None (Some c.slot)) ≡ slot_ends flow stp u c.other + slot_ends flow stp u (cond b (Some c.slot) None)
    by_way true = ap (λ n. slot_ends flow stp u c.other + n) (sym none)
    by_way false = ap (λ n. slot_ends flow stp u c.other + n) none

-- an index of the same loads and ends
pub index_same : (flow : Flow) (stp : ℕ) (bs cs : List Booking) (ps : List Point) → ((t : ℕ) → load flow stp t bs ≡ load flow stp t cs) → ((t : ℕ) → ends flow stp t bs ≡ ends flow stp t cs)
    → IsIndex flow stp bs ps → IsIndex flow stp cs ps
unfolding AreLoads
index_same flow stp bs cs ps l e i = record { loads = λ k lt. i.loads k lt ∙ l (second_at ps k); ends = λ t. i.ends t ∙ e t }

pub index_beside : (flow : Flow) (stp : ℕ) (c : Change) (bs : List Booking) (ps : List Point) → books_slot flow stp c.slot ≡ false → IsIndex flow stp (all_before c bs) ps → IsIndex flow stp (all_after c bs) ps
index_beside flow stp c bs ps h =
    index_same flow stp (all_before c bs) (all_after c bs) ps
    (λ t. omega (arith, sum_by-cons (claim flow stp t) (before c) (others c.number bs), sum_by-cons (claim flow stp t) (after c) (others c.number bs), same_claim flow stp t c (books_nothing flow stp t c.slot h)))
    (λ t. omega (arith, sum_by-cons (booking_ends flow stp t) (before c) (others c.number bs), sum_by-cons (booking_ends flow stp t) (after c) (others c.number bs), same_ends flow stp t c h))

-- a load that is told has what the record claims in it
pub claims_least : (flow : Flow) (stp : ℕ) (b : Booking) (os : List Booking) (ps : List Point) → AreLoads (λ t. load flow stp t (b ∷ os)) ps → (k : ℕ) → k < length ps → claim flow stp (second_at ps k) b ≤ (point_at ps k).load
unfolding AreLoads
claims_least flow stp b os ps h k lt = omega (arith, h k lt, sum_by-cons (claim flow stp (second_at ps k)) b os)

pub claims_most : (flow : Flow) (stp capacity : ℕ) (b a : Booking) (os : List Booking) (ps : List Point) → AreLoads (λ t. load flow stp t (b ∷ os)) ps → ((t : ℕ) → load flow stp t (a ∷ os) ≤ capacity)
    → (k : ℕ) → k < length ps → (point_at ps k).load + claim flow stp (second_at ps k) a ≤ claim flow stp (second_at ps k) b + capacity
unfolding AreLoads
claims_most flow stp capacity b a os ps h w k lt =
    omega (arith, h k lt, sum_by-cons (claim flow stp (second_at ps k)) b os, sum_by-cons (claim flow stp (second_at ps k)) a os, w (second_at ps k))

-- points that are all stated anew tell the load after the change, and count the same ends
-- At a place, a change claims the same beside its interval,
pub claims_beside : (place : Place) (c : Change) (t : ℕ) → is_covered c.slot.interval t ≡ false → ClaimSame place (before c) (after c) t
claims_beside place c t out = same_beside place.flow place.stp t c out

-- what it claimed is in the loads,
pub claims_held : (place : Place) (c : Change) (bs : List Booking) (ps : List Point) → AreLoads (λ t. load place.flow place.stp t (all_before c bs)) ps → HaveClaims place (before c) ps
claims_held place c bs ps told k lt = claims_least place.flow place.stp (before c) (others c.number bs) ps told k lt

-- and what it claims has room.
pub claims_fit : (place : Place) (c : Change) (bs : List Booking) (ps : List Point) → AreLoads (λ t. load place.flow place.stp t (all_before c bs)) ps → StaysWithin place (all_after c bs)
    → HaveRoom place (before c) (after c) ps
claims_fit place c bs ps told within k lt = claims_most place.flow place.stp place.capacity (before c) (after c) (others c.number bs) ps told within k lt

pub loads_restated : (flow : Flow) (stp : ℕ) (b a : Booking) (os : List Booking) (ps qs : List Point) → length qs ≡ length ps
    → ((k : ℕ) → k < length ps → point_at qs k ≡ restated flow stp b a (point_at ps k)) → AreLoads (λ t. load flow stp t (b ∷ os)) ps → AreLoads (λ t. load flow stp t (a ∷ os)) qs
unfolding AreLoads
loads_restated flow stp b a os ps qs len e h k lt =
    let within : k < length ps = omega (arith, lt, len) in
    let s : ℕ = second_at ps k in
    let second : second_at qs k ≡ s = ap (λ p. p.second) (e k within) in
    let told = h k within in
    let now : (point_at qs k).load ≡ load flow stp s (a ∷ os) = ap (λ p. p.load) (e k within) ∙ omega (arith, told, sum_by-cons (claim flow stp s) b os, sum_by-cons (claim flow stp s) a os) in
    now ∙ ap (λ t. load flow stp t (a ∷ os)) (sym second)

pub ends_restated : (flow : Flow) (stp : ℕ) (b a : Booking) (ps qs : List Point) (u : ℕ) → length qs ≡ length ps → ((k : ℕ) → k < length ps → point_at qs k ≡ restated flow stp b a (point_at ps k)) → ends_by qs u ≡ ends_by ps u
unfolding ends_by
ends_restated flow stp b a [] [] u len e = refl
ends_restated flow stp b a [] (q ∷ qs) u len e = absurd (omega (arith, len))
ends_restated flow stp b a (p ∷ ps) [] u len e = absurd (omega (arith, len))
ends_restated flow stp b a (p ∷ ps) (q ∷ qs) u len e =
    let first : q ≡ restated flow stp b a p = e 0 (omega arith) in
    let same : cond (eqb q.second u) q.ends 0 ≡ cond (eqb p.second u) p.ends 0 = ap (λ x. cond (eqb x.second u) x.ends 0) first in
    let rest = ends_restated flow stp b a ps qs u (omega (arith, len)) (λ k lt. e (suc k) (omega arith)) in
    omega (arith, same, rest, sum_by-cons (λ x. cond (eqb x.second u) x.ends 0) p ps, sum_by-cons (λ x. cond (eqb x.second u) x.ends 0) q qs)

---- All points of a flow

nothing_booked : (flow : Flow) (both_ways : Bool) → books flow both_ways false false ≡ false
nothing_booked Both both_ways = refl
nothing_booked In true = refl
nothing_booked In false = refl
nothing_booked Out true = refl
nothing_booked Out false = refl

not_at : (flow : Flow) (stp : ℕ) (s : Slot) → stp ≢ s.source → stp ≢ s.dest → books_slot flow stp s ≡ false
not_at flow stp s a b =
    ap (λ c. books flow s.both_ways c (eqb s.dest stp)) (other s.source stp a) ∙ ap (books flow s.both_ways false) (other s.dest stp b) ∙ nothing_booked flow s.both_ways
  where
    other : (m n : ℕ) → n ≢ m → eqb m n ≡ false
    other m n d = grind (arith, nat_tests)

-- a change at the points of its slot is one at all points
pub turned : (capacities : List Capacity) (flow : Flow) (c : Change) (bs : List Booking) (old new : List Timeline) → IsIndexedAt capacities flow c.slot.source (all_after c bs) (timeline_at new c.slot.source)
    → IsIndexedAt capacities flow c.slot.dest (all_after c bs) (timeline_at new c.slot.dest) → ((q : ℕ) → q ≢ c.slot.source → q ≢ c.slot.dest → timeline_at new q ≡ timeline_at old q)
    → IsIndexed capacities flow (all_before c bs) old → IsIndexed capacities flow (all_after c bs) new
turned capacities flow c bs old new source dest others all stp = elim (or_other stp c.slot.source) [
  | inl s ↦ subst P (sym s) source
  | inr a ↦ elim (or_other stp c.slot.dest) [
    | inl d ↦ subst P (sym d) dest
    | inr b ↦ λ n le e.
        subst (λ (t : Timeline). IsIndex flow stp (all_after c bs) t.points) (sym (others stp a b))
        (index_beside flow stp c bs (timeline_at old stp).points (not_at flow stp c.slot a b) (all stp n le e))
  ]
]
  where
    P : ℕ → Type 0
    P q = IsIndexedAt capacities flow q (all_after c bs) (timeline_at new q)

    or_other : (i j : ℕ) → (i ≡ j) ⊎ (i ≢ j)
    or_other i j = grind arith
