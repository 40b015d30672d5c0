-- A load lasts as long as no slot starts or ends.
use Rattle.std.proofs.Common.{◌≡◌, ◌≢◌, ◌≤◌, ◌<◌, ◌+◌, ◌-◌, ◌⊎◌, inl, inr, ℕ, zero, suc, ◌&&◌, List, [], ◌∷◌, Bool, true, false, cond, eqb, max, length, Option, Some, None, arith, refl, sym, ap, ◌∙◌, subst}
use Rattle.std.proofs.lemmas.Bool.Decides.{nat_tests}
use Rattle.std.proofs.lemmas.List.Sums.{sum_by-cons}
use Rattle.nsi_base.specs.Range.{Span, is_covered}
use Rattle.nsi_base.specs.declared.flow.Flow.{Flow}
use Rattle.capacity_calendar.specs.declared.booking.Booking.{Booking}
use Rattle.capacity_calendar.specs.declared.booking.Point.{Point}
use Rattle.capacity_calendar.specs.declared.booking.Slot.{Slot}
use Rattle.capacity_calendar.specs.Load.{books_slot, taken, larger_taken, claim, load, others}
use Rattle.capacity_calendar.specs.Index.{one_if, slot_ends, booking_ends, ends, point_at, second_at, ends_by, load_before, IsOrderly, IsCount, AreLoads, Tells, IsIndex}
use Rattle.capacity_calendar.proofs.Within.{others_le}

both_zero : (a b : ℕ) → a + b ≡ 0 → (a ≡ 0) × (b ≡ 0)
both_zero a b h = (omega (arith, h), omega (arith, h))

one_of_same : (a : ℕ) → one_if (eqb a a) ≡ 1
one_of_same a = let e : eqb a a ≡ true = grind (arith, nat_tests) in ap one_if e

-- what isn't between two seconds comes before or after them
outside : (s t a : ℕ) → (s < a → a ≤ t → ⊥) → (a ≤ s) ⊎ (t < a)
outside s t a h = elim (first s a) [ inl e ↦ inl e | inr l ↦ elim (first t a) [ inl e ↦ absurd (h l e) | inr m ↦ inr m ] ]
  where
    first : (a b : ℕ) → (b ≤ a) ⊎ (a < b)
    first a b = grind arith

same_cover : (span : Span) (s t : ℕ) → s ≤ t → (span.start ≤ s) ⊎ (t < span.start) → (span.end ≤ s) ⊎ (t < span.end) → is_covered span t ≡ is_covered span s
same_cover span s t le (inl a) (inl b) = grind (arith, nat_tests)
same_cover span s t le (inl a) (inr b) = grind (arith, nat_tests)
same_cover span s t le (inr a) (inl b) = grind (arith, nat_tests)
same_cover span s t le (inr a) (inr b) = grind (arith, nat_tests)

slot_lasts : (flow : Flow) (stp s t : ℕ) (o : Option Slot) → s ≤ t → ((u : ℕ) → s < u → u ≤ t → slot_ends flow stp u o ≡ 0) → taken flow stp t o ≡ taken flow stp s o
unfolding slot_ends
slot_lasts flow stp s t None le h = refl
slot_lasts flow stp s t (Some x) le h = by_books (books_slot flow stp x) h
  where
    by_books : (c : Bool) → ((u : ℕ) → s < u → u ≤ t → cond c (one_if (eqb x.interval.start u) + one_if (eqb x.interval.end u)) 0 ≡ 0)
        → cond (c && is_covered x.interval t) x.mbps 0 ≡ cond (c && is_covered x.interval s) x.mbps 0
    by_books false g = refl
    by_books true g =
        ap (λ d. cond d x.mbps 0)
        (same_cover x.interval s t le
        (outside s t x.interval.start (λ a b. absurd (omega (arith, g x.interval.start a b, one_of_same x.interval.start))))
        (outside s t x.interval.end (λ a b. absurd (omega (arith, g x.interval.end a b, one_of_same x.interval.end)))))

not_covered : (span : Span) (t : ℕ) → t < span.start → is_covered span t ≡ false
not_covered span t h = grind (arith, nat_tests)

slot_nothing : (flow : Flow) (stp t : ℕ) (o : Option Slot) → ((u : ℕ) → u ≤ t → slot_ends flow stp u o ≡ 0) → taken flow stp t o ≡ 0
unfolding slot_ends
slot_nothing flow stp t None h = refl
slot_nothing flow stp t (Some x) h = by_books (books_slot flow stp x) h
  where
    later : (a : ℕ) → (a ≤ t → ⊥) → t < a
    later a n = elim (or a) [ inl e ↦ absurd (n e) | inr l ↦ l ]
      where
        or : (a : ℕ) → (a ≤ t) ⊎ (t < a)
        or a = grind arith

    by_books : (c : Bool) → ((u : ℕ) → u ≤ t → cond c (one_if (eqb x.interval.start u) + one_if (eqb x.interval.end u)) 0 ≡ 0) → cond (c && is_covered x.interval t) x.mbps 0 ≡ 0
    by_books false g = refl
    by_books true g =
        ap (λ d. cond d x.mbps 0)
        (not_covered x.interval t (later x.interval.start (λ a. absurd (omega (arith, g x.interval.start a, one_of_same x.interval.start)))))

-- the load lasts
pub load_lasts : (flow : Flow) (stp s t : ℕ) (bs : List Booking) → s ≤ t → ((u : ℕ) → s < u → u ≤ t → ends flow stp u bs ≡ 0) → load flow stp t bs ≡ load flow stp s bs
unfolding larger_taken
load_lasts flow stp s t [] le h = refl
load_lasts flow stp s t (b ∷ bs) le h =
    let parts : (u : ℕ) → s < u → u ≤ t → (booking_ends flow stp u b ≡ 0) × (ends flow stp u bs ≡ 0) = λ u x y. both_zero (booking_ends flow stp u b) (ends flow stp u bs) (sym (sum_by-cons (booking_ends flow stp u) b bs) ∙ h u x y) in
    let committed = slot_lasts flow stp s t b.committed le (λ u x y. (both_zero (slot_ends flow stp u b.committed) (slot_ends flow stp u b.pending) (parts u x y).0).0) in
    let pending = slot_lasts flow stp s t b.pending le (λ u x y. (both_zero (slot_ends flow stp u b.committed) (slot_ends flow stp u b.pending) (parts u x y).0).1) in
    let own : claim flow stp t b ≡ claim flow stp s b = ap (λ x. max x (taken flow stp t b.pending)) committed ∙ ap (max (taken flow stp s b.committed)) pending in
    sum_by-cons (claim flow stp t) b bs ∙ ap (λ x. x + load flow stp t bs) own ∙ ap (λ x. claim flow stp s b + x) (load_lasts flow stp s t bs le (λ u x y. (parts u x y).1)) ∙ sym (sum_by-cons (claim flow stp s) b bs)

-- before the first start there is none
pub load_nothing : (flow : Flow) (stp t : ℕ) (bs : List Booking) → ((u : ℕ) → u ≤ t → ends flow stp u bs ≡ 0) → load flow stp t bs ≡ 0
unfolding larger_taken
load_nothing flow stp t [] h = refl
load_nothing flow stp t (b ∷ bs) h =
    let parts : (u : ℕ) → u ≤ t → (booking_ends flow stp u b ≡ 0) × (ends flow stp u bs ≡ 0) = λ u y. both_zero (booking_ends flow stp u b) (ends flow stp u bs) (sym (sum_by-cons (booking_ends flow stp u) b bs) ∙ h u y) in
    let committed = slot_nothing flow stp t b.committed (λ u y. (both_zero (slot_ends flow stp u b.committed) (slot_ends flow stp u b.pending) (parts u y).0).0) in
    let pending = slot_nothing flow stp t b.pending (λ u y. (both_zero (slot_ends flow stp u b.committed) (slot_ends flow stp u b.pending) (parts u y).0).1) in
    omega (arith, sum_by-cons (claim flow stp t) b bs, committed, pending, load_nothing flow stp t bs (λ u y. (parts u y).1))

-- so an index tells the load
pub tells_load : (flow : Flow) (stp : ℕ) (bs : List Booking) (ps : List Point) → IsIndex flow stp bs ps → Tells (λ t. load flow stp t bs) ps
tells_load flow stp bs ps i = record {
  loads = i.loads;
  lasts = λ s t le h. load_lasts flow stp s t bs le (λ u x y. sym (i.ends u) ∙ h u x y);
  nothing = λ t h. load_nothing flow stp t bs (λ u y. sym (i.ends u) ∙ h u y);
}

-- and lasts of the others alone, too
pub others_last : (flow : Flow) (stp number s t : ℕ) (bs : List Booking) (ps : List Point) → IsIndex flow stp bs ps → s ≤ t → ((u : ℕ) → s < u → u ≤ t → ends_by ps u ≡ 0) → load flow stp t (others number bs) ≡ load flow stp s (others number bs)
others_last flow stp number s t bs ps i le h = load_lasts flow stp s t (others number bs) le (λ u x y. omega (arith, others_le (booking_ends flow stp u) number bs, i.ends u, h u x y))

---- Where the points are

-- no end is counted where no point is
pub no_ends : (ps : List Point) (u : ℕ) → ((k : ℕ) → k < length ps → second_at ps k ≢ u) → ends_by ps u ≡ 0
unfolding ends_by
no_ends [] u h = refl
no_ends (p ∷ ps) u h =
    let here : eqb p.second u ≡ false = other p.second u (h 0 (omega arith)) in
    omega (arith, sum_by-cons (λ q. cond (eqb q.second u) q.ends 0) p ps, ap (λ c. cond c p.ends 0) here, no_ends ps u (λ k lt. h (suc k) (omega arith)))
  where
    other : (a b : ℕ) → a ≢ b → eqb a b ≡ false
    other a b n = grind (arith, nat_tests)

pub up_to : (ps : List Point) (k m : ℕ) → IsOrderly ps → k ≤ m → m < length ps → second_at ps k ≤ second_at ps m
up_to ps k m o le lt = elim (or k m le) [
  | inl e ↦ subst (λ (j : ℕ). second_at ps k ≤ second_at ps j) e (omega arith)
  | inr l ↦ omega (arith, o.order k m l lt)
]
  where
    or : (a b : ℕ) → a ≤ b → (a ≡ b) ⊎ (a < b)
    or a b h = grind arith

-- between a point and the next there is none
pub none_between : (ps : List Point) (m bound n u : ℕ) → IsOrderly ps → IsCount ps bound n → suc m ≡ n → second_at ps m < u → u < bound → ends_by ps u ≡ 0
none_between ps m bound n u o c e a b = no_ends ps u (λ k lt same. elim (or k n) [
  | inl l ↦ absurd (omega (arith, up_to ps k m o (omega arith) (omega (arith, c.within)), same))
  | inr g ↦ absurd (omega (arith, c.after k g lt, same))
])
  where
    or : (a b : ℕ) → (a < b) ⊎ (b ≤ a)
    or a b = grind arith

-- the load that the points before a second tell
pub told_before : (f : ℕ → ℕ) (ps : List Point) (bound n t : ℕ) → IsOrderly ps → IsCount ps bound n → bound ≡ t + 1 → Tells f ps → load_before ps n ≡ f t
unfolding AreLoads
told_before f ps bound zero t o c e h = sym (h.nothing t (λ u le. no_ends ps u (λ k lt same. absurd (omega (arith, c.after k (omega arith) lt, same)))))
told_before f ps bound (suc m) t o c e h =
    let some : eqb (suc m) 0 ≡ false = grind (arith, nat_tests) in
    let back : suc m - 1 ≡ m = omega arith in
    let le : second_at ps m ≤ t = omega (arith, c.before m (omega arith)) in
    ap (λ d. cond d 0 (point_at ps (suc m - 1)).load) some ∙ ap (λ j. (point_at ps j).load) back ∙ h.loads m (omega (arith, c.within))
    ∙ sym (h.lasts (second_at ps m) t le (λ u a b. none_between ps m bound (suc m) u o c refl a (omega arith)))
