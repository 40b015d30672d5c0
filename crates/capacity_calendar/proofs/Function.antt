-- The first lack as a function.
use Rattle.std.proofs.Common.{◌≡◌, ◌≢◌, ◌⊎◌, inl, inr, ◌≤◌, ◌<◌, ◌+◌, ◌-◌, ℕ, zero, suc, Bool, true, false, cond, List, [], ◌∷◌, Option, Some, None, arith, refl, sym, ap, ◌∙◌, subst}
use Rattle.std.proofs.lemmas.Bool.Decides.{nat_tests, eqb_tells}
use Rattle.nsi_base.specs.Range.{Span, is_covered}
use Rattle.nsi_base.specs.declared.flow.Flow.{Flow}
use Rattle.capacity_calendar.specs.declared.booking.Booking.{Booking}
use Rattle.capacity_calendar.specs.declared.booking.Capacity.{Capacity}
use Rattle.capacity_calendar.specs.declared.booking.Lack.{Lack}
use Rattle.capacity_calendar.specs.declared.booking.Place.{Place}
use Rattle.capacity_calendar.specs.Load.{load, others}
use Rattle.capacity_calendar.specs.Lack.{or_else, lacks_by, is_lacking, lack_of, lack_at, first_from, first_lack_by, first_lack_among, loads}
use Rattle.capacity_calendar.specs.Plan.{first_lack_at}
use Rattle.capacity_calendar.specs.Places.{capacity_at, place_if}
use Rattle.capacity_calendar.specs.Search.{IsFirst, HasRoom}

split : (t f : ℕ) → t ≤ f → (t ≡ f) ⊎ (t < f)
split t f a = elim (eqb_tells t f) [ inl p ↦ inl p.1 | inr q ↦ inr (below t f a q.1) ]
  where
    below : (t f : ℕ) → t ≤ f → t ≢ f → t < f
    below t f a n = omega arith

first_from-none : {X : Type 0} (found : ℕ → Option X) (n t : ℕ) → ((s : ℕ) → t ≤ s → s < t + n → found s ≡ None) → first_from found n t ≡ None
unfolding first_from
first_from-none found zero t h = refl
first_from-none found (suc n) t h =
    ap (λ o. or_else o (first_from found n (suc t))) (h t (omega arith) (omega arith))
    ∙ first_from-none found n (suc t) (λ s a b. h s (omega arith) (omega arith))

first_from-some : {X : Type 0} (found : ℕ → Option X) (n t f : ℕ) (x : X) → t ≤ f → f < t + n → found f ≡ Some x → ((s : ℕ) → t ≤ s → s < f → found s ≡ None) → first_from found n t ≡ Some x
unfolding first_from
first_from-some found zero t f x a b l h = absurd (omega arith)
first_from-some {X} found (suc n) t f x a b l h = elim (split t f a) [
  | inl e ↦ ap (λ o. or_else o (first_from found n (suc t))) (subst (λ (s : ℕ). found s ≡ Some x) (sym e) l)
  | inr m ↦ ap (λ o. or_else o (first_from found n (suc t))) (h t (omega arith) m) ∙ first_from-some found n (suc t) f x m (omega arith) l (λ s c d. h s (omega arith) d)
]

covered_bounds : (span : Span) (t : ℕ) → is_covered span t ≡ true → (span.start ≤ t) × (t < span.end)
covered_bounds span t h = grind (arith, nat_tests)

-- the lack of one place at a second
one_lack : (place : Place) (l : Flow → ℕ → ℕ → ℕ) (mbps t : ℕ) → lack_at l (place ∷ []) mbps t ≡ cond (lacks_by l place mbps t) (Some (lack_of place (l place.flow place.stp t) t)) None
unfolding lack_at
one_lack place l mbps t = refl

lack_unless : (place : Place) (l : Flow → ℕ → ℕ → ℕ) (mbps t : ℕ) → lacks_by l place mbps t ≡ false → lack_at l (place ∷ []) mbps t ≡ None
lack_unless place l mbps t h = one_lack place l mbps t ∙ ap (λ b. cond b (Some (lack_of place (l place.flow place.stp t) t)) None) h

lack_where : (place : Place) (l : Flow → ℕ → ℕ → ℕ) (mbps t : ℕ) → lacks_by l place mbps t ≡ true → lack_at l (place ∷ []) mbps t ≡ Some (lack_of place (l place.flow place.stp t) t)
lack_where place l mbps t h = one_lack place l mbps t ∙ ap (λ b. cond b (Some (lack_of place (l place.flow place.stp t) t)) None) h

-- where none lacks, there is no first lack
pub no_first_lack : (place : Place) (l : Flow → ℕ → ℕ → ℕ) (mbps : ℕ) (span : Span) → span.start < span.end → HasRoom (lacks_by l place mbps) span → first_lack_by l (place ∷ []) span mbps ≡ None
unfolding first_lack_by
no_first_lack place l mbps span w h = first_from-none (lack_at l (place ∷ []) mbps) (span.end - span.start) span.start (λ s a b. lack_unless place l mbps s (h s a (omega arith)))

-- the first second that lacks gives the first lack
pub first_lack_here : (place : Place) (l : Flow → ℕ → ℕ → ℕ) (mbps : ℕ) (span : Span) (t : ℕ) → span.start < span.end → IsFirst (lacks_by l place mbps) span t
    → first_lack_by l (place ∷ []) span mbps ≡ Some (lack_of place (l place.flow place.stp t) t)
unfolding first_lack_by
first_lack_here place l mbps span t w h =
    let c = covered_bounds span t h.covered in
    first_from-some (lack_at l (place ∷ []) mbps) (span.end - span.start) span.start t _ c.0 (omega (arith, c.1)) (lack_where place l mbps t h.lacking) (λ s a b. lack_unless place l mbps s (h.before s a b))

-- the answers of a check
pub none_answer : (capacities : List Capacity) (bs : List Booking) (number stp : ℕ) (flow : Flow) (span : Span) (mbps capacity : ℕ) → capacity_at capacities stp flow ≡ Some capacity → span.start < span.end
    → HasRoom (is_lacking (record { stp = stp; flow = flow; capacity = capacity }) (others number bs) mbps) span → first_lack_at (record { capacities = capacities; bookings = bs }) number stp flow span mbps ≡ None
none_answer capacities bs number stp flow span mbps capacity e w h =
    ap (λ o. first_lack_among (place_if o stp flow true) (others number bs) span mbps) e ∙ no_first_lack (record { stp = stp; flow = flow; capacity = capacity }) (loads (others number bs)) mbps span w h

pub some_answer : (capacities : List Capacity) (bs : List Booking) (number stp : ℕ) (flow : Flow) (span : Span) (mbps capacity t : ℕ) → capacity_at capacities stp flow ≡ Some capacity → span.start < span.end
    → IsFirst (is_lacking (record { stp = stp; flow = flow; capacity = capacity }) (others number bs) mbps) span t
    → first_lack_at (record { capacities = capacities; bookings = bs }) number stp flow span mbps
    ≡ Some (record { stp = stp; flow = flow; second = t; load = load flow stp t (others number bs); capacity = capacity })
some_answer capacities bs number stp flow span mbps capacity t e w h =
    ap (λ o. first_lack_among (place_if o stp flow true) (others number bs) span mbps) e ∙ first_lack_here (record { stp = stp; flow = flow; capacity = capacity }) (loads (others number bs)) mbps span t w h

-- no place lacks where there is none
pub none_among : (l : Flow → ℕ → ℕ → ℕ) (span : Span) (mbps : ℕ) → first_lack_by l [] span mbps ≡ None
unfolding first_lack_by lack_at
none_among l span mbps = first_from-none {X = Lack} (λ t. None) (span.end - span.start) span.start (λ s a b. refl)

pub not_booked : (o : Option ℕ) (stp : ℕ) (flow : Flow) (booked : Bool) (l : Flow → ℕ → ℕ → ℕ) (span : Span) (mbps : ℕ) → booked ≡ false → first_lack_by l (place_if o stp flow booked) span mbps ≡ None
not_booked None stp flow booked l span mbps h = none_among l span mbps
not_booked (Some c) stp flow booked l span mbps h = ap (λ b. first_lack_by l (place_if (Some c) stp flow b) span mbps) h ∙ none_among l span mbps

pub no_such_flow : (o : Option ℕ) (stp : ℕ) (flow : Flow) (booked : Bool) (l : Flow → ℕ → ℕ → ℕ) (span : Span) (mbps : ℕ) → o ≡ None → first_lack_by l (place_if o stp flow booked) span mbps ≡ None
no_such_flow o stp flow booked l span mbps h = ap (λ x. first_lack_by l (place_if x stp flow booked) span mbps) h ∙ none_among l span mbps
