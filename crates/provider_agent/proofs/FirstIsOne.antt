-- There is one first lack, and none where there is room.
use Rattle.std.proofs.Common.{◌≡◌, ◌≤◌, ◌<◌, ◌+◌, inl, inr, ◌∙◌, ℕ, true, List, [], ◌∷◌, ◌++◌, Option, Some, None, arith, refl, sym, ap, subst}
use Rattle.std.specs.List.{Contains}
use Rattle.std.proofs.lemmas.Bool.{cases_lt}
use Rattle.std.proofs.lemmas.Bool.Decides.{nat_tests}
use Rattle.std.proofs.lemmas.List.Elements.{Contains-append_left, Contains-append_right, Contains-push}
use Rattle.nsi_base.specs.Range.{Span, is_covered}
use Rattle.nsi_base.specs.declared.flow.Flow.{Flow}
use Rattle.capacity_calendar.specs.declared.booking.Lack.{Lack}
use Rattle.capacity_calendar.specs.declared.booking.Place.{Place}
use Rattle.capacity_calendar.specs.Lack.{lack_of, first_lack_by, IsFirstAmong}
use Rattle.capacity_calendar.proofs.FirstLack.{room_where_none, first_where_some}

-- At each second of the span each place of the list has room.
abbrev pub HasRoomAt : (Flow → ℕ → ℕ → ℕ) → List Place → Span → ℕ → Type 0
HasRoomAt loaded places span mbps = (p : Place) (t : ℕ) → Contains places p → is_covered span t ≡ true → loaded p.flow p.stp t + mbps ≤ p.capacity

first_in : {X : Type 0} (x : X) (xs : List X) → Contains (x ∷ xs) x
first_in x xs = Contains-append_left (x ∷ []) xs x (Contains-push [] x)

later_in : {X : Type 0} (y : X) (xs : List X) (x : X) → Contains xs x → Contains (y ∷ xs) x
later_in y xs x c = Contains-append_right (y ∷ []) xs x c

start_of : (span : Span) (t : ℕ) → is_covered span t ≡ true → span.start ≤ t
start_of span t h = grind (arith, nat_tests)

-- the place that lacks first is one of the list
place_in : (loaded : Flow → ℕ → ℕ → ℕ) (places : List Place) (span : Span) (mbps : ℕ) (lack : Lack) → (f : IsFirstAmong loaded places span mbps lack) → Contains places f.place
place_in loaded places span mbps lack f =
    subst (λ (xs : List Place). Contains xs f.place) (sym f.places_are) (Contains-append_right f.front (f.place ∷ f.back) f.place (first_in f.place f.back))

-- where there is room nothing lacks first
no_first : (loaded : Flow → ℕ → ℕ → ℕ) (places : List Place) (span : Span) (mbps : ℕ) (lack : Lack) → HasRoomAt loaded places span mbps → IsFirstAmong loaded places span mbps lack → ⊥
no_first loaded places span mbps lack room f =
    let fits = room f.place lack.second (place_in loaded places span mbps lack f) f.covered in
    let lacks = f.lacking in
    omega (arith, fits, lacks)

-- none that is first is before another
not_before : (loaded : Flow → ℕ → ℕ → ℕ) (places : List Place) (span : Span) (mbps : ℕ) (a b : Lack) → IsFirstAmong loaded places span mbps a → IsFirstAmong loaded places span mbps b → b.second ≤ a.second
not_before loaded places span mbps a b f g = elim (cases_lt a.second b.second) [
  | inl lt ↦ absurd (let fits = g.before a.second (start_of span a.second f.covered) lt f.place (place_in loaded places span mbps a f) in let lacks = f.lacking in omega (arith, fits, lacks))
  | inr le ↦ le
]

heads : {X : Type 0} (x y : X) (xs ys : List X) → x ∷ xs ≡ y ∷ ys → x ≡ y
heads x y xs ys e = cc

tails : {X : Type 0} (x y : X) (xs ys : List X) → x ∷ xs ≡ y ∷ ys → xs ≡ ys
tails x y xs ys e = cc

-- two that stand in one list, each behind places with room, are the same
same_place : (load : Place → ℕ) (f g : List Place) (a b : Place) (us vs : List Place) → f ++ a ∷ us ≡ g ++ b ∷ vs → a.capacity < load a → b.capacity < load b
    → ((p : Place) → Contains f p → load p ≤ p.capacity) → ((p : Place) → Contains g p → load p ≤ p.capacity) → a ≡ b
same_place load [] [] a b us vs e la lb rf rg = heads a b us vs e
same_place load [] (y ∷ g) a b us vs e la lb rf rg =
    absurd (let fits = subst (λ (p : Place). load p ≤ p.capacity) (sym (heads a y us (g ++ b ∷ vs) e)) (rg y (first_in y g)) in omega (arith, fits, la))
same_place load (x ∷ f) [] a b us vs e la lb rf rg =
    absurd (let fits = subst (λ (p : Place). load p ≤ p.capacity) (heads x b (f ++ a ∷ us) vs e) (rf x (first_in x f)) in omega (arith, fits, lb))
same_place load (x ∷ f) (y ∷ g) a b us vs e la lb rf rg =
    same_place load f g a b us vs (tails x y (f ++ a ∷ us) (g ++ b ∷ vs) e) la lb (λ p c. rf p (later_in x f p c)) (λ p c. rg p (later_in y g p c))

-- Two lacks that are first are the same.
pub first_is_one : (loaded : Flow → ℕ → ℕ → ℕ) (places : List Place) (span : Span) (mbps : ℕ) (a b : Lack) → IsFirstAmong loaded places span mbps a → IsFirstAmong loaded places span mbps b → a ≡ b
first_is_one loaded places span mbps a b f g = f.lack_is ∙ (ap (λ t. lack_of f.place (loaded f.place.flow f.place.stp t) t) second ∙ (ap (λ (p : Place). lack_of p (loaded p.flow p.stp b.second) b.second) place ∙ sym g.lack_is))
  where
    second : a.second ≡ b.second
    second = omega (arith, not_before loaded places span mbps a b f g, not_before loaded places span mbps b a g f)

    place : f.place ≡ g.place
    place =
        same_place (λ p. loaded p.flow p.stp b.second + mbps) f.front g.front f.place g.place f.back g.back (sym f.places_are ∙ g.places_are)
        (subst (λ t. f.place.capacity < loaded f.place.flow f.place.stp t + mbps) second f.lacking) g.lacking
        (λ p c. subst (λ t. loaded p.flow p.stp t + mbps ≤ p.capacity) second (f.in_front p c)) g.in_front

-- The first lack is found,
pub first_lack_found : (loaded : Flow → ℕ → ℕ → ℕ) (places : List Place) (span : Span) (mbps : ℕ) (lack : Lack) → IsFirstAmong loaded places span mbps lack → first_lack_by loaded places span mbps ≡ Some lack
first_lack_found loaded places span mbps lack f = by_found (first_lack_by loaded places span mbps) refl
  where
    by_found : (o : Option Lack) → first_lack_by loaded places span mbps ≡ o → o ≡ Some lack
    by_found None e = absurd (no_first loaded places span mbps lack (λ p t c w. room_where_none loaded places span mbps e p c t w) f)
    by_found (Some x) e = ap (λ (l : Lack). Some l) (first_is_one loaded places span mbps x lack (first_where_some loaded places span mbps x e) f)

-- and none where there is room.
pub none_where_room : (loaded : Flow → ℕ → ℕ → ℕ) (places : List Place) (span : Span) (mbps : ℕ) → HasRoomAt loaded places span mbps → first_lack_by loaded places span mbps ≡ None
none_where_room loaded places span mbps room = by_found (first_lack_by loaded places span mbps) refl
  where
    by_found : (o : Option Lack) → first_lack_by loaded places span mbps ≡ o → o ≡ None
    by_found None e = refl
    by_found (Some x) e = absurd (no_first loaded places span mbps x room (first_where_some loaded places span mbps x e))
