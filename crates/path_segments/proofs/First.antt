-- The least path has each child at its first position.
use Rattle.std.proofs.Common.{◌≡◌, ◌≢◌, ℕ, zero, suc, ◌+◌, ◌≤◌, ◌==◌, ◌⊎◌, inl, inr, List, [], ◌∷◌, Option, Some, true, false, length, get_or, slice_get, sym, ◌∙◌, refl, subst, ap, arith}
use Rattle.std.proofs.lemmas.Bool.{cases_lt, cases_eq}
use Rattle.path_segments.specs.declared.path.PlacedSegment.{PlacedSegment}
use Rattle.path_segments.specs.Paths.{IsSegment, Onward, Chain, points, places, Before, Less, position_of, placed}
use Rattle.path_segments.specs.Paths.Less.{by_places}
use Rattle.path_segments.specs.Named.{named}

position_here : (x : ℕ) (xs : List ℕ) (k : ℕ) → x ≡ k → position_of (x ∷ xs) k ≡ 0
unfolding position_of
position_here x xs k e = let same : (x == k) ≡ true = grind arith in rw same refl

position_there : (x : ℕ) (xs : List ℕ) (k : ℕ) → x ≢ k → position_of (x ∷ xs) k ≡ position_of xs k + 1
unfolding position_of
position_there x xs k e = let other : (x == k) ≡ false = grind arith in rw other refl

position_first : (xs : List ℕ) (p k : ℕ) → slice_get xs p ≡ Some k → (slice_get xs (position_of xs k) ≡ Some k) × (position_of xs k ≤ p)
position_first [] p k h = absurd (cc)
position_first (x ∷ xs) zero k h =
    let e : x ≡ k = cc in let z = position_here x xs k e in
    (subst (λ q. slice_get (x ∷ xs) q ≡ Some k) (sym z) h, omega (arith, z))
position_first (x ∷ xs) (suc p) k h = elim (cases_eq x k) [
  | inl e ↦ let z = position_here x xs k e in (subst (λ q. slice_get (x ∷ xs) q ≡ Some k) (sym z) (ap Some e), omega (arith, z))
  | inr e ↦ let g = position_first xs p k h in let z : position_of (x ∷ xs) k ≡ suc (position_of xs k) = omega (arith, position_there x xs k e) in
      (subst (λ q. slice_get (x ∷ xs) q ≡ Some k) (sym z) g.0, omega (arith, z, g.1))
]

pub read_of : (xs : List ℕ) (p k : ℕ) → slice_get xs p ≡ Some k → get_or xs p 0 ≡ k
read_of [] p k h = absurd (cc)
read_of (x ∷ xs) zero k h = cc
read_of (x ∷ xs) (suc p) k h = read_of xs p k h

abbrev first : List ℕ → ℕ → ℕ
first children place = position_of children (get_or children place 0)

segment_first : (offers : ℕ → ℕ → ℕ → Type 0) (children : List ℕ) (place p q : ℕ) → IsSegment offers children place p q → IsSegment offers children (first children place) p q × (first children place ≤ place)
segment_first offers children place p q s =
    let r = read_of children place s.child s.is_child in
    let g = position_first children place s.child s.is_child in (
      record { child = s.child; is_child = subst (λ z. slice_get children (position_of children z) ≡ Some s.child) (sym r) g.0; apart = s.apart; offered = s.offered },
      subst (λ z. position_of children z ≤ place) (sym r) g.1,
    )

abbrev again : List ℕ → List PlacedSegment → List PlacedSegment
again children xs = placed children (named children xs)

length_again : (children : List ℕ) (xs : List PlacedSegment) → length (again children xs) ≡ length xs
length_again children [] = refl
length_again children (x ∷ xs) = ap suc (length_again children xs)

points_again : (children : List ℕ) (xs : List PlacedSegment) → points (again children xs) ≡ points xs
points_again children [] = refl
points_again children (x ∷ xs) = ap (λ z. x.entry ∷ x.exit ∷ z) (points_again children xs)

onward_again : (pairs : ℕ → Option ℕ) (offers : ℕ → ℕ → ℕ → Type 0) (children : List ℕ) (exit dest : ℕ) (xs : List PlacedSegment)
    → Onward pairs (IsSegment offers children) exit dest xs → Onward pairs (IsSegment offers children) exit dest (again children xs)
onward_again pairs offers children exit dest [] h = h
onward_again pairs offers children exit dest (x ∷ xs) h = (h.0, (segment_first offers children x.place x.entry x.exit h.1).0, onward_again pairs offers children x.exit dest xs h.2)

chain_again : (pairs : ℕ → Option ℕ) (offers : ℕ → ℕ → ℕ → Type 0) (children : List ℕ) (source dest : ℕ) (xs : List PlacedSegment)
    → Chain pairs (IsSegment offers children) source dest xs → Chain pairs (IsSegment offers children) source dest (again children xs)
chain_again pairs offers children source dest [] h = h
chain_again pairs offers children source dest (x ∷ xs) h = (h.0, (segment_first offers children x.place x.entry x.exit h.1).0, onward_again pairs offers children x.exit dest xs h.2)

abbrev IsFirst : List ℕ → List PlacedSegment → Type 0
IsFirst children xs = (again children xs ≡ xs) ⊎ Before (places (again children xs)) (places xs)

first_front : (children : List ℕ) (x : PlacedSegment) (xs : List PlacedSegment) → first children x.place ≤ x.place → IsFirst children xs → IsFirst children (x ∷ xs)
first_front children x xs l h = elim (cases_lt (first children x.place) x.place) [
  | inl g ↦ inr (inl g)
  | inr g ↦ let same : first children x.place ≡ x.place = omega arith in elim h [
    | inl e ↦ inl (ap (λ z. record { place = z; entry = x.entry; exit = x.exit } ∷ again children xs) same ∙ ap (λ (zs : List PlacedSegment). x ∷ zs) e)
    | inr b ↦ inr (inr (same, b))
  ]
]

first_onward : (pairs : ℕ → Option ℕ) (offers : ℕ → ℕ → ℕ → Type 0) (children : List ℕ) (exit dest : ℕ) (xs : List PlacedSegment)
    → Onward pairs (IsSegment offers children) exit dest xs → IsFirst children xs
first_onward pairs offers children exit dest [] h = inl refl
first_onward pairs offers children exit dest (x ∷ xs) h = first_front children x xs (segment_first offers children x.place x.entry x.exit h.1).1 (first_onward pairs offers children x.exit dest xs h.2)

first_chain : (pairs : ℕ → Option ℕ) (offers : ℕ → ℕ → ℕ → Type 0) (children : List ℕ) (source dest : ℕ) (xs : List PlacedSegment)
    → Chain pairs (IsSegment offers children) source dest xs → IsFirst children xs
first_chain pairs offers children source dest [] h = absurd h
first_chain pairs offers children source dest (x ∷ xs) h = first_front children x xs (segment_first offers children x.place x.entry x.exit h.1).1 (first_onward pairs offers children x.exit dest xs h.2)

-- else the path with the first positions would be less
pub least_again : (pairs : ℕ → Option ℕ) (offers : ℕ → ℕ → ℕ → Type 0) (children : List ℕ) (source dest : ℕ) (xs : List PlacedSegment)
    → Chain pairs (IsSegment offers children) source dest xs
    → ((other : List PlacedSegment) → Chain pairs (IsSegment offers children) source dest other → Less other xs → ⊥) → placed children (named children xs) ≡ xs
least_again pairs offers children source dest xs h least = elim (first_chain pairs offers children source dest xs h) [
  | inl e ↦ e
  | inr b ↦ absurd (least (again children xs) (chain_again pairs offers children source dest xs h) (by_places (length_again children xs) (points_again children xs) b))
]
