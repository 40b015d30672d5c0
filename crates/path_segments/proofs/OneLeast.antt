-- Of two least paths each is the other.
use Rattle.std.proofs.Common.{◌≡◌, ℕ, suc, ◌+◌, inl, inr, ◌==◌, true, false, List, [], ◌∷◌, length, Some, slice_get, refl, sym, ap, ◌∙◌, subst, arith}
use Rattle.std.proofs.lemmas.Bool.{cases_eq, cases_lt}
use Rattle.stp_topology.specs.declared.network.Network.{Network}
use Rattle.stp_topology.specs.Network.{children_of, partner_of}
use Rattle.path_segments.specs.declared.path.PlacedSegment.{PlacedSegment}
use Rattle.path_segments.specs.declared.path.Segment.{Segment}
use Rattle.path_segments.specs.Paths.{IsSegment, Offers, Onward, Chain, Less, Before, points, places, position_of, placed, greatest_rank, IsLeastPath}
use Rattle.path_segments.specs.Paths.Less.{fewer, by_points, by_places}

---- The order is total

-- of two lists of one length one comes before the other, or they are one
data Compared (xs ys : List ℕ) : Type 0 where
  comes_first : Before xs ys → Compared xs ys
  comes_last : Before ys xs → Compared xs ys
  is_same : xs ≡ ys → Compared xs ys

compared_next : (x y : ℕ) (xs ys : List ℕ) → x ≡ y → Compared xs ys → Compared (x ∷ xs) (y ∷ ys)
compared_next x y xs ys e (comes_first b) = comes_first (inr (e, b))
compared_next x y xs ys e (comes_last b) = comes_last (inr (sym e, b))
compared_next x y xs ys e (is_same s) = is_same (ap (λ z. z ∷ xs) e ∙ ap (λ zs. y ∷ zs) s)

compare : (xs ys : List ℕ) → length xs ≡ length ys → Compared xs ys
compare [] [] n = is_same refl
compare [] (y ∷ ys) n = absurd (omega arith)
compare (x ∷ xs) [] n = absurd (omega arith)
compare (x ∷ xs) (y ∷ ys) n = elim (cases_lt x y) [
  | inl l ↦ comes_first (inl l)
  | inr l ↦ elim (cases_lt y x) [
    | inl g ↦ comes_last (inl g)
    | inr g ↦ compared_next x y xs ys (omega arith) (compare xs ys (omega arith))
  ]
]

points_length : (xs ys : List PlacedSegment) → length xs ≡ length ys → length (points xs) ≡ length (points ys)
points_length [] [] n = refl
points_length [] (y ∷ ys) n = absurd (omega arith)
points_length (x ∷ xs) [] n = absurd (omega arith)
points_length (x ∷ xs) (y ∷ ys) n = ap (λ m. suc (suc m)) (points_length xs ys (omega arith))

places_length : (xs : List PlacedSegment) → length (places xs) ≡ length xs
places_length [] = refl
places_length (x ∷ xs) = ap suc (places_length xs)

-- points and places make the segments
one_list : (xs ys : List PlacedSegment) → points xs ≡ points ys → places xs ≡ places ys → xs ≡ ys
one_list [] [] p q = refl
one_list [] (y ∷ ys) p q = cc
one_list (x ∷ xs) [] p q = cc
one_list (x ∷ xs) (y ∷ ys) p q =
    let en : x.entry ≡ y.entry = cc in
    let ex : x.exit ≡ y.exit = cc in
    let pl : x.place ≡ y.place = cc in
    let ps : points xs ≡ points ys = cc in
    let qs : places xs ≡ places ys = cc in
    ap (λ z. record { place = z; entry = x.entry; exit = x.exit } ∷ xs) pl
    ∙ ap (λ z. record { place = y.place; entry = z; exit = x.exit } ∷ xs) en
    ∙ ap (λ z. record { place = y.place; entry = y.entry; exit = z } ∷ xs) ex
    ∙ ap (λ (zs : List PlacedSegment). y ∷ zs) (one_list xs ys ps qs)

neither_less : (xs ys : List PlacedSegment) → (Less xs ys → ⊥) → (Less ys xs → ⊥) → xs ≡ ys
neither_less xs ys l g = elim (cases_lt (length xs) (length ys)) [
  | inl f ↦ absurd (l (fewer f))
  | inr f ↦ elim (cases_lt (length ys) (length xs)) [
    | inl h ↦ absurd (g (fewer h))
    | inr h ↦ let n : length xs ≡ length ys = omega arith in by_order n (compare (points xs) (points ys) (points_length xs ys n)) (compare (places xs) (places ys) (places_length xs ∙ n ∙ sym (places_length ys)))
  ]
]
  where
    by_order : length xs ≡ length ys → Compared (points xs) (points ys) → Compared (places xs) (places ys) → xs ≡ ys
    by_order n (comes_first b) q = absurd (l (by_points n b))
    by_order n (comes_last b) q = absurd (g (by_points (sym n) b))
    by_order n (is_same p) (comes_first b) = absurd (l (by_places n p b))
    by_order n (is_same p) (comes_last b) = absurd (g (by_places (sym n) (sym p) b))
    by_order n (is_same p) (is_same q) = one_list xs ys p q

---- One least path

read_next : (x : ℕ) (xs : List ℕ) (n found : ℕ) → slice_get (x ∷ xs) (n + 1) ≡ Some found → slice_get xs n ≡ Some found
read_next x xs n found h = let e : n + 1 ≡ suc n = omega arith in (rw e at h)

-- what stands at a child's position is the child
pub at_position : (xs : List ℕ) (k found : ℕ) → slice_get xs (position_of xs k) ≡ Some found → found ≡ k
unfolding position_of
at_position [] k found h = absurd (cc)
at_position (x ∷ xs) k found h = elim (cases_eq x k) [
  | inl same ↦ let test : (x == k) ≡ true = grind arith in let e : Some x ≡ Some found = rw test at h in one x found e ∙ same
  | inr other ↦ let test : (x == k) ≡ false = grind arith in at_position xs k found (read_next x xs (position_of xs k) found (rw test at h))
]
  where
    one : (x found : ℕ) → Some x ≡ Some found → found ≡ x
    one x found e = cc

abbrev at_place : List ℕ → Segment → PlacedSegment
at_place children x = record { place = position_of children x.child; entry = x.entry; exit = x.exit }

segment_is : (t : Network) (children : List ℕ) (x y : Segment) (xs ys : List Segment) → at_place children x ≡ at_place children y
    → IsSegment (Offers t greatest_rank) children (position_of children x.child) x.entry x.exit → xs ≡ ys → x ∷ xs ≡ y ∷ ys
segment_is t children x y xs ys e g s =
    let place : position_of children x.child ≡ position_of children y.child = ap (λ (z : PlacedSegment). z.place) e in
    let P : ℕ → Type 0 = λ z. slice_get children z ≡ Some g.child in
    let child : x.child ≡ y.child = sym (at_position children x.child g.child g.is_child) ∙ at_position children y.child g.child (subst P place g.is_child) in
    let en : x.entry ≡ y.entry = ap (λ (z : PlacedSegment). z.entry) e in
    let ex : x.exit ≡ y.exit = ap (λ (z : PlacedSegment). z.exit) e in
    ap (λ z. record { child = z; entry = x.entry; exit = x.exit } ∷ xs) child
    ∙ ap (λ z. record { child = y.child; entry = z; exit = x.exit } ∷ xs) en
    ∙ ap (λ z. record { child = y.child; entry = y.entry; exit = z } ∷ xs) ex
    ∙ ap (λ (zs : List Segment). y ∷ zs) s

onward_one : (t : Network) (children : List ℕ) (exit dest : ℕ) (xs ys : List Segment) → Onward (partner_of t) (IsSegment (Offers t greatest_rank) children) exit dest (placed children xs)
    → placed children xs ≡ placed children ys → xs ≡ ys
onward_one t children exit dest [] [] h e = refl
onward_one t children exit dest [] (y ∷ ys) h e = cc
onward_one t children exit dest (x ∷ xs) [] h e = cc
onward_one t children exit dest (x ∷ xs) (y ∷ ys) h e = segment_is t children x y xs ys (cc) h.1 (onward_one t children x.exit dest xs ys h.2 (cc))

path_one : (t : Network) (children : List ℕ) (source dest : ℕ) (xs ys : List Segment) → Chain (partner_of t) (IsSegment (Offers t greatest_rank) children) source dest (placed children xs)
    → placed children xs ≡ placed children ys → xs ≡ ys
path_one t children source dest [] ys h e = absurd h
path_one t children source dest (x ∷ xs) [] h e = cc
path_one t children source dest (x ∷ xs) (y ∷ ys) h e = segment_is t children x y xs ys (cc) h.1 (onward_one t children x.exit dest xs ys h.2 (cc))

pub one_least : (t : Network) (a source dest : ℕ) (xs ys : List Segment) → IsLeastPath t a source dest xs → IsLeastPath t a source dest ys → xs ≡ ys
one_least t a source dest xs ys l g =
    path_one t (children_of t a) source dest xs ys l.path (neither_less (placed (children_of t a) xs) (placed (children_of t a) ys) (λ h. g.least xs l.path h) (λ h. l.least ys g.path h))
