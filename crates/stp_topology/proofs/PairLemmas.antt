-- Pairs that a test finds among the `child` lines.
use Rattle.std.proofs.Common.{◌≡◌, ℕ, zero, suc, ◌==◌, ◌&&◌, ◌||◌, List, [], ◌∷◌, Bool, true, false, Some, slice_get, ◌∙◌, refl, ap, arith, ◌⊎◌, inl, inr, subst}
use Rattle.std.specs.List.{list_any}
use Rattle.std.proofs.lemmas.Bool.Decides.{nat_tests}
use Rattle.stp_topology.specs.Lines.{has_pair}
use Rattle.stp_topology.specs.Laws.{IsChild}

pub one_of : (a b : Bool) → (a || b) ≡ true → (a ≡ true) ⊎ (b ≡ true)
one_of true b h = inl refl
one_of false b h = inr h

pub both_of : (a b : Bool) → (a && b) ≡ true → (a ≡ true) × (b ≡ true)
both_of a b h = (grind arith, grind arith)

pub both_are : (a b : Bool) → a ≡ true → b ≡ true → (a && b) ≡ true
both_are a b h g = grind arith

pub first_is_so : (a b : Bool) → a ≡ true → (a || b) ≡ true
first_is_so a b h = grind arith

pub second_is_so : (a b : Bool) → b ≡ true → (a || b) ≡ true
second_is_so a b h = grind arith

pub is_equal : (a b : ℕ) → (a == b) ≡ true → a ≡ b
is_equal a b h = grind (arith, nat_tests)

pub equal_is : (a b : ℕ) → a ≡ b → (a == b) ≡ true
equal_is a b h = grind (arith, nat_tests)

-- an element that passes the test
pub found_any : {X : Type 0} (p : X → Bool) (xs : List X) → list_any p xs ≡ true → (k : ℕ) × (x : X) × (slice_get xs k ≡ Some x) × (p x ≡ true)
found_any p [] h = cc
found_any p (x ∷ xs) h = elim (one_of (p x) (list_any p xs) h) [
  | inl e ↦ (0, x, refl, e)
  | inr e ↦ let r = found_any p xs e in (suc r.0, r.1, r.2, r.3)
]

pub any_found : {X : Type 0} (p : X → Bool) (xs : List X) (k : ℕ) (x : X) → slice_get xs k ≡ Some x → p x ≡ true → list_any p xs ≡ true
any_found p [] k x h q = cc
any_found p (y ∷ xs) zero x h q = let same : y ≡ x = cc in first_is_so (p y) (list_any p xs) (ap p same ∙ q)
any_found p (y ∷ xs) (suc k) x h q = second_is_so (p y) (list_any p xs) (any_found p xs k x h q)

-- a child that passes the test
pub found_child : (q : ℕ → Bool) (pairs : List (ℕ × ℕ)) (a : ℕ) → list_any (λ e. (e.0 == a) && q e.1) pairs ≡ true → (c : ℕ) × IsChild pairs a c × (q c ≡ true)
found_child q pairs a h =
    let r = found_any (λ (e : ℕ × ℕ). (e.0 == a) && q e.1) pairs h in
    let b = both_of (r.1.0 == a) (q r.1.1) r.3 in
    (r.1.1, record { place = r.0; stands = r.2 ∙ ap (λ x. Some (x, r.1.1)) (is_equal r.1.0 a b.0) }, b.1)

pub child_found : (q : ℕ → Bool) (pairs : List (ℕ × ℕ)) (a c : ℕ) → IsChild pairs a c → q c ≡ true → list_any (λ e. (e.0 == a) && q e.1) pairs ≡ true
child_found q pairs a c g t = any_found (λ (e : ℕ × ℕ). (e.0 == a) && q e.1) pairs g.place (a, c) g.stands (both_are (a == a) (q c) (equal_is a a refl) t)

-- whether a pair stands there
pub pair_found : (pairs : List (ℕ × ℕ)) (i j : ℕ) → IsChild pairs i j → has_pair pairs i j ≡ true
pair_found pairs i j g = child_found (λ c. c == j) pairs i j g (equal_is j j refl)

pub found_pair : (pairs : List (ℕ × ℕ)) (i j : ℕ) → has_pair pairs i j ≡ true → IsChild pairs i j
found_pair pairs i j h =
    let r = found_child (λ c. c == j) pairs i h in
    subst (IsChild pairs i) (is_equal r.0 j r.2) r.1

pub no_pair : (pairs : List (ℕ × ℕ)) (i j k : ℕ) → has_pair pairs i j ≡ false → slice_get pairs k ≡ Some (i, j) → ⊥
no_pair pairs i j k h g = clash (has_pair pairs i j) h (pair_found pairs i j (record { place = k; stands = g }))
  where
    clash : (b : Bool) → b ≡ false → b ≡ true → ⊥
    clash true e f = cc
    clash false e f = cc
