-- Sums over agents, of whom one changes.
use Rattle.std.proofs.Common.{◌≤◌, ◌≡◌, ◌≢◌, ◌+◌, ◌⊎◌, inl, inr, ℕ, List, [], ◌∷◌, sym, subst, arith}
use Rattle.std.specs.List.{Contains, sum_by}
use Rattle.std.proofs.lemmas.Bool.{cases_eq}
use Rattle.std.proofs.lemmas.List.Elements.{All-head, All-tail, Contains-append_cases, Contains-push_cases}
use Rattle.std.proofs.lemmas.List.Sums.{sum_by-cons, sum_by-le-sum_by}
use Rattle.nsi_world.specs.Nets.{AreDistinct}
use Rattle.nsi_world.proofs.NetSteps.{IsAbsent, first_apart, rest_apart}

pub none_there : {X : Type 0} (x : X) → Contains [] x → ⊥
none_there x c = let lt = c.1 in omega (arith, lt)

pub first_or_later : {X : Type 0} (x : X) (xs : List X) (y : X) → Contains (x ∷ xs) y → (x ≡ y) ⊎ Contains xs y
first_or_later x xs y c = elim (Contains-append_cases (x ∷ []) xs y c) [
  | inl a ↦ elim (Contains-push_cases [] x y a) [ inl z ↦ absurd (none_there y z) | inr e ↦ inl e ]
  | inr b ↦ inr b
]

-- where one of them has one more, and none has less
pub sum_more : (f g : ℕ → ℕ) (a : ℕ) (ns : List ℕ) → ((b : ℕ) → f b ≤ g b) → f a + 1 ≤ g a → Contains ns a → sum_by f ns + 1 ≤ sum_by g ns
sum_more f g a [] low more c = absurd (none_there a c)
sum_more f g a (n ∷ ns) low more c = elim (first_or_later n ns a c) [
  | inl e ↦ omega (arith, sum_by-cons f n ns, sum_by-cons g n ns, sum_by-le-sum_by f g ns low, subst (λ b. f b + 1 ≤ g b) (sym e) more)
  | inr d ↦ omega (arith, sum_by-cons f n ns, sum_by-cons g n ns, low n, sum_more f g a ns low more d)
]

sum_others : (f g : ℕ → ℕ) (a : ℕ) (ns : List ℕ) → IsAbsent a ns → ((b : ℕ) → b ≢ a → g b ≤ f b) → sum_by g ns ≤ sum_by f ns
sum_others f g a [] absent low = omega arith
sum_others f g a (n ∷ ns) absent low =
    omega (arith, sum_by-cons f n ns, sum_by-cons g n ns, low n (All-head (λ m. m ≢ a) n ns absent), sum_others f g a ns (All-tail (λ m. m ≢ a) n ns absent) low)

-- where one of them has so much more at most, and none of the others has more
pub sum_one : (f g : ℕ → ℕ) (a k : ℕ) (ns : List ℕ) → AreDistinct ns → ((b : ℕ) → b ≢ a → g b ≤ f b) → g a ≤ f a + k → sum_by g ns ≤ sum_by f ns + k
sum_one f g a k [] apart low more = omega arith
sum_one f g a k (n ∷ ns) apart low more = elim (cases_eq n a) [
  | inl e ↦
      let here : g n ≤ f n + k = subst (λ b. g b ≤ f b + k) (sym e) more in
      let absent : IsAbsent a ns = subst (λ b. IsAbsent b ns) e (first_apart n ns apart) in
      omega (arith, sum_by-cons f n ns, sum_by-cons g n ns, here, sum_others f g a ns absent low)
  | inr d ↦ omega (arith, sum_by-cons f n ns, sum_by-cons g n ns, low n d, sum_one f g a k ns (rest_apart n ns apart) low more)
]
