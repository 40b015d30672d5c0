-- What is at its place stays there.
use Rattle.std.proofs.Common.{ℕ, zero, suc, ◌≡◌, List, [], ◌∷◌, ◌++◌, Some, inl, inr, refl, sym, ap, ◌∙◌, subst, map, slice_get, slice_set}
use Rattle.std.proofs.lemmas.Bool.{cases_eq}
use Rattle.std.proofs.lemmas.Option.{none-some, same_Some, slice_get_within}
use Rattle.provider_agent.proofs.RecordPlaces.{set_here, set_elsewhere, push_elsewhere}
use Rattle.run_growth.specs.Growth.{Stay}

pub stay_same : {X : Type 0} (Becomes : X → X → Type 0) → ((x : X) → Becomes x x) → (xs : List X) → Stay Becomes xs xs
stay_same Becomes same xs n x h = (x, h, same x)

pub stay_then : {X : Type 0} (Becomes : X → X → Type 0) → ((x y z : X) → Becomes x y → Becomes y z → Becomes x z) → (xs ys zs : List X) → Stay Becomes xs ys → Stay Becomes ys zs → Stay Becomes xs zs
stay_then Becomes both xs ys zs p q n x h =
    let y = p n x h in
    let z = q n y.0 y.1 in
    (z.0, z.1, both x y.0 z.0 y.2 z.2)

-- where there is nothing, nothing has to stay
pub stay_none : {X : Type 0} (Becomes : X → X → Type 0) (ys : List X) → Stay Becomes [] ys
stay_none Becomes ys n x h = absurd (none-some x h)

-- one is put in the place of what it has become
pub stay_set : {X : Type 0} (Becomes : X → X → Type 0) → ((x : X) → Becomes x x) → (xs : List X) (n : ℕ) (y : X) → ((x : X) → slice_get xs n ≡ Some x → Becomes x y) → Stay Becomes xs (slice_set xs n y)
stay_set Becomes same xs n y there k x h = elim (cases_eq k n) [
  | inl e ↦
      let at : slice_get xs n ≡ Some x = ap (slice_get xs) (sym e) ∙ h in
      (y, ap (slice_get (slice_set xs n y)) e ∙ set_here xs n y (slice_get_within xs n x at), there x at)
  | inr d ↦ (x, set_elsewhere xs n k y d ∙ h, same x)
]

-- one more stands behind the others
pub stay_push : {X : Type 0} (Becomes : X → X → Type 0) → ((x : X) → Becomes x x) → (xs : List X) (y : X) → Stay Becomes xs (xs ++ y ∷ [])
stay_push Becomes same xs y n x h = (x, push_elsewhere xs n y x h, same x)

pub stay_more : {X : Type 0} (Becomes : X → X → Type 0) (x y : X) (xs ys : List X) → Becomes x y → Stay Becomes xs ys → Stay Becomes (x ∷ xs) (y ∷ ys)
stay_more Becomes x y xs ys p rest zero z h = (y, refl, subst (λ v. Becomes v y) (same_Some x z h) p)
stay_more Becomes x y xs ys p rest (suc n) z h = rest n z h

pub stay_map : {X : Type 0} (Becomes : X → X → Type 0) (f : X → X) → ((x : X) → Becomes x (f x)) → (xs : List X) → Stay Becomes xs (map f xs)
stay_map Becomes f each [] = stay_none Becomes []
stay_map Becomes f each (x ∷ xs) = stay_more Becomes x (f x) xs (map f xs) (each x) (stay_map Becomes f each xs)
