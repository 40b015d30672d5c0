-- A flag that is set.
use Rattle.std.proofs.Common.{◌≡◌, ℕ, ◌<◌, ◌⊎◌, inl, inr, List, Bool, true, false, length, get_or, set, sym, ◌∙◌, subst}
use Rattle.std.proofs.lemmas.List.{get_or-set_same, get_or-set_other}
use Rattle.std.proofs.lemmas.Bool.{cases_eq}

pub set_here : (found : List Bool) (p : ℕ) → p < length found → get_or (set found p true) p false ≡ true
set_here found p l = get_or-set_same found p true false l

pub set_kept : (found : List Bool) (p q : ℕ) → p < length found → get_or found q false ≡ true → get_or (set found p true) q false ≡ true
set_kept found p q l h = elim (cases_eq q p) [
  | inl e ↦ subst (λ z. get_or (set found p true) z false ≡ true) (sym e) (set_here found p l)
  | inr e ↦ get_or-set_other found p q true false e ∙ h
]

pub set_back : (found : List Bool) (p q : ℕ) → get_or (set found p true) q false ≡ true → (get_or found q false ≡ true) ⊎ (q ≡ p)
set_back found p q h = elim (cases_eq q p) [
  | inl e ↦ inr e
  | inr e ↦ inl (sym (get_or-set_other found p q true false e) ∙ h)
]
