-- What can be decided while a table of steps is filled.
use Rattle.std.proofs.Common.{◌≡◌, ℕ, zero, suc, ◌⊎◌, inl, inr, List, Option, Some, None, slice_get, sym, ◌∙◌, refl, subst, ap}
use Rattle.std.proofs.lemmas.Bool.{cases_eq}
use Rattle.std.proofs.lemmas.Option.{same_Some}
use Rattle.path_segments.specs.declared.search.Step.{Step}
use Rattle.path_segments.specs.Paths.{IsSegment}
use Rattle.path_segments.specs.Steps.{Hop}
use Rattle.path_segments.proofs.Searches.{not_none}

-- it is so, or it isn't
abbrev pub Decided : Type 0 → Type 0
Decided A = A ⊎ (A → ⊥)

pub decide_both : {A B : Type 0} → Decided A → Decided B → Decided (A × B)
decide_both (inl a) (inl b) = inl (a, b)
decide_both (inl a) (inr n) = inr (λ h. n h.1)
decide_both (inr n) d = inr (λ h. n h.0)

pub decide_either : {A B : Type 0} → Decided A → Decided B → Decided (A ⊎ B)
decide_either (inl a) d = inl (inl a)
decide_either (inr n) (inl b) = inl (inr b)
decide_either (inr n) (inr m) = inr (λ h. elim h [ inl a ↦ n a | inr b ↦ m b ])

pub decide_number : (o : Option ℕ) (a : ℕ) → Decided (o ≡ Some a)
decide_number None a = inr (λ e. not_none a None e refl)
decide_number (Some x) a = elim (cases_eq x a) [
  | inl e ↦ inl (ap Some e)
  | inr n ↦ inr (λ e. n (same_Some x a e))
]

-- whether the destination is that many segments away
pub decide_hop : (next : ℕ → Option Step) (pairs : ℕ → Option ℕ) (dest k x : ℕ) → Decided (Hop next pairs dest k x)
decide_hop next pairs dest zero x = cases_eq x dest
decide_hop next pairs dest (suc k) x = by_partner (pairs x) refl
  where
    by_step : (y : ℕ) → pairs x ≡ Some y → (o : Option Step) → next y ≡ o → Decided (Hop next pairs dest (suc k) x)
    by_step y e None f = inr (λ h. not_none h.1 (next y) (ap next (same_Some y h.0 (sym e ∙ h.2)) ∙ h.3) f)
    by_step y e (Some s) f = elim (cases_eq s.rest k) [
      | inl g ↦ inl (y, s, e, f, g)
      | inr n ↦ inr (λ h. n (ap (λ (z : Step). z.rest) (same_Some s h.1 (sym f ∙ (ap next (same_Some y h.0 (sym e ∙ h.2)) ∙ h.3))) ∙ h.4))
    ]

    by_partner : (o : Option ℕ) → pairs x ≡ o → Decided (Hop next pairs dest (suc k) x)
    by_partner None e = inr (λ h. not_none h.0 (pairs x) h.2 e)
    by_partner (Some y) e = by_step y e (next y) refl

-- whether a child's position is a segment between the points
pub decide_segment : (offers : ℕ → ℕ → ℕ → Type 0) (children : List ℕ) → ((a p q : ℕ) → Decided (offers a p q)) → (place p q : ℕ) → Decided (IsSegment offers children place p q)
decide_segment offers children decide place p q = by_child (slice_get children place) refl
  where
    by_points : (a : ℕ) → slice_get children place ≡ Some a → Decided (IsSegment offers children place p q)
    by_points a is = elim (cases_eq p q) [
      | inl e ↦ inr (λ s. s.apart e)
      | inr apart ↦ elim (decide a p q) [
        | inl o ↦ inl (record { child = a; is_child = is; apart = apart; offered = o })
        | inr n ↦ inr (λ s. n (subst (λ z. offers z p q) (same_Some s.child a (sym s.is_child ∙ is)) s.offered))
      ]
    ]

    by_child : (o : Option ℕ) → slice_get children place ≡ o → Decided (IsSegment offers children place p q)
    by_child None is = inr (λ s. not_none s.child (slice_get children place) s.is_child is)
    by_child (Some a) is = by_points a is
