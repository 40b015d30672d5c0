-- The points of each owner are listed in order.
use Rattle.std.proofs.Common.{◌≡◌, ◌≢◌, ℕ, ◌+◌, ◌<◌, inl, inr, List, [], ◌∷◌, ◌++◌, Some, length, length-append, get_or, set, slice_get, slice_set, sym, ◌∙◌, subst, ap, arith}
use Rattle.std.proofs.lemmas.List.{get_or-set_same, get_or-set_other}
use Rattle.std.proofs.lemmas.Bool.{cases_lt, cases_eq}
use Rattle.stp_topology.specs.declared.network.Network.{Network}
use Rattle.path_segments.specs.Walks.{In}
use Rattle.path_segments.specs.Searches.{AreListed}
use Rattle.path_segments.proofs.Members.{in_front, in_behind, in_cases, in_one}
use Rattle.path_segments.proofs.Searches.{same_agent}

pub listed_start : (t : Network) (lists : List (List ℕ)) → ((b : ℕ) → get_or lists b [] ≡ []) → AreListed t 0 lists
listed_start t lists none = record {
  listed = λ b p l o. absurd (omega arith);
  owned = λ b p i. absurd (subst (In p) (none b) i);
  few = λ b. let e : length (get_or lists b []) ≡ 0 = ap length (none b) in omega (arith, e);
}

pub listed_next : (t : Network) (x owner : ℕ) (old new : List (List ℕ)) → slice_get t.owners x ≡ Some owner → owner < length old → new ≡ slice_set old owner (get_or old owner [] ++ x ∷ [])
    → AreListed t x old → AreListed t (x + 1) new
listed_next t x owner old new is l made h = record {
  listed = λ b p k o. elim (cases_eq b owner) [
    | inl e ↦ subst (In p) (sym (here b e)) (elim (cases_lt p x) [
      | inl f ↦ in_front p (get_or old owner []) (x ∷ []) (h.listed owner p f (o ∙ ap Some e))
      | inr f ↦ in_behind p (get_or old owner []) (x ∷ []) (inl (omega (arith, k, f)))
    ])
    | inr n ↦ subst (In p) (sym (there b n)) (elim (cases_lt p x) [
      | inl f ↦ h.listed b p f o
      | inr f ↦ (let same : p ≡ x = omega (arith, k, f) in absurd (n (same_agent b owner (sym o ∙ (ap (slice_get t.owners) same ∙ is)))))
    ])
  ];
  owned = λ b p i. elim (cases_eq b owner) [
    | inl e ↦ elim (in_cases p (get_or old owner []) (x ∷ []) (subst (In p) (here b e) i)) [
      | inl f ↦ h.owned owner p f ∙ ap Some (sym e)
      | inr f ↦ ap (slice_get t.owners) (in_one p x f) ∙ (is ∙ ap Some (sym e))
    ]
    | inr n ↦ h.owned b p (subst (In p) (there b n) i)
  ];
  few = λ b. elim (cases_eq b owner) [
    | inl e ↦ (let a : length (get_or new b []) ≡ length (get_or old owner []) + 1 = ap length (here b e) ∙ length-append (get_or old owner []) (x ∷ []) in
        let c = h.few owner in omega (arith, a, c))
    | inr n ↦ (let a : length (get_or new b []) ≡ length (get_or old b []) = ap length (there b n) in let c = h.few b in omega (arith, a, c))
  ];
}
  where
    here : (b : ℕ) → b ≡ owner → get_or new b [] ≡ get_or old owner [] ++ x ∷ []
    here b e = ap (λ z. get_or z b []) made ∙ (ap (λ z. get_or (set old owner (get_or old owner [] ++ x ∷ [])) z []) e ∙ get_or-set_same old owner (get_or old owner [] ++ x ∷ []) [] l)

    there : (b : ℕ) → b ≢ owner → get_or new b [] ≡ get_or old b []
    there b n = ap (λ z. get_or z b []) made ∙ get_or-set_other old owner b (get_or old owner [] ++ x ∷ []) [] n
