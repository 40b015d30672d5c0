-- The order of places: by their ids, and then by their numbers.
use Rattle.std.proofs.Common.{◌≡◌, ◌↔◌, ◌⊎◌, inl, inr, ◌∙◌, refl, ℕ, Bool, true, false, cond, Ordering, IsTrue, sym, ap, subst, Contains}
use Rattle.std.specs.BTreeSet.{BTreeSet, Updates, contains}
use Rattle.std.specs.Cmp.{IsTotalOrder}
use Rattle.std.specs.Ordering.{nat_cmp, ordering_then, eq_by_cmp}
use Rattle.std.proofs.lemmas.Bool.{false≢true}
use Rattle.std.proofs.lemmas.Cmp.{nat_cmp_total, on_total, then_total, eq_by_cmp_equiv}
use Rattle.std.proofs.lemmas.Map.Lookups.{CmpEqualImpliesEq, exact_pairs, exact_unsigned}
use Rattle.std.proofs.lemmas.Map.Views.{btree_set_contains_iff, tells_apart}
use Rattle.id_index.specs.declared.IdPlace.{IdPlace}

abbrev pub place_cmp : IdPlace → IdPlace → Ordering
place_cmp a b = ordering_then (nat_cmp a.id b.id) (nat_cmp a.place b.place)

-- places that compare alike are one
exact : CmpEqualImpliesEq place_cmp
exact a b h = ap (λ (p : ℕ × ℕ). record { id = p.0; place = p.1 }) (exact_pairs nat_cmp nat_cmp exact_unsigned exact_unsigned (a.id, a.place) (b.id, b.place) h)

pub total : IsTotalOrder place_cmp
total = then_total (on_total (λ (e : IdPlace). e.id) nat_cmp_total) (on_total (λ (e : IdPlace). e.place) nat_cmp_total)

one_of : (new has : Bool) → IsTrue (cond new true has) → (new ≡ true) ⊎ IsTrue has
one_of true has h = inl refl
one_of false has h = inr h

by_either : (new has : Bool) → (new ≡ true) ⊎ IsTrue has → IsTrue (cond new true has)
by_either true has h = refl
by_either false has (inl e) = absurd (false≢true e)
by_either false has (inr h) = h

pub place_added : (s n : BTreeSet IdPlace) (x : IdPlace) → Updates place_cmp s n x true → (e : IdPlace) → Contains n.keys e ↔ ((e ≡ x) ⊎ Contains s.keys e)
place_added s n x updates e = (to, from)
  where
    is : IsTrue (contains place_cmp n e) → (eq_by_cmp place_cmp x e ≡ true) ⊎ IsTrue (contains place_cmp s e)
    is has = one_of (eq_by_cmp place_cmp x e) (contains place_cmp s e) (sym (updates.0 e) ∙ has)

    to : Contains n.keys e → (e ≡ x) ⊎ Contains s.keys e
    to h = elim (is ((btree_set_contains_iff total exact n e).1 h)) [
      | inl same ↦ inl (sym (tells_apart exact x e same))
      | inr has ↦ inr ((btree_set_contains_iff total exact s e).0 has)
    ]

    old_or_new : (e ≡ x) ⊎ Contains s.keys e → (eq_by_cmp place_cmp x e ≡ true) ⊎ IsTrue (contains place_cmp s e)
    old_or_new (inl same) = inl (subst (λ y. eq_by_cmp place_cmp x y ≡ true) (sym same) ((eq_by_cmp_equiv total).refl x))
    old_or_new (inr h) = inr ((btree_set_contains_iff total exact s e).1 h)

    from : (e ≡ x) ⊎ Contains s.keys e → Contains n.keys e
    from h = (btree_set_contains_iff total exact n e).0 (updates.0 e ∙ by_either (eq_by_cmp place_cmp x e) (contains place_cmp s e) (old_or_new h))
