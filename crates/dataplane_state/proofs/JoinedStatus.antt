-- What the joined status says of the children.
use Rattle.std.proofs.Common.{◌≡◌, ◌≤◌, ◌<◌, ◌⊎◌, inl, inr, ℕ, true, not, ◌&&◌, eqb, min, List, [], ◌∷◌, length, arith, refl, sym, subst, ◌∙◌}
use Rattle.std.specs.List.{fold, list_all, All, AllPass, Contains}
use Rattle.std.proofs.lemmas.Bool.{and_parts, and_from, eqb-true, eq-eqb, cases_lt}
use Rattle.std.proofs.lemmas.Bool.Decides.{nat_tests}
use Rattle.std.proofs.lemmas.List.Elements.{All-nil, All-cons, All-head, All-tail, All-weaker, All-map, All-contains, Contains-append_left, Contains-append_right, Contains-push}
use Rattle.std.proofs.lemmas.List.Sums.{AllPass-from_list_all, list_all-from_AllPass}
use Rattle.nsi_primitive.specs.declared.plane.Plane.{Plane}
use Rattle.dataplane_state.specs.Plane.{is_active, is_consistent_at, version_of, versions, least_version, joined}
use Rattle.dataplane_state.specs.Joined.{is_consistent, IsLeast, AreOne, IsJoined}

---- The least of some numbers

first_in : (x : ℕ) (xs : List ℕ) → Contains (x ∷ xs) x
first_in x xs = Contains-append_left (x ∷ []) xs x (Contains-push [] x)

later_in : (y : ℕ) (xs : List ℕ) (x : ℕ) → Contains xs x → Contains (y ∷ xs) x
later_in y xs x c = Contains-append_right (y ∷ []) xs x c

under_first : (a : ℕ) (ns : List ℕ) → fold min a ns ≤ a
under_first a [] = omega arith
under_first a (n ∷ ns) = omega (arith, under_first (min a n) ns)

under_each : (a : ℕ) (ns : List ℕ) → All (λ m. fold min a ns ≤ m) ns
under_each a [] = All-nil (λ m. a ≤ m)
under_each a (n ∷ ns) =
    All-cons (λ m. fold min (min a n) ns ≤ m) n ns (omega (arith, under_first (min a n) ns)) (under_each (min a n) ns)

lesser_is : (a n v : ℕ) → v ≡ min a n → (v ≡ a) ⊎ (v ≡ n)
lesser_is a n v e = elim (cases_lt a n) [
  | inl lt ↦ inl (omega (arith, e, lt))
  | inr le ↦ inr (omega (arith, e, le))
]

reached_more : (a n : ℕ) (ns : List ℕ) (v : ℕ) → (v ≡ min a n) ⊎ Contains ns v → (v ≡ a) ⊎ Contains (n ∷ ns) v
reached_more a n ns v (inl lesser) = elim (lesser_is a n v lesser) [
  | inl e ↦ inl e
  | inr e ↦ inr (subst (λ (m : ℕ). Contains (n ∷ ns) m) (sym e) (first_in n ns))
]
reached_more a n ns v (inr c) = inr (later_in n ns v c)

reached : (a : ℕ) (ns : List ℕ) → (fold min a ns ≡ a) ⊎ Contains ns (fold min a ns)
reached a [] = inl refl
reached a (n ∷ ns) = reached_more a n ns (fold min (min a n) ns) (reached (min a n) ns)

one_of : (a : ℕ) (ns : List ℕ) (v : ℕ) → (v ≡ a) ⊎ Contains ns v → Contains (a ∷ ns) v
one_of a ns v (inl e) = subst (λ (m : ℕ). Contains (a ∷ ns) m) (sym e) (first_in a ns)
one_of a ns v (inr c) = later_in a ns v c

least : (a : ℕ) (ns : List ℕ) → IsLeast (a ∷ ns) (fold min a ns)
least a ns =
    record {
      found = one_of a ns (fold min a ns) (reached a ns);
      bound = All-cons (λ m. fold min a ns ≤ m) a ns (under_first a ns) (under_each a ns);
    }

---- The status

version_is : (children : List Plane) → IsLeast (versions children) (least_version children) ⊎ ((length children ≡ 0) × (least_version children ≡ 0))
version_is [] = inr (refl, refl)
version_is (p ∷ ps) = inl (least p.version (versions ps))

some_from : (n : ℕ) → not (eqb n 0) ≡ true → 0 < n
some_from n h = grind (arith, nat_tests)

some_to : (n : ℕ) → 0 < n → not (eqb n 0) ≡ true
some_to n h = grind (arith, nat_tests)

active_from : (children : List Plane) → (not (eqb (length children) 0) && list_all is_active children) ≡ true → (0 < length children) × AllPass is_active children
active_from children h =
    let parts = and_parts (not (eqb (length children) 0)) (list_all is_active children) h in
    (some_from (length children) parts.0, AllPass-from_list_all is_active children parts.1)

active_to : (children : List Plane) → (0 < length children) × AllPass is_active children → (not (eqb (length children) 0) && list_all is_active children) ≡ true
active_to children h =
    and_from (not (eqb (length children) 0)) (list_all is_active children) (some_to (length children) h.0) (list_all-from_AllPass is_active children h.1)

consistent_from : (v : ℕ) (children : List Plane) → list_all (is_consistent_at v) children ≡ true → AllPass is_consistent children × AreOne (versions children)
consistent_from v children h =
    let each = AllPass-from_list_all (is_consistent_at v) children h in (
      All-weaker (λ p. is_consistent_at v p ≡ true) (λ p. is_consistent p ≡ true) (λ p e. (and_parts p.consistent (eqb p.version v) e).0) children each,
      (
        v,
        All-map (λ m. m ≡ v) version_of children
            (All-weaker (λ p. is_consistent_at v p ≡ true) (λ p. version_of p ≡ v) (λ p e. eqb-true p.version v (and_parts p.consistent (eqb p.version v) e).1) children each),
      ),
    )

consistent_each : (v n : ℕ) → v ≡ n → (children : List Plane) → AllPass is_consistent children → All (λ m. m ≡ n) (versions children) → list_all (is_consistent_at v) children ≡ true
consistent_each v n e [] all one = refl
consistent_each v n e (p ∷ ps) all one =
    and_from (p.consistent && eqb p.version v) (list_all (is_consistent_at v) ps)
    (and_from p.consistent (eqb p.version v) (All-head (λ q. is_consistent q ≡ true) p ps all)
    (eq-eqb p.version v (All-head (λ m. m ≡ n) p.version (versions ps) one ∙ sym e)))
    (consistent_each v n e ps (All-tail (λ q. is_consistent q ≡ true) p ps all) (All-tail (λ m. m ≡ n) p.version (versions ps) one))

consistent_to : (children : List Plane) → AllPass is_consistent children × AreOne (versions children) → list_all (is_consistent_at (least_version children)) children ≡ true
consistent_to [] h = refl
consistent_to (p ∷ ps) (all, (n, one)) =
    let first = least p.version (versions ps) in
    consistent_each (least_version (p ∷ ps)) n (All-contains (λ m. m ≡ n) (versions (p ∷ ps)) (least_version (p ∷ ps)) one first.found) (p ∷ ps) all one

pub joined_says : (children : List Plane) → IsJoined children (joined children)
unfolding joined
joined_says children =
    record {
      active = (active_from children, active_to children);
      version = version_is children;
      consistent = (consistent_from (least_version children) children, consistent_to children);
    }
