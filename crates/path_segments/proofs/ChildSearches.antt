-- The searches of all children stay right.
use Rattle.std.proofs.Common.{◌≡◌, ◌≢◌, ℕ, zero, suc, ◌+◌, ◌<◌, ◌⊎◌, ◌↔◌, inl, inr, List, [], ◌∷◌, ◌++◌, Some, length, length-append, length-set, slice_get, slice_set, replicate, sym, ◌∙◌, refl, subst, ap, arith}
use Rattle.std.proofs.Math.ListN.{length-replicate}
use Rattle.std.proofs.lemmas.Bool.{cases_eq}
use Rattle.stp_topology.specs.declared.network.Network.{Network}
use Rattle.path_segments.specs.declared.child_search.Remaining.TheVariants.{All}
use Rattle.path_segments.specs.declared.search.ChildSearch.{ChildSearch}
use Rattle.path_segments.specs.Walks.{IsBelow}
use Rattle.path_segments.specs.Searches.{Closed, marked, what_remains}
use Rattle.path_segments.specs.ChildSearches.{IsSearch, AreSearches}
use Rattle.path_segments.proofs.Searches.{closed_none}

closed_more : (t : Network) (among noted more : ℕ → Type 0) (s : ChildSearch) → ((p : ℕ) → noted p → more p) → Closed t among noted (what_remains s.remaining.items) [] → Closed t among more (what_remains s.remaining.items) []
closed_more t among noted more s f h = record { noted = λ b p m o i. f p (h.noted b p m o i); onward = h.onward; only = h.only }

search_more : (t : Network) (n child : ℕ) (noted more : ℕ → Type 0) (s : ChildSearch) → ((p : ℕ) → noted p → more p) → IsSearch t n child noted s → IsSearch t n child more s
search_more t n child noted more s f h = record { below = h.below; size = h.size; closed = closed_more t (marked s.below.items) noted more s f h.closed }

pub searches_more : (t : Network) (n : ℕ) (children : List ℕ) (noted more : ℕ → Type 0) (searches : List ChildSearch) → ((p : ℕ) → noted p → more p) → AreSearches t n children noted searches → AreSearches t n children more searches
searches_more t n children noted more searches f h = record { same_length = h.same_length; each = λ i k s a b. search_more t n k noted more s f (h.each i k s a b) }

same_some : {A : Type 0} (x y : A) → Some x ≡ Some y → x ≡ y
same_some x y e = cc

put_same : {A : Type 0} (xs : List A) (k : ℕ) (x y z : A) → slice_get xs k ≡ Some x → slice_get (slice_set xs k y) k ≡ Some z → z ≡ y
put_same [] k x y z h g = absurd (cc)
put_same (x' ∷ xs) zero x y z h g = same_some z y (sym g)
put_same (x' ∷ xs) (suc k) x y z h g = put_same xs k x y z h g

put_other : {A : Type 0} (xs : List A) (k i : ℕ) (y : A) → i ≢ k → slice_get (slice_set xs k y) i ≡ slice_get xs i
put_other [] k i y n = refl
put_other (x ∷ xs) zero zero y n = absurd (n refl)
put_other (x ∷ xs) zero (suc i) y n = refl
put_other (x ∷ xs) (suc k) zero y n = refl
put_other (x ∷ xs) (suc k) (suc i) y n = put_other xs k i y (λ e. n (ap suc e))

pub searches_set : (t : Network) (n : ℕ) (children : List ℕ) (noted more : ℕ → Type 0) (searches : List ChildSearch) (place child : ℕ) (old new : ChildSearch) → ((p : ℕ) → noted p → more p)
    → slice_get children place ≡ Some child → slice_get searches place ≡ Some old → IsSearch t n child more new → AreSearches t n children noted searches → AreSearches t n children more (slice_set searches place new)
searches_set t n children noted more searches place child old new f is at_place h g = record {
  same_length = length-set searches place new ∙ g.same_length;
  each = each;
}
  where
    each : (i k : ℕ) (s : ChildSearch) → slice_get children i ≡ Some k → slice_get (slice_set searches place new) i ≡ Some s → IsSearch t n k more s
    each i k s a b = elim (cases_eq i place) [
      | inl e ↦ (let same : s ≡ new = put_same searches place old new s at_place (ap (slice_get (slice_set searches place new)) (sym e) ∙ b) in
          let agent : child ≡ k = same_some child k (sym is ∙ (ap (slice_get children) (sym e) ∙ a)) in
          subst (λ z. IsSearch t n k more z) (sym same) (subst (λ z. IsSearch t n z more new) agent h))
      | inr e ↦ search_more t n k noted more s f (g.each i k s a (sym (put_other searches place i new e) ∙ b))
    ]

got_push : {A : Type 0} (xs : List A) (i : ℕ) (x y : A) → slice_get (xs ++ x ∷ []) i ≡ Some y → (slice_get xs i ≡ Some y) ⊎ ((i ≡ length xs) × (x ≡ y))
got_push [] zero x y h = inr (refl, same_some x y h)
got_push [] (suc i) x y h = absurd (cc)
got_push (z ∷ zs) zero x y h = inl h
got_push (z ∷ zs) (suc i) x y h = elim (got_push zs i x y h) [ inl g ↦ inl g | inr g ↦ inr (ap suc g.0, g.1) ]

got_within : {A : Type 0} (xs : List A) (i : ℕ) (x : A) → slice_get xs i ≡ Some x → i < length xs
got_within [] i x h = absurd (cc)
got_within (y ∷ ys) zero x h = omega arith
got_within (y ∷ ys) (suc i) x h = omega (arith, got_within ys i x h)

pub searches_push : (t : Network) (n : ℕ) (children : List ℕ) (noted : ℕ → Type 0) (searches : List ChildSearch) (child : ℕ) (s : ChildSearch)
    → IsSearch t n child noted s → AreSearches t n children noted searches → AreSearches t n (children ++ child ∷ []) noted (searches ++ s ∷ [])
searches_push t n children noted searches child s h g = record {
  same_length = length-append searches (s ∷ []) ∙ (ap (λ z. z + 1) g.same_length ∙ sym (length-append children (child ∷ [])));
  each = each;
}
  where
    each : (i k : ℕ) (z : ChildSearch) → slice_get (children ++ child ∷ []) i ≡ Some k → slice_get (searches ++ s ∷ []) i ≡ Some z → IsSearch t n k noted z
    each i k z a b = elim (got_push children i child k a) [
      | inl e ↦ elim (got_push searches i s z b) [
        | inl f ↦ g.each i k z e f
        | inr f ↦ (let l = got_within children i k e in absurd (omega (arith, l, f.0, g.same_length)))
      ]
      | inr e ↦ elim (got_push searches i s z b) [
        | inl f ↦ (let l = got_within searches i z f in absurd (omega (arith, l, e.0, g.same_length)))
        | inr f ↦ subst (λ k. IsSearch t n k noted z) e.1 (subst (λ z. IsSearch t n child noted z) f.1 h)
      ]
    ]

pub searches_start : (t : Network) (n : ℕ) (noted : ℕ → Type 0) → AreSearches t n [] noted []
searches_start t n noted = record { same_length = refl; each = λ i k s a b. absurd (cc) }

pub search_start : (t : Network) (n child : ℕ) (noted : ℕ → Type 0) (s : ChildSearch) → ((b : ℕ) → marked s.below.items b ↔ IsBelow t n child b) → s.remaining.items ≡ replicate (length t.agents) All → IsSearch t n child noted s
search_start t n child noted s below e = record {
  below = below;
  size = ap length e ∙ length-replicate (length t.agents) All;
  closed = closed_none t (marked s.below.items) noted (length t.agents) s.remaining.items e;
}
