-- Elements at rising places that change, one after another, while the others stay.
use Rattle.std.proofs.Common.{◌≡◌, ◌≢◌, ◌<◌, ◌+◌, ◌⊎◌, inl, inr, ◌∙◌, refl, ℕ, zero, suc, List, [], ◌∷◌, ◌++◌, Option, None, Some, take, drop, arith, sym, ap, subst, map, length, get_or, slice_get, slice_set, Contains}
use Rattle.std.specs.List.Sorted.{IsStrictlyIncreasing}
use Rattle.std.specs.Option.{option_map}
use Rattle.std.proofs.lemmas.Bool.{cases_lt}
use Rattle.std.proofs.lemmas.List.Kept.{AllPairs-from_increasing}
use Rattle.std.proofs.lemmas.List.{get_or_default, append-nil, drop_all, take_all, length-map}
use Rattle.std.proofs.lemmas.Option.{none-some, slice_get-map}

---- Places

pub first_or : {X : Type 0} (x p : X) (xs : List X) → Contains (x ∷ xs) p → (p ≡ x) ⊎ Contains xs p
first_or x p xs (zero, l, e) = inl (sym e)
first_or x p xs (suc k, l, e) = inr (k, omega arith, e)

pub or_first : {X : Type 0} (x p : X) (xs : List X) → (p ≡ x) ⊎ Contains xs p → Contains (x ∷ xs) p
or_first x p xs (inl e) = (zero, omega arith, sym e)
or_first x p xs (inr h) = (suc h.0, omega (arith, h.1), h.2)

tail_rises : (p : ℕ) (ps : List ℕ) → IsStrictlyIncreasing (p ∷ ps) → IsStrictlyIncreasing ps
tail_rises p ps up k l =
    let next : suc k + 1 ≡ suc (k + 1) = omega arith in
    subst (λ n. get_or ps k 0 < get_or (p ∷ ps) n 0) next (up (suc k) (omega (arith, l)))

tail_above : (p i : ℕ) (ps : List ℕ) → IsStrictlyIncreasing (p ∷ ps) → Contains ps i → p < i
tail_above p i ps up has =
    let at : get_or ps has.0 0 ≡ i = get_or_default ps has.0 0 i has.1 ∙ has.2 in
    omega (arith, AllPairs-from_increasing (p ∷ ps) up 0 (suc has.0) 0 (omega arith) (omega (arith, has.1)), at)

pub same_or : (i p : ℕ) → (i ≡ p) ⊎ (i ≢ p)
same_or i p = elim (cases_lt i p) [
  | inl l ↦ inr (λ e. omega (arith, e, l))
  | inr ge ↦ elim (cases_lt p i) [
    | inl l ↦ inr (λ e. omega (arith, e, l))
    | inr le ↦ inl (omega (arith, ge, le))
  ]
]

---- Elements

module _ {X : Type 0} where
  pub set_here : (xs : List X) (i : ℕ) (v w : X) → slice_get xs i ≡ Some v → slice_get (slice_set xs i w) i ≡ Some w
  set_here [] i v w e = absurd (none-some v e)
  set_here (x ∷ xs) zero v w e = refl
  set_here (x ∷ xs) (suc i) v w e = set_here xs i v w e

  pub set_other : (xs : List X) (i j : ℕ) (w : X) → j ≢ i → slice_get (slice_set xs i w) j ≡ slice_get xs j
  set_other [] i j w ne = refl
  set_other (x ∷ xs) zero zero w ne = absurd (ne refl)
  set_other (x ∷ xs) zero (suc j) w ne = refl
  set_other (x ∷ xs) (suc i) zero w ne = refl
  set_other (x ∷ xs) (suc i) (suc j) w ne = set_other xs i j w (λ e. ne (ap suc e))

  one_by_one : (xs ys : List X) → ((i : ℕ) → slice_get xs i ≡ slice_get ys i) → xs ≡ ys
  one_by_one [] [] h = refl
  one_by_one [] (y ∷ ys) h = absurd (none-some y (h 0))
  one_by_one (x ∷ xs) [] h = absurd (none-some x (sym (h 0)))
  one_by_one (x ∷ xs) (y ∷ ys) h =
      let first : x ≡ y = (let is : Some x ≡ Some y = h 0 in cc) in
      ap (λ z. z ∷ xs) first ∙ ap (λ zs. y ∷ zs) (one_by_one xs ys (λ i. h (suc i)))

  module _ (f : X → X) where
    -- all but those at some rising places are changed
    pub record AreHeard (old now : List X) (rest : List ℕ) : Type 0 where
      pub rising : IsStrictlyIncreasing rest
      pub still : (i : ℕ) (v : X) → slice_get old i ≡ Some v → Contains rest i → slice_get now i ≡ Some v
      pub heard : (i : ℕ) (v : X) → slice_get old i ≡ Some v → ¬ Contains rest i → slice_get now i ≡ Some (f v)
      pub none : (i : ℕ) → slice_get old i ≡ None → slice_get now i ≡ None

    pub heard_next : (old now next : List X) (p : ℕ) (all rest : List ℕ) → all ≡ p ∷ rest → ((v : X) → slice_get now p ≡ Some v → next ≡ slice_set now p (f v)) → (slice_get now p ≡ None → next ≡ now)
        → AreHeard old now all → AreHeard old next rest
    heard_next old now next p all rest is there none before = by (slice_get old p) refl
      where
        up : IsStrictlyIncreasing (p ∷ rest)
        up = subst IsStrictlyIncreasing is before.rising

        more : (i : ℕ) → (i ≡ p) ⊎ Contains rest i → Contains all i
        more i h = subst (λ ps. Contains ps i) (sym is) (or_first p i rest h)

        no_more : (i : ℕ) → i ≢ p → ¬ Contains rest i → ¬ Contains all i
        no_more i ne lacks has = elim (first_or p i rest (subst (λ ps. Contains ps i) is has)) [
          | inl e ↦ ne e
          | inr h ↦ lacks h
        ]

        by : (o : Option X) → slice_get old p ≡ o → AreHeard old next rest
        by None e =
            let same = none (before.none p e) in
            record {
              rising = tail_rises p rest up;
              still = λ i v at has. ap (λ xs. slice_get xs i) same ∙ before.still i v at (more i (inr has));
              heard = λ i v at lacks. ap (λ xs. slice_get xs i) same ∙ before.heard i v at (no_more i (λ q. none-some v (sym e ∙ ap (slice_get old) (sym q) ∙ at)) lacks);
              none = λ i at. ap (λ xs. slice_get xs i) same ∙ before.none i at;
            }
        by (Some u) e =
            let here = before.still p u e (more p (inl refl)) in
            let set = there u here in
            let others = λ (i : ℕ) (ne : i ≢ p). ap (λ xs. slice_get xs i) set ∙ set_other now p i (f u) ne in
            record {
              rising = tail_rises p rest up;
              still = λ i v at has. others i (λ q. omega (arith, q, tail_above p i rest up has)) ∙ before.still i v at (more i (inr has));
              heard = λ i v at lacks. elim (same_or i p) [
                | inl q ↦ ap (λ xs. slice_get xs i) set ∙ ap (slice_get (slice_set now p (f u))) q ∙ set_here now p u (f u) here ∙ ap (option_map f) (sym e ∙ ap (slice_get old) (sym q) ∙ at)
                | inr ne ↦ others i ne ∙ before.heard i v at (no_more i ne lacks)
              ];
              none = λ i at. others i (λ q. none-some u (sym at ∙ ap (slice_get old) q ∙ e)) ∙ before.none i at;
            }

    -- those that are left alone may count as changed
    pub heard_first : (old : List X) (places : List ℕ) → IsStrictlyIncreasing places → ((i : ℕ) (v : X) → slice_get old i ≡ Some v → ¬ Contains places i → f v ≡ v) → AreHeard old old places
    heard_first old places up others = record { rising = up; still = λ i v at has. at; heard = λ i v at lacks. at ∙ ap Some (sym (others i v at lacks)); none = λ i at. at }

    pub heard_all : (old now : List X) (rest : List ℕ) → rest ≡ [] → AreHeard old now rest → now ≡ map f old
    heard_all old now rest is done = one_by_one now (map f old) (λ i. by i (slice_get old i) refl ∙ sym (slice_get-map f old i))
      where
        by : (i : ℕ) (o : Option X) → slice_get old i ≡ o → slice_get now i ≡ option_map f (slice_get old i)
        by i None e = done.none i e ∙ sym (ap (option_map f) e)
        by i (Some v) e = done.heard i v e (λ has. omega (arith, (subst (λ ps. Contains ps i) is has).1)) ∙ sym (ap (option_map f) e)

    -- what was lent as a slice is there again
    pub whole_again : (new old : List X) (n : ℕ) → new ≡ map f old → n ≡ length old → take n (new ++ drop (length new) old) ≡ map f old
    whole_again new old n is len =
        let long : length new ≡ length old = ap length is ∙ length-map old f in
        ap (λ xs. take n (new ++ xs)) (drop_all (length new) old (omega (arith, long))) ∙ (ap (take n) (append-nil new) ∙ (take_all n new (omega (arith, long, len)) ∙ is))
