-- A path that takes the least step at each point is the least path.
use Rattle.std.proofs.Common.{◌≡◌, ℕ, suc, ◌<◌, ◌≤◌, ◌⊎◌, inl, inr, List, [], ◌∷◌, Option, Some, length, sym, ◌∙◌, refl, subst, ap, arith}
use Rattle.std.proofs.lemmas.Bool.{cases_lt}
use Rattle.path_segments.specs.declared.path.PlacedSegment.{PlacedSegment}
use Rattle.path_segments.specs.declared.search.Step.{Step}
use Rattle.path_segments.specs.Paths.{Onward, Chain, points, places, Before, Less}
use Rattle.path_segments.specs.Steps.{IsNoLater, Sound, Complete, Follows}
use Rattle.path_segments.specs.Paths.Less.{fewer, by_points, by_places}

-- the one path is the other, or comes before it
abbrev pub AtMost : List PlacedSegment → List PlacedSegment → Type 0
AtMost xs ys = (length xs < length ys) ⊎ ((length xs ≡ length ys) × (Before (points xs) (points ys) ⊎ ((points xs ≡ points ys) × (Before (places xs) (places ys) ⊎ (places xs ≡ places ys)))))

same_some : {A : Type 0} (x y : A) → Some x ≡ Some y → x ≡ y
same_some x y e = cc

-- where there is a path, the table has a step, and not too long a way
pub reaches : (next : ℕ → Option Step) (pairs : ℕ → Option ℕ) (segment : ℕ → ℕ → ℕ → Type 0) (dest : ℕ) → Complete next pairs segment dest
    → (y : PlacedSegment) (ys : List PlacedSegment) → segment y.place y.entry y.exit → Onward pairs segment y.exit dest ys
    → (e : Step) × (next y.entry ≡ Some e) × (e.rest ≤ length ys)
reaches next pairs segment dest full y [] s o =
    let h = full y.entry 0 y.exit y.place s o in (h.0, h.1, short h.0 h.2)
  where
    short : (e : Step) → IsNoLater e 0 y.exit y.place → e.rest ≤ 0
    short e (inl l) = omega arith
    short e (inr l) = omega arith
reaches next pairs segment dest full y (z ∷ zs) s o =
    let g = reaches next pairs segment dest full z zs o.1 o.2 in
    let h = full y.entry (suc g.0.rest) y.exit y.place s (z.entry, g.0, o.0, g.1, refl) in (h.0, h.1, short g.0 h.0 g.2 h.2)
  where
    short : (g e : Step) → g.rest ≤ length zs → IsNoLater e (suc g.rest) y.exit y.place → e.rest ≤ length (z ∷ zs)
    short g e b (inl l) = omega arith
    short g e b (inr l) = omega arith

same_front : (x y : PlacedSegment) (xs ys : List PlacedSegment) → x.entry ≡ y.entry → x.exit ≡ y.exit → x.place ≤ y.place → AtMost xs ys → AtMost (x ∷ xs) (y ∷ ys)
same_front x y xs ys e f l (inl h) = inl (omega arith)
same_front x y xs ys e f l (inr h) = inr (omega (arith, h.0), by_rest h.1)
  where
    by_rest : Before (points xs) (points ys) ⊎ ((points xs ≡ points ys) × (Before (places xs) (places ys) ⊎ (places xs ≡ places ys)))
        → Before (points (x ∷ xs)) (points (y ∷ ys)) ⊎ ((points (x ∷ xs) ≡ points (y ∷ ys)) × (Before (places (x ∷ xs)) (places (y ∷ ys)) ⊎ (places (x ∷ xs) ≡ places (y ∷ ys))))
    by_rest h = grind arith

earlier_exit : (x y : PlacedSegment) (xs ys : List PlacedSegment) → length xs ≡ length ys → x.entry ≡ y.entry → x.exit < y.exit → AtMost (x ∷ xs) (y ∷ ys)
earlier_exit x y xs ys n e l = inr (ap suc n, inl (inr (e, inl l)))

last_at_most : (x y : PlacedSegment) (e : Step) → x.entry ≡ y.entry → x.exit ≡ y.exit → record { rest = 0; exit = x.exit; place = x.place } ≡ e → IsNoLater e 0 y.exit y.place → AtMost (x ∷ []) (y ∷ [])
last_at_most x y e en ex is (inl l) = absurd (omega arith)
last_at_most x y e en ex is (inr l) = elim l.1 [
  | inl f ↦ absurd (omega (arith, ap (λ (z : Step). z.exit) is))
  | inr f ↦ same_front x y [] [] en ex (omega (arith, ap (λ (z : Step). z.place) is)) (inr (refl, inr (refl, inr refl)))
]

step_at_most : (x y w z : PlacedSegment) (ws zs : List PlacedSegment) (e g : Step) → x.entry ≡ y.entry → record { rest = length (w ∷ ws); exit = x.exit; place = x.place } ≡ e
    → g.rest ≤ length zs → IsNoLater e (suc g.rest) y.exit y.place → (x.exit ≡ y.exit → AtMost (w ∷ ws) (z ∷ zs)) → AtMost (x ∷ (w ∷ ws)) (y ∷ (z ∷ zs))
step_at_most x y w z ws zs e g en is b (inl l) behind = inl (omega (arith, ap (λ (z : Step). z.rest) is))
step_at_most x y w z ws zs e g en is b (inr l) behind = elim (cases_lt (length ws) (length zs)) [
  | inl f ↦ inl (omega arith)
  | inr f ↦ elim l.1 [
    | inl c ↦ earlier_exit x y (w ∷ ws) (z ∷ zs) (omega (arith, l.0, ap (λ (z : Step). z.rest) is)) en (omega (arith, ap (λ (z : Step). z.exit) is))
    | inr c ↦ let same : x.exit ≡ y.exit = ap (λ (z : Step). z.exit) is ∙ c.0 in
        same_front x y (w ∷ ws) (z ∷ zs) en same (omega (arith, c.1, ap (λ (z : Step). z.place) is)) (behind same)
  ]
]

-- the table's path is at most each path
pub at_most : (next : ℕ → Option Step) (pairs : ℕ → Option ℕ) (segment : ℕ → ℕ → ℕ → Type 0) (dest : ℕ) → Complete next pairs segment dest
    → (xs : List PlacedSegment) (p : ℕ) (y : PlacedSegment) (ys : List PlacedSegment) → p ≡ y.entry → Follows next pairs dest p xs → segment y.place y.entry y.exit → Onward pairs segment y.exit dest ys → AtMost xs (y ∷ ys)
at_most next pairs segment dest full [] p y ys i h s o = absurd h
at_most next pairs segment dest full (x ∷ []) p y [] i h s o =
    let g = full y.entry 0 y.exit y.place s o in
    last_at_most x y g.0 (h.0 ∙ i) (h.2 ∙ sym o) (same_some _ _ (sym h.1 ∙ (ap next i ∙ g.1))) g.2
at_most next pairs segment dest full (x ∷ (w ∷ ws)) p y [] i h s o =
    let g = full y.entry 0 y.exit y.place s o in too_long g.0 (length ws) x.exit x.place y.exit y.place (same_some _ _ (sym h.1 ∙ (ap next i ∙ g.1))) g.2
  where
    too_long : (e : Step) (n exit place last by : ℕ) → record { rest = suc n; exit = exit; place = place } ≡ e → IsNoLater e 0 last by → AtMost (x ∷ (w ∷ ws)) (y ∷ [])
    too_long e n exit place last by is (inl l) = absurd (omega arith)
    too_long e n exit place last by is (inr l) = absurd (omega (arith, l.0, ap (λ (z : Step). z.rest) is))
at_most next pairs segment dest full (x ∷ []) p y (z ∷ zs) i h s o = inl (omega arith)
at_most next pairs segment dest full (x ∷ (w ∷ ws)) p y (z ∷ zs) i h s o =
    let g = reaches next pairs segment dest full z zs o.1 o.2 in
    let k = full y.entry (suc g.0.rest) y.exit y.place s (z.entry, g.0, o.0, g.1, refl) in
    step_at_most x y w z ws zs k.0 g.0 (h.0 ∙ i) (same_some _ _ (sym h.1 ∙ (ap next i ∙ k.1))) g.2 k.2
    (λ same. at_most next pairs segment dest full (w ∷ ws) w.entry z zs (same_some _ _ (sym h.2 ∙ (ap pairs same ∙ o.0))) h.3 o.1 o.2)

before_not_same : (xs : List ℕ) → Before xs xs → ⊥
before_not_same [] h = h
before_not_same (x ∷ xs) (inl h) = omega arith
before_not_same (x ∷ xs) (inr h) = before_not_same xs h.1

before_not_after : (xs ys : List ℕ) → Before xs ys → Before ys xs → ⊥
before_not_after [] ys h g = h
before_not_after (x ∷ xs) [] h g = h
before_not_after (x ∷ xs) (y ∷ ys) (inl h) (inl g) = omega arith
before_not_after (x ∷ xs) (y ∷ ys) (inl h) (inr g) = omega (arith, g.0)
before_not_after (x ∷ xs) (y ∷ ys) (inr h) (inl g) = omega (arith, h.0)
before_not_after (x ∷ xs) (y ∷ ys) (inr h) (inr g) = before_not_after xs ys h.1 g.1

-- what is at most another isn't after it
pub not_less : (xs ys : List PlacedSegment) → AtMost xs ys → Less ys xs → ⊥
not_less xs ys (inl h) (fewer l) = omega arith
not_less xs ys (inl h) (by_points n l) = omega arith
not_less xs ys (inl h) (by_places n e l) = omega arith
not_less xs ys (inr h) (fewer l) = omega (arith, h.0)
not_less xs ys (inr h) (by_points n l) = elim h.1 [
  | inl b ↦ before_not_after (points xs) (points ys) b l
  | inr b ↦ before_not_same (points xs) (subst (λ z. Before z (points xs)) (sym b.0) l)
]
not_less xs ys (inr h) (by_places n e l) = elim h.1 [
  | inl b ↦ before_not_same (points xs) (subst (λ z. Before (points xs) z) e b)
  | inr b ↦ elim b.1 [
    | inl c ↦ before_not_after (places xs) (places ys) c l
    | inr c ↦ before_not_same (places xs) (subst (λ z. Before z (places xs)) (sym c) l)
  ]
]

-- and the table's path is a path
pub follows_chain : (next : ℕ → Option Step) (pairs : ℕ → Option ℕ) (segment : ℕ → ℕ → ℕ → Type 0) (dest : ℕ) → Sound next pairs segment dest
    → (p : ℕ) (xs : List PlacedSegment) → Follows next pairs dest p xs → Chain pairs segment p dest xs
follows_chain next pairs segment dest sound p [] h = h
follows_chain next pairs segment dest sound p (x ∷ []) h = (h.0, subst (λ z. segment x.place z x.exit) (sym h.0) (sound p _ h.1).0, h.2)
follows_chain next pairs segment dest sound p (x ∷ (w ∷ ws)) h =
    let g = follows_chain next pairs segment dest sound w.entry (w ∷ ws) h.3 in
    (h.0, subst (λ z. segment x.place z x.exit) (sym h.0) (sound p _ h.1).0, (h.2, g.1, g.2))
