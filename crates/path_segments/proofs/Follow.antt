-- Going from step to step.
use Rattle.std.proofs.Common.{◌≡◌, ℕ, zero, suc, ◌+◌, List, [], ◌∷◌, Option, Some, length, sym, ◌∙◌, refl, subst, ap, arith}
use Rattle.path_segments.specs.declared.search.Step.{Step}
use Rattle.path_segments.specs.declared.path.PlacedSegment.{PlacedSegment}
use Rattle.path_segments.specs.Paths.{Chain, Less}
use Rattle.path_segments.specs.Steps.{Hop, Complete, Follows}
use Rattle.path_segments.proofs.Least.{reaches, at_most, not_less}

abbrev pub segment_of : ℕ → Step → PlacedSegment
segment_of p step = record { place = step.place; entry = p; exit = step.exit }

with_rest : (next : ℕ → Option Step) (p r : ℕ) (step : Step) → next p ≡ Some step → step.rest ≡ r → next p ≡ Some (record { rest = r; exit = step.exit; place = step.place })
with_rest next p r step h e = h ∙ ap (λ z. Some (record { rest = z; exit = step.exit; place = step.place })) e

pub follows_last : (next : ℕ → Option Step) (pairs : ℕ → Option ℕ) (dest p : ℕ) (step : Step) → next p ≡ Some step → step.rest ≡ 0 → Hop next pairs dest step.rest step.exit
    → Follows next pairs dest p (segment_of p step ∷ [])
follows_last next pairs dest p step h e hop = (refl, with_rest next p 0 step h e, subst (λ z. Hop next pairs dest z step.exit) e hop)

pub hop_next : (next : ℕ → Option Step) (pairs : ℕ → Option ℕ) (dest r x : ℕ) → Hop next pairs dest r x → (r ≡ 0 → ⊥)
    → (y : ℕ) × (e : Step) × (pairs x ≡ Some y) × (next y ≡ Some e) × (e.rest + 1 ≡ r)
hop_next next pairs dest zero x h n = absurd (n refl)
hop_next next pairs dest (suc r) x h n = (h.0, h.1, h.2, h.3, omega (arith, h.4))

follows_rest : (next : ℕ → Option Step) (pairs : ℕ → Option ℕ) (dest y : ℕ) (z : PlacedSegment) (zs : List PlacedSegment) (e : Step) → Follows next pairs dest y (z ∷ zs) → next y ≡ Some e → (e.rest ≡ length zs) × (z.entry ≡ y)
follows_rest next pairs dest y z [] e h n = let same : Some (record { rest = 0; exit = z.exit; place = z.place }) ≡ Some e = sym h.1 ∙ n in (rest_is _ e same, h.0)
  where
    rest_is : (a b : Step) → Some a ≡ Some b → b.rest ≡ a.rest
    rest_is a b q = let s : a ≡ b = cc in ap (λ (z : Step). z.rest) (sym s)
follows_rest next pairs dest y z (w ∷ ws) e h n = let same : Some (record { rest = length (w ∷ ws); exit = z.exit; place = z.place }) ≡ Some e = sym h.1 ∙ n in (rest_is _ e same, h.0)
  where
    rest_is : (a b : Step) → Some a ≡ Some b → b.rest ≡ a.rest
    rest_is a b q = let s : a ≡ b = cc in ap (λ (z : Step). z.rest) (sym s)

pub follows_more : (next : ℕ → Option Step) (pairs : ℕ → Option ℕ) (dest p y : ℕ) (step e : Step) → next p ≡ Some step → next y ≡ Some e → pairs step.exit ≡ Some y → e.rest + 1 ≡ step.rest
    → (xs : List PlacedSegment) → Follows next pairs dest y xs → Follows next pairs dest p (segment_of p step ∷ xs)
follows_more next pairs dest p y step e h n j r [] f = absurd f
follows_more next pairs dest p y step e h n j r (z ∷ zs) f =
    let g = follows_rest next pairs dest y z zs e f n in
    (refl, with_rest next p (length (z ∷ zs)) step h (omega (arith, g.0)), j ∙ ap Some (sym g.1), subst (λ v. Follows next pairs dest v (z ∷ zs)) (sym g.1) f)

pub no_path : (next : ℕ → Option Step) (pairs : ℕ → Option ℕ) (segment : ℕ → ℕ → ℕ → Type 0) (dest source : ℕ) → Complete next pairs segment dest
    → ((e : Step) → next source ≡ Some e → ⊥) → (ys : List PlacedSegment) → Chain pairs segment source dest ys → ⊥
no_path next pairs segment dest source full n [] h = h
no_path next pairs segment dest source full n (y ∷ ys) h =
    let g = reaches next pairs segment dest full y ys h.1 h.2 in n g.0 (ap next (sym h.0) ∙ g.1)

pub none_less : (next : ℕ → Option Step) (pairs : ℕ → Option ℕ) (segment : ℕ → ℕ → ℕ → Type 0) (dest source : ℕ) → Complete next pairs segment dest
    → (xs : List PlacedSegment) → Follows next pairs dest source xs → (ys : List PlacedSegment) → Chain pairs segment source dest ys → Less ys xs → ⊥
none_less next pairs segment dest source full xs f [] h l = h
none_less next pairs segment dest source full xs f (y ∷ ys) h l =
    not_less xs (y ∷ ys) (at_most next pairs segment dest full xs source y ys (sym h.0) f h.1 h.2) l
