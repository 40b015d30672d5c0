-- The wires of links.
use Rattle.std.proofs.Common.{ℕ, ◌<◌, ◌≡◌, ◌==◌, ◌&&◌, Bool, true, false, cond, List, [], ◌∷◌, ◌++◌, Option, Some, None, refl, sym, ap, ap₂, ◌∙◌, arith, eqb-true}
use Rattle.agent_link.specs.Link.{Half, OutHalf, Wire}
use Rattle.agent_node.specs.Passing.{crossed}
use Rattle.net_run.specs.declared.joints.Joint.{Joint}
use Rattle.net_run.specs.Joints.{wires, ArePaired, or_else}

pub cond_or : (c : Bool) (w : Wire × Wire) (o : Option (Wire × Wire)) → cond c (Some w) o ≡ or_else (cond c (Some w) None) o
cond_or true w o = refl
cond_or false w o = refl

pub cond_step : (c : Bool) (w : Wire × Wire) (l r o : Option (Wire × Wire)) → l ≡ or_else r o → cond c (Some w) l ≡ or_else (cond c (Some w) r) o
cond_step true w l r o e = refl
cond_step false w l r o e = e

pub or_assoc : (o p q : Option (Wire × Wire)) → or_else (or_else o p) q ≡ or_else o (or_else p q)
or_assoc None p q = refl
or_assoc (Some w) p q = refl

pub or_none : (o : Option (Wire × Wire)) → or_else o None ≡ o
or_none None = refl
or_none (Some w) = refl

pub wires_append : (a b : ℕ) (xs ys : List Joint) → wires a b (xs ++ ys) ≡ or_else (wires a b xs) (wires a b ys)
wires_append a b [] ys = refl
wires_append a b (x ∷ xs) ys =
    cond_step ((x.at == a) && (x.other == b)) (x.out.wire, x.inc.wire) (wires a b (xs ++ ys)) (wires a b xs) (wires a b ys) (wires_append a b xs ys)

crossed_or : (o p : Option (Wire × Wire)) → crossed (or_else o p) ≡ or_else (crossed o) (crossed p)
crossed_or None p = refl
crossed_or (Some w) p = refl

pub paired_append : (xs ys : List Joint) → ArePaired xs → ArePaired ys → ArePaired (xs ++ ys)
paired_append xs ys p q = λ a b.
    wires_append a b xs ys
    ∙ (ap₂ or_else (p a b) (q a b) ∙ (sym (crossed_or (wires b a xs) (wires b a ys)) ∙ ap crossed (sym (wires_append b a xs ys))))

and_swap : (c d : Bool) → (c && d) ≡ (d && c)
and_swap true true = refl
and_swap true false = refl
and_swap false true = refl
and_swap false false = refl

and_first : (c d : Bool) → (c && d) ≡ true → c ≡ true
and_first true d e = refl
and_first false d e = e

and_second : (c d : Bool) → (c && d) ≡ true → d ≡ true
and_second true d e = e
and_second false true e = refl
and_second false false e = e

crossing : (c d : Bool) (v w : Wire) → (c ≡ true → d ≡ true → ⊥)
    → cond c (Some (v, w)) (cond d (Some (w, v)) None) ≡ crossed (cond d (Some (v, w)) (cond c (Some (w, v)) None))
crossing true true v w n = absurd (n refl refl)
crossing true false v w n = refl
crossing false true v w n = refl
crossing false false v w n = refl

-- the ends of the two ways between two agents
abbrev pub joint : ℕ → ℕ → OutHalf → Half → Joint
joint a b out inc = record { at = a; other = b; out = out; inc = inc }

pub two_paired : (a b : ℕ) (o : OutHalf) (i : Half) (p : OutHalf) (j : Half) → b < a → o.wire ≡ j.wire → p.wire ≡ i.wire → ArePaired (joint a b o i ∷ (joint b a p j ∷ []))
two_paired a b o i p j h e f = λ q r.
    let c = (a == q) && (b == r) in
    let d = (a == r) && (b == q) in
    let there : Wire × Wire = (p.wire, j.wire) in
    let here : Wire × Wire = (i.wire, o.wire) in
    let pair : Some there ≡ Some here = ap₂ (λ (x y : Wire). let w : Wire × Wire = (x, y) in Some w) f (sym e) in
    let apart : c ≡ true → d ≡ true → ⊥ = λ x y.
    let aq = eqb-true a q (and_first (a == q) (b == r) x) in
    let bq = eqb-true b q (and_second (a == r) (b == q) y) in
    absurd (omega (arith, h, aq, bq)) in
    ap₂ (λ (z : Bool) (w : Option (Wire × Wire)). cond c (Some (o.wire, i.wire)) (cond z w None)) (and_swap (b == q) (a == r)) pair
    ∙ (crossing c d o.wire i.wire apart
    ∙ ap₂ (λ (z : Bool) (w : Option (Wire × Wire)). crossed (cond d (Some (o.wire, i.wire)) (cond z w None))) (and_swap (a == q) (b == r)) (sym pair))
