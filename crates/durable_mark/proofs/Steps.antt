-- The steps of a mark keep its rule.
use Rattle.std.proofs.Common.{◌≡◌, ◌≢◌, ℕ, ◌≤◌, max, List, [], ◌∷◌, ◌++◌, length, set, slice_index, refl, sym, subst, ⊎_elim, le_refl, le_trans, arith}
use mathlib.Core.Option.{some}
use lib.ListN.{get_elem?}
use Rattle.atomic_table.specs.Table.{Me, Allows, keeps}
use Rattle.atomic_table.proofs.Lists.{at_set, at_snoc}
use Rattle.durable_mark.specs.Rising.{MarkState, IsAtMost}
use Rattle.durable_mark.specs.Laws.{LoadsKeep, RaisesKeep, SplitsKeep, JoinsKeep}

-- none of these has seen more
abbrev Below : ℕ → List ℕ → Type 0
Below top views = (seat seen : ℕ) → get_elem? views seat ≡ some seen → seen ≤ top

below_set : (top seat new : ℕ) (views : List ℕ) → Below top views → new ≤ top → Below top (set views seat new)
below_set top seat new views below le j u e =
    ⊎_elim
    (λ (t : (j ≡ seat) × (new ≡ u)). subst (λ (z : ℕ). z ≤ top) t.1 le)
    (λ (t : (j ≢ seat) × (get_elem? views j ≡ some u)). below j u t.1)
    (at_set views seat j new u e)

below_snoc : (top new : ℕ) (views : List ℕ) → Below top views → new ≤ top → Below top (views ++ new ∷ [])
below_snoc top new views below le j u e =
    ⊎_elim (below j u) (λ (t : new ≡ u). subst (λ (z : ℕ). z ≤ top) t le) (at_snoc views new u j e)

below_more : (top more : ℕ) (views : List ℕ) → Below top views → top ≤ more → Below more views
below_more top more views below le j u e = le_trans (below j u e) le

set_one : (ws : List ℕ) (n : ℕ) → length ws ≡ 1 → slice_index (set ws 0 n) 0 ≡ n
set_one [] n one = absurd (omega arith)
set_one (w ∷ ws) n one = refl

length_one : (ws : List ℕ) (n : ℕ) → length ws ≡ 1 → length (set ws 0 n) ≡ 1
length_one [] n one = one
length_one (w ∷ ws) n one = one

-- the word becomes a number that is no less, and the seat has seen that
raised : (s : MarkState) (seat top : ℕ) → IsAtMost s → slice_index s.words 0 ≤ top
    → IsAtMost record { words = set s.words 0 top; homes = s.homes; views = set s.views seat top }
raised s seat top h up = record {
  one = length_one s.words top h.one;
  most = subst (λ (z : ℕ). Below z (set s.views seat top)) (sym (set_one s.words top h.one))
      (below_set top seat top s.views (below_more (slice_index s.words 0) top s.views h.most up) (le_refl top));
}

-- a step that doesn't lower the word, and moves no slots
rises : (slots seat : ℕ) (me : Me (Unit {0}) ℕ) (f : ℕ → ℕ) → ((n : ℕ) → n ≤ f n)
    → Allows IsAtMost slots seat me 0 f (λ found new. (me.0 ≤ found) × (new.0 ≡ f found) × (new.1 ≡ me.1))
rises slots seat me f up s h homes at fits =
    let top : ℕ = f (slice_index s.words 0) in
    (top, keeps, tt, raised s seat top h (up (slice_index s.words 0)), (h.most seat me.0 at, refl, refl))

pub loads : LoadsKeep
loads slots seat me = rises slots seat me (λ n. n) le_refl

pub raises : RaisesKeep
raises slots seat to me = rises slots seat me (λ n. max n to) (λ n. omega arith)

pub splits : SplitsKeep
splits seat seen s h at =
    let top : ℕ = slice_index s.words 0 in
    let mine : seen ≤ top = h.most seat seen at in
    record { one = h.one; most = below_snoc top seen (set s.views seat seen) (below_set top seat seen s.views h.most mine) mine }

pub joins : JoinsKeep
joins seat seen other known s h at apart there =
    let top : ℕ = slice_index s.words 0 in
    let mine : seen ≤ top = h.most seat seen at in
    let theirs : known ≤ top = ⊎_elim
    (λ (t : (other ≡ seat) × (max seen known ≡ known)). absurd (apart t.0))
    (λ (t : (other ≢ seat) × (get_elem? s.views other ≡ some known)). h.most other known t.1)
    (at_set s.views seat other (max seen known) known there) in
    record {
      one = h.one;
      most = below_set top other 0 (set s.views seat (max seen known)) (below_set top seat (max seen known) s.views h.most (omega arith)) (omega arith);
    }
