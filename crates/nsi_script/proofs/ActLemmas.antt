-- Groups with one act or one group more.
use Rattle.std.proofs.Common.{◌≡◌, ◌≤◌, ◌<◌, ℕ, zero, suc, ◌+◌, ◌-◌, List, [], ◌∷◌, ◌++◌, Bool, true, false, ◌||◌, cond, All, length, count_by, get_or, slice_set, arith, refl, sym, ap, ◌∙◌, subst}
use Rattle.std.specs.List.{list_any}
use Rattle.std.proofs.lemmas.List.{append-nil, append_assoc, length-map, map-append}
use Rattle.std.proofs.lemmas.List.Elements.{All-push}
use Rattle.std.proofs.lemmas.List.Folds.{list_any-append}
use Rattle.std.proofs.lemmas.List.Sums.{sum_by_push}
use Rattle.stp_topology.specs.declared.network.Network.{Network}
use Rattle.nsi_script.specs.declared.script.Act.{Act}
use Rattle.nsi_script.specs.declared.script.Group.{Group}
use Rattle.nsi_script.specs.declared.script.Script.{Script}
use Rattle.nsi_script.specs.Fits.{Fits, IsActOf, IsRising}
use Rattle.nsi_script.specs.Lines.{greatest_asks}
use Rattle.nsi_script.specs.Scripts.{acts_of, asks_of, is_ask, is_reserved, reserves, seconds_of, last_second, group_at, with_act}

-- the last group in its place
pub set_last : (groups : List Group) (k : ℕ) (act : Act) (g : Group) → k + 1 ≡ length groups → g ≡ get_or groups k g
    → slice_set groups k (record { at = g.at; acts = g.acts ++ act ∷ [] }) ≡ with_act groups act
set_last [] k act g e i = absurd (omega (arith, e))
set_last (h ∷ []) zero act g e i = ap (λ (x : Group). record { at = x.at; acts = x.acts ++ act ∷ [] } ∷ []) i
set_last (h ∷ []) (suc k) act g e i = absurd (omega (arith, e))
set_last (h ∷ (j ∷ gs)) zero act g e i = absurd (omega (arith, e))
set_last (h ∷ (j ∷ gs)) (suc k) act g e i = ap (λ r. h ∷ r) (set_last (j ∷ gs) k act g (omega (arith, e)) i)

acts_push : (groups : List Group) (act : Act) → 0 < length groups → acts_of (with_act groups act) ≡ acts_of groups ++ act ∷ []
acts_push [] act h = absurd (omega (arith, h))
acts_push (g ∷ []) act h = append-nil (g.acts ++ act ∷ []) ∙ ap (λ acts. acts ++ act ∷ []) (sym (append-nil g.acts))
acts_push (g ∷ (h ∷ gs)) act l = ap (λ acts. g.acts ++ acts) (acts_push (h ∷ gs) act (omega arith)) ∙ sym (append_assoc g.acts (acts_of (h ∷ gs)) (act ∷ []))

seconds_same : (groups : List Group) (act : Act) → seconds_of (with_act groups act) ≡ seconds_of groups
seconds_same [] act = refl
seconds_same (g ∷ []) act = refl
seconds_same (g ∷ (h ∷ gs)) act = ap (λ seconds. g.at ∷ seconds) (seconds_same (h ∷ gs) act)

acts_same : (groups : List Group) (at : ℕ) → acts_of (groups ++ group_at at ∷ []) ≡ acts_of groups
acts_same [] at = refl
acts_same (g ∷ gs) at = ap (λ acts. g.acts ++ acts) (acts_same gs at)

rising_push : (seconds : List ℕ) (at : ℕ) → IsRising seconds → get_or seconds (length seconds - 1) 0 ≤ at → IsRising (seconds ++ at ∷ [])
rising_push [] at r l = tt
rising_push (x ∷ []) at r l = (l, tt)
rising_push (x ∷ (y ∷ ys)) at r l =
    let k : length (x ∷ (y ∷ ys)) - 1 ≡ suc (length (y ∷ ys) - 1) = omega arith in
    (r.0, rising_push (y ∷ ys) at r.1 (subst (λ i. get_or (x ∷ (y ∷ ys)) i 0 ≤ at) k l))

-- what is asked of groups with one act more
pub reserved_push : (groups : List Group) (act : Act) → 0 < length groups → (agent : ℕ) (label : List ℕ)
    → is_reserved (with_act groups act) agent label ≡ reserves agent label act || is_reserved groups agent label
reserved_push groups act h agent label =
    ap (list_any (reserves agent label)) (acts_push groups act h)
    ∙ (list_any-append (reserves agent label) (acts_of groups) (act ∷ []) ∙ turned (is_reserved groups agent label) (reserves agent label act))
  where
    turned : (a b : Bool) → (a || (b || false)) ≡ (b || a)
    turned true true = refl
    turned true false = refl
    turned false true = refl
    turned false false = refl

pub asks_push : (groups : List Group) (act : Act) → 0 < length groups → asks_of (with_act groups act) ≡ asks_of groups + cond (is_ask act) 1 0
asks_push groups act h = ap (count_by is_ask) (acts_push groups act h) ∙ sum_by_push (λ a. cond (is_ask a) 1 0) (acts_of groups) act

-- a group that begins asks for nothing
pub reserved_same : (groups : List Group) (at : ℕ) (agent : ℕ) (label : List ℕ) → is_reserved (groups ++ group_at at ∷ []) agent label ≡ is_reserved groups agent label
reserved_same groups at agent label = ap (list_any (reserves agent label)) (acts_same groups at)

pub asks_same : (groups : List Group) (at : ℕ) → asks_of (groups ++ group_at at ∷ []) ≡ asks_of groups
asks_same groups at = ap (count_by is_ask) (acts_same groups at)

pub fits_group : (t : Network) (s : Script) (at : ℕ) → Fits t s → last_second s.groups ≤ at → Fits t (record s { groups = s.groups ++ group_at at ∷ [] })
fits_group t s at f l = record {
  planned = f.planned;
  stopped = f.stopped;
  rising =
      let last : get_or (seconds_of s.groups) (length (seconds_of s.groups) - 1) 0 ≤ at = subst (λ n. get_or (seconds_of s.groups) (n - 1) 0 ≤ at) (sym (length-map s.groups (λ (g : Group). g.at))) l in
      subst IsRising (sym (map-append (λ (g : Group). g.at) s.groups (group_at at ∷ []))) (rising_push (seconds_of s.groups) at f.rising last);
  acts = subst (All (IsActOf t)) (sym (acts_same s.groups at)) f.acts;
  few_asks = subst (λ n. n ≤ greatest_asks) (sym (asks_same s.groups at)) f.few_asks;
}

pub fits_act : (t : Network) (s : Script) (act : Act) → Fits t s → 0 < length s.groups → IsActOf t act → asks_of s.groups + cond (is_ask act) 1 0 ≤ greatest_asks → Fits t (record s { groups = with_act s.groups act })
fits_act t s act f h of few = record {
  planned = f.planned;
  stopped = f.stopped;
  rising = subst IsRising (sym (seconds_same s.groups act)) f.rising;
  acts = subst (All (IsActOf t)) (sym (acts_push s.groups act h)) (All-push (IsActOf t) (acts_of s.groups) act f.acts of);
  few_asks = subst (λ n. n ≤ greatest_asks) (sym (asks_push s.groups act h)) few;
}
