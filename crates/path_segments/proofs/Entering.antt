-- The points of one owner are entered.
use Rattle.std.proofs.Common.{◌≡◌, ◌≢◌, ℕ, ◌<◌, ◌⊎◌, inl, inr, List, [], ◌∷◌, ◌++◌, Option, Some, length, get_or, set, slice_get, sym, ◌∙◌, refl, subst, ap}
use Rattle.std.proofs.lemmas.List.{get_or-set_same, get_or-set_other}
use Rattle.std.proofs.lemmas.Bool.{cases_eq}
use Rattle.std.proofs.lemmas.Option.{slice_get_within}
use Rattle.stp_topology.specs.declared.network.Network.{Network}
use Rattle.path_segments.specs.declared.child_search.Remaining.{Remaining}
use Rattle.path_segments.specs.declared.child_search.Remaining.TheVariants.{All, Only, Nothing}
use Rattle.path_segments.specs.declared.search.Step.{Step}
use Rattle.path_segments.specs.Walks.{AreMutual, In}
use Rattle.path_segments.specs.Searches.{IsEntered, IsExpanded, IsReached, Searching, Changes, Entry, Enters, AreListed, what_remains}
use Rattle.path_segments.proofs.Searches.{AreOwners, NowEntered, StillExpanded, OnlyOwned, enter_changes, enter_searching, same_agent, not_only, only_one}

all_not_expanded : (r : Remaining) (z : ℕ) → r ≡ All → IsExpanded r z → ⊥
all_not_expanded r z h (inl g) = clash (sym h ∙ g)
  where
    clash : All ≡ Nothing → ⊥
    clash e = cc
all_not_expanded r z h (inr g) = not_only r z h g

only_entered : (r : Remaining) (y p : ℕ) → r ≡ Only y → IsEntered r p → p ≢ y
only_entered r y p h (inl g) = absurd (clash (sym h ∙ g))
  where
    clash : Only y ≡ Nothing → ⊥
    clash e = cc
only_entered r y p h (inr g) = λ e. g.2 (e ∙ only_one r y g.0 h g.1)

-- what an owner's change leaves and changes
record Owns (t : Network) (owner : ℕ) (old new : ℕ → Remaining) (r : Remaining) : Type 0 where
  here : new owner ≡ r
  others : (b : ℕ) → b ≢ owner → new b ≡ old b

owns_set : (t : Network) (owner : ℕ) (old : List Remaining) (r : Remaining) → owner < length old → Owns t owner (what_remains old) (what_remains (set old owner r)) r
owns_set t owner old r l = record { here = get_or-set_same old owner r All l; others = λ b n. get_or-set_other old owner b r All n }

pub reached_here : (t : Network) (among : ℕ → Type 0) (y owner : ℕ) (new : ℕ → Remaining) → slice_get t.owners y ≡ Some owner → IsExpanded (new owner) y → IsReached t among new y
reached_here t among y owner new is x = λ b m o. subst (λ z. IsExpanded (new z) y) (same_agent owner b (sym is ∙ o)) x

expanded_still : (t : Network) (owner : ℕ) (old new : ℕ → Remaining) (r : Remaining) → Owns t owner old new r → ((z : ℕ) → IsExpanded (old owner) z → IsExpanded r z) → StillExpanded old new
expanded_still t owner old new r w f b z x = elim (cases_eq b owner) [
  | inl e ↦ subst (λ k. IsExpanded (new k) z) (sym e) (subst (λ k. IsExpanded k z) (sym w.here) (f z (subst (λ k. IsExpanded (old k) z) e x)))
  | inr n ↦ subst (λ k. IsExpanded k z) (sym (w.others b n)) x
]

only_owned : (t : Network) (owner : ℕ) (old new : ℕ → Remaining) (r : Remaining) → Owns t owner old new r → ((z : ℕ) → r ≡ Only z → slice_get t.owners z ≡ Some owner) → OnlyOwned t old → OnlyOwned t new
only_owned t owner old new r w f h b z o = elim (cases_eq b owner) [
  | inl e ↦ subst (λ k. slice_get t.owners z ≡ Some k) (sym e) (f z (sym w.here ∙ (ap new (sym e) ∙ o)))
  | inr n ↦ h b z (sym (w.others b n) ∙ o)
]

now_entered : (t : Network) (among : ℕ → Type 0) (y owner : ℕ) (points : List ℕ) (old new : ℕ → Remaining) (r : Remaining) → Owns t owner old new r
    → ((p : ℕ) → slice_get t.owners p ≡ Some owner → IsEntered r p → IsEntered (old owner) p ⊎ (In p points × (p ≢ y))) → NowEntered t among y points old new
now_entered t among y owner points old new r w f b p m o i = elim (cases_eq b owner) [
  | inl e ↦ subst (λ k. IsEntered (old k) p ⊎ (In p points × (p ≢ y))) (sym e)
      (f p (o ∙ ap Some e) (subst (λ k. IsEntered k p) w.here (subst (λ k. IsEntered (new k) p) e i)))
  | inr n ↦ inl (subst (λ k. IsEntered k p) (w.others b n) i)
]

-- all points of the owner but the exit are entered
pub record Entered (t : Network) (among : ℕ → Type 0) (s : Step) (old new : ℕ → Option Step) (now : List Remaining) (after : List ℕ) : Type 0 where
  pub changes : Changes (Entry t among s) s old new
  pub searching : Searching t among s.exit new (what_remains now) after

pub enter_all : (t : Network) (among : ℕ → Type 0) (s : Step) (y owner : ℕ) (lists : List (List ℕ)) (points : List ℕ) (old new : ℕ → Option Step) (remaining : List Remaining) (before after : List ℕ)
    → AreMutual t → AreListed t (length t.owners) lists → points ≡ get_or lists owner [] → slice_get t.owners y ≡ Some owner → among owner → owner < length remaining → what_remains remaining owner ≡ All
    → Enters t s y points old new before after → Searching t among s.exit old (what_remains remaining) (before ++ y ∷ [])
    → Entered t among s old new (set remaining owner (Only y)) after
enter_all t among s y owner lists points old new remaining before after paired listed these is m l all e h = record {
  changes = enter_changes t among s y points old new (what_remains remaining) before after owners e h;
  searching = enter_searching t among s y points old new (what_remains remaining) (what_remains (set remaining owner (Only y))) before after paired owners
      (now_entered t among y owner points (what_remains remaining) (what_remains (set remaining owner (Only y))) (Only y) owns (λ p o i. inr (
        subst (In p) (sym these) (listed.listed owner p (slice_get_within t.owners p owner o) o),
        only_entered (Only y) y p refl i,
      )))
      (expanded_still t owner (what_remains remaining) (what_remains (set remaining owner (Only y))) (Only y) owns (λ z x. absurd (all_not_expanded (what_remains remaining owner) z all x)))
      (reached_here t among y owner (what_remains (set remaining owner (Only y))) is (inr owns.here))
      (only_owned t owner (what_remains remaining) (what_remains (set remaining owner (Only y))) (Only y) owns (λ z o. subst (λ k. slice_get t.owners k ≡ Some owner) (only_one (Only y) y z refl o) is) h.closed.only)
      e h;
}
  where
    owns : Owns t owner (what_remains remaining) (what_remains (set remaining owner (Only y))) (Only y)
    owns = owns_set t owner remaining (Only y) l

    owners : AreOwners t among y points
    owners p i n = (owner, m, (listed.owned owner p (subst (In p) these i), is))

pub enter_one : (t : Network) (among : ℕ → Type 0) (s : Step) (y z owner : ℕ) (old new : ℕ → Option Step) (remaining : List Remaining) (before after : List ℕ)
    → AreMutual t → slice_get t.owners y ≡ Some owner → among owner → owner < length remaining → what_remains remaining owner ≡ Only z → z ≢ y
    → Enters t s y (z ∷ []) old new before after → Searching t among s.exit old (what_remains remaining) (before ++ y ∷ [])
    → Entered t among s old new (set remaining owner Nothing) after
enter_one t among s y z owner old new remaining before after paired is m l one apart e h = record {
  changes = enter_changes t among s y (z ∷ []) old new (what_remains remaining) before after owners e h;
  searching = enter_searching t among s y (z ∷ []) old new (what_remains remaining) (what_remains (set remaining owner Nothing)) before after paired owners
      (now_entered t among y owner (z ∷ []) (what_remains remaining) (what_remains (set remaining owner Nothing)) Nothing owns (λ p o i. elim (cases_eq p z) [
        | inl k ↦ inr (inl k, (λ j. apart (sym k ∙ j)))
        | inr k ↦ inl (inr (z, one, k))
      ]))
      (expanded_still t owner (what_remains remaining) (what_remains (set remaining owner Nothing)) Nothing owns (λ z x. inl refl))
      (reached_here t among y owner (what_remains (set remaining owner Nothing)) is (inl owns.here))
      (only_owned t owner (what_remains remaining) (what_remains (set remaining owner Nothing)) Nothing owns (λ z o. absurd (clash z o)) h.closed.only)
      e h;
}
  where
    clash : (z : ℕ) → Nothing ≡ Only z → ⊥
    clash z q = cc

    owns : Owns t owner (what_remains remaining) (what_remains (set remaining owner Nothing)) Nothing
    owns = owns_set t owner remaining Nothing l

    owners : AreOwners t among y (z ∷ [])
    owners p (inl i) n = (owner, m, (subst (λ k. slice_get t.owners k ≡ Some owner) (sym i) (h.closed.only owner z one), is))
    owners p (inr i) n = absurd i

pub reached_outside : (t : Network) (among : ℕ → Type 0) (y owner : ℕ) (remaining : ℕ → Remaining) → slice_get t.owners y ≡ Some owner → (among owner → ⊥) → IsReached t among remaining y
reached_outside t among y owner remaining is n = λ b m o. absurd (n (subst among (same_agent b owner (sym o ∙ is)) m))
