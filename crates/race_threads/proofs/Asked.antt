-- What a script asks.
use Rattle.std.proofs.Common.{◌≡◌, ◌≤◌, List, [], ◌∷◌, length, Some, None, refl, sym, ap, ◌∙◌, arith}
use Rattle.std.specs.Prelude.{slice_get}
use Rattle.std.proofs.lemmas.List.{append-nil}
use Rattle.nsi_script.specs.declared.script.Group.{Group}
use Rattle.nsi_script.specs.Scripts.{acts_of}
use Rattle.race_run.specs.Scripts.{start_of}

same_group : (g h : Group) → Some g ≡ Some h → g ≡ h
same_group g h e = cc

pub group_start : (groups : List Group) (g : Group) → Some g ≡ slice_get groups 0 → Some g.at ≡ start_of groups
group_start [] g e = absurd (cc)
group_start (h ∷ gs) g e = ap (λ (x : Group). Some x.at) (same_group g h e)

pub group_acts : (groups : List Group) (g : Group) → length groups ≤ 1 → Some g ≡ slice_get groups 0 → g.acts ≡ acts_of groups
group_acts [] g few e = absurd (cc)
group_acts (h ∷ []) g few e = ap (λ (x : Group). x.acts) (same_group g h e) ∙ sym (append-nil h.acts)
group_acts (h ∷ (i ∷ gs)) g few e = absurd (omega (arith, few))

pub no_group_start : (groups : List Group) → None ≡ slice_get groups 0 → None ≡ start_of groups
no_group_start [] e = refl
no_group_start (g ∷ gs) e = absurd (cc)

pub no_group_acts : (groups : List Group) → None ≡ slice_get groups 0 → [] ≡ acts_of groups
no_group_acts [] e = refl
no_group_acts (g ∷ gs) e = absurd (cc)
