-- Lines and their keys.
use Rattle.std.proofs.Common.{◌≡◌, List, [], ◌∷◌, ◌++◌, Bool, false, ◌||◌, ◌&&◌, eqb, cond, map, refl, ap, ◌∙◌}
use Rattle.std.specs.List.{list_any}
use Rattle.indexmap.specs.IndexSet.{insert_key}
use Rattle.nsi_script.specs.declared.plans.CallKey.{CallKey}
use Rattle.nsi_script.specs.declared.plans.ParcelKey.{ParcelKey}
use Rattle.nsi_script.specs.declared.script.PlanLine.{PlanLine}
use Rattle.nsi_script.specs.declared.script.StopLine.{StopLine}
use Rattle.nsi_script.specs.PlanKeys.{parcel_key, call_key}
use Rattle.nsi_script.specs.Plans.{is_same_parcel, is_same_call}

module _ {L K : Type 0} (key : L → K) (eq : K → K → Bool) (same : L → L → Bool) (agree : (a b : L) → eq (key a) (key b) ≡ same a b) where
  -- a key is among the keys where the line is among the lines
  pub any_key : (line : L) (lines : List L) → list_any (eq (key line)) (map key lines) ≡ list_any (same line) lines
  any_key line [] = refl
  any_key line (l ∷ ls) = ap (λ b. b || list_any (eq (key line)) (map key ls)) (agree line l) ∙ ap (λ b. same line l || b) (any_key line ls)

  keys_push : (line : L) (lines : List L) → map key lines ++ key line ∷ [] ≡ map key (lines ++ line ∷ [])
  keys_push line [] = refl
  keys_push line (l ∷ ls) = ap (λ ks. key l ∷ ks) (keys_push line ls)

  -- the key of a new line goes last
  pub insert_new : (line : L) (lines : List L) → list_any (same line) lines ≡ false → insert_key eq (map key lines) (key line) ≡ map key (lines ++ line ∷ [])
  insert_new line lines h = ap (λ b. cond b (map key lines) (map key lines ++ key line ∷ [])) (any_key line lines ∙ h) ∙ keys_push line lines

abbrev pub parcel_eq : ParcelKey → ParcelKey → Bool
parcel_eq a b = eqb a.from b.from && (eqb a.to b.to && (eqb a.parcel b.parcel && eqb a.nth b.nth))

pub parcels_agree : (a b : PlanLine) → parcel_eq (parcel_key a) (parcel_key b) ≡ is_same_parcel a b
parcels_agree a b = refl

abbrev pub call_eq : CallKey → CallKey → Bool
call_eq a b = eqb a.agent b.agent && eqb a.call b.call

pub calls_agree : (a b : StopLine) → call_eq (call_key a) (call_key b) ≡ is_same_call a b
calls_agree a b = refl
