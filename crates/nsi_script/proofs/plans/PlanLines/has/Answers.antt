use Rattle.std.proofs.Common.{◌∙◌, ap}
use Rattle.std.specs.List.{list_any}
use Rattle.nsi_script.specs.Plans.{is_planned, is_same_parcel}
use Rattle.nsi_script.specs.PlanKeys.{parcel_key}
use Rattle.nsi_script.proofs.PlanLemmas.{any_key, parcel_eq, parcels_agree}
use Rattle.nsi_script.proofs.plans.PlanLines.has.Goals as goal

pub returns : goal.returns
returns c =
    let line = c.args.line.now in
    let keys = c.self.inside.keys.keys in
    c.contains.ensures
    ∙ ap (λ k. list_any (parcel_eq k) keys) c.parcel_key.ensures
    ∙ ap (λ ks. list_any (parcel_eq (parcel_key line)) ks) c.self.invariant
    ∙ any_key parcel_key parcel_eq is_same_parcel parcels_agree line c.self.inside.lines.items
    ∙ ap (λ ls. is_planned ls line) c.self.view_is
