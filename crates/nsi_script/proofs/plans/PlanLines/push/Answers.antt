use Rattle.std.proofs.Common.{◌∙◌, ap, map, sym}
use Rattle.indexmap.specs.IndexSet.{insert_key}
use Rattle.nsi_script.specs.Plans.{is_planned, is_same_parcel}
use Rattle.nsi_script.specs.PlanKeys.{parcel_key}
use Rattle.nsi_script.proofs.PlanLemmas.{insert_new, parcel_eq, parcels_agree}
use Rattle.nsi_script.proofs.plans.PlanLines.push.Goals as goal

pub invariant_of-self-in-Ok : goal.invariant_of-self-in-Ok
invariant_of-self-in-Ok c =
    let line = c.args.line in
    let keys = c.self.inside.keys.keys in
    let absent = ap (λ ls. is_planned ls line) c.self.view_is ∙ c.requires in
    c.in-Ok.ensures.keys
    ∙ ap (insert_key parcel_eq keys) c.parcel_key-key.ensures
    ∙ ap (λ ks. insert_key parcel_eq ks (parcel_key line)) c.self.invariant
    ∙ insert_new parcel_key parcel_eq is_same_parcel parcels_agree line c.self.inside.lines.items absent
    ∙ ap (map parcel_key) (sym c.in_ok-push.ensures.items)
