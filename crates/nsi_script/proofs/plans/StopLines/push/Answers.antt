use Rattle.std.proofs.Common.{◌∙◌, ap, map, sym}
use Rattle.indexmap.specs.IndexSet.{insert_key}
use Rattle.nsi_script.specs.Plans.{is_stopped, is_same_call}
use Rattle.nsi_script.specs.PlanKeys.{call_key}
use Rattle.nsi_script.proofs.PlanLemmas.{insert_new, call_eq, calls_agree}
use Rattle.nsi_script.proofs.plans.StopLines.push.Goals as goal

pub invariant_of-self-in-Ok : goal.invariant_of-self-in-Ok
invariant_of-self-in-Ok c =
    let line = c.args.line in
    let keys = c.self.inside.keys.keys in
    let absent = ap (λ ls. is_stopped ls line) c.self.view_is ∙ c.requires in
    c.in-Ok.ensures.keys
    ∙ ap (insert_key call_eq keys) c.call_key-key.ensures
    ∙ ap (λ ks. insert_key call_eq ks (call_key line)) c.self.invariant
    ∙ insert_new call_key call_eq is_same_call calls_agree line c.self.inside.lines.items absent
    ∙ ap (map call_key) (sym c.in_ok-push.ensures.items)
