use Rattle.std.proofs.Common.{◌∙◌, ap}
use Rattle.std.specs.List.{list_any}
use Rattle.nsi_script.specs.Plans.{is_stopped, is_same_call}
use Rattle.nsi_script.specs.PlanKeys.{call_key}
use Rattle.nsi_script.proofs.PlanLemmas.{any_key, call_eq, calls_agree}
use Rattle.nsi_script.proofs.plans.StopLines.has.Goals as goal

pub returns : goal.returns
returns c =
    let line = c.args.line.now in
    let keys = c.self.inside.keys.keys in
    c.contains.ensures
    ∙ ap (λ k. list_any (call_eq k) keys) c.call_key.ensures
    ∙ ap (λ ks. list_any (call_eq (call_key line)) ks) c.self.invariant
    ∙ any_key call_key call_eq is_same_call calls_agree line c.self.inside.lines.items
    ∙ ap (λ ls. is_stopped ls line) c.self.view_is
