use Rattle.std.proofs.Common.{◌≡◌, ◌≤◌, ◌∙◌, List, length, sym, ap, arith}
use Rattle.std.specs.Option.{option_copied}
use Rattle.nsi_script.specs.declared.script.Group.{Group}
use Rattle.nsi_script.specs.Scripts.{acts_of}
use Rattle.race_run.specs.Scripts.{start_of}
use Rattle.race_threads.proofs.Asked.{group_start, group_acts, no_group_start, no_group_acts}
use Rattle.race_threads.proofs.callers.race_of.Goals as goal

pub returns-in-Some-clause-start : goal.returns-in-Some-clause-start
returns-in-Some-clause-start c =
    group_start c.items-groups.result.now c.in-Some.group.now (sym (ap option_copied c.in-Some.is) ∙ c.first.ensures.value) ∙ ap (λ (gs : List Group). start_of gs) c.items-groups.ensures

pub returns-in-Some-clause-acts : goal.returns-in-Some-clause-acts
returns-in-Some-clause-acts c =
    let same : length c.items-groups.result.now ≡ length c.args.script.now.groups = ap (λ (gs : List Group). length gs) c.items-groups.ensures in
    let few : length c.items-groups.result.now ≤ 1 = omega (arith, same, c.requires) in
    c.items-acts.ensures ∙ group_acts c.items-groups.result.now c.in-Some.group.now few (sym (ap option_copied c.in-Some.is) ∙ c.first.ensures.value) ∙ ap (λ (gs : List Group). acts_of gs) c.items-groups.ensures

pub returns-in-None-clause-start : goal.returns-in-None-clause-start
returns-in-None-clause-start c = no_group_start c.items-groups.result.now (sym (ap option_copied c.in-None.is) ∙ c.first.ensures.value) ∙ ap (λ (gs : List Group). start_of gs) c.items-groups.ensures

pub returns-in-None-clause-acts : goal.returns-in-None-clause-acts
returns-in-None-clause-acts c = no_group_acts c.items-groups.result.now (sym (ap option_copied c.in-None.is) ∙ c.first.ensures.value) ∙ ap (λ (gs : List Group). acts_of gs) c.items-groups.ensures
