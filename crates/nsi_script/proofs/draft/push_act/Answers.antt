use Rattle.std.proofs.Common.{◌-◌, List, slice_set, arith, ap, ◌∙◌}
use Rattle.nsi_script.specs.declared.script.Act.{Act}
use Rattle.nsi_script.proofs.ActLemmas.{set_last}
use Rattle.nsi_script.proofs.DraftLemmas.{on_ok}
use Rattle.nsi_script.proofs.draft.push_act.Goals as goal

pub returns : goal.returns
returns c =
    let groups = c.args.groups.now.items in
    let last = c.len-last.result - 1 in
    let g = c.index_mut.result.now in
    on_ok c.push.result
    (λ is. ap (λ (acts : List Act). slice_set groups last (record { at = g.at; acts = acts })) is ∙ set_last groups last c.args.act g (omega (arith, c.len-last.ensures, c.requires)) c.index_mut.ensures.value)
    c.push.ensures.ok
