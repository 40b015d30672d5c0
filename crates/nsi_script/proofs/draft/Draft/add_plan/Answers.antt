use Rattle.std.proofs.Common.{sym, ◌∙◌}
use Rattle.nsi_script.specs.declared.fault.ScriptFault.TheVariants.{Word, Agent}
use Rattle.nsi_script.specs.declared.form.Sort.TheVariants.{Any}
use Rattle.nsi_script.specs.Drafts.{script_in}
use Rattle.nsi_script.proofs.DraftLemmas.{demanded}
use Rattle.nsi_script.proofs.PlanLines.{known_name, demanded_not, not_planned, fits_plan}
use Rattle.nsi_script.proofs.draft.Draft.add_plan.Goals as goal

pub push-requires : goal.push-requires
push-requires c =
    let t = c.args.topology.now in
    not_planned c.args.self.now.lose (record { of = c.in_ok-of.of; nth = c.in_ok-nth.nth; how = c.args.how }) c.agent_of.result c.agent_of-2.result c.in_ok-from-2.from c.in_ok-to-2.to
    (c.agent_of.ensures.agent ∙ known_name t Any c.in_ok-from.from.now c.in_ok-from-2.from c.in_ok-from-2.ensures.agent)
    (c.agent_of-2.ensures.agent ∙ known_name t Any c.in_ok-to.to.now c.in_ok-to-2.to c.in_ok-to-2.ensures.agent)
    (sym c.is_planned-is_planned.ensures ∙ demanded_not c.is_planned-is_planned.result Word c.in_ok-demand-3.ensures)

pub returns-clause-fits : goal.returns-clause-fits
returns-clause-fits c = λ f.
    fits_plan c.args.topology.now (script_in c.args.self.now) (record { from = c.in_ok-from-2.from; to = c.in_ok-to-2.to; fault = record { of = c.in_ok-of.of; nth = c.in_ok-nth.nth; how = c.args.how } }) c.push.new.self
    c.in_ok-push.ensures
    (record { linked = sym c.is_linked.ensures ∙ demanded c.is_linked.result Agent c.in_ok-demand-4.ensures; counted = c.in_ok-nth.ensures.in_range.0 }) f
