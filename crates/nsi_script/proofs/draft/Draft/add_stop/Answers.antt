use Rattle.std.proofs.Common.{sym, ◌∙◌}
use Rattle.nsi_script.specs.declared.fault.ScriptFault.TheVariants.{Word}
use Rattle.nsi_script.specs.declared.form.Sort.TheVariants.{Any}
use Rattle.nsi_script.specs.Drafts.{script_in}
use Rattle.nsi_script.proofs.PlanLines.{known_name, demanded_not, not_stopped, fits_stop}
use Rattle.nsi_script.proofs.draft.Draft.add_stop.Goals as goal

pub push-requires : goal.push-requires
push-requires c =
    not_stopped c.args.self.now.stops (record { call = c.in_ok-call.call; image = c.in_ok-image.image }) c.agent_of.result c.in_ok-agent.agent
    (c.agent_of.ensures.agent ∙ known_name c.args.topology.now Any c.in_ok-name.name.now c.in_ok-agent.agent c.in_ok-agent.ensures.agent)
    (sym c.is_stopped-is_stopped.ensures ∙ demanded_not c.is_stopped-is_stopped.result Word c.in_ok-demand-3.ensures)

pub returns-clause-fits : goal.returns-clause-fits
returns-clause-fits c = λ f.
    fits_stop c.args.topology.now (script_in c.args.self.now) (record { agent = c.in_ok-agent.agent; stop = record { call = c.in_ok-call.call; image = c.in_ok-image.image } }) c.push.new.self
    c.in_ok-push.ensures
    (record { agent = c.in_ok-agent.ensures.within; counted = c.in_ok-call.ensures.in_range.0 }) f
