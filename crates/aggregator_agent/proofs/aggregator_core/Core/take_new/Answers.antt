use Rattle.std.proofs.Common.{◌∙◌, sym}
use Rattle.nsi_primitive.specs.Messages.{is_query}
use Rattle.aggregator_agent.specs.Core.{state_at}
use Rattle.aggregator_agent.specs.Setting.{setting_of}
use Rattle.aggregator_agent.specs.Steps.{serves, hears}
use Rattle.aggregator_agent.proofs.Answering.{takes_request, takes_other}
use Rattle.aggregator_agent.proofs.Chaining.{by_all, same_step}
use Rattle.aggregator_agent.proofs.aggregator_core.Core.take_new.Goals as goal

pub returns-then-is_request-clause-step : goal.returns-then-is_request-clause-step
returns-then-is_request-clause-step c =
    let d = c.args.self.now in
    let t = c.args.topology.now in
    let m = c.args.message.now in
    same_step t d c.serve.new.self c.serve.result (λ setting s. serves (is_query m.body) setting s m) _
    (λ route. takes_request (setting_of t d.agent route) (state_at d) m (sym c.is_request.ensures ∙ c.if-is_request.true)) c.serve.ensures.step

pub returns-else-is_request-clause-step : goal.returns-else-is_request-clause-step
returns-else-is_request-clause-step c =
    let d = c.args.self.now in
    let t = c.args.topology.now in
    let m = c.args.message.now in
    same_step t d c.hear.new.self c.hear.result (λ setting s. hears setting s m) _
    (λ route. takes_other (setting_of t d.agent route) (state_at d) m (sym c.is_request.ensures ∙ c.if-is_request.false)) (by_all t d c.hear.new.self c.hear.result _ c.hear.ensures.step)
