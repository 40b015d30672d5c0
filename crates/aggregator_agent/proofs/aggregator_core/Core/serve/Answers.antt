use Rattle.std.proofs.Common.{◌∙◌, sym}
use Rattle.connection_record.specs.Refusal.{refusal}
use Rattle.agent_state.specs.Entries.{is_recursive}
use Rattle.aggregator_agent.specs.Core.{state_at}
use Rattle.aggregator_agent.specs.Setting.{setting_of}
use Rattle.aggregator_agent.specs.Steps.{answers, queries}
use Rattle.aggregator_agent.proofs.Answering.{serves_query, serves_other}
use Rattle.aggregator_agent.proofs.Chaining.{by_all, same_step}
use Rattle.aggregator_agent.proofs.aggregator_core.Core.serve.Goals as goal

pub returns-then-is_query-clause-step : goal.returns-then-is_query-clause-step
returns-then-is_query-clause-step c =
    let d = c.args.self.now in
    let t = c.args.topology.now in
    let m = c.args.message.now in
    same_step t d c.query.new.self c.query.result (λ setting s. queries (is_recursive m.body) setting s m) _
    (λ route. serves_query (setting_of t d.agent route) (state_at d) m (sym c.is_query.ensures ∙ c.if-is_query.true)) (by_all t d c.query.new.self c.query.result _ c.query.ensures.step)

pub returns-else-is_query-clause-step : goal.returns-else-is_query-clause-step
returns-else-is_query-clause-step c =
    let d = c.args.self.now in
    let t = c.args.topology.now in
    let m = c.args.message.now in
    same_step t d c.answer.new.self c.answer.result (λ setting s. answers (refusal s.base.now setting.agent.name setting.stp_of s.base.records m) setting s m) _
    (λ route. serves_other (setting_of t d.agent route) (state_at d) m (sym c.is_query.ensures ∙ c.if-is_query.false)) c.answer.ensures.step
