use Rattle.std.proofs.Common.{◌∙◌, ◌∷◌, [], sym}
use Rattle.nsi_primitive.specs.declared.kind.ErrorName.{ErrorName}
use Rattle.agent_state.specs.Entries.{error_reply}
use Rattle.agent_state.specs.State.{sends}
use Rattle.aggregator_agent.specs.Core.{state_at}
use Rattle.aggregator_agent.specs.Setting.{setting_of}
use Rattle.aggregator_agent.specs.Steps.{asks_below}
use Rattle.aggregator_agent.proofs.Answering.{below_wrong, below_nowhere, below_at}
use Rattle.aggregator_agent.proofs.Chaining.{same_all}
use Rattle.aggregator_agent.proofs.aggregator_core.Core.ask_below.Goals as goal

pub returns-then-not-is-clause-step : goal.returns-then-not-is-clause-step
returns-then-not-is-clause-step c =
    let d = c.args.self.now in
    let m = c.args.message.now in
    same_all d c.refuse.new.self c.refuse.result (λ setting s. sends s (error_reply setting.agent.name m ErrorName.WrongProvider ∷ [])) _
    (λ t route. below_wrong (setting_of t d.agent route) (state_at d) m (sym c.is.ensures ∙ c.if-not-is.true)) c.refuse.ensures.step

pub returns-in-None-clause-step : goal.returns-in-None-clause-step
returns-in-None-clause-step c =
    let d = c.args.self.now in
    let m = c.args.message.now in
    same_all d c.refuse-in-None.new.self c.refuse-in-None.result (λ setting s. sends s (error_reply setting.agent.name m ErrorName.Nonexistent ∷ [])) _
    (λ t route. below_nowhere (setting_of t d.agent route) (state_at d) m (sym c.is.ensures ∙ c.if-not-is.false) (sym c.in_ok-found.ensures.place ∙ c.in-None.is)) c.refuse-in-None.ensures.step

pub returns-in-Some-clause-step : goal.returns-in-Some-clause-step
returns-in-Some-clause-step c =
    let d = c.args.self.now in
    let m = c.args.message.now in
    same_all d c.open_query.new.self c.open_query.result (λ setting s. asks_below setting s c.in-Some.place m) _
    (λ t route. below_at (setting_of t d.agent route) (state_at d) m c.in-Some.place (sym c.is.ensures ∙ c.if-not-is.false) (sym c.in_ok-found.ensures.place ∙ c.in-Some.is)) c.open_query.ensures.step
