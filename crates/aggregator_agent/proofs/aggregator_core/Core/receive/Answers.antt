use Rattle.std.proofs.Common.{◌≡◌, ◌∙◌, true, false, Ok, refl, sym, ap}
use Rattle.std.specs.Map.{values_of}
use Rattle.nsi_primitive.specs.Messages.{is_request}
use Rattle.message_retry.specs.Retry.{Retry}
use Rattle.agent_state.specs.State.{stays}
use Rattle.aggregator_agent.specs.declared.aggregator_core.Core.{Core}
use Rattle.aggregator_agent.specs.Core.{state_at, state_of}
use Rattle.aggregator_agent.specs.Setting.{setting_of}
use Rattle.aggregator_agent.specs.Steps.{is_seen}
use Rattle.aggregator_agent.specs.Step.{takes_new}
use Rattle.aggregator_agent.proofs.Answering.{received_old, received_new}
use Rattle.aggregator_agent.proofs.Chaining.{same_step, quiet_step, step_from}
use Rattle.aggregator_agent.proofs.aggregator_core.Core.receive.Goals as goal

pub returns-then-is_old-clause-step : goal.returns-then-is_old-clause-step
returns-then-is_old-clause-step c =
    let d = c.args.self.now in
    let t = c.args.topology.now in
    let m = c.args.message.now in
    let seen : is_seen (state_at d) m ≡ true = sym c.is_old.ensures ∙ c.if-is_old.true in
    same_step t d d (Ok c.new.result) (λ setting s. stays s) _ (λ route. received_old (is_request m.body) (setting_of t d.agent route) (state_at d) m seen) (quiet_step t d d c.new.result c.new.ensures.items refl refl)

pub returns-in-Ok-clause-step : goal.returns-in-Ok-clause-step
returns-in-Ok-clause-step c =
    let d = c.args.self.now in
    let t = c.args.topology.now in
    let m = c.args.message.now in
    let new : is_seen (state_at d) m ≡ false = sym c.is_old.ensures ∙ c.if-is_old.false in
    let mid : Core = record d { outbox = record d.outbox { retry = c.saw.new.self } } in
    step_from t d mid c.take_new.new.self (Ok c.in-Ok.out) (λ setting s. takes_new (is_request m.body) setting s m) _ refl tt
    (λ route. ap (λ (r : Retry). takes_new (is_request m.body) (setting_of t d.agent route) (state_of d.connections (record d.outbox { retry = r }) (values_of d.queries) d.next d.now d.taken) m) c.in_ok-saw.ensures.ok
    ∙ received_new (is_request m.body) (setting_of t d.agent route) (state_at d) m new)
    c.in-Ok.ensures.step
