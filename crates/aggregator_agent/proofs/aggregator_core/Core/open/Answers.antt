use Rattle.std.proofs.Common.{◌∷◌, ◌∙◌, [], Some, refl, sym}
use Rattle.nsi_primitive.specs.declared.kind.ErrorName.{ErrorName}
use Rattle.agent_state.specs.Entries.{error_reply}
use Rattle.agent_state.specs.State.{stays, sends}
use Rattle.aggregator_agent.specs.Core.{state_at}
use Rattle.aggregator_agent.specs.Setting.{setting_of}
use Rattle.aggregator_agent.specs.Steps.{opens_between}
use Rattle.aggregator_agent.proofs.Answering.{opens_none, opens_refused, opens_unknown, opens_known}
use Rattle.aggregator_agent.proofs.Chaining.{by_all, same_step, quiet_step}
use Rattle.aggregator_agent.proofs.aggregator_core.Core.open.Goals as goal

pub returns-in_default : goal.returns-in_default
returns-in_default c =
    let d = c.args.self.now in
    let t = c.args.topology.now in
    record {
      step =
          same_step t d d _ (λ setting s. stays s) _ (λ route. opens_none (setting_of t d.agent route) (state_at d) c.args.message.now c.requires.unnamed c.in_default.not-Reserve)
          (quiet_step t d d c.new.result c.new.ensures.items refl refl);
      taken = refl;
    }

pub returns-in-Some-clause-step : goal.returns-in-Some-clause-step
returns-in-Some-clause-step c =
    let d = c.args.self.now in
    let t = c.args.topology.now in
    let m = c.args.message.now in
    let error = c.in-Some.error in
    same_step t d c.refuse.new.self c.refuse.result (λ setting s. sends s (error_reply setting.agent.name m error ∷ [])) _
    (λ route. opens_refused (setting_of t d.agent route) (state_at d) m c.in-Reserve.reserve error c.in-Reserve.is (sym c.schedule_refusal.ensures.refusal ∙ c.in-Some.is))
    (by_all t d c.refuse.new.self c.refuse.result _ c.refuse.ensures.step)

pub returns-in-None-clause-step : goal.returns-in-None-clause-step
returns-in-None-clause-step c =
    let d = c.args.self.now in
    let t = c.args.topology.now in
    let m = c.args.message.now in
    same_step t d c.refuse-in-None.new.self c.refuse-in-None.result (λ setting s. sends s (error_reply setting.agent.name m ErrorName.UnknownStp ∷ [])) _
    (λ route. opens_unknown (setting_of t d.agent route) (state_at d) m c.in-Reserve.reserve c.in-Reserve.is (sym c.schedule_refusal.ensures.refusal ∙ c.in_default-schedule_refusal.is) (sym c.points_of.ensures.points ∙ c.in-None.is))
    (by_all t d c.refuse-in-None.new.self c.refuse-in-None.result _ c.refuse-in-None.ensures.step)

pub returns-in-Some-points_of-clause-step : goal.returns-in-Some-points_of-clause-step
returns-in-Some-points_of-clause-step c =
    let d = c.args.self.now in
    let t = c.args.topology.now in
    let m = c.args.message.now in
    let q = c.in-Reserve.reserve in
    let points = c.in-Some-points_of.points in
    same_step t d c.open_between.new.self c.open_between.result (λ setting s. opens_between (Some points) setting s m q) _
    (λ route. opens_known (setting_of t d.agent route) (state_at d) m q points c.in-Reserve.is c.requires.unnamed (sym c.schedule_refusal.ensures.refusal ∙ c.in_default-schedule_refusal.is) (sym c.points_of.ensures.points ∙ c.in-Some-points_of.is))
    c.open_between.ensures.step
