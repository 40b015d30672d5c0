use Rattle.std.proofs.Common.{◌≡◌, ◌<◌, ◌∷◌, ◌∙◌, [], Some, None, IfSome, length, sym, ap, subst}
use Rattle.nsi_primitive.specs.declared.kind.ErrorName.{ErrorName}
use Rattle.connection_record.specs.Refusal.{unnamed_refusal, place_of}
use Rattle.agent_state.specs.Entries.{error_reply}
use Rattle.agent_state.specs.State.{sends}
use Rattle.stp_topology.specs.Network.{stp_of}
use Rattle.aggregator_agent.specs.Bonds.{bond_at, records_of}
use Rattle.aggregator_agent.specs.Core.{state_at}
use Rattle.aggregator_agent.specs.Setting.{setting_of}
use Rattle.aggregator_agent.specs.Steps.{answers, request_at}
use Rattle.aggregator_agent.proofs.Answering.{answered_error, answered_at}
use Rattle.aggregator_agent.proofs.Chaining.{by_all, same_step}
use Rattle.aggregator_agent.proofs.Refusing.{refused_wrong, refused_unnamed, refused_nowhere, refused_record, bond_read}
use Rattle.aggregator_agent.proofs.aggregator_core.Core.answer.Goals as goal

pub returns-then-not-is-clause-step : goal.returns-then-not-is-clause-step
returns-then-not-is-clause-step c =
    let d = c.args.self.now in
    let t = c.args.topology.now in
    let m = c.args.message.now in
    let rs = records_of d.connections in
    same_step t d c.refuse.new.self c.refuse.result (λ setting s. sends s (error_reply setting.agent.name m ErrorName.WrongProvider ∷ [])) _
    (λ route. answered_error (setting_of t d.agent route) (state_at d) m ErrorName.WrongProvider (refused_wrong d.now d.agent.name (stp_of t) rs m (sym c.is.ensures ∙ c.if-not-is.true)))
    (by_all t d c.refuse.new.self c.refuse.result _ c.refuse.ensures.step)

pub returns-in_default-clause-step : goal.returns-in_default-clause-step
returns-in_default-clause-step c =
    let d = c.args.self.now in
    let t = c.args.topology.now in
    let m = c.args.message.now in
    let rs = records_of d.connections in
    same_step t d c.open.new.self c.open.result (λ setting s. answers (unnamed_refusal s.base.now m.body setting.stp_of) setting s m) _
    (λ route. ap (λ o. answers o (setting_of t d.agent route) (state_at d) m) (sym (refused_unnamed d.now d.agent.name (stp_of t) rs m (sym c.is.ensures ∙ c.if-not-is.false) (sym c.connection.ensures ∙ c.in_default.is)))) c.open.ensures.step

pub returns-in_default-found-clause-step : goal.returns-in_default-found-clause-step
returns-in_default-found-clause-step c =
    let d = c.args.self.now in
    let t = c.args.topology.now in
    let m = c.args.message.now in
    let rs = records_of d.connections in
    let id = c.in-Some.id in
    let nowhere : place_of id m.header.requester rs ≡ None =
    sym c.in_ok-found.ensures.place ∙ c.in_default-found.is in
    same_step t d c.refuse-in_default-found.new.self c.refuse-in_default-found.result (λ setting s. sends s (error_reply setting.agent.name m ErrorName.Nonexistent ∷ [])) _
    (λ route. answered_error (setting_of t d.agent route) (state_at d) m ErrorName.Nonexistent (refused_nowhere d.now d.agent.name (stp_of t) rs m id (sym c.is.ensures ∙ c.if-not-is.false) (sym c.connection.ensures ∙ c.in-Some.is) nowhere))
    (by_all t d c.refuse-in_default-found.new.self c.refuse-in_default-found.result _ c.refuse-in_default-found.ensures.step)

pub returns-in-Some-refusal_at-clause-step : goal.returns-in-Some-refusal_at-clause-step
returns-in-Some-refusal_at-clause-step c =
    let d = c.args.self.now in
    let t = c.args.topology.now in
    let m = c.args.message.now in
    let xs = d.connections in
    let rs = records_of xs in
    let id = c.in-Some.id in
    let n = c.in-Some-found.place in
    let error = c.in-Some-refusal_at.error in
    let there : place_of id m.header.requester rs ≡ Some n =
    sym c.in_ok-found.ensures.place ∙ c.in-Some-found.is in
    let inside : n < length xs = subst (λ o. IfSome o (λ k. k < length xs)) c.in-Some-found.is c.in_ok-found.ensures.within in
    let read = bond_read xs n inside in
    same_step t d c.refuse-in-Some-refusal_at.new.self c.refuse-in-Some-refusal_at.result (λ setting s. sends s (error_reply setting.agent.name m error ∷ [])) _
    (λ route. answered_error (setting_of t d.agent route) (state_at d) m error
    (refused_record d.now d.agent.name (stp_of t) rs m id n (bond_at n xs).own (sym c.is.ensures ∙ c.if-not-is.false) (sym c.connection.ensures ∙ c.in-Some.is) there read ∙ (sym c.refusal_at.ensures ∙ c.in-Some-refusal_at.is)))
    (by_all t d c.refuse-in-Some-refusal_at.new.self c.refuse-in-Some-refusal_at.result _ c.refuse-in-Some-refusal_at.ensures.step)

pub returns-in-None-clause-step : goal.returns-in-None-clause-step
returns-in-None-clause-step c =
    let d = c.args.self.now in
    let t = c.args.topology.now in
    let m = c.args.message.now in
    let xs = d.connections in
    let rs = records_of xs in
    let id = c.in-Some.id in
    let n = c.in-Some-found.place in
    let there : place_of id m.header.requester rs ≡ Some n =
    sym c.in_ok-found.ensures.place ∙ c.in-Some-found.is in
    let inside : n < length xs = subst (λ o. IfSome o (λ k. k < length xs)) c.in-Some-found.is c.in_ok-found.ensures.within in
    let read = bond_read xs n inside in
    same_step t d c.request_at.new.self c.request_at.result (λ setting s. request_at setting s n m) _
    (λ route. answered_at (setting_of t d.agent route) (state_at d) m id n
    (refused_record d.now d.agent.name (stp_of t) rs m id n (bond_at n xs).own (sym c.is.ensures ∙ c.if-not-is.false) (sym c.connection.ensures ∙ c.in-Some.is) there read ∙ (sym c.refusal_at.ensures ∙ c.in-None.is)) (sym c.connection.ensures ∙ c.in-Some.is) there)
    c.request_at.ensures.step
