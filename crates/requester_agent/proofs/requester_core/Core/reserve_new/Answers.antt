use Rattle.std.proofs.Common.{rules, ◌≡◌, ◌∙◌, ◌++◌, ◌∷◌, [], Some, ap, refl, length}
use Rattle.child_connection.specs.Views.{new_view}
use Rattle.agent_state.specs.declared.parent.View.{View}
use Rattle.requester_agent.specs.Core.{state_at}
use Rattle.requester_agent.specs.Views.{asks_reserve}
use Rattle.requester_agent.specs.Steps.{reserves, asks_new, answers}
use Rattle.requester_agent.proofs.Asked.{asked_new_is}
use Rattle.requester_agent.proofs.requester_core.Core.reserve_new.Goals as goal

pub ask_new-requires : goal.ask_new-requires
ask_new-requires c =
    let view = c.in_ok-view.ensures in
    record { label = rw view c.requires.new; unasked = rw view refl; apart = rw view c.requires.apart }

pub returns-clause-step : goal.returns-clause-step
unfolding reserves asks_new answers
returns-clause-step c =
    let d = c.args.self.now in
    let q = c.args.q.now in
    let id = c.id_of-id.ensures in
    let asks = λ (v : View). asks_reserve d.name c.id_of-id.result q v.child in
    let x = asks_reserve d.name c.id_of-id.result q (new_view d.provider q.source q.dest) in
    let made = c.in_ok-view.ensures in
    let asked = c.in_ok-answer.ensures in
    let views = asked.views ∙ ap (λ (v : View). d.views ++ record v { child = (asks v).child } ∷ []) made in
    let waits = asked.waits ∙ ap (λ (v : View). record d.retry { waiting = d.retry.waiting ++ (asks v).out }) made in
    let out = asked.out ∙ ap (λ (v : View). (asks v).out) made in
    let count : c.len.result ≡ length x.out = search rules in
    record {
      state = rw (← id) (asked_new_is (state_at d) c.args.label.now x c.ask_new.new.self c.ask_new.new.retry c.len.result views waits count);
      answer = rw (← id) (ap Some (asked.answer ∙ ap (λ (v : View). (asks v).answer) made));
      out = rw (← id) out;
      setting = refl;
      err = tt;
    }
