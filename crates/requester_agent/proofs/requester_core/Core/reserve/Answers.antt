use Rattle.std.proofs.Common.{rules, ◌≡◌, Some, ap, refl, length}
use Rattle.requester_agent.specs.Core.{state_at}
use Rattle.requester_agent.specs.Views.{asks_reserve}
use Rattle.requester_agent.specs.Steps.{reserves, asks_at, answers}
use Rattle.requester_agent.proofs.Asked.{found_none, found_some, asked_at_is}
use Rattle.requester_agent.proofs.requester_core.Core.reserve.Goals as goal

pub returns-in_default-clause-step : goal.returns-in_default-clause-step
returns-in_default-clause-step c =
    let none = found_none c.args.label.now c.args.self.now.views (search rules) in
    record {
      state = rw none c.reserve_new.ensures.step.state;
      answer = rw none c.reserve_new.ensures.step.answer;
      out = rw none c.reserve_new.ensures.step.out;
      setting = c.reserve_new.ensures.step.setting;
      err = c.reserve_new.ensures.step.err;
    }

pub returns-clause-step : goal.returns-clause-step
unfolding reserves asks_at answers
returns-clause-step c =
    let d = c.args.self.now in
    let id = c.id_of-id.ensures in
    let it = found_some c.args.label.now d.views c.in-Some.place (search rules) (search rules) in
    let x = asks_reserve d.name c.id_of-id.result c.args.q.now it.view.child in
    let asked = c.in_ok-answer.ensures in
    let out = asked.out it.view it.at in
    let count : c.len.result ≡ length x.out = search rules in
    record {
      state = rw (it.found, ← id) (asked_at_is (state_at d) c.in-Some.place it.view x c.ask_reserve.new.self c.ask_reserve.new.retry c.len.result (asked.views it.view it.at) (asked.waits it.view it.at) count);
      answer = rw (it.found, ← id) (ap Some (asked.answer it.view it.at));
      out = rw (it.found, ← id) (asked.out it.view it.at);
      setting = refl;
      err = tt;
    }
