use Rattle.std.proofs.Common.{rules, ◌≡◌, Some, ap, refl, length}
use Rattle.requester_agent.specs.Core.{state_at}
use Rattle.requester_agent.specs.Views.{asks_about}
use Rattle.requester_agent.specs.Steps.{asks_found, asks_at, answers}
use Rattle.requester_agent.proofs.Asked.{found_none, found_some, waits_none, asked_at_is}
use Rattle.requester_agent.proofs.requester_core.Core.ask_about.Goals as goal

pub returns-in_default-clause-step : goal.returns-in_default-clause-step
unfolding asks_found
returns-in_default-clause-step c =
    let d = c.args.self.now in
    let none = found_none c.args.label.now d.views (search rules) in
    record {
      state = rw none (waits_none (state_at d));
      answer = rw none refl;
      out = rw none (search rules);
      setting = refl;
      err = tt;
    }

pub returns-clause-step : goal.returns-clause-step
unfolding asks_found asks_at answers
returns-clause-step c =
    let d = c.args.self.now in
    let id = c.id_of-id.ensures in
    let it = found_some c.args.label.now d.views c.in-Some.place (search rules) (search rules) in
    let x = asks_about d.name c.id_of-id.result c.args.kind it.view.child in
    let asked = c.in_ok-answer.ensures in
    let out = asked.out it.view it.at in
    let count : c.len.result ≡ length x.out = search rules in
    record {
      state = rw (it.found, ← id) (asked_at_is (state_at d) c.in-Some.place it.view x c.ask_about.new.self c.ask_about.new.retry c.len.result (asked.views it.view it.at) (asked.waits it.view it.at) count);
      answer = rw (it.found, ← id) (ap Some (asked.answer it.view it.at));
      out = rw (it.found, ← id) (asked.out it.view it.at);
      setting = refl;
      err = tt;
    }
