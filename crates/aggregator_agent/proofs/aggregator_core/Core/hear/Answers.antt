use Rattle.std.proofs.Common.{◌≡◌, ◌++◌, ◌∙◌, option_to_list, refl, sym, ap}
use Rattle.std.specs.Map.{values_of}
use Rattle.aggregator_agent.specs.Below.{hear_below}
use Rattle.aggregator_agent.specs.Bonds.{answered, each_bond, records_of}
use Rattle.aggregator_agent.specs.Setting.{setting_of}
use Rattle.aggregator_agent.proofs.Stepping.{heard_state, heard_out}
use Rattle.aggregator_agent.proofs.aggregator_core.Core.hear.Goals as goal

pub returns-clause-step : goal.returns-clause-step
returns-clause-step c =
    let d = c.args.self.now in
    let m = c.args.message.now in
    let bs = d.connections in
    let all = c.in_ok-said.ensures.done in
    let told = c.in_ok-told.ensures in
    let answer = option_to_list c.in_ok-answer.answer in
    let said : (hear_below d.agent.name (records_of bs) m (values_of d.queries)).out ≡ answer = told.said d.agent.name ∙ sym c.in_ok-answer.ensures in
    record {
      all = λ t route.
          record {
            state = heard_state (setting_of t d.agent route) m bs c.hear.new.self d.outbox c.hear.new.outbox (values_of d.queries) (values_of c.settle.new.self) answer d.next c.in_ok-said.said.next d.now d.taken all.bonds all.waits all.dues all.next (told.left d.agent.name ∙ sym (ap values_of c.settle.ensures)) said;
            said = all.out ∙ sym (heard_out (setting_of t d.agent route) m bs d.outbox (values_of d.queries) d.next d.now d.taken ∙ ap (λ ms. (each_bond (answered d.agent d.now m) 0 d.next bs).out ++ ms) said);
          };
      agent = refl;
      err = tt;
    }

pub settle-requires : goal.settle-requires
settle-requires c = c.in_ok-told.ensures.kept
