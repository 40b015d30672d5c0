use Rattle.std.proofs.Common.{◌≡◌, ◌∙◌, ap, subst, true}
use Rattle.aggregator_agent.specs.Core.{state_at}
use Rattle.aggregator_agent.specs.Good.{IsGood}
use Rattle.aggregator_agent.specs.Setting.{Standing, setting_of}
use Rattle.aggregator_agent.specs.Steps.{may_take}
use Rattle.aggregator_agent.proofs.Steady.{good_taken, prints_taken, state_taken, out_taken, some_taken, err_taken}
use Rattle.aggregator_agent.proofs.aggregator.Aggregator.next.Goals as goal

pub invariant_of-self : goal.invariant_of-self
invariant_of-self c =
    let d = c.self.inside.core in
    let e = c.args.entry.now in
    let may : may_take (state_at d) e ≡ true = ap (λ (x : Standing). may_take x.state e) c.self.view_is ∙ c.requires.may_take in
    good_taken c.every_entry.ensures.good c.args.topology.now d c.take.new.self c.take.result e may c.requires.printable c.self.invariant c.take.ensures

pub returns-clause-printable : goal.returns-clause-printable
returns-clause-printable c =
    let d = c.self.inside.core in
    let e = c.args.entry.now in
    let may : may_take (state_at d) e ≡ true = ap (λ (x : Standing). may_take x.state e) c.self.view_is ∙ c.requires.may_take in
    prints_taken c.every_entry.ensures.printable c.args.topology.now d c.take.new.self c.take.result e may c.requires.printable c.self.invariant c.take.ensures

pub returns-clause-state : goal.returns-clause-state
returns-clause-state c =
    let d = c.self.inside.core in
    let e = c.args.entry.now in
    let may : may_take (state_at d) e ≡ true = ap (λ (x : Standing). may_take x.state e) c.self.view_is ∙ c.requires.may_take in
    rw (← c.self.view_is) (state_taken c.args.topology.now d c.take.new.self c.take.result e may c.take.ensures)

pub returns-clause-out : goal.returns-clause-out
returns-clause-out c =
    let d = c.self.inside.core in
    let e = c.args.entry.now in
    let may : may_take (state_at d) e ≡ true = ap (λ (x : Standing). may_take x.state e) c.self.view_is ∙ c.requires.may_take in
    rw (← c.self.view_is) (out_taken c.args.topology.now d c.take.new.self c.take.result e may c.take.ensures)

pub returns-clause-some : goal.returns-clause-some
returns-clause-some c =
    let d = c.self.inside.core in
    let e = c.args.entry.now in
    let may : may_take (state_at d) e ≡ true = ap (λ (x : Standing). may_take x.state e) c.self.view_is ∙ c.requires.may_take in
    rw (← c.self.view_is) (some_taken c.args.topology.now d c.take.new.self c.take.result e may c.take.ensures)

pub returns-clause-answer : goal.returns-clause-answer
returns-clause-answer c route =
    let good : IsGood c.args.self.now.state = subst (λ (x : Standing). IsGood x.state) c.self.view_is c.self.invariant in
    c.every_entry.ensures.answer (setting_of c.args.topology.now c.args.self.now.agent route) c.args.self.now.state c.args.entry.now c.requires.printable good

pub returns-clause-err : goal.returns-clause-err
returns-clause-err c = rw (← c.self.view_is) (err_taken c.args.topology.now c.self.inside.core c.take.new.self c.take.result _ c.take.ensures)
