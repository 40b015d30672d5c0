use Rattle.std.proofs.Common.{◌≡◌, ◌∙◌, ap, sym, subst}
use Rattle.provider_agent.specs.Setting.{own_stp}
use Rattle.provider_agent.specs.State.{Standing, Stepped}
use Rattle.provider_agent.specs.Steps.{after, may_take}
use Rattle.provider_agent.specs.Good.{IsGood}
use Rattle.provider_agent.specs.Core.{setting_at, state_at, standing_at}
use Rattle.provider_agent.proofs.PrintableAfter.{printable_after}
use Rattle.provider_agent.proofs.HonestAfter.{honest_after}
use Rattle.provider_agent.proofs.Counting.{rising_where_good, taken_is}
use Rattle.provider_agent.specs.Safety.{Keeps}
use Rattle.provider_agent.proofs.Steady.{steady_after, keeps_steady, standing_after, stands_by, says_by, prints_by}
use Rattle.provider_agent.proofs.provider.Provider.next.Goals as goal

pub invariant_of-self : goal.invariant_of-self
invariant_of-self c =
    let d = c.self.inside.core in
    let e = c.args.entry.now in
    let may : may_take (state_at d) e ≡ _ = ap (λ (x : Standing). may_take x.state e) c.self.view_is ∙ c.requires.may_take in
    steady_after c.take.result d c.take.new.self (own_stp c.args.topology.now d.agent.number) e c.self.invariant may c.requires.printable c.take.ensures.step c.take.ensures.consistent

pub returns-clause-state : goal.returns-clause-state
returns-clause-state c =
    let d = c.self.inside.core in
    let e = c.args.entry.now in
    let may : may_take (state_at d) e ≡ _ = ap (λ (x : Standing). may_take x.state e) c.self.view_is ∙ c.requires.may_take in
    let after_of = λ (x : Standing). record x { state = (after x.setting (own_stp c.args.topology.now x.setting.number) x.state e).state } in
    stands_by c.take.result c.take.new.self (after_of (standing_at d)) (after_of c.args.self.now) (ap after_of c.self.view_is)
    (standing_after c.take.result d c.take.new.self (own_stp c.args.topology.now d.agent.number) e c.self.invariant may c.requires.printable c.take.ensures.step c.take.ensures.consistent)

pub returns-clause-out : goal.returns-clause-out
returns-clause-out c =
    let d = c.self.inside.core in
    let e = c.args.entry.now in
    let may : may_take (state_at d) e ≡ _ = ap (λ (x : Standing). may_take x.state e) c.self.view_is ∙ c.requires.may_take in
    let out_of = λ (x : Standing). (after x.setting (own_stp c.args.topology.now x.setting.number) x.state e).out in
    says_by c.take.result _ (out_of c.args.self.now) (ap (λ (x : Stepped). x.out) (sym (taken_is (setting_at d) (own_stp c.args.topology.now d.agent.number) (state_at d) e may)) ∙ ap out_of c.self.view_is) c.take.ensures.step.out

pub returns-clause-printable : goal.returns-clause-printable
returns-clause-printable c =
    let now = c.args.self.now in
    let e = c.args.entry.now in
    let good : IsGood now.setting now.state = subst (λ (x : Standing). IsGood x.setting x.state) c.self.view_is c.self.invariant.good in
    prints_by c.take.result (after now.setting (own_stp c.args.topology.now now.setting.number) now.state e).out (printable_after now.setting (own_stp c.args.topology.now now.setting.number) now.state e good c.requires.printable) (returns-clause-out c)

pub returns-clause-capped : goal.returns-clause-capped
returns-clause-capped c =
    let d = c.self.inside.core in
    let e = c.args.entry.now in
    let may : may_take (state_at d) e ≡ _ = ap (λ (x : Standing). may_take x.state e) c.self.view_is ∙ c.requires.may_take in
    (steady_after c.take.result d c.take.new.self (own_stp c.args.topology.now d.agent.number) e c.self.invariant may c.requires.printable c.take.ensures.step c.take.ensures.consistent).good.capped

pub returns-clause-rising : goal.returns-clause-rising
returns-clause-rising c =
    let d = c.self.inside.core in
    let e = c.args.entry.now in
    let may : may_take (state_at d) e ≡ _ = ap (λ (x : Standing). may_take x.state e) c.self.view_is ∙ c.requires.may_take in
    let steady = steady_after c.take.result d c.take.new.self (own_stp c.args.topology.now d.agent.number) e c.self.invariant may c.requires.printable c.take.ensures.step c.take.ensures.consistent in
    rising_where_good (setting_at c.take.new.self) (state_at c.take.new.self) steady.good

pub returns-clause-honest : goal.returns-clause-honest
returns-clause-honest c =
    let now = c.args.self.now in
    let good : IsGood now.setting now.state = subst (λ (x : Standing). IsGood x.setting x.state) c.self.view_is c.self.invariant.good in
    honest_after now.setting (own_stp c.args.topology.now now.setting.number) now.state c.args.entry.now good c.requires.may_take

pub returns-clause-keeps : goal.returns-clause-keeps
returns-clause-keeps c =
    let d = c.self.inside.core in
    let e = c.args.entry.now in
    let may : may_take (state_at d) e ≡ _ = ap (λ (x : Standing). may_take x.state e) c.self.view_is ∙ c.requires.may_take in
    subst (λ (x : Standing). Keeps x.state (state_at c.take.new.self)) c.self.view_is
    (keeps_steady c.take.result d c.take.new.self (own_stp c.args.topology.now d.agent.number) e c.self.invariant may c.requires.printable c.take.ensures.step c.take.ensures.consistent)
