use Rattle.std.proofs.Common.{rules, ◌≡◌, ◌∙◌, ◌<◌, ◌-◌, arith, ap, sym, subst, Some, None}
use Rattle.std.proofs.lemmas.Result.{err_from_is_err_and}
use Rattle.nsi_primitive.specs.declared.entry.Input.{Input}
use Rattle.agent_state.specs.Entries.{most_entries}
use Rattle.nsi_agent.specs.Homes.{home_in}
use Rattle.nsi_agent.specs.Laws.{IsGood}
use Rattle.nsi_agent.specs.Steps.{work_of, works_left}
use Rattle.agent_node.specs.Kept.{fault_in}
use Rattle.agent_node.specs.Seat.{enters_now}
use Rattle.agent_node.specs.Seated.{Seated, AtSeat, Goes}
use Rattle.agent_node.specs.Turns.{worked, works_off}
use Rattle.agent_node.proofs.Growing.{worked_next, worked_none, worked_first, works_off_grow, some_left}
use Rattle.agent_node.proofs.Stepping.{goes_on, ends, breaks_off}
use Rattle.agent_node.proofs.seated.Core.work.Goals as goal

pub loop-work-smaller : goal.loop-work-smaller
loop-work-smaller c = omega (arith, c.in_ok-enter_now.ensures.one)

pub loop-work-preserved : goal.loop-work-preserved
loop-work-preserved c =
    let l = c.loop-work in
    let s = l.self.seat in
    let w = c.in-Some.work in
    let good : AtSeat l.self (λ h. IsGood h.role s.state) = subst (λ (x : Seated). AtSeat x (λ h. IsGood h.role x.seat.state)) c.self.view_is (λ routes are. c.facts.ensures.good routes) in
    let first : AtSeat l.self (λ h. work_of h.role s.state ≡ Some w) =
    subst (λ (x : Seated). AtSeat x (λ h. work_of h.role x.seat.state ≡ Some w)) c.self.view_is (λ routes are. sym (c.first_work.ensures routes) ∙ c.in-Some.is) in
    let few : s.state.base.taken < most_entries = omega (arith, l.invariant.few, c.in_ok-enter_now.ensures.one) in
    goes_on worked worked (λ h x. enters_now h (Input.Work w.0 w.1) x) worked c.args.room.now l.room c.enter_now.new.room c.args.self.now l.self c.enter_now.new.self
    (λ routes are.
    let h = home_in l.self.network routes s.number in
    worked_next h s w (first routes are) (c.works.ensures.done h s.state w (good routes are) few (first routes are)))
    l.invariant c.in_ok-enter_now.ensures.goes

pub returns-in_err-enter_now : goal.returns-in_err-enter_now
returns-in_err-enter_now c =
    let l = c.loop-work in
    let s = l.self.seat in
    let w = c.in-Some.work in
    let first : AtSeat l.self (λ h. work_of h.role s.state ≡ Some w) =
    subst (λ (x : Seated). AtSeat x (λ h. work_of h.role x.seat.state ≡ Some w)) c.self.view_is (λ routes are. sym (c.first_work.ensures routes) ∙ c.in-Some.is) in
    let p = err_from_is_err_and c.from_residual.result c.from_residual.ensures.1 in
    record {
      goes =
          subst (Goes worked c.args.room.now c.enter_now.new.room c.args.self.now c.enter_now.new.self) (sym (ap fault_in p.1 ∙ ap Some p.2))
          (breaks_off worked worked (λ h x. enters_now h (Input.Work w.0 w.1) x) (λ h x. works_off (works_left h.role s.state - 1) h x) c.args.room.now l.room c.enter_now.new.room c.args.self.now l.self
          c.enter_now.new.self c.in_err-enter_now.field-0.0
          (λ routes are.
          let h = home_in l.self.network routes s.number in
          let e = first routes are in
          worked_first h s w e (some_left (work_of h.role s.state) (works_left h.role s.state) w (c.works.ensures.none h s.state) e))
          (λ h x. works_off_grow (works_left h.role s.state - 1) h x) l.invariant c.in_err-enter_now.ensures.goes);
    }

pub returns : goal.returns
returns c =
    let l = c.loop-work in
    let none : AtSeat l.self (λ h. work_of h.role l.self.seat.state ≡ None) =
    subst (λ (x : Seated). AtSeat x (λ h. work_of h.role x.seat.state ≡ None)) c.self.view_is (λ routes are. sym (c.first_work.ensures routes) ∙ search rules) in
    record {
      goes =
          ends worked worked c.args.room.now l.room c.args.self.now l.self (λ routes are. worked_none (home_in l.self.network routes l.self.seat.number) l.self.seat (none routes are))
          l.invariant;
    }
