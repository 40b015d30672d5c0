use Rattle.std.proofs.Common.{ap, sym, subst, arith}
use Rattle.nsi_primitive.specs.Messages.{is_request}
use Rattle.message_retry.specs.Taken.{is_taken}
use Rattle.provider_agent.specs.declared.provider_core.Core.{Core}
use Rattle.provider_agent.specs.State.{State}
use Rattle.provider_agent.specs.Steps.{is_waiting, is_forcible}
use Rattle.provider_agent.specs.Core.{setting_at, state_at, IsConsistent}
use Rattle.provider_agent.specs.Setting.{own_stp}
use Rattle.provider_agent.proofs.Counting.{received_taken, worked_taken, ticked_taken, forced_taken}
use Rattle.provider_agent.proofs.provider_core.Core.take.Goals as goal
use Rattle.provider_agent.proofs.provider_core.Core.take.Goals.{in-Got+in_ok-out-in-Got, in-Work+in_ok-out-in-Work, in-Tick+in_ok-out-in-Tick, in-Force+in_ok-out-in-Force}

pub overflow_add-self : goal.overflow_add-self
overflow_add-self c =
    let d = c.args.self.now in
    let taken = λ (s : State). s.taken in
    elim c.match-entry.branch [
      | in-Got+in_ok-out-in-Got w ↦
          let m = w.in-Got.message in
          omega (arith, c.requires.few, ap (λ (x : Core). x.taken) w.self-is, ap taken w.in_ok-out-in-Got.ensures.step.state, received_taken (is_request m.body) (is_taken m.header d.retry.seen) (setting_at d) (own_stp c.args.topology.now d.agent.number) (state_at d) m)
      | in-Work+in_ok-out-in-Work w ↦
          let n = w.in-Work.number in
          omega (arith, c.requires.few, ap (λ (x : Core). x.taken) w.self-is, ap taken w.in_ok-out-in-Work.ensures.step.state, worked_taken (is_waiting (state_at d) n w.in-Work.machine) (setting_at d) (state_at d) n w.in-Work.machine)
      | in-Tick+in_ok-out-in-Tick w ↦
          omega (arith, c.requires.few, ap (λ (x : Core). x.taken) w.self-is, ap taken w.in_ok-out-in-Tick.ensures.step.state, ticked_taken (setting_at d) c.args.entry.now.second (state_at d))
      | in-Force+in_ok-out-in-Force w ↦
          let n = w.in-Force.number in
          omega (arith, c.requires.few, ap (λ (x : Core). x.taken) w.self-is, ap taken w.in_ok-out-in-Force.ensures.step.state, forced_taken (is_forcible (state_at d) n) (setting_at d) (state_at d) n)
      | goal.in-Acked w ↦ omega (arith, c.requires.few, ap (λ (x : Core). x.taken) w.self-is)
      | goal.in-Ask w ↦ omega (arith, c.requires.few, ap (λ (x : Core). x.taken) w.self-is)
    ]

pub returns-clause-consistent : goal.returns-clause-consistent
returns-clause-consistent c =
    elim c.match-entry.branch [
      | in-Got+in_ok-out-in-Got w ↦ subst IsConsistent (sym w.self-is) w.in_ok-out-in-Got.ensures.consistent
      | in-Work+in_ok-out-in-Work w ↦ subst IsConsistent (sym w.self-is) w.in_ok-out-in-Work.ensures.consistent
      | in-Tick+in_ok-out-in-Tick w ↦ subst IsConsistent (sym w.self-is) w.in_ok-out-in-Tick.ensures.consistent
      | in-Force+in_ok-out-in-Force w ↦ subst IsConsistent (sym w.self-is) w.in_ok-out-in-Force.ensures.consistent
      | goal.in-Acked w ↦ subst IsConsistent (sym w.self-is) c.requires.ready.consistent
      | goal.in-Ask w ↦ subst IsConsistent (sym w.self-is) c.requires.ready.consistent
    ]
