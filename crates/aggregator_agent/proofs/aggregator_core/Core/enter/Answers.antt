use Rattle.std.proofs.Common.{◌∙◌, Ok, refl, ap}
use Rattle.std.specs.Map.{values_of}
use Rattle.aggregator_agent.specs.declared.outbox.Outbox.{Outbox}
use Rattle.agent_state.specs.State.{stays}
use Rattle.aggregator_agent.specs.Core.{state_at, state_of}
use Rattle.aggregator_agent.specs.Setting.{setting_of}
use Rattle.aggregator_agent.specs.Steps.{ticks, acknowledged}
use Rattle.aggregator_agent.proofs.Answering.{step_tick, step_acked, step_work, step_force, step_ask}
use Rattle.aggregator_agent.proofs.Chaining.{by_all, same_step, quiet_step}
use Rattle.aggregator_agent.proofs.Stepping.{made_none}
use Rattle.aggregator_agent.proofs.aggregator_core.Core.enter.Goals as goal

pub returns-in-Tick-clause-step : goal.returns-in-Tick-clause-step
returns-in-Tick-clause-step c =
    let d = c.args.self.now in
    let t = c.args.topology.now in
    let e = c.args.entry.now in
    same_step t d c.tick.new.self c.tick.result (λ setting s. ticks setting e.second s) _ (λ route. step_tick (setting_of t d.agent route) (state_at d) e.input e.second c.in-Tick.is) (by_all t d c.tick.new.self c.tick.result _ c.tick.ensures.step)

pub returns-in-Acked-clause-step : goal.returns-in-Acked-clause-step
returns-in-Acked-clause-step c =
    let d = c.args.self.now in
    let t = c.args.topology.now in
    let e = c.args.entry.now in
    let i = c.in-Acked.identity in
    let v = c.new.result in
    let rest = ap (λ (o : Outbox). state_of d.connections o (values_of d.queries) d.next d.now d.taken) c.acked.ensures in
    let made = made_none (acknowledged i (state_at d)) v.items c.new.ensures.items in
    same_step t d _ (Ok v) (λ setting s. stays (acknowledged i s)) _ (λ route. step_acked (setting_of t d.agent route) (state_at d) e.input e.second i c.in-Acked.is)
    (by_all t d _ (Ok v) (λ setting s. stays (acknowledged i s)) (record { all = λ u route. record { state = rest ∙ made.state; said = made.said }; agent = refl; err = tt }))

pub returns-in-Work-clause-step : goal.returns-in-Work-clause-step
returns-in-Work-clause-step c =
    let d = c.args.self.now in
    let t = c.args.topology.now in
    let e = c.args.entry.now in
    let v = c.new-in-Work.result in
    same_step t d d (Ok v) (λ setting s. stays s) _ (λ route. step_work (setting_of t d.agent route) (state_at d) e.input e.second c.in-Work.number c.in-Work.machine c.in-Work.is) (quiet_step t d d v c.new-in-Work.ensures.items refl refl)

pub returns-in-Force-clause-step : goal.returns-in-Force-clause-step
returns-in-Force-clause-step c =
    let d = c.args.self.now in
    let t = c.args.topology.now in
    let e = c.args.entry.now in
    let v = c.new-in-Force.result in
    same_step t d d (Ok v) (λ setting s. stays s) _ (λ route. step_force (setting_of t d.agent route) (state_at d) e.input e.second c.in-Force.number c.in-Force.is) (quiet_step t d d v c.new-in-Force.ensures.items refl refl)

pub returns-in-Ask-clause-step : goal.returns-in-Ask-clause-step
returns-in-Ask-clause-step c =
    let d = c.args.self.now in
    let t = c.args.topology.now in
    let e = c.args.entry.now in
    let v = c.new-in-Ask.result in
    same_step t d d (Ok v) (λ setting s. stays s) _ (λ route. step_ask (setting_of t d.agent route) (state_at d) e.input e.second c.in-Ask.number c.in-Ask.ask c.in-Ask.is) (quiet_step t d d v c.new-in-Ask.ensures.items refl refl)
