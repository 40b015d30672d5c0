use Rattle.std.proofs.Common.{◌<◌, ◌∙◌, sym, ap, ap₂, arith, length}
use Rattle.agent_node.specs.Kept.{Kept}
use Rattle.agent_threads.specs.Made.{failure_at}
use Rattle.agent_threads.proofs.Turning.{failure_here, failure_later, failure_nowhere}
use Rattle.agent_threads.proofs.rounds.first_failure.Goals as goal

pub returns-then-is_some : goal.returns-then-is_some
returns-then-is_some g c =
    let l = c.loop-node in
    let h : l.node-index < length c.args.nodes.now = omega (arith, c.loop-node-test.true) in
    let d = c.node-item.result in
    let e = c.failure_of-failure.ensures ∙ (ap₂ failure_at c.number.ensures c.fault.ensures ∙ ap (λ (k : Kept). failure_at k.seat.number k.fault) c.node-item.is) in
    failure_here c.args.nodes.now l.node-index d c.failure_of-failure.result h e (sym c.is_some.ensures ∙ c.if-is_some.true) ∙ l.invariant

pub loop-node-preserved : goal.loop-node-preserved
loop-node-preserved g c =
    let l = c.loop-node in
    let h : l.node-index < length c.args.nodes.now = omega (arith, c.loop-node-test.true) in
    let d = c.node-item.result in
    let e = c.failure_of-failure.ensures ∙ (ap₂ failure_at c.number.ensures c.fault.ensures ∙ ap (λ (k : Kept). failure_at k.seat.number k.fault) c.node-item.is) in
    failure_later c.args.nodes.now l.node-index d c.failure_of-failure.result h e (sym c.is_some.ensures ∙ c.if-is_some.false) ∙ l.invariant

pub returns : goal.returns
returns g c = sym (failure_nowhere c.args.nodes.now c.loop-node.node-index (omega (arith, c.loop-node-test.false))) ∙ c.loop-node.invariant
