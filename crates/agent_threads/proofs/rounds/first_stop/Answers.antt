use Rattle.std.proofs.Common.{◌<◌, ◌∙◌, sym, ap, ap₂, arith, length}
use Rattle.agent_node.specs.Kept.{Kept}
use Rattle.agent_threads.specs.Made.{stop_at}
use Rattle.agent_threads.proofs.Turning.{stop_here, stop_later, stop_nowhere}
use Rattle.agent_threads.proofs.rounds.first_stop.Goals as goal

pub returns-then-is_some : goal.returns-then-is_some
returns-then-is_some g c =
    let l = c.loop-node in
    let h : l.node-index < length c.args.nodes.now = omega (arith, c.loop-node-test.true) in
    let d = c.node-item.result in
    let e = c.stop_of-stop.ensures ∙ (ap₂ stop_at c.number.ensures c.fault.ensures ∙ ap (λ (k : Kept). stop_at k.seat.number k.fault) c.node-item.is) in
    stop_here c.args.nodes.now l.node-index d c.stop_of-stop.result h e (sym c.is_some.ensures ∙ c.if-is_some.true) ∙ l.invariant

pub loop-node-preserved : goal.loop-node-preserved
loop-node-preserved g c =
    let l = c.loop-node in
    let h : l.node-index < length c.args.nodes.now = omega (arith, c.loop-node-test.true) in
    let d = c.node-item.result in
    let e = c.stop_of-stop.ensures ∙ (ap₂ stop_at c.number.ensures c.fault.ensures ∙ ap (λ (k : Kept). stop_at k.seat.number k.fault) c.node-item.is) in
    stop_later c.args.nodes.now l.node-index d c.stop_of-stop.result h e (sym c.is_some.ensures ∙ c.if-is_some.false) ∙ l.invariant

pub returns : goal.returns
returns g c = sym (stop_nowhere c.args.nodes.now c.loop-node.node-index (omega (arith, c.loop-node-test.false))) ∙ c.loop-node.invariant
