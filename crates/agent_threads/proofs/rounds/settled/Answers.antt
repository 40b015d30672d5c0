use Rattle.std.proofs.Common.{◌<◌, ◌∙◌, sym, refl, arith, length}
use Rattle.nsi_agent.specs.Homes.{home_in}
use Rattle.agent_threads.proofs.Quiet.{not_quiet, still_quiet, quiet_end}
use Rattle.agent_threads.proofs.rounds.settled.Goals as goal

pub loop-node-init : goal.loop-node-init
loop-node-init g c = λ t o routes r b w. refl

pub loop-node-preserved : goal.loop-node-preserved
loop-node-preserved g c = λ t o routes r b w.
    let l = c.loop-node in
    let h : l.node-index < length c.args.nodes.now = omega (arith, c.loop-node-test.true) in
    still_quiet c.args.nodes.now l.node-index c.node-item.result c.node-item.result c.quiet-is_quiet.result h c.node-item.is c.quiet-is_quiet.ensures c.if-not-is_quiet.false t o routes r b w ∙ l.invariant t o routes r b w

pub returns-then-not-is_quiet : goal.returns-then-not-is_quiet
returns-then-not-is_quiet g c = λ t o routes r b w.
    let l = c.loop-node in
    let h : l.node-index < length c.args.nodes.now = omega (arith, c.loop-node-test.true) in
    not_quiet c.args.nodes.now l.node-index c.node-item.result c.node-item.result c.quiet-is_quiet.result h c.node-item.is c.quiet-is_quiet.ensures c.if-not-is_quiet.true t o routes r b w ∙ l.invariant t o routes r b w

pub returns : goal.returns
returns g c = λ t o routes r b w. sym (quiet_end b (home_in t routes) c.args.nodes.now c.loop-node.node-index (omega (arith, c.loop-node-test.false))) ∙ c.loop-node.invariant t o routes r b w
