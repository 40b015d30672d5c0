use Rattle.std.proofs.Common.{◌∙◌, sym, ap}
use Rattle.agent_state.specs.State.{AgentStepped}
use Rattle.followed_agent.proofs.Taking.{left_out_by}
use Rattle.followed_agent.proofs.folding.take_entry.Goals as goal

pub returns-else-may_take-clause-state : goal.returns-else-may_take-clause-state
returns-else-may_take-clause-state c = λ routes are.
    let a = c.args.agent.now in
    sym
    (ap (λ (x : AgentStepped). x.state)
    (left_out_by c.every_entry.ensures.left_out a.network c.args.topology.now routes a.number c.number.result c.kind.result a.state c.args.entry.now c.may_take.result c.requires.network c.number.ensures
    c.kind.ensures c.may_take.ensures c.if-may_take.false))

pub returns-else-may_take-clause-answer : goal.returns-else-may_take-clause-answer
returns-else-may_take-clause-answer c = λ routes are.
    let a = c.args.agent.now in
    sym
    (ap (λ (x : AgentStepped). x.answer)
    (left_out_by c.every_entry.ensures.left_out a.network c.args.topology.now routes a.number c.number.result c.kind.result a.state c.args.entry.now c.may_take.result c.requires.network c.number.ensures
    c.kind.ensures c.may_take.ensures c.if-may_take.false))

pub returns-else-may_take-clause-out : goal.returns-else-may_take-clause-out
returns-else-may_take-clause-out c = λ routes are.
    let a = c.args.agent.now in
    c.new.ensures.items
    ∙ sym
    (ap (λ (x : AgentStepped). x.out)
    (left_out_by c.every_entry.ensures.left_out a.network c.args.topology.now routes a.number c.number.result c.kind.result a.state c.args.entry.now c.may_take.result c.requires.network c.number.ensures
    c.kind.ensures c.may_take.ensures c.if-may_take.false))
