use Rattle.std.proofs.Common.{rules, ◌≡◌, false, sym}
use Rattle.agent_node.proofs.Allowed.{left_out_by}
use Rattle.agent_node.proofs.reading.read_one.Goals as goal

pub returns-else-may_take-clause-state : goal.returns-else-may_take-clause-state
returns-else-may_take-clause-state c =
    let a = c.args.agent.now in
    let out : c.may_take.result ≡ false = search rules in
    λ routes are.
    sym
    (left_out_by c.every_entry.ensures.left_out a.network c.args.topology.now routes a.number c.number.result c.kind.result a.state c.args.entry.now c.may_take.result c.requires.network c.number.ensures
    c.kind.ensures c.may_take.ensures out)
