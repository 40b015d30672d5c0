use Rattle.std.proofs.Common.{◌≡◌, true, sym, ◌∙◌, bytes_eq, arith}
use Rattle.trace_verify.proofs.Delivering.{named_behind}
use Rattle.trace_verify.proofs.parcels.behind_name.Goals as goal

pub returns : goal.returns
returns c =
    let first = c.in_ok-first.first.now in
    let same : bytes_eq first c.args.verb.now ≡ true = grind (arith, c.ne.ensures, c.if-ne.false) in
    named_behind c.args.topology.now c.args.verb.now c.args.line.now first c.in_ok-first.rest.now c.in_ok-name.name.now c.in_ok-name.text.now c.in_ok-agent.agent c.in_ok-first.ensures same c.in_ok-name.ensures
    (sym c.agent_of.ensures.agent ∙ c.in_ok-agent.was) c.in_ok-agent.ensures.within
