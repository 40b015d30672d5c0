use Rattle.std.proofs.Common.{arith}
use Rattle.path_segments.specs.Steps.{at}
use Rattle.path_segments.proofs.Searches.{enters_next, enters_skip}
use Rattle.path_segments.proofs.child_search.note.Goals as goal

pub returns-then-point-exit-clause-enters : goal.returns-then-point-exit-clause-enters
returns-then-point-exit-clause-enters c = λ points before first h.
    enters_skip c.args.topology.now c.args.step c.args.exit c.args.point points first (at c.args.steps.now.items) before c.args.exits.now.items c.if-point-exit.true h

pub returns-clause-enters : goal.returns-clause-enters
returns-clause-enters c = λ points before first h.
    enters_next c.args.topology.now c.args.step c.args.exit c.args.point points c.mark.result first c.args.steps.now.items c.mark.new.steps.items before c.args.exits.now.items c.push_partner.new.exits.items
    c.if-point-exit.false (omega (arith, c.requires.point, c.requires.steps)) c.mark.ensures.marks c.in_ok-push_partner.ensures h
