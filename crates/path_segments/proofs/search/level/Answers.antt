use Rattle.std.proofs.Common.{subst, arith, length}
use Rattle.stp_topology.specs.Network.{partner_of}
use Rattle.path_segments.specs.Steps.{at, Way, HoldsFor}
use Rattle.path_segments.proofs.Marks.{next_level}
use Rattle.path_segments.proofs.Flat.{exit_within}
use Rattle.path_segments.proofs.search.level.Goals as goal

pub returns-clause-holds : goal.returns-clause-holds
returns-clause-holds c =
    next_level (partner_of c.args.search.now.topology.now) (Way c.args.search.now.topology.now c.args.search.now.depth c.args.search.now.children.now) c.args.search.now.dest c.args.rest (length c.args.search.now.topology.now.owners) (at c.loop-exit.steps.items)
    (λ b p y s. exit_within c.args.search.now.topology.now c.args.search.now.depth c.args.search.now.children.now b p y s)
    (subst (λ z. HoldsFor (partner_of c.args.search.now.topology.now) (Way c.args.search.now.topology.now c.args.search.now.depth c.args.search.now.children.now) c.args.search.now.dest c.args.rest z 0 (at c.loop-exit.steps.items))
    (omega (arith, c.loop-exit-test.false, c.loop-exit.auto, c.points-exit-end.ensures.count)) c.loop-exit.invariant.holds)
