use Rattle.std.proofs.Common.{arith}
use Rattle.stp_topology.proofs.RankLemmas.{rank_at_most_4}
use Rattle.stp_topology.proofs.topology.Topology.rank.Goals as goal

pub returns-clause-within : goal.returns-clause-within
returns-clause-within c = omega (arith, rank_at_most_4 c.self.inside.network c.args.a c.self.invariant.depth, c.rank_to.ensures.rank)
