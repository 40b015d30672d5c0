use Rattle.std.proofs.Common.{arith, rules}
use Rattle.path_segments.proofs.Lists.{listed_next}
use Rattle.path_segments.proofs.points.points_by_owner.Goals as goal

pub loop-point-preserved : goal.loop-point-preserved
loop-point-preserved c = record {
  size = search rules;
  listed = listed_next c.args.topology.now c.loop-point.point c.owner_at.result c.loop-point.lists.items c.push_point.new.lists.items c.owner_at.ensures.owner
      (omega (arith, c.owner_at.ensures.within, c.loop-point.invariant.size)) c.in_ok-push_point.ensures c.loop-point.invariant.listed;
}
