use Rattle.std.specs.List.{All}
use Rattle.nsi_play.specs.Openings.{plans_of}
use Rattle.net_run.specs.Joints.{ArePaired, AreJoined, IsShutJoint, IsPlannedJoint}
use Rattle.net_run.proofs.joints.join_all.Given as goal

abbrev pub invariant-loop-place : goal.invariant-loop-place
invariant-loop-place l = record {
  paired : ArePaired l.joints.items;
  shut : All IsShutJoint l.joints.items;
  planned : All (IsPlannedJoint (plans_of l.lines)) l.joints.items;
  joined : AreJoined l.topology l.place l.joints.items;
}
