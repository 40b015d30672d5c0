use Rattle.std.proofs.Common.{ℕ, ◌≡◌, ◌++◌}
use Rattle.std.specs.List.{All}
use Rattle.agent_node.specs.Openings.{others_of}
use Rattle.nsi_play.specs.Openings.{plans_of}
use Rattle.net_run.specs.Joints.{ArePaired, IsShutJoint, IsPlannedJoint, ends_of, added}
use Rattle.net_run.proofs.joints.join_earlier.Given as goal

abbrev pub invariant-loop-other : goal.invariant-loop-other
invariant-loop-other l = record {
  paired : ArePaired l.joints.items;
  shut : All IsShutJoint l.joints.items;
  planned : All (IsPlannedJoint (plans_of l.lines)) l.joints.items;
  ends : (b : ℕ) → ends_of b l.joints.items ++ added l.agent l.other-iterator.rest.items b ≡ ends_of b l.fn.joints.items ++ added l.agent (others_of l.topology l.agent) b;
}
