use Rattle.net_run.specs.Joints.{IsSplit}
use Rattle.net_run.proofs.joints.take_out.Given as goal

abbrev pub invariant-loop-joint : goal.invariant-loop-joint
invariant-loop-joint l = IsSplit l.agent l.others.items l.outgoing.items l.incoming.items l.rest.items l.joint-iterator.rest.items l.fn.joints.items
