use Rattle.std.proofs.Common.{rules}
use Rattle.net_run.proofs.Splitting.{split_begin, split_own_next, split_rest_next}
use Rattle.net_run.proofs.joints.take_out.Goals as goal

pub loop-joint-init : goal.loop-joint-init
loop-joint-init c =
    split_begin c.args.agent c.new-others.result.items c.new-outgoing.result.items c.new-incoming.result.items c.new-rest.result.items c.into_iter-joint-iterator.result.rest.items c.args.joints.items
    (search rules) (search rules) (search rules) (search rules) (search rules) c.requires

pub loop-joint-preserved-in-Continue-branch-3 : goal.loop-joint-preserved-in-Continue-branch-3
loop-joint-preserved-in-Continue-branch-3 c =
    let l = c.loop-joint in
    split_own_next c.args.agent c.in-Some.joint l.others.items c.push.new.self.items l.outgoing.items c.push-then-eq.new.self.items l.incoming.items c.push-then-eq-2.new.self.items
    l.rest.items l.joint-iterator.rest.items c.next.new.self.rest.items c.args.joints.items (search rules) (search rules) (search rules) (search rules) (search rules) l.invariant

pub loop-joint-preserved : goal.loop-joint-preserved
loop-joint-preserved c =
    let l = c.loop-joint in
    split_rest_next c.args.agent c.in-Some.joint l.others.items l.outgoing.items l.incoming.items l.rest.items c.push-else-eq.new.self.items l.joint-iterator.rest.items c.next.new.self.rest.items
    c.args.joints.items (search rules) (search rules) (search rules) l.invariant
