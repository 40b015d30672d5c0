use Rattle.std.proofs.Common.{ap, subst, sym, ◌∙◌, ◌+◌}
use Rattle.trace_verify.proofs.Placing.{AreNew, blank_at, new_more}
use Rattle.trace_verify.proofs.follower.Follower.new.Goals as goal

pub loop-place-preserved : goal.loop-place-preserved
loop-place-preserved c =
    let t = c.args.topology.now in
    let l = c.loop-place in
    subst (AreNew t (l.place + 1)) (sym c.in_ok-push.ensures.items)
    (new_more t l.place l.agents.items c.in_ok-new.field-0 l.invariant c.in_ok-new.ensures.kept (c.in_ok-new.ensures.seen ∙ ap (λ k. blank_at t k) c.agent_at.ensures))
