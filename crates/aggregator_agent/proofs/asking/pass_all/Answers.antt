use Rattle.std.proofs.Common.{◌<◌, ◌∙◌, length, arith}
use Rattle.aggregator_agent.specs.Asking.{pass_one}
use Rattle.aggregator_agent.proofs.Each.{asked_more, same_long, all_asked}
use Rattle.aggregator_agent.proofs.asking.pass_all.Goals as goal

pub pass_at-requires : goal.pass_at-requires
pass_at-requires c = omega (arith, c.loop-place-test.true, c.loop-place.auto.place-end, c.len-place-end.ensures, c.loop-place.invariant.long)

pub loop-place-preserved : goal.loop-place-preserved
loop-place-preserved c =
    let l = c.loop-place in
    let inside : l.place < length l.children.items = omega (arith, c.loop-place-test.true, l.auto.place-end, c.len-place-end.ensures, l.invariant.long) in
    record {
      each = asked_more (λ n x. pass_one c.args.message.now c.args.agent.now c.args.own.now n x) _ l.place l.children.items c.pass_at.new.children.items l.turning c.pass_at.new.turning c.in_ok-pass_at.field-0 inside c.in_ok-pass_at.ensures l.invariant.each;
      long = same_long l.place l.children.items c.pass_at.new.children.items l.turning c.pass_at.new.turning c.in_ok-pass_at.field-0 _ c.in_ok-pass_at.ensures ∙ l.invariant.long;
      replies = c.pass_at.ensures.replies ∙ l.invariant.replies;
      notices = c.pass_at.ensures.notices ∙ l.invariant.notices;
    }

pub returns : goal.returns
returns c =
    let l = c.loop-place in
    all_asked (λ n x. pass_one c.args.message.now c.args.agent.now c.args.own.now n x) l.place c.args.children.now.items l.children.items c.args.turning.now l.turning _
    (omega (arith, c.loop-place-test.false, l.auto.place-end, c.len-place-end.ensures, l.invariant.long)) l.invariant.each l.invariant.replies l.invariant.notices
