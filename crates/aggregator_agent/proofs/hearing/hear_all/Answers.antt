use Rattle.std.proofs.Common.{◌<◌, ◌∙◌, ◌||◌, sym, ap, length, arith}
use Rattle.aggregator_agent.specs.Turns.{hear_one, loses, breaks}
use Rattle.aggregator_agent.proofs.Each.{asked_more, same_long, all_asked, any_next, any_done}
use Rattle.aggregator_agent.proofs.hearing.hear_all.Goals as goal

pub hear_at-requires : goal.hear_at-requires
hear_at-requires c = omega (arith, c.loop-place-test.true, c.loop-place.auto.place-end, c.len-place-end.ensures, c.loop-place.invariant.long)

pub loop-place-preserved : goal.loop-place-preserved
loop-place-preserved c =
    let l = c.loop-place in
    let a = c.in_ok-one.ensures in
    let f = c.note.ensures in
    let xs = l.children.items in
    let ys = c.hear_at.new.children.items in
    let inside : l.place < length l.children.items = omega (arith, c.loop-place-test.true, l.auto.place-end, c.len-place-end.ensures, l.invariant.long) in
    record {
      each = asked_more (λ n x. hear_one c.args.is_ending c.args.message.now c.args.agent.now n x) _ l.place xs ys l.turning c.hear_at.new.turning c.in_ok-one.one inside a.asked l.invariant.each;
      lost = any_next (loses c.args.message.now) l.heard.is_lost c.note.new.self.is_lost l.place xs ys _ inside a.asked.child (f.lost ∙ ap (λ z. l.heard.is_lost || z) a.lost) ∙ l.invariant.lost;
      broken = any_next (breaks c.args.message.now) l.heard.is_broken c.note.new.self.is_broken l.place xs ys _ inside a.asked.child (f.broken ∙ ap (λ z. l.heard.is_broken || z) a.broken) ∙ l.invariant.broken;
      long = same_long l.place xs ys l.turning c.hear_at.new.turning c.in_ok-one.one _ a.asked ∙ l.invariant.long;
      replies = c.hear_at.ensures.asked.replies ∙ l.invariant.replies;
      notices = c.hear_at.ensures.asked.notices ∙ l.invariant.notices;
    }

pub returns-clause-asked : goal.returns-clause-asked
returns-clause-asked c =
    let l = c.loop-place in
    all_asked (λ n x. hear_one c.args.is_ending c.args.message.now c.args.agent.now n x) l.place c.args.children.now.items l.children.items c.args.turning.now l.turning _
    (omega (arith, c.loop-place-test.false, l.auto.place-end, c.len-place-end.ensures, l.invariant.long)) l.invariant.each l.invariant.replies l.invariant.notices

pub returns-clause-lost : goal.returns-clause-lost
returns-clause-lost c =
    let l = c.loop-place in
    sym (any_done (loses c.args.message.now) l.heard.is_lost l.place l.children.items (omega (arith, c.loop-place-test.false, l.auto.place-end, c.len-place-end.ensures, l.invariant.long))) ∙ l.invariant.lost

pub returns-clause-broken : goal.returns-clause-broken
returns-clause-broken c =
    let l = c.loop-place in
    sym (any_done (breaks c.args.message.now) l.heard.is_broken l.place l.children.items (omega (arith, c.loop-place-test.false, l.auto.place-end, c.len-place-end.ensures, l.invariant.long))) ∙ l.invariant.broken
