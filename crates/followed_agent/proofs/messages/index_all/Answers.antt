use Rattle.std.proofs.Common.{get_or, arith}
use Rattle.std.proofs.lemmas.Option.{slice_get-get_or}
use Rattle.followed_agent.proofs.Keeping.{found_one}
use Rattle.followed_agent.proofs.messages.index_all.Goals as goal

pub loop-place-preserved : goal.loop-place-preserved
loop-place-preserved c =
    let l = c.loop-place in
    let ms = c.args.messages.now in
    let m = c.index-messages-place.result in
    found_one l.places c.add.new.self l.place ms (get_or ms l.place m) l.invariant (slice_get-get_or ms l.place m c.loop-place-test.true) c.in_ok-add.ensures.ok

pub returns : goal.returns
returns c = λ p m lt at. c.loop-place.invariant p m (omega (arith, lt, c.loop-place-test.false)) at
