use Rattle.std.proofs.Common.{◌+◌, drop, arith}
use Rattle.std.proofs.lemmas.List.{drop_more, drop_all}
use Rattle.requester_agent.specs.Steps.{view_hears}
use Rattle.requester_agent.proofs.HeardAt.{heard_next, heard_all}
use Rattle.requester_agent.proofs.hearing.hear_at.Goals as goal

pub loop-place-preserved : goal.loop-place-preserved
loop-place-preserved c =
    let places = c.args.places.now in
    let i = c.loop-place.place-index in
    heard_next (view_hears c.args.message.now) c.args.views.now c.loop-place.views c.hear_there.new.views _ (drop i places) (drop (i + 1) places) (drop_more places i 0 (omega (arith, c.loop-place-test.true)))
    c.hear_there.ensures.there c.hear_there.ensures.none c.loop-place.invariant

pub returns : goal.returns
returns c =
    let places = c.args.places.now in
    let i = c.loop-place.place-index in
    heard_all (view_hears c.args.message.now) c.args.views.now c.loop-place.views (drop i places) (drop_all i places (omega (arith, c.loop-place-test.false))) c.loop-place.invariant
