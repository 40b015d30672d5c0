use Rattle.std.proofs.Common.{◌∙◌, sym, arith}
use Rattle.aggregator_agent.proofs.FirstOwned.{passed_none, place_within, passed_more, first_owned, none_owned}
use Rattle.aggregator_agent.proofs.find.place_among.Goals as goal

pub loop-place-init : goal.loop-place-init
loop-place-init c = passed_none c.args.id c.args.owner.now c.args.connections.now c.args.places.now

pub is_owned_at-requires : goal.is_owned_at-requires
is_owned_at-requires c = place_within c.args.id c.args.owner.now c.args.connections.now c.args.places.now c.requires c.loop-place.place-index c.loop-place-test.true

pub loop-place-preserved : goal.loop-place-preserved
loop-place-preserved c =
    passed_more c.args.id c.args.owner.now c.args.connections.now c.args.places.now c.requires c.loop-place.place-index c.loop-place-test.true c.loop-place.invariant
    (λ y. sym (c.is_owned_at.ensures y) ∙ c.if-is_owned_at.false)

pub returns-then-is_owned_at-clause-place : goal.returns-then-is_owned_at-clause-place
returns-then-is_owned_at-clause-place c =
    first_owned c.args.id c.args.owner.now c.args.connections.now c.args.places.now c.requires c.loop-place.place-index c.loop-place-test.true c.loop-place.invariant
    (λ y. sym (c.is_owned_at.ensures y) ∙ c.if-is_owned_at.true)

pub returns-then-is_owned_at-clause-within : goal.returns-then-is_owned_at-clause-within
returns-then-is_owned_at-clause-within c = place_within c.args.id c.args.owner.now c.args.connections.now c.args.places.now c.requires c.loop-place.place-index c.loop-place-test.true

pub returns-clause-place : goal.returns-clause-place
returns-clause-place c = none_owned c.args.id c.args.owner.now c.args.connections.now c.args.places.now c.requires c.loop-place.place-index (omega arith) c.loop-place-test.false c.loop-place.invariant
