use Rattle.std.proofs.Common.{◌+◌, drop, arith, sym, subst, Contains}
use Rattle.std.proofs.lemmas.List.{drop_more, drop_all}
use Rattle.requester_agent.proofs.Naming.{named_next, named_all}
use Rattle.requester_agent.proofs.hearing.name_at.Goals as goal

pub returns-in_err-add-clause-kept : goal.returns-in_err-add-clause-kept
returns-in_err-add-clause-kept c e has = subst (λ ids. Contains ids e) (sym c.in_err-add.ensures.err) (c.loop-place.invariant.kept e has)

pub loop-place-preserved : goal.loop-place-preserved
loop-place-preserved c =
    let places = c.args.places.now in
    let i = c.loop-place.place-index in
    named_next c.args.id _ places (drop i places) (drop (i + 1) places) c.args.ids.now c.loop-place.ids c.add.new.self (drop_more places i 0 (omega (arith, c.loop-place-test.true))) c.in_ok-add.ensures.ok c.loop-place.invariant

pub returns-clause-named : goal.returns-clause-named
returns-clause-named c =
    let places = c.args.places.now in
    let i = c.loop-place.place-index in
    named_all c.args.id places (drop i places) c.args.ids.now c.loop-place.ids (drop_all i places (omega (arith, c.loop-place-test.false))) c.loop-place.invariant
