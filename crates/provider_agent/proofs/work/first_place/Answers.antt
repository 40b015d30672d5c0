use Rattle.std.proofs.Common.{◌∙◌, sym}
use Rattle.provider_agent.proofs.FirstNamed.{first_named, none_named}
use Rattle.provider_agent.proofs.work.first_place.Goals as goal

pub returns-then-has_work-clause-place : goal.returns-then-has_work-clause-place
returns-then-has_work-clause-place c =
    first_named c.args.records.now c.args.waiting.now c.requires.named c.loop-place.place-index c.requires.rising c.loop-place.invariant c.loop-place-test.true (sym c.has_work.ensures ∙ c.if-has_work.true)

pub returns-clause-place : goal.returns-clause-place
returns-clause-place c =
    none_named c.args.records.now c.args.waiting.now c.requires.named c.loop-place.place-index c.loop-place.invariant c.loop-place-test.false
