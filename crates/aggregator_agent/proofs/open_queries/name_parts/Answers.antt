use Rattle.std.proofs.Common.{subst, take}
use Rattle.std.specs.List.{All}
use Rattle.std.proofs.lemmas.List.{take_all}
use Rattle.std.proofs.lemmas.List.Elements.{All-more}
use Rattle.aggregator_agent.specs.OpenTable.{IsPartNamed}
use Rattle.aggregator_agent.proofs.OpenTold.{parts_grown}
use Rattle.aggregator_agent.proofs.open_queries.name_parts.Goals as goal

pub loop-part-preserved : goal.loop-part-preserved
loop-part-preserved c =
    let xs = c.args.parts.now in
    let i = c.loop-part.part-index in
    let x = c.part-item.result in
    let n = c.args.number in
    let more = c.name_part.ensures.grows in
    record {
      grows = λ y has. more y (c.loop-part.invariant.grows y has);
      named = All-more (IsPartNamed c.name_part.new.ids n) xs i x c.loop-part-test.true
          (parts_grown c.loop-part.ids c.name_part.new.ids n (take i xs) more c.loop-part.invariant.named)
          (subst (IsPartNamed c.name_part.new.ids n) c.part-item.is c.in_ok-name_part.ensures.named);
    }

pub returns-clause-named : goal.returns-clause-named
returns-clause-named c =
    subst (All (IsPartNamed c.loop-part.ids c.args.number)) (take_all c.loop-part.part-index c.args.parts.now c.loop-part-test.false) c.loop-part.invariant.named
