use Rattle.std.proofs.Common.{take}
use Rattle.std.specs.List.{All}
use Rattle.aggregator_agent.specs.Indexed.{StaysIn}
use Rattle.aggregator_agent.specs.OpenTable.{IsPartNamed}
use Rattle.aggregator_agent.proofs.open_queries.name_parts.Given as goal

abbrev pub invariant-loop-part : goal.invariant-loop-part
invariant-loop-part l =
    record {
      grows : StaysIn l.initial.ids l.ids;
      named : All (IsPartNamed l.ids l.number) (take l.part-index l.parts);
    }
