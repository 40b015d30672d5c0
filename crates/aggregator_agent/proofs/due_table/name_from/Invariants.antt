use Rattle.aggregator_agent.specs.Indexed.{StaysIn}
use Rattle.aggregator_agent.specs.Dues.{AreNamedBetween}
use Rattle.aggregator_agent.proofs.due_table.name_from.Given as goal

abbrev pub invariant-loop-place : goal.invariant-loop-place
invariant-loop-place l =
    record {
      grows : StaysIn l.initial.ids l.ids;
      named : AreNamedBetween l.first l.place l.ids l.dues;
    }
