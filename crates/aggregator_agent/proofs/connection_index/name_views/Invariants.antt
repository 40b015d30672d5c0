use Rattle.std.proofs.Common.{take}
use Rattle.std.specs.List.{All}
use Rattle.aggregator_agent.specs.Indexed.{StaysIn, IsViewNamed}
use Rattle.aggregator_agent.proofs.connection_index.name_views.Given as goal

abbrev pub invariant-loop-child : goal.invariant-loop-child
invariant-loop-child l =
    record {
      grows : StaysIn l.initial.ids l.ids;
      named : All (IsViewNamed l.ids l.place) (take l.child-index l.children);
    }
