use Rattle.std.proofs.Common.{◌≡◌}
use Rattle.provider_agent.specs.Ticks.{CanUndo, ticked_by}
use Rattle.provider_agent.proofs.TickSeams.{IsTicked}
use Rattle.provider_agent.proofs.tick.Ticking.tick_each.Given as goal

abbrev pub invariant-loop-place : goal.invariant-loop-place
invariant-loop-place l =
    record {
      ticked : IsTicked l.agent l.initial.self.before l.initial.self.now l.initial.self.next l.initial.records.items l.due l.place-index (ticked_by l.self l.records.items);
      before : l.self.before ≡ l.initial.self.before;
      now : l.self.now ≡ l.initial.self.now;
      undo : CanUndo l.initial.records.items l.records.items l.self.kept.items;
    }
