use Rattle.std.proofs.Common.{◌≡◌, List, length, drop}
use Rattle.connection_record.specs.declared.record.Record.{Record}
use Rattle.provider_agent.specs.Ticks.{AreSaved, CanGoBack}
use Rattle.provider_agent.proofs.tick.go_back.Given as goal

abbrev pub invariant-loop-one : goal.invariant-loop-one
invariant-loop-one l =
    record {
      back : (rs : List Record) → AreSaved rs l.kept → CanGoBack rs l.initial.records.items l.kept → CanGoBack rs l.records.items (drop l.one-index l.kept);
      long : length l.records.items ≡ length l.initial.records.items;
    }
