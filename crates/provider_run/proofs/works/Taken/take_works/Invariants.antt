use Rattle.std.proofs.Common.{◌≡◌, ◌≤◌, ◌++◌, ◌-◌, All, length}
use Rattle.nsi_primitive.specs.Printable.{IsPrintable, IsPrintableEntry}
use Rattle.provider_agent.specs.Setting.{own_stp}
use Rattle.provider_agent.specs.Working.{works_among}
use Rattle.provider_run.specs.Works.{all_works}
use Rattle.provider_run.proofs.UnderWay.{IsUnderWay}
use Rattle.provider_run.proofs.works.Taken.take_works.Given as goal

abbrev pub invariant-loop-work : goal.invariant-loop-work
invariant-loop-work l = record {
  setting : l.provider.setting ≡ l.initial.provider.setting;
  way : IsUnderWay l.initial.provider.setting (own_stp l.topology l.initial.provider.setting.number) l.initial.provider.state l.provider.state
      l.initial.self.messages.items l.self.messages.items 0 (length l.self.entries.items - length l.initial.self.entries.items);
  longer : length l.initial.self.entries.items ≤ length l.self.entries.items;
  entries : l.self.entries.items ++ all_works l.initial.provider.setting (own_stp l.topology l.initial.provider.setting.number) l.provider.state
      ≡ l.initial.self.entries.items ++ all_works l.initial.provider.setting (own_stp l.topology l.initial.provider.setting.number) l.initial.provider.state;
  printable : All IsPrintable l.initial.self.messages.items → All IsPrintable l.self.messages.items;
  entries_printable : All IsPrintableEntry l.initial.self.entries.items → All IsPrintableEntry l.self.entries.items;
}

abbrev pub decreases-loop-work : goal.decreases-loop-work
decreases-loop-work l = works_among l.provider.state.records
