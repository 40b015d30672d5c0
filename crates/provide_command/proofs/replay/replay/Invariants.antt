use Rattle.std.proofs.Common.{◌≡◌, ◌≤◌, ◌+◌, drop}
use Rattle.provider_agent.specs.Setting.{own_stp}
use Rattle.provider_agent.specs.Runs.{after_all}
use Rattle.provide_command.proofs.replay.replay.Given as goal

abbrev pub invariant-loop-entry : goal.invariant-loop-entry
invariant-loop-entry l = record {
  setting : l.provider.setting ≡ l.initial.provider.setting;
  state : (after_all l.initial.provider.setting (own_stp l.topology l.initial.provider.setting.number) l.provider.state (drop l.entry-index l.entries)).state
      ≡ (after_all l.initial.provider.setting (own_stp l.topology l.initial.provider.setting.number) l.initial.provider.state l.entries).state;
  taken : l.provider.state.taken ≤ l.initial.provider.state.taken + l.entry-index;
}
