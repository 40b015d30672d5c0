use Rattle.std.proofs.Common.{◌≡◌, drop}
use Rattle.nsi_agent.specs.Told.{goes_on}
use Rattle.agent_node.specs.Seated.{At}
use Rattle.agent_node.proofs.reading.read_each.Given as goal

abbrev pub invariant-loop-entry : goal.invariant-loop-entry
invariant-loop-entry l = record {
  network : l.agent.network ≡ l.initial.agent.network;
  number : l.agent.number ≡ l.initial.agent.number;
  state : At l.initial.agent.network l.initial.agent.number (λ h. (goes_on h l.agent.state (drop l.entry-index l.entries)).state ≡ (goes_on h l.initial.agent.state l.entries).state);
}
