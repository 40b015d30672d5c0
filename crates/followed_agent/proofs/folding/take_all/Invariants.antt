use Rattle.std.proofs.Common.{◌≡◌, drop}
use Rattle.std.specs.List.{All}
use Rattle.nsi_primitive.specs.Printable.{IsPrintable}
use Rattle.nsi_agent.specs.Told.{behind, goes_on}
use Rattle.followed_agent.specs.Kept.{At}
use Rattle.followed_agent.proofs.folding.take_all.Given as goal

abbrev pub invariant-loop-entry : goal.invariant-loop-entry
invariant-loop-entry l = record {
  network : l.agent.network ≡ l.initial.agent.network;
  number : l.agent.number ≡ l.initial.agent.number;
  told : At l.initial.agent.network l.initial.agent.number (λ h.
      behind l.out.items (goes_on h l.agent.state (drop l.entry-index l.entries)) ≡ behind l.initial.out.items (goes_on h l.initial.agent.state l.entries));
  printable : All IsPrintable l.out.items;
}
