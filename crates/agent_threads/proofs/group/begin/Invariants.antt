use Rattle.std.proofs.Common.{ℕ, true, List, ◌≡◌, ◌+◌, drop}
use Rattle.nsi_play.specs.Play.{asks_among}
use Rattle.agent_threads.specs.Stopping.{NoneStopped, more_stops}
use Rattle.agent_threads.proofs.Acting.{ActsGo}
use Rattle.agent_threads.specs.Nets.{seats_by}
use Rattle.agent_threads.specs.Promise.{AtShown}
use Rattle.agent_threads.specs.Leaving.{LeavesNet}
use Rattle.agent_threads.proofs.group.begin.Given as goal

abbrev pub invariant-loop-action : goal.invariant-loop-action
invariant-loop-action g l = record {
  way : AtShown l.fn.nodes.items l.group.acts (λ homes tells.
      ActsGo homes tells (NoneStopped l.fn.nodes.items l.nodes.items l.fn.events.items l.events.items) (more_stops l.fn.nodes.items l.nodes.items) l.group l.start.number (seats_by tells l.fn.nodes.items) l.events.items
      (drop l.action-index l.group.acts) l.next (seats_by tells l.nodes.items));
  asks : l.next + asks_among (drop l.action-index l.group.acts) ≡ l.start.number + asks_among l.group.acts;
  leaves : LeavesNet l.group.at l.fn.nodes.items l.nodes.items l.fn.events.items l.events.items;
  stays : (n : List ℕ) → g.B.Reopen.listed l.fn.shelf n ≡ true → g.B.Reopen.listed l.shelf n ≡ true;
  faults : g.B.Reopen.faults l.shelf ≡ g.B.Reopen.faults l.fn.shelf;
  stops : g.B.Reopen.stops l.shelf ≡ g.B.Reopen.stops l.fn.shelf;
}
