use Rattle.std.proofs.Common.{ℕ, true, ◌≡◌, ◌≤◌, ◌++◌, List, length}
use Rattle.nsi_primitive.specs.declared.entry.Event.{Event}
use Rattle.quiet_rounds.specs.Left.{left}
use Rattle.agent_threads.specs.Nets.{seats, seats_by, AtHomes}
use Rattle.agent_threads.specs.Leaving.{LeavesNet}
use Rattle.agent_threads.specs.Stopping.{more_stops, NoneStopped, AreSettled}
use Rattle.agent_threads.proofs.group.advance.Given as goal

abbrev pub decreases-loop-events : goal.decreases-loop-events
decreases-loop-events g l = left (seats l.nodes.items)

abbrev pub invariant-loop-events : goal.invariant-loop-events
invariant-loop-events g l = record {
  way : AtHomes l.fn.nodes.items (λ homes tells. (own : List Event) × (l.events.items ≡ l.fn.events.items ++ own)
      × AreSettled homes tells (NoneStopped l.fn.nodes.items l.nodes.items l.fn.events.items l.events.items) (more_stops l.fn.nodes.items l.nodes.items) (seats_by tells l.fn.nodes.items) own (seats_by tells l.nodes.items));
  leaves : LeavesNet 0 l.fn.nodes.items l.nodes.items l.fn.events.items l.events.items;
  within : length l.events.items ≤ l.room;
  stays : (n : List ℕ) → g.B.Reopen.listed l.fn.shelf n ≡ true → g.B.Reopen.listed l.shelf n ≡ true;
  faults : g.B.Reopen.faults l.shelf ≡ g.B.Reopen.faults l.fn.shelf;
  stops : g.B.Reopen.stops l.shelf ≡ g.B.Reopen.stops l.fn.shelf;
}
