use Rattle.std.proofs.Common.{ℕ, ◌≡◌, ◌≤◌, ◌+◌, ◌*◌, ◌-◌, ◌++◌, true, List, length, if◌then◌else◌}
use Rattle.nsi_primitive.specs.declared.entry.Event.{Event}
use Rattle.nsi_play.specs.Rounds.{all_quiet}
use Rattle.agent_threads.specs.Nets.{seats_by, AtHomes}
use Rattle.agent_threads.specs.Leaving.{LeavesNet}
use Rattle.agent_threads.specs.Stopping.{more_stops, NoneStopped, AreSettled}
use Rattle.agent_threads.proofs.group.settle.Given as goal

abbrev pub decreases-loop-quiet : goal.decreases-loop-quiet
decreases-loop-quiet g l = 2 * (l.room - length l.events.items) + (if l.quiet then 0 else 1)

abbrev pub invariant-loop-quiet : goal.invariant-loop-quiet
invariant-loop-quiet g l = record {
  way : AtHomes l.fn.nodes.items (λ homes tells. (own : List Event) × (l.events.items ≡ l.fn.events.items ++ own)
      × AreSettled homes tells (NoneStopped l.fn.nodes.items l.nodes.items l.fn.events.items l.events.items) (more_stops l.fn.nodes.items l.nodes.items) (seats_by tells l.fn.nodes.items) own (seats_by tells l.nodes.items)
      × (l.quiet ≡ true → all_quiet homes (seats_by tells l.nodes.items) ≡ true));
  leaves : LeavesNet 0 l.fn.nodes.items l.nodes.items l.fn.events.items l.events.items;
  within : length l.events.items ≤ l.room;
  stays : (n : List ℕ) → g.B.Reopen.listed l.fn.shelf n ≡ true → g.B.Reopen.listed l.shelf n ≡ true;
  faults : g.B.Reopen.faults l.shelf ≡ g.B.Reopen.faults l.fn.shelf;
  stops : g.B.Reopen.stops l.shelf ≡ g.B.Reopen.stops l.fn.shelf;
}
