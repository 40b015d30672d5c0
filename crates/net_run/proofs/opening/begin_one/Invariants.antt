use Rattle.std.proofs.Common.{◌≡◌, ◌≤◌, ◌-◌, List, ℕ, true, false, length, IfSome, is_some}
use Rattle.stp_topology.specs.Network.{name_of}
use Rattle.net_run.proofs.opening.begin_one.Given as goal

abbrev pub invariant-loop-node : goal.invariant-loop-node
invariant-loop-node g l = record {
  faults : g.H.Shelf.faults l.shelf ≡ g.H.Shelf.faults l.fn.shelf;
  stops : g.H.Shelf.stops l.shelf ≡ g.H.Shelf.stops l.fn.shelf;
  holds : (n : List ℕ) → g.H.Shelf.holds l.shelf n ≡ g.H.Shelf.holds l.fn.shelf n;
  stays : (n : List ℕ) → g.H.Shelf.listed l.fn.shelf n ≡ true → g.H.Shelf.listed l.shelf n ≡ true;
  listed : g.H.Shelf.listed l.shelf (name_of l.topology l.agent) ≡ true;
  runs : (g.H.Disk.Disk.meter l.disk).stopped ≡ false;
  none : (g.H.Disk.Disk.meter l.disk).faults ≡ 0;
  tries : l.tries ≤ (g.H.Disk.Disk.meter l.disk).stops;
  planned : (g.H.Disk.Disk.meter l.disk).planned ≤ length l.planned;
  told : IfSome (g.H.Shelf.holds l.fn.shelf (name_of l.topology l.agent)) (λ bytes. is_some (g.H.Disk.Disk.history l.disk) ≡ true);
  outgoing : l.outgoing ≡ l.initial.outgoing;
  incoming : l.incoming ≡ l.initial.incoming;
}

abbrev pub decreases-loop-node : goal.decreases-loop-node
decreases-loop-node g l = (g.H.Disk.Disk.meter l.disk).planned - (g.H.Disk.Disk.meter l.disk).stops
