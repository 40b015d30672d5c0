use Rattle.std.proofs.Common.{◌≡◌, ◌≤◌, ℕ, ◌+◌}
use Rattle.nsi_disk.specs.ShelfCounts.{Raised}
use Rattle.net_run.specs.Begun.{AreListed, faults_among, stops_among, planned_among}
use Rattle.net_run.proofs.Returning.{Returns}
use Rattle.net_run.proofs.closing.close_net.Given as goal

abbrev pub invariant-loop-node : goal.invariant-loop-node
invariant-loop-node g l = record {
  listed : AreListed (g.H.Shelf.listed l.shelf) l.topology l.node-iterator.rest.items;
  back : Returns l.topology l.fn.nodes.items l.node-iterator.rest.items (g.H.Shelf.holds l.shelf);
  faults : (done : ℕ) × Raised (g.H.Shelf.faults l.fn.shelf) done (g.H.Shelf.faults l.shelf) × (done + faults_among l.node-iterator.rest.items ≡ faults_among l.fn.nodes.items);
  stops : (done : ℕ) × Raised (g.H.Shelf.stops l.fn.shelf) done (g.H.Shelf.stops l.shelf) × (done + stops_among l.node-iterator.rest.items ≡ stops_among l.fn.nodes.items);
  few : stops_among l.node-iterator.rest.items ≤ planned_among l.node-iterator.rest.items → stops_among l.fn.nodes.items ≤ planned_among l.fn.nodes.items;
}
