use Rattle.std.proofs.Common.{◌≡◌, length}
use Rattle.std.specs.List.{All}
use Rattle.nsi_primitive.specs.Printable.{IsPrintableParcel}
use Rattle.agent_node.specs.Passing.{passes}
use Rattle.agent_node.proofs.queue.Queue.push.Given as goal

abbrev pub invariant-loop-parcel : goal.invariant-loop-parcel
invariant-loop-parcel l = record {
  passes : passes l.self-inside.parcels.items l.out.plan l.out.parcels ≡ passes l.fn.self l.fn.out.plan l.fn.out.parcels;
  printable : All IsPrintableParcel l.self-inside.parcels.items;
  wire : l.out.wire ≡ l.fn.out.wire;
}

abbrev pub decreases-loop-parcel : goal.decreases-loop-parcel
decreases-loop-parcel l = length l.self-inside.parcels.items
