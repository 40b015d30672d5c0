use Rattle.std.proofs.Common.{◌≡◌, ◌++◌, length}
use Rattle.std.specs.List.{All}
use Rattle.agent_node.specs.Passing.{come_through, IsPrintableCome}
use Rattle.agent_node.specs.Linked.{door_of}
use Rattle.agent_node.proofs.links.Link.hand_out.Given as goal

abbrev pub invariant-loop-parcel : goal.invariant-loop-parcel
invariant-loop-parcel l = record {
  said : l.all.items ++ come_through (door_of l.self) ≡ l.fn.all.items ++ come_through (door_of l.fn.self);
  printable : All IsPrintableCome l.all.items;
  rest : l.self ≡ record l.fn.self { inc = record l.fn.self.inc { parcels = l.self.inc.parcels } };
}

abbrev pub decreases-loop-parcel : goal.decreases-loop-parcel
decreases-loop-parcel l = length l.self.inc.parcels
