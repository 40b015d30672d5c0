use Rattle.std.proofs.Common.{◌≡◌, ◌≤◌, ℕ, List, length, vec_capacity}
use Rattle.std.specs.List.{All}
use Rattle.agent_node.specs.Openings.{Plans}
use Rattle.net_run.specs.Joints.{IsShutJoint, IsPlannedJoint, wires, ends_of}
use Rattle.net_run.specs.Begun.{AreBegun, AreListed}
use Rattle.net_run.specs.Journals.{AreEmpty}
use Rattle.net_run.proofs.opening.begin_all.Given as goal

abbrev pub invariant-loop-place : goal.invariant-loop-place
invariant-loop-place g l = record {
  begun : AreBegun l.topology l.fn.joints.items l.lines 0 l.tries.items l.nodes.items;
  told : length l.tries.items ≡ l.place;
  space : length l.topology.agents ≤ vec_capacity l.tries;
  count : length l.nodes.items ≡ l.place;
  listed : AreListed (g.H.Shelf.listed l.shelf) l.topology l.nodes.items;
  empty : AreEmpty l.topology (g.H.Shelf.holds l.fn.shelf) l.nodes.items;
  holds : (n : List ℕ) → g.H.Shelf.holds l.shelf n ≡ g.H.Shelf.holds l.fn.shelf n;
  faults : g.H.Shelf.faults l.shelf ≡ g.H.Shelf.faults l.fn.shelf;
  stops : g.H.Shelf.stops l.shelf ≡ g.H.Shelf.stops l.fn.shelf;
  shut : All IsShutJoint l.left.items;
  planned : (plans : Plans) → All (IsPlannedJoint plans) l.fn.joints.items → All (IsPlannedJoint plans) l.left.items;
  left : (a b : ℕ) → l.place ≤ a → wires a b l.left.items ≡ wires a b l.fn.joints.items;
  ends : (b : ℕ) → l.place ≤ b → ends_of b l.left.items ≡ ends_of b l.fn.joints.items;
  room : length l.topology.agents ≤ vec_capacity l.nodes;
}
