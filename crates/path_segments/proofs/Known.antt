-- The segments of a path name agents and points that are declared.
use Rattle.std.proofs.Common.{◌≡◌, ℕ, List, [], ◌∷◌, arith}
use Rattle.std.specs.List.{All, AllByRecursion}
use Rattle.std.proofs.lemmas.List.Elements.{All-from_recursion}
use Rattle.stp_topology.specs.declared.network.Network.{Network}
use Rattle.stp_topology.specs.Network.{children_of, partner_of}
use Rattle.stp_topology.specs.Sound.{IsSound}
use Rattle.path_segments.specs.declared.path.Segment.{Segment}
use Rattle.path_segments.specs.Paths.{IsSegment, Offers, Onward, IsPath, position_of, placed, greatest_rank, IsKnown}
use Rattle.path_segments.proofs.Flat.{entry_within, exit_within}
use Rattle.path_segments.proofs.OneLeast.{at_position}
use Rattle.path_segments.proofs.Sound.{are_agents}

segment_known : (t : Network) → IsSound t → (a : ℕ) (x : Segment) → IsSegment (Offers t greatest_rank) (children_of t a) (position_of (children_of t a) x.child) x.entry x.exit → IsKnown t x
segment_known t s a x g =
    let place = position_of (children_of t a) x.child in
    let child : g.child ≡ x.child = at_position (children_of t a) x.child g.child g.is_child in
    let there = are_agents t s a place g.child g.is_child in
    let entry = entry_within t greatest_rank (children_of t a) place x.entry x.exit g in
    let exit = exit_within t greatest_rank (children_of t a) place x.entry x.exit g in
    let same = s.fit.owners in
    (omega arith, omega arith, omega arith)

onward_known : (t : Network) → IsSound t → (a exit dest : ℕ) (xs : List Segment) → Onward (partner_of t) (IsSegment (Offers t greatest_rank) (children_of t a)) exit dest (placed (children_of t a) xs) → AllByRecursion (IsKnown t) xs
onward_known t s a exit dest [] h = tt
onward_known t s a exit dest (x ∷ xs) h = (segment_known t s a x h.1, onward_known t s a x.exit dest xs h.2)

pub path_known : (t : Network) → IsSound t → (a source dest : ℕ) (xs : List Segment) → IsPath t a source dest xs → All (IsKnown t) xs
path_known t s a source dest [] h = absurd h
path_known t s a source dest (x ∷ xs) h = All-from_recursion (IsKnown t) (x ∷ xs) (segment_known t s a x h.1, onward_known t s a x.exit dest xs h.2)
