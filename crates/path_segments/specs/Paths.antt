-- Segments, paths and their order.
use Rattle.std.specs.Prelude.{◌≡◌, ◌≢◌, ℕ, zero, suc, ◌<◌, ◌+◌, ◌==◌, if◌then◌else◌, ◌⊎◌, List, [], ◌∷◌, Option, Some, slice_get, length}
use Rattle.stp_topology.specs.declared.network.Network.{Network}
use Rattle.stp_topology.specs.Network.{partner_of, children_of}
use Rattle.path_segments.specs.declared.path.PlacedSegment.{PlacedSegment}
use Rattle.path_segments.specs.declared.path.Segment.{Segment}

-- the agent owns both points
abbrev pub IsOwned : Network → ℕ → ℕ → ℕ → Type 0
IsOwned t a p q = (slice_get t.owners p ≡ Some a) × (slice_get t.owners q ≡ Some a)

-- a child with two different points, between which it offers a way
pub record IsSegment (offers : ℕ → ℕ → ℕ → Type 0) (children : List ℕ) (place entry exit : ℕ) : Type 0 where
  pub child : ℕ
  pub is_child : slice_get children place ≡ Some child
  pub apart : entry ≢ exit
  pub offered : offers child entry exit

-- from an exit on, by partners and segments, to the destination
abbrev pub Onward : (ℕ → Option ℕ) → (ℕ → ℕ → ℕ → Type 0) → ℕ → ℕ → List PlacedSegment → Type 0
Onward pairs segment exit dest [] = exit ≡ dest
Onward pairs segment exit dest (x ∷ xs) = (pairs exit ≡ Some x.entry) × segment x.place x.entry x.exit × Onward pairs segment x.exit dest xs

-- from the source, by segments, to the destination
abbrev pub Chain : (ℕ → Option ℕ) → (ℕ → ℕ → ℕ → Type 0) → ℕ → ℕ → List PlacedSegment → Type 0
Chain pairs segment source dest [] = ⊥
Chain pairs segment source dest (x ∷ xs) = (x.entry ≡ source) × segment x.place x.entry x.exit × Onward pairs segment x.exit dest xs

-- whether an agent of at most that rank offers a way between two points: a provider that owns both, or an aggregator with a path
unfoldable pub Offers : Network → ℕ → ℕ → ℕ → ℕ → Type 0
Offers t zero a p q = IsOwned t a p q
Offers t (suc n) a p q = IsOwned t a p q ⊎ ((xs : List PlacedSegment) × Chain (partner_of t) (IsSegment (Offers t n) (children_of t a)) p q xs)

-- a path of an aggregator whose children have at most that rank
abbrev pub IsPlacedPath : Network → ℕ → ℕ → ℕ → ℕ → List PlacedSegment → Type 0
IsPlacedPath t n a source dest xs = Chain (partner_of t) (IsSegment (Offers t n) (children_of t a)) source dest xs

-- the entry and the exit of each segment in order
abbrev pub points : List PlacedSegment → List ℕ
points [] = []
points (x ∷ xs) = x.entry ∷ x.exit ∷ points xs

-- the position of each child in order
abbrev pub places : List PlacedSegment → List ℕ
places [] = []
places (x ∷ xs) = x.place ∷ places xs

-- the first difference decides
abbrev pub Before : List ℕ → List ℕ → Type 0
Before [] ys = ⊥
Before (x ∷ xs) [] = ⊥
Before (x ∷ xs) (y ∷ ys) = (x < y) ⊎ ((x ≡ y) × Before xs ys)

-- the one path comes before the other: fewer segments, then the points, then the children
pub data Less (xs ys : List PlacedSegment) : Type 0 where
  fewer : length xs < length ys → Less xs ys
  by_points : length xs ≡ length ys → Before (points xs) (points ys) → Less xs ys
  by_places : length xs ≡ length ys → points xs ≡ points ys → Before (places xs) (places ys) → Less xs ys

-- the first position of a child among the children, or their number
unfoldable pub position_of : List ℕ → ℕ → ℕ
position_of [] child = 0
position_of (x ∷ xs) child = if x == child then 0 else position_of xs child + 1

-- segments with each child's position in place of the child
abbrev pub placed : List ℕ → List Segment → List PlacedSegment
placed children [] = []
placed children (x ∷ xs) = record { place = position_of children x.child; entry = x.entry; exit = x.exit } ∷ placed children xs

-- no more aggregators than that stand one below the other
abbrev pub greatest_rank : ℕ
greatest_rank = 4

-- the segments lead from the source to the destination through children of the aggregator
abbrev pub IsPath : Network → ℕ → ℕ → ℕ → List Segment → Type 0
IsPath t a source dest xs = IsPlacedPath t greatest_rank a source dest (placed (children_of t a) xs)

-- the one path of the aggregator comes before the other
abbrev pub IsLess : Network → ℕ → List Segment → List Segment → Type 0
IsLess t a xs ys = Less (placed (children_of t a) xs) (placed (children_of t a) ys)

-- a path of the aggregator before which no other comes
pub record IsLeastPath (t : Network) (a source dest : ℕ) (xs : List Segment) : Type 0 where
  pub path : IsPath t a source dest xs
  pub least : (other : List Segment) → IsPath t a source dest other → IsLess t a other xs → ⊥

-- the child and both points of a segment are declared
abbrev pub IsKnown : Network → Segment → Type 0
IsKnown t x = (x.child < length t.agents) × (x.entry < length t.stps) × (x.exit < length t.stps)
