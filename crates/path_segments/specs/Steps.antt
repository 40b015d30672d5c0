-- The table of the least steps.
use Rattle.std.specs.Prelude.{◌≡◌, ℕ, zero, suc, ◌<◌, ◌≤◌, ◌⊎◌, [], ◌∷◌, length, get_or, List, Option, Some, None}
use Rattle.std.specs.List.{sum_by}
use Rattle.path_segments.specs.declared.search.Step.{Step}
use Rattle.path_segments.specs.declared.path.PlacedSegment.{PlacedSegment}
use Rattle.stp_topology.specs.declared.network.Network.{Network}
use Rattle.path_segments.specs.Paths.{IsSegment, Offers}
use Rattle.stp_topology.specs.Network.{partner_of}

abbrev pub is_open : Option Step → ℕ
is_open None = 1
is_open (Some s) = 0

-- how many points have no step
abbrev pub open_places : List (Option Step) → ℕ
open_places steps = sum_by is_open steps

-- from an exit the destination is that many segments away
abbrev pub Hop : (ℕ → Option Step) → (ℕ → Option ℕ) → ℕ → ℕ → ℕ → Type 0
Hop next pairs dest zero exit = exit ≡ dest
Hop next pairs dest (suc k) exit = (y : ℕ) × (e : Step) × (pairs exit ≡ Some y) × (next y ≡ Some e) × (e.rest ≡ k)

-- no later in the order than the step to that exit by that child
abbrev pub IsNoLater : Step → ℕ → ℕ → ℕ → Type 0
IsNoLater e rest exit place = (e.rest < rest) ⊎ ((e.rest ≡ rest) × ((e.exit < exit) ⊎ ((e.exit ≡ exit) × (e.place ≤ place))))

abbrev pub Sound : (ℕ → Option Step) → (ℕ → Option ℕ) → (ℕ → ℕ → ℕ → Type 0) → ℕ → Type 0
Sound next pairs segment dest = (p : ℕ) (e : Step) → next p ≡ Some e → segment e.place p e.exit × Hop next pairs dest e.rest e.exit

abbrev pub Complete : (ℕ → Option Step) → (ℕ → Option ℕ) → (ℕ → ℕ → ℕ → Type 0) → ℕ → Type 0
Complete next pairs segment dest = (p rest exit place : ℕ) → segment place p exit → Hop next pairs dest rest exit → (e : Step) × (next p ≡ Some e) × IsNoLater e rest exit place

-- the segments that the table gives from an entry on
abbrev pub Follows : (ℕ → Option Step) → (ℕ → Option ℕ) → ℕ → ℕ → List PlacedSegment → Type 0
Follows next pairs dest p [] = ⊥
Follows next pairs dest p (x ∷ []) = (x.entry ≡ p) × (next p ≡ Some (record { rest = 0; exit = x.exit; place = x.place })) × (x.exit ≡ dest)
Follows next pairs dest p (x ∷ (z ∷ zs)) = (x.entry ≡ p) × (next p ≡ Some (record { rest = length (z ∷ zs); exit = x.exit; place = x.place }))
    × (pairs x.exit ≡ Some z.entry) × Follows next pairs dest z.entry (z ∷ zs)

-- a step comes before another in the order: fewer segments, then the exit, then the place
abbrev pub Passed : ℕ → ℕ → ℕ → ℕ → ℕ → ℕ → Type 0
Passed k y b rest exit place = (k < rest) ⊎ ((k ≡ rest) × ((y < exit) ⊎ ((y ≡ exit) × (b < place))))

-- the steps before that one are noted, each point's least, and no others
pub record HoldsFor (pairs : ℕ → Option ℕ) (segment : ℕ → ℕ → ℕ → Type 0) (dest rest exit place : ℕ) (next : ℕ → Option Step) : Type 0 where
  pub sound : Sound next pairs segment dest
  pub early : (p : ℕ) (e : Step) → next p ≡ Some e → Passed e.rest e.exit e.place rest exit place
  pub covers : (p k y b : ℕ) → segment b p y → Hop next pairs dest k y → Passed k y b rest exit place → (e : Step) × (next p ≡ Some e) × IsNoLater e k y b

abbrev pub at : List (Option Step) → ℕ → Option Step
at steps p = get_or steps p None

-- a child of the list offers a way between two different points
abbrev pub Way : Network → ℕ → List ℕ → ℕ → ℕ → ℕ → Type 0
Way t depth children = IsSegment (Offers t depth) children

-- the exit of a segment is a point
abbrev pub LeadsToPoint : Network → ℕ → ℕ → ℕ → Type 0
LeadsToPoint t place entry exit = exit < length t.owners

-- what is said of the table while it is filled
abbrev pub Holds : Network → ℕ → List ℕ → ℕ → ℕ → ℕ → ℕ → List (Option Step) → Type 0
Holds t depth children dest rest exit place steps = HoldsFor (partner_of t) (Way t depth children) dest rest exit place (at steps)

-- points and their numbers
pub record IsFit (t : Network) : Type 0 where
  pub few : length t.owners ≤ 4096
  pub pairs : length t.partners ≡ length t.owners
  pub within : (p y : ℕ) → partner_of t p ≡ Some y → y < length t.owners
