-- Searches backwards through the providers below a child.
use Rattle.std.specs.Prelude.{◌≡◌, ◌≢◌, ℕ, ◌<◌, ◌≤◌, ◌⊎◌, List, [], ◌∷◌, Bool, true, false, Option, Some, None, length, get_or, set, slice_get}
use Rattle.std.specs.List.{sum_by}
use Rattle.stp_topology.specs.declared.network.Network.{Network}
use Rattle.stp_topology.specs.Network.{partner_of}
use Rattle.path_segments.specs.declared.child_search.Remaining.{Remaining}
use Rattle.path_segments.specs.declared.child_search.Remaining.TheVariants.{All, Only, Nothing}
use Rattle.path_segments.specs.declared.search.Step.{Step}
use Rattle.path_segments.specs.Steps.{at, open_places}
use Rattle.path_segments.specs.Walks.{Walk, In}

-- the point isn't among those that remain
abbrev pub IsEntered : Remaining → ℕ → Type 0
IsEntered r p = (r ≡ Nothing) ⊎ ((z : ℕ) × (r ≡ Only z) × (p ≢ z))

-- no point but the exit itself remains
abbrev pub IsExpanded : Remaining → ℕ → Type 0
IsExpanded r exit = (r ≡ Nothing) ⊎ (r ≡ Only exit)

abbrev pub IsNoted : (ℕ → Option Step) → ℕ → Type 0
IsNoted next p = (e : Step) × (next p ≡ Some e)

-- each owner of the exit, if it is below the child, has no other point that remains
abbrev pub IsReached : Network → (ℕ → Type 0) → (ℕ → Remaining) → ℕ → Type 0
IsReached t among remaining exit = (b : ℕ) → among b → slice_get t.owners exit ≡ Some b → IsExpanded (remaining b) exit

-- each point that is entered is noted, and its partner is reached or at hand
pub record Closed (t : Network) (among : ℕ → Type 0) (is_noted : ℕ → Type 0) (remaining : ℕ → Remaining) (exits : List ℕ) : Type 0 where
  pub noted : (b p : ℕ) → among b → slice_get t.owners p ≡ Some b → IsEntered (remaining b) p → is_noted p
  pub onward : (b p z : ℕ) → among b → slice_get t.owners p ≡ Some b → IsEntered (remaining b) p → partner_of t p ≡ Some z → In z exits ⊎ IsReached t among remaining z
  pub only : (b z : ℕ) → remaining b ≡ Only z → slice_get t.owners z ≡ Some b

-- the exit of the search, or the partner of a point from which it is reached
abbrev pub Leads : Network → (ℕ → Type 0) → ℕ → ℕ → Type 0
Leads t among exit y = (y ≡ exit) ⊎ ((z : ℕ) × (partner_of t y ≡ Some z) × Walk t among exit z)

-- what is said while one exit's search goes on
pub record Searching (t : Network) (among : ℕ → Type 0) (exit : ℕ) (next : ℕ → Option Step) (remaining : ℕ → Remaining) (exits : List ℕ) : Type 0 where
  pub closed : Closed t among (λ p. IsNoted next p ⊎ (p ≡ exit)) remaining exits
  pub reached : In exit exits ⊎ IsReached t among remaining exit
  pub leads : (y : ℕ) → In y exits → Leads t among exit y

-- what stood stands, and the step is new at entries alone
abbrev pub Changes : (ℕ → Type 0) → Step → (ℕ → Option Step) → (ℕ → Option Step) → Type 0
Changes entry step old new = (p : ℕ) → (new p ≡ old p) ⊎ ((old p ≡ None) × (new p ≡ Some step) × entry p)

-- whether the table grew
pub record Grows (grew : Bool) (old new : List (Option Step)) : Type 0 where
  pub same_length : length new ≡ length old
  pub fewer : grew ≡ true → open_places new < open_places old
  pub same : grew ≡ false → new ≡ old

-- the walks to the step's exit from other points
abbrev pub Entry : Network → (ℕ → Type 0) → Step → ℕ → Type 0
Entry t among step p = (p ≢ step.exit) × Walk t among step.exit p

-- the step stands at the point now, or nothing changed
abbrev pub Marks : Bool → Step → ℕ → List (Option Step) → List (Option Step) → Type 0
Marks true step p old new = (new ≡ set old p (Some step)) × (get_or old p None ≡ None) × (p ≢ step.exit)
Marks false step p old new = (new ≡ old) × ((p ≡ step.exit) ⊎ IsNoted (at old) p)

-- a partner as a list
abbrev pub listed : Option ℕ → List ℕ
listed None = []
listed (Some z) = z ∷ []

-- the points but the exit are noted, and their partners at hand
pub record Enters (t : Network) (step : Step) (exit : ℕ) (points : List ℕ) (old new : ℕ → Option Step) (before after : List ℕ) : Type 0 where
  pub changes : Changes (λ p. (p ≢ step.exit) × (p ≢ exit) × In p points) step old new
  pub noted : (p : ℕ) → In p points → p ≢ exit → IsNoted new p ⊎ (p ≡ step.exit)
  pub onward : (p z : ℕ) → In p points → p ≢ exit → partner_of t p ≡ Some z → In z after
  pub kept : (z : ℕ) → In z before → In z after
  pub only : (z : ℕ) → In z after → In z before ⊎ ((p : ℕ) × In p points × (p ≢ exit) × (partner_of t p ≡ Some z))

abbrev pub room : Remaining → ℕ
room All = 2
room (Only z) = 1
room Nothing = 0

-- how often owners can still be gone over
abbrev pub turns : List Remaining → ℕ
turns remaining = sum_by room remaining

abbrev pub what_remains : List Remaining → ℕ → Remaining
what_remains remaining b = get_or remaining b All

abbrev pub marked : List Bool → ℕ → Type 0
marked below b = get_or below b false ≡ true

-- the points of each owner
pub record AreListed (t : Network) (bound : ℕ) (lists : List (List ℕ)) : Type 0 where
  pub listed : (b p : ℕ) → p < bound → slice_get t.owners p ≡ Some b → In p (get_or lists b [])
  pub owned : (b p : ℕ) → In p (get_or lists b []) → slice_get t.owners p ≡ Some b
  pub few : (b : ℕ) → length (get_or lists b []) ≤ bound
