-- What is said of a search while its table is filled.
use Rattle.std.specs.Prelude.{ℕ, List, Option}
use Rattle.path_segments.specs.declared.search.ChildSearch.{ChildSearch}
use Rattle.path_segments.specs.declared.search.Search.{Search}
use Rattle.path_segments.specs.declared.search.Step.{Step}
use Rattle.path_segments.specs.Steps.{at, Way, Holds}
use Rattle.path_segments.specs.Searches.{IsNoted}
use Rattle.path_segments.specs.ChildSearches.{AreSearches}

-- the child of that place offers a way between the points
abbrev pub WayIn : Search → ℕ → ℕ → ℕ → Type 0
WayIn s place entry exit = Way s.topology.now s.depth s.children.now place entry exit

-- the steps before that one are noted, and no others
abbrev pub HoldsIn : Search → ℕ → ℕ → ℕ → List (Option Step) → Type 0
HoldsIn s rest exit place steps = Holds s.topology.now s.depth s.children.now s.dest rest exit place steps

-- the searches of the children are right for these steps
abbrev pub AreSearchesIn : Search → List (Option Step) → List ChildSearch → Type 0
AreSearchesIn s steps searches = AreSearches s.topology.now s.depth s.children.now (IsNoted (at steps)) searches
