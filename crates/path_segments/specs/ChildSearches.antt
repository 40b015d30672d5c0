-- The searches of all children.
use Rattle.std.specs.Prelude.{◌≡◌, ℕ, ◌↔◌, List, [], Some, length, slice_get}
use Rattle.stp_topology.specs.declared.network.Network.{Network}
use Rattle.path_segments.specs.declared.search.ChildSearch.{ChildSearch}
use Rattle.path_segments.specs.Walks.{IsBelow}
use Rattle.path_segments.specs.Searches.{Closed, marked, what_remains}

-- a search that is right for the child
pub record IsSearch (t : Network) (n child : ℕ) (noted : ℕ → Type 0) (search : ChildSearch) : Type 0 where
  pub below : (b : ℕ) → marked search.below.items b ↔ IsBelow t n child b
  pub size : length search.remaining.items ≡ length t.agents
  pub closed : Closed t (marked search.below.items) noted (what_remains search.remaining.items) []

pub record AreSearches (t : Network) (n : ℕ) (children : List ℕ) (noted : ℕ → Type 0) (searches : List ChildSearch) : Type 0 where
  pub same_length : length searches ≡ length children
  pub each : (i k : ℕ) (s : ChildSearch) → slice_get children i ≡ Some k → slice_get searches i ≡ Some s → IsSearch t n k noted s
