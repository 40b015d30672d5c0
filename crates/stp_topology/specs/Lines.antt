-- What each line of a topology declares.
use Rattle.std.specs.Prelude.{ℕ, zero, suc, List, [], ◌∷◌, ◌++◌, Bool, true, false, ◌&&◌, ◌||◌, ◌==◌, nat_le, if◌then◌else◌, length, Option, Some, None, is_some, slice_get, slice_set, Result, Ok, Err, codes, get_or}
use Rattle.std.specs.List.{list_any}
use Rattle.std.specs.Str.{bytes_eq}
use Rattle.nsi_base.specs.Range.{least_hold, greatest_hold, least_mbps, greatest_mbps}
use Rattle.stp_topology.specs.declared.fault.TopologyFault.{TopologyFault}
use Rattle.stp_topology.specs.declared.fault.TopologyFault.TheVariants.{Word, Unknown, Twice, Cycle, TooDeep, Limit}
use Rattle.stp_topology.specs.declared.network.AgentKind.TheVariants.{Provider, Aggregator, Requester}
use Rattle.stp_topology.specs.declared.network.PointCapacity.{PointCapacity}
use Rattle.stp_topology.specs.declared.network.PointCapacity.TheVariants.{Shared, Each}
use Rattle.stp_topology.specs.declared.declare.Sort.{Sort}
use Rattle.stp_topology.specs.declared.declare.Sort.TheVariants as sorts
use Rattle.stp_topology.specs.Faults.{◌>>=◌, value_or}
use Rattle.stp_topology.specs.Network.{Network, AgentKind, agent_of, stp_of}
use Rattle.stp_topology.specs.Words.{name_form, number_form}

-- whether an agent is of the sort
abbrev pub is_of : Sort → Option AgentKind → Bool
is_of sorts.OneProvider (Some (Provider hold)) = true
is_of sorts.OneAggregator (Some Aggregator) = true
is_of sorts.Either (Some (Provider hold)) = true
is_of sorts.Either (Some Aggregator) = true
is_of sort kind = false

-- the agent of that name, where it is of that sort
unfoldable pub known_agent : Network → Sort → List ℕ → Result ℕ TopologyFault
known_agent t sort name = do
  a ← value_or Unknown (agent_of t name)
  if is_of sort (slice_get t.kinds a) then Ok a else Err Unknown

-- one agent more
unfoldable pub with_agent : Network → List ℕ → AgentKind → Result Network TopologyFault
with_agent t name kind =
    if is_some (agent_of t name) then Err Twice
    else if nat_le 64 (length t.agents) then Err Limit
    else Ok (record t { agents = t.agents ++ name ∷ []; kinds = t.kinds ++ kind ∷ [] })

-- `agent NAME provider HOLD`
unfoldable pub add_provider : Network → List ℕ → List ℕ → Result Network TopologyFault
add_provider t name hold = do
  n ← name_form name
  h ← number_form least_hold greatest_hold hold
  with_agent t n (Provider h)

-- `agent NAME aggregator`
unfoldable pub add_aggregator : Network → List ℕ → Result Network TopologyFault
add_aggregator t name = do
  n ← name_form name
  with_agent t n Aggregator

-- `agent NAME requester AGENT`
unfoldable pub add_requester : Network → List ℕ → List ℕ → Result Network TopologyFault
add_requester t name agent = do
  n ← name_form name
  p ← name_form agent
  a ← known_agent t sorts.Either p
  with_agent t n (Requester a)

-- one point more
unfoldable pub with_stp : Network → List ℕ → ℕ → PointCapacity → Result Network TopologyFault
with_stp t name owner capacity =
    if is_some (stp_of t name) then Err Twice
    else if nat_le 4096 (length t.stps) then Err Limit
    else Ok (record t { stps = t.stps ++ name ∷ []; owners = t.owners ++ owner ∷ []; capacities = t.capacities ++ capacity ∷ []; partners = t.partners ++ None ∷ [] })

-- `stp PROVIDER NAME CAPACITY`
unfoldable pub add_stp : Network → List ℕ → List ℕ → List ℕ → Result Network TopologyFault
add_stp t provider name capacity = do
  p ← name_form provider
  n ← name_form name
  c ← number_form least_mbps greatest_mbps capacity
  a ← known_agent t sorts.OneProvider p
  with_stp t n a (Shared c)

-- `stp PROVIDER NAME IN OUT`
unfoldable pub add_directed_stp : Network → List ℕ → List ℕ → List ℕ → List ℕ → Result Network TopologyFault
add_directed_stp t provider name inward outward = do
  p ← name_form provider
  n ← name_form name
  i ← number_form least_mbps greatest_mbps inward
  o ← number_form least_mbps greatest_mbps outward
  a ← known_agent t sorts.OneProvider p
  with_stp t n a (Each i o)

-- whether a point has a partner
abbrev pub is_joined : Option (Option ℕ) → Bool
is_joined (Some (Some p)) = true
is_joined p = false

-- whether two points have one owner
abbrev pub are_same : Option ℕ → Option ℕ → Bool
are_same (Some a) (Some b) = a == b
are_same a b = false

-- two points joined
unfoldable pub with_sdp : Network → ℕ → ℕ → Result Network TopologyFault
with_sdp t i j =
    if is_joined (slice_get t.partners i) || is_joined (slice_get t.partners j) || are_same (slice_get t.owners i) (slice_get t.owners j) then Err Twice
    else Ok (record t { partners = slice_set (slice_set t.partners i (Some j)) j (Some i) })

-- `sdp STP STP`
unfoldable pub add_sdp : Network → List ℕ → List ℕ → Result Network TopologyFault
add_sdp t first second = do
  a ← name_form first
  b ← name_form second
  i ← value_or Unknown (stp_of t a)
  j ← value_or Unknown (stp_of t b)
  with_sdp t i j

-- whether the pairs lead from an agent down to another in at most that many steps
unfoldable pub leads_down : List (ℕ × ℕ) → ℕ → ℕ → ℕ → Bool
leads_down pairs zero from to = from == to
leads_down pairs (suc n) from to = (from == to) || list_any (λ e. (e.0 == from) && leads_down pairs n e.1 to) pairs

-- whether the pair was there before
abbrev pub has_pair : List (ℕ × ℕ) → ℕ → ℕ → Bool
has_pair pairs i j = list_any (λ e. (e.0 == i) && (e.1 == j)) pairs

abbrev pub is_aggregator : List AgentKind → ℕ → Bool
is_aggregator kinds i = is_of sorts.OneAggregator (slice_get kinds i)

-- whether so many aggregators stand below the agent, each a child of the one before
unfoldable pub stands_over : List AgentKind → List (ℕ × ℕ) → ℕ → ℕ → Bool
stands_over kinds pairs zero i = true
stands_over kinds pairs (suc n) i = list_any (λ e. (e.0 == i) && (is_aggregator kinds e.1 && stands_over kinds pairs n e.1)) pairs

-- whether the rank of an aggregator among the pairs would pass 4
abbrev pub is_too_deep : List AgentKind → List (ℕ × ℕ) → Bool
is_too_deep kinds pairs = list_any (λ e. stands_over kinds pairs 4 e.0) pairs

-- one child more
unfoldable pub with_child : Network → ℕ → ℕ → Result Network TopologyFault
with_child t i j =
    if has_pair t.children i j then Err Twice
    else if leads_down t.children 4 j i then Err Cycle
    else if is_too_deep t.kinds (t.children ++ (i, j) ∷ []) then Err TooDeep
    else Ok (record t { children = t.children ++ (i, j) ∷ [] })

-- `child AGGREGATOR AGENT`
unfoldable pub add_child : Network → List ℕ → List ℕ → Result Network TopologyFault
add_child t parent child = do
  a ← name_form parent
  b ← name_form child
  i ← known_agent t sorts.OneAggregator a
  j ← known_agent t sorts.Either b
  with_child t i j

-- one of the words
abbrev pub word : List (List ℕ) → ℕ → List ℕ
word words i = get_or words i []

-- whether there are that many words, and the first is that one
abbrev pub is_form : List (List ℕ) → ℕ → List ℕ → Bool
is_form words n first = (length words == n) && bytes_eq (word words 0) first

-- the network after a line of words, or the line's first fault
unfoldable pub line_of : Network → List (List ℕ) → Result Network TopologyFault
line_of t words =
    if is_form words 4 (codes "agent") && bytes_eq (word words 2) (codes "provider") then add_provider t (word words 1) (word words 3)
    else if is_form words 3 (codes "agent") && bytes_eq (word words 2) (codes "aggregator") then add_aggregator t (word words 1)
    else if is_form words 4 (codes "agent") && bytes_eq (word words 2) (codes "requester") then add_requester t (word words 1) (word words 3)
    else if is_form words 4 (codes "stp") then add_stp t (word words 1) (word words 2) (word words 3)
    else if is_form words 5 (codes "stp") then add_directed_stp t (word words 1) (word words 2) (word words 3) (word words 4)
    else if is_form words 3 (codes "sdp") then add_sdp t (word words 1) (word words 2)
    else if is_form words 3 (codes "child") then add_child t (word words 1) (word words 2)
    else Err Word
