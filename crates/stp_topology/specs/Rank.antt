-- How high an agent stands over the providers.
use Rattle.std.specs.Prelude.{ℕ, zero, suc, ◌+◌, List, if◌then◌else◌, map, fold, max}
use Rattle.stp_topology.specs.Network.{Network, children_of}
use Rattle.stp_topology.specs.Lines.{is_aggregator}

-- the greatest of the numbers, or 0
abbrev pub greatest : List ℕ → ℕ
greatest ns = fold max 0 ns

-- 0 for a provider or a requester, and for an aggregator one more than the greatest of its children's ranks, seen so many levels deep
unfoldable pub rank_to : ℕ → Network → ℕ → ℕ
rank_to zero t a = 0
rank_to (suc n) t a = if is_aggregator t.kinds a then 1 + greatest (map (λ c. rank_to n t c) (children_of t a)) else 0

-- the rank of an agent, which is at most 4
abbrev pub rank_of : Network → ℕ → ℕ
rank_of t a = rank_to 5 t a
