-- Whether an agent offers a way between two points can be decided.
use Rattle.std.proofs.Common.{ℕ, zero, suc, ◌⊎◌, inl, inr, List, Option, slice_get, length}
use Rattle.stp_topology.specs.declared.network.Network.{Network}
use Rattle.stp_topology.specs.Network.{partner_of, children_of}
use Rattle.path_segments.specs.declared.path.PlacedSegment.{PlacedSegment}
use Rattle.path_segments.specs.Paths.{IsOwned, Offers, Chain}
use Rattle.path_segments.specs.Steps.{Way}
use Rattle.path_segments.proofs.Flat.{entry_within, exit_within, place_within}
use Rattle.least_routes.proofs.Deciding.{Decided, decide_both, decide_either, decide_number, decide_segment}
use Rattle.least_routes.proofs.Levels.{IsFinite}
use Rattle.least_routes.proofs.Following.{LeastChain, NoChain, find}

decide_owned : (t : Network) (a p q : ℕ) → Decided (IsOwned t a p q)
decide_owned t a p q = decide_both (decide_number (slice_get t.owners p) a) (decide_number (slice_get t.owners q) a)

ways_finite : (t : Network) (n : ℕ) (children : List ℕ) → ((a p q : ℕ) → Decided (Offers t n a p q)) → IsFinite (Way t n children) (length t.owners) (length children)
ways_finite t n children decide = record {
  decide = decide_segment (Offers t n) children decide;
  place = place_within t n children;
  entry = entry_within t n children;
  exit = exit_within t n children;
}

chain_decided : (pairs : ℕ → Option ℕ) (segment : ℕ → ℕ → ℕ → Type 0) (source dest : ℕ) → LeastChain pairs segment source dest ⊎ NoChain pairs segment source dest
    → Decided ((xs : List PlacedSegment) × Chain pairs segment source dest xs)
chain_decided pairs segment source dest (inl c) = inl (c.segments, c.chain)
chain_decided pairs segment source dest (inr none) = inr (λ h. none h.0 h.1)

pub decide_offers : (t : Network) (n a p q : ℕ) → Decided (Offers t n a p q)
unfolding Offers
decide_offers t zero a p q = decide_owned t a p q
decide_offers t (suc n) a p q =
    decide_either (decide_owned t a p q)
    (chain_decided (partner_of t) (Way t n (children_of t a)) p q
    (find (partner_of t) (Way t n (children_of t a)) (length t.owners) (length (children_of t a)) (ways_finite t n (children_of t a) (decide_offers t n)) p q))

-- the least way over children, or none
pub find_way : (t : Network) (n : ℕ) (children : List ℕ) (source dest : ℕ) → LeastChain (partner_of t) (Way t n children) source dest ⊎ NoChain (partner_of t) (Way t n children) source dest
find_way t n children source dest = find (partner_of t) (Way t n children) (length t.owners) (length children) (ways_finite t n children (decide_offers t n)) source dest
