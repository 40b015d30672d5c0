-- The least path between two points, and its legs.
use Rattle.std.proofs.Common.{◌≡◌, ℕ, ◌⊎◌, inl, inr, List, [], sym, ◌∙◌, refl, ap}
use Rattle.stp_topology.specs.declared.network.Network.{Network}
use Rattle.stp_topology.specs.Network.{partner_of, children_of}
use Rattle.path_segments.specs.declared.path.Segment.{Segment}
use Rattle.path_segments.specs.Paths.{IsPath, IsLeastPath, placed, greatest_rank}
use Rattle.path_segments.specs.Steps.{Way}
use Rattle.path_segments.specs.Named.{named}
use Rattle.path_segments.proofs.Named.{answer_path, answer_least}
use Rattle.path_segments.proofs.OneLeast.{one_least}
use Rattle.agent_state.specs.declared.parent.Leg.{Leg}
use Rattle.aggregator_agent.specs.Setting.{AreLegs, legs_of}
use Rattle.least_routes.specs.Laws.{LeastPathOrNone, RoutesExist, RoutesAreOne}
use Rattle.least_routes.proofs.Following.{LeastChain, NoChain}
use Rattle.least_routes.proofs.Offering.{find_way}

-- what is said of one aggregator and two points
abbrev LeastOrNone : Network → ℕ → ℕ → ℕ → Type 0
LeastOrNone t a source dest = ((xs : List Segment) × IsLeastPath t a source dest xs) ⊎ ((xs : List Segment) → IsPath t a source dest xs → ⊥)

-- the segments that the children of an agent offer
abbrev WaysOf : Network → ℕ → ℕ → ℕ → ℕ → Type 0
WaysOf t a place p q = Way t greatest_rank (children_of t a) place p q

-- the least chain over places, with the children by their names, is the least path
least_path : (t : Network) (a source dest : ℕ) (c : LeastChain (partner_of t) (WaysOf t a) source dest) → IsLeastPath t a source dest (named (children_of t a) c.segments)
least_path t a source dest c = record {
  path = answer_path t a source dest (children_of t a) c.segments (named (children_of t a) c.segments) refl refl c.chain c.least;
  least = answer_least t a source dest (children_of t a) c.segments (named (children_of t a) c.segments) refl refl c.chain c.least;
}

with_names : (t : Network) (a source dest : ℕ) → LeastChain (partner_of t) (WaysOf t a) source dest ⊎ NoChain (partner_of t) (WaysOf t a) source dest → LeastOrNone t a source dest
with_names t a source dest (inl c) = inl (named (children_of t a) c.segments, least_path t a source dest c)
with_names t a source dest (inr never) = inr (λ xs path. never (placed (children_of t a) xs) path)

pub least_path_or_none : LeastPathOrNone
least_path_or_none t a source dest = with_names t a source dest (find_way t greatest_rank (children_of t a) source dest)

legs_found : (t : Network) (a source dest : ℕ) → LeastOrNone t a source dest → List Leg
legs_found t a source dest (inl w) = legs_of t w.0
legs_found t a source dest (inr never) = []

are_found : (t : Network) (a source dest : ℕ) (found : LeastOrNone t a source dest) → AreLegs t a source dest (legs_found t a source dest found)
unfolding legs_found
are_found t a source dest (inl w) = record {
  least = λ xs l. ap (legs_of t) (one_least t a source dest w.0 xs w.1 l);
  none = λ never. let path = w.1.path in absurd (never w.0 path);
}
are_found t a source dest (inr never) = record {
  least = λ xs l. let path = l.path in absurd (never xs path);
  none = λ n. refl;
}

pub routes_exist : RoutesExist
routes_exist t = ((λ a source dest. legs_found t a source dest (least_path_or_none t a source dest)), (λ a source dest. are_found t a source dest (least_path_or_none t a source dest)))

one_legs : (t : Network) (a source dest : ℕ) (legs others : List Leg) → AreLegs t a source dest legs → AreLegs t a source dest others → LeastOrNone t a source dest → others ≡ legs
one_legs t a source dest legs others l g (inl w) = g.least w.0 w.1 ∙ sym (l.least w.0 w.1)
one_legs t a source dest legs others l g (inr never) = g.none never ∙ sym (l.none never)

pub routes_are_one : RoutesAreOne
routes_are_one t one other l g a source dest = one_legs t a source dest (one a source dest) (other a source dest) (l a source dest) (g a source dest) (least_path_or_none t a source dest)
