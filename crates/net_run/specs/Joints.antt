-- The ends of all links of a net.
use Rattle.std.specs.Prelude.{ℕ, ◌≡◌, ◌==◌, ◌&&◌, Bool, List, [], ◌∷◌, ◌++◌, Option, Some, None, if◌then◌else◌, nat_lt, filter}
use Rattle.std.specs.List.{All, range_with_len}
use Rattle.stp_topology.specs.declared.network.Network.{Network}
use Rattle.agent_link.specs.Link.{Half, OutHalf, Wire}
use Rattle.agent_node.specs.Passing.{plug_to, crossed}
use Rattle.agent_node.specs.Openings.{Plans, are_linked, others_of}
use Rattle.agent_node.specs.Kept.{AreEnds, ArePlanned, plugs_of}
use Rattle.agent_threads.specs.Nets.{IsAbsent}
use Rattle.net_run.specs.declared.joints.Joint.{Joint}

-- the wires of the first ends that the one agent has of a link to the other
abbrev pub wires : ℕ → ℕ → List Joint → Option (Wire × Wire)
wires a b [] = None
wires a b (j ∷ js) = if (j.at == a) && (j.other == b) then Some (j.out.wire, j.inc.wire) else wires a b js

-- what the one has of a link, the other has from the other end
abbrev pub ArePaired : List Joint → Type 0
ArePaired js = (a b : ℕ) → wires a b js ≡ crossed (wires b a js)

-- those to whom an agent has ends, in the order of the ends
abbrev pub ends_of : ℕ → List Joint → List ℕ
ends_of a [] = []
ends_of a (j ∷ js) = if j.at == a then j.other ∷ ends_of a js else ends_of a js

-- what joining an agent with another one adds to the ends of a third
abbrev pub two : (a c b : ℕ) → List ℕ
two a c b = (if a == b then c ∷ [] else []) ++ (if c == b then a ∷ [] else [])

-- and joining it with those of lower number among these
abbrev pub added : ℕ → List ℕ → ℕ → List ℕ
added a [] b = []
added a (c ∷ cs) b = (if nat_lt c a then two a c b else []) ++ added a cs b

-- the ends of an agent where each two of the first so many are joined that these tests link
abbrev pub ends_when : (ℕ → ℕ → Bool) → (n b : ℕ) → List ℕ
ends_when linked n b = if nat_lt b n then filter (linked b) (range_with_len 0 n) else []

-- each two of the first so many agents are joined that have a link, and no others
abbrev pub AreJoined : Network → ℕ → List Joint → Type 0
AreJoined t n js = (b : ℕ) → ends_of b js ≡ ends_when (are_linked t) n b

-- nothing went through
pub record IsShutJoint (j : Joint) : Type 0 where
  pub out : j.out.parcels ≡ []
  pub inc : j.inc.parcels ≡ []

-- this is planned for what is put on it
abbrev pub IsPlannedJoint : Plans → Joint → Type 0
IsPlannedJoint plans j = j.out.plan ≡ plans j.at j.other

-- something is planned for them
abbrev pub ArePlannable : List Joint → Type 0
ArePlannable js = (plans : Plans) × All (IsPlannedJoint plans) js

-- where so it is for all, an agent's ends have its plans, and the others those of others
pub record IsPlannedSplit (plans : Plans) (a : ℕ) (others : List ℕ) (outs : List OutHalf) (rest todo : List Joint) : Type 0 where
  pub own : ArePlanned (plans a) others outs
  pub left : All (IsPlannedJoint plans) rest
  pub behind : All (IsPlannedJoint plans) todo

-- the first of two that is there
abbrev pub or_else : Option (Wire × Wire) → Option (Wire × Wire) → Option (Wire × Wire)
or_else None o = o
or_else (Some w) o = Some w

-- An agent's ends were taken away, as far as these are still to be looked at.
pub record IsSplit (a : ℕ) (others : List ℕ) (outs : List OutHalf) (incs : List Half) (rest todo all : List Joint) : Type 0 where
  pub ends : AreEnds others outs incs
  pub planned : (plans : Plans) → All (IsPlannedJoint plans) all → IsPlannedSplit plans a others outs rest todo
  pub own : (b : ℕ) → or_else (plug_to b (plugs_of others outs incs)) (wires a b todo) ≡ wires a b all
  pub left : (b c : ℕ) → (b ≡ a → ⊥) → or_else (wires b c rest) (wires b c todo) ≡ wires b c all
  pub shut : All IsShutJoint rest
  pub behind : All IsShutJoint todo
  pub to : others ++ ends_of a todo ≡ ends_of a all
  pub of_others : (b : ℕ) → (b ≡ a → ⊥) → ends_of b rest ++ ends_of b todo ≡ ends_of b all

-- these are an agent's ends, in the order of those that it has links to; the rest are those of others
pub record AreOwn (t : Network) (a : ℕ) (outs : List OutHalf) (incs : List Half) (rest all : List Joint) : Type 0 where
  pub ends : AreEnds (others_of t a) outs incs
  pub planned : (plans : Plans) → All (IsPlannedJoint plans) all → ArePlanned (plans a) (others_of t a) outs
  pub left_planned : (plans : Plans) → All (IsPlannedJoint plans) all → All (IsPlannedJoint plans) rest
  pub own : (b : ℕ) → plug_to b (plugs_of (others_of t a) outs incs) ≡ wires a b all
  pub left : (b c : ℕ) → (b ≡ a → ⊥) → wires b c rest ≡ wires b c all
  pub shut : All IsShutJoint rest
  pub alone : IsAbsent a (others_of t a)
  pub of_others : (b : ℕ) → (b ≡ a → ⊥) → ends_of b rest ≡ ends_of b all
