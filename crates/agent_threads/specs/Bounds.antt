-- How far the agents of a net have come: their clocks, how many entries they took, and whose events were told.
use Rattle.std.specs.Prelude.{ℕ, ◌+◌, ◌≤◌, ◌<◌, ◌≡◌, List, [], ◌∷◌, ◌++◌, length}
use Rattle.nsi_primitive.specs.declared.entry.Event.{Event}
use Rattle.stp_topology.specs.declared.network.Network.{Network}
use Rattle.agent_node.specs.Seat.{Seat}
use Rattle.agent_node.specs.Kept.{Kept}
use Rattle.nsi_play.specs.Rounds.{events_of}
use Rattle.quiet_rounds.specs.Bounded.{IsBounded}
use Rattle.agent_threads.specs.Nets.{seats, numbers, EachIs, AreOf, IsOneOf}

---- How far

-- no clock is past the second
abbrev pub AreUpTo : ℕ → List Kept → Type 0
AreUpTo second [] = Unit {0}
AreUpTo second (k ∷ ks) = (k.seat.state.base.now ≤ second) × AreUpTo second ks

-- none has taken more entries than so many
abbrev pub AreUnder : ℕ → List Kept → Type 0
AreUnder count [] = Unit {0}
AreUnder count (k ∷ ks) = (k.seat.state.base.taken ≤ count) × AreUnder count ks

-- each has a number of the topology
abbrev pub AreNumbered : Network → List Kept → Type 0
AreNumbered t [] = Unit {0}
AreNumbered t (k ∷ ks) = (k.seat.number < length t.agents) × AreNumbered t ks

-- they stand in one topology
pub record AreOfOne (ks : List Kept) : Type 0 where
  pub network : Network
  pub of : AreOf network ks

-- agents of the topology that have taken nothing, whose clocks stand at 0, of whom nothing is to be told, and whose links hold no more than
-- a round lets through
pub record AreReady (t : Network) (ks : List Kept) : Type 0 where
  pub numbers : AreNumbered t ks
  pub none : AreUnder 0 ks
  pub clocks : AreUpTo 0 ks
  pub told : events_of (seats ks) ≡ []
  pub bounded : IsBounded (seats ks)

---- Further

-- all are events of this agent
abbrev pub AreBy : ℕ → List Event → Type 0
AreBy a [] = Unit {0}
AreBy a (x ∷ xs) = (x.agent ≡ a) × AreBy a xs

-- More has happened at an agent. Each entry that it took is an event, and its clock is no further than it was, or than the second.
pub record Moves (to : ℕ) (old new : Seat) : Type 0 where
  pub number : new.number ≡ old.number
  pub more : List Event
  pub events : new.events ≡ old.events ++ more
  pub own : AreBy old.number more
  pub taken : length old.events + new.state.base.taken ≤ old.state.base.taken + length new.events
  pub clock : (second : ℕ) → to ≤ second → old.state.base.now ≤ second → new.state.base.now ≤ second

abbrev pub MovesOn : ℕ → Kept → Kept → Type 0
MovesOn to old new = Moves to old.seat new.seat

-- it took no more entries than so many, and its clock is no further than it was, or than the second
pub record IsFurther (to more : ℕ) (old new : Kept) : Type 0 where
  pub taken : new.seat.state.base.taken ≤ old.seat.state.base.taken + more
  pub clock : (second : ℕ) → to ≤ second → old.seat.state.base.now ≤ second → new.seat.state.base.now ≤ second

abbrev pub AreFurther : (to more : ℕ) (olds news : List Kept) → Type 0
AreFurther to more olds news = EachIs (IsFurther to more) olds news

---- Told

-- each is an event of one of these agents
abbrev pub AreOneOf : List ℕ → List Event → Type 0
AreOneOf ns [] = Unit {0}
AreOneOf ns (e ∷ es) = IsOneOf e.agent ns × AreOneOf ns es

-- More events are told, each of one of them; none took more entries than these, and no clock is further than it was, or than the second.
pub record GoOn (to : ℕ) (olds news : List Kept) (before events : List Event) : Type 0 where
  pub own : List Event
  pub told : events ≡ before ++ own
  pub by : AreOneOf (numbers (seats olds)) own
  pub each : AreFurther to (length own) olds news
