-- What is promised of the agents in a world, each by itself.
use Rattle.std.specs.Prelude.{◌≡◌, ℕ, true, Some, slice_get}
use Rattle.std.specs.List.{Contains}
use Rattle.nsi_primitive.specs.declared.entry.Entry.{Entry}
use Rattle.nsi_primitive.specs.declared.message.Message.{Message}
use Rattle.stp_topology.specs.declared.network.Network.{Network}
use Rattle.stp_topology.specs.Network.{name_of}
use Rattle.stp_topology.specs.Sound.{IsProvider}
use Rattle.connection_record.specs.declared.record.Record.{Record}
use Rattle.provider_agent.specs.Points.{IsWithinTopology}
use Rattle.provider_agent.specs.Safety.{IsRising, IsHonest, IsChecking, is_refusal}
use Rattle.provider_agent.specs.Setting.{setting_of, own_stp}
use Rattle.nsi_agent.specs.Homes.{Routes, home_in}
use Rattle.nsi_agent.specs.Steps.{after}
use Rattle.nsi_world.specs.Worlds.{Homes, World}
use Rattle.run_growth.specs.Growth.{HasGrown}
use Rattle.run_growth.specs.Cuts.{IsCutOf, state_of_cut, synced_state, state_before}

---- Capacities

-- Whatever a crash leaves of a provider, no load passes the capacity that the topology declares, at any of its points and at any second.
abbrev pub IsCappedIn : Network → Routes → World → Type 0
IsCappedIn t routes w = (a k : ℕ) → IsProvider t a → IsCutOf w a k → IsWithinTopology t a (state_of_cut (home_in t routes) w a k).base

---- Refusals for bandwidth

-- Work on a reserve that is checked confirms it, or refuses it as it should: each entry of each provider's journal was honest when it was taken.
abbrev pub IsHonestIn : Network → Routes → World → Type 0
IsHonestIn t routes w =
    (a n : ℕ) (e : Entry) → IsProvider t a → slice_get (w.journal a) n ≡ Some e →
    IsHonest (setting_of t a) (own_stp t a) (state_before (home_in t routes) w a n).base e

-- what an entry of an agent causes
abbrev pub IsCausedBy : Homes → World → (a n : ℕ) → Entry → Message → Type 0
IsCausedBy homes w a n e m = (slice_get (w.journal a) n ≡ Some e) × Contains (after (homes a) (state_before homes w a n) e).out m

-- the entry is work on a reserve that the agent checks
pub record IsCheckAt (homes : Homes) (w : World) (a n : ℕ) (e : Entry) : Type 0 where
  pub place : ℕ
  pub own : Record
  pub checking : IsChecking (state_before homes w a n).base e place own

-- it is a provider's own work on a reserve that it checks, and said in its name
pub record IsProvidersCheck (t : Network) (routes : Routes) (w : World) (a n : ℕ) (e : Entry) (m : Message) : Type 0 where
  pub provider : IsProvider t a
  pub own : m.header.provider ≡ name_of t a
  pub check : IsCheckAt (home_in t routes) w a n e

-- Whichever agent's entry it is, and whatever name it bears: what refuses for bandwidth is that.
abbrev pub RefusesAloneIn : Network → Routes → World → Type 0
RefusesAloneIn t routes w =
    (a n : ℕ) (e : Entry) (m : Message) → IsCausedBy (home_in t routes) w a n e m → is_refusal m.body ≡ true → IsProvidersCheck t routes w a n e m

---- Committed versions

-- Whatever a crash leaves of an agent, the committed versions of each of its records rise.
abbrev pub IsRisingIn : Homes → World → Type 0
IsRisingIn homes w = (a k : ℕ) → IsCutOf w a k → IsRising (state_of_cut homes w a k).base

-- What an agent has by its synced entries in the one world it has, or more, whatever a crash leaves of it in the other one.
abbrev pub StaysIn : Homes → (earlier later : World) → Type 0
StaysIn homes earlier later = (a k : ℕ) → IsCutOf later a k → HasGrown (synced_state homes earlier a) (state_of_cut homes later a k)
