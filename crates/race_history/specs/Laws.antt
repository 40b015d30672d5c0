-- What is true of the history of a book, whatever the network of its provider.
use Rattle.std.specs.Prelude.{◌≤◌, ℕ, List, length}
use Rattle.nsi_primitive.specs.declared.entry.Event.{Event}
use Rattle.stp_topology.specs.declared.network.Network.{Network}
use Rattle.provider_agent.specs.Setting.{setting_of, own_stp}
use Rattle.provider_agent.specs.Safety.{IsCapped}
use Rattle.provider_agent.specs.State.{blank}
use Rattle.shared_provider.specs.History.{IsHistory}
use Rattle.race_run.specs.Found.{state_gone}
use Rattle.race_run.specs.Replay.{MayAll}

abbrev pub IsHistoryOf : Network → ℕ → List Event → Type 0
IsHistoryOf t p events = IsHistory (setting_of t p) (own_stp t p) events

-- a history of one network's provider is one of any other's with the same number, since its clock and its room are the events' alone
abbrev pub IsAnyNetworks : Type 0
IsAnyNetworks = (t u : Network) (p : ℕ) (events : List Event) → IsHistoryOf t p events → IsHistoryOf u p events

-- its entries may be taken again, one after another
abbrev pub MayBeTakenAgain : Type 0
MayBeTakenAgain = (t : Network) (p : ℕ) (events : List Event) → IsHistoryOf t p events → MayAll t p blank events

-- behind it no load passes a capacity
abbrev pub EndsCapped : Type 0
EndsCapped = (t : Network) (p : ℕ) (events : List Event) → IsHistoryOf t p events → IsCapped (setting_of t p) (state_gone t p blank events)

-- an entry and its sync for each entry that a provider takes, and no more
abbrev pub IsShort : Type 0
IsShort = (t : Network) (p : ℕ) (events : List Event) → IsHistoryOf t p events → length events ≤ 8388608
