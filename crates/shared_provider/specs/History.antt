-- The history of one provider, whose entries are synced one by one.
use Rattle.std.specs.Prelude.{◌≡◌, ◌<◌, ℕ, List, [], ◌∷◌, map, length, Option}
use Rattle.std.specs.List.{All}
use Rattle.nsi_primitive.specs.declared.entry.Event.{Event}
use Rattle.nsi_primitive.specs.declared.entry.Happening.{Happening}
use Rattle.provider_agent.specs.Setting.{Setting}
use Rattle.provider_agent.specs.Events.{all_synced, happens, journal_after}
use Rattle.provider_agent.specs.Cuts.{Journal}
use Rattle.provider_agent.specs.AgentRuns.{IsAgentRun}

abbrev pub what_of : Event → Happening
what_of x = x.what

-- what happened at the provider
abbrev pub happenings : List Event → List Happening
happenings events = map what_of events

-- its entries, and how many of them are synced
abbrev pub journal_of : List Event → Journal
journal_of events = journal_after (all_synced []) (happenings events)

abbrev pub IsOf : ℕ → Event → Type 0
IsOf agent x = x.agent ≡ agent

-- an entry comes where all is synced, a sync where something isn't, and nothing begins again
abbrev pub IsInTurn : Journal → Happening → Type 0
IsInTurn j (Happening.Entry e answer) = j.synced ≡ length j.entries
IsInTurn j (Happening.Sync count) = j.synced < count
IsInTurn j (Happening.Restart count) = ⊥

abbrev pub AreInTurn : Journal → List Happening → Type 0
AreInTurn j [] = Unit {0}
AreInTurn j (x ∷ xs) = IsInTurn j x × AreInTurn (happens j x) xs

-- A run of the provider from the empty journal, in which each entry is followed by its sync, but perhaps the last.
pub record IsHistory (setting : Setting) (stp_of : List ℕ → Option ℕ) (events : List Event) : Type 0 where
  pub own : All (IsOf setting.number) events
  pub run : IsAgentRun setting stp_of [] (happenings events)
  pub in_turn : AreInTurn (all_synced []) (happenings events)
