-- What a race has come to.
use Rattle.std.specs.Prelude.{◌≡◌, ◌≤◌, ◌<◌, ℕ, true, List, [], length, get_or, Option, Some, None}
use Rattle.std.specs.List.{All}
use Rattle.nsi_primitive.specs.declared.entry.Event.{Event}
use Rattle.stp_topology.specs.declared.network.Network.{Network}
use Rattle.nsi_script.specs.declared.script.Act.{Act}
use Rattle.provider_agent.specs.Setting.{setting_of, own_stp}
use Rattle.provider_agent.specs.State.{blank}
use Rattle.provider_agent.specs.Steps.{waiting_work}
use Rattle.provider_agent.specs.Safety.{IsCapped}
use Rattle.provider_agent.specs.Events.{all_synced}
use Rattle.provider_agent.specs.AgentRuns.{AreSafe}
use Rattle.nsi_disk.specs.Disk.{Meter}
use Rattle.disk_journal.specs.declared.opening.StartCause.{StartCause}
use Rattle.shared_provider.specs.declared.reply.BookFault.{BookFault}
use Rattle.shared_provider.specs.Asked.{tick_entry}
use Rattle.shared_provider.specs.Book.{Book, counted, fresh, entered}
use Rattle.shared_provider.specs.History.{IsHistory, happenings, journal_of}
use Rattle.race_run.specs.declared.item.Difference.{Difference}
use Rattle.race_run.specs.declared.replayed.Call.{Call}
use Rattle.race_run.specs.Found.{is_caller, ticks, strays, state_gone}
use Rattle.race_run.specs.Compared.{IsOfNetwork, AllStand}
use Rattle.race_caller.specs.Plays.{IsPlay, IsOwn}
use Rattle.race_run.specs.Scripts.{asks_by}
use Rattle.race_judging.specs.declared.judging.Own.{Own}
use Rattle.race_judging.specs.Verdicts.{IsFirstOf}
use Rattle.race_judging.specs.Pairs.{AreSame, second_of, first_ticks, found_of, pairs_of, committed_of}
use Rattle.race_threads.specs.declared.racing.RaceCause.{RaceCause}
use Rattle.std.specs.Prelude.{map}
use Rattle.std.specs.List.Sorted.{IsStrictlyIncreasing}

abbrev pub call_of : (p a second : ℕ) → Call
call_of p a second = record { provider = p; agent = a; second = second }

-- A history of the provider, which is safe and all synced, behind which no load passes a capacity. It begins with the tick of the script, where there is one, and has no other. What it has of each
-- requester of the provider is what that requester does. All other events but the syncs are of some requester, and no work waits at its end. So many records
-- were committed.
pub record IsRaced (t : Network) (p : ℕ) (start : Option ℕ) (acts : List Act) (events : List Event) (n : ℕ) : Type 0 where
  pub history : IsHistory (setting_of t p) (own_stp t p) events
  pub safe : AreSafe (setting_of t p) (own_stp t p) (all_synced []) (happenings events)
  pub capped : IsCapped (setting_of t p) (state_gone t p blank events)
  pub synced : (journal_of events).synced ≡ length (journal_of events).entries
  pub begins : ticks t p blank 0 events ≡ first_ticks p start
  pub plays : (a : ℕ) → a < length t.agents → is_caller t p (Some a) ≡ true → IsPlay t (call_of p a (second_of start)) start (asks_by a acts) (found_of t p (second_of start) events a)
  pub owned : strays t p blank 0 events ≡ []
  pub idle : waiting_work (state_gone t p blank events) ≡ None
  pub committed : n ≡ committed_of (state_gone t p blank events).records

---- What callers hand over

-- a requester of the provider; it did what it does, or ended early; and it can be told
pub record IsKept (t : Network) (p : ℕ) (start : Option ℕ) (acts : List Act) (o : Own) : Type 0 where
  pub agent : o.agent < length t.agents
  pub caller : is_caller t p (Some o.agent) ≡ true
  pub own : IsOwn t (call_of p o.agent (second_of start)) start (asks_by o.agent acts) o.items
  pub stand : AllStand t o.items

-- some list is the agent's
pub record HasOwn (owns : List Own) (a : ℕ) : Type 0 where
  pub at : ℕ
  pub own : Own
  pub within : at < length owns
  pub is : own ≡ get_or owns at own
  pub of : own.agent ≡ a

abbrev pub own_agent : Own → ℕ
own_agent o = o.agent

-- what all requesters of the provider hand over, each once, in the order of the agents
pub record AreKept (t : Network) (p : ℕ) (start : Option ℕ) (acts : List Act) (owns : List Own) : Type 0 where
  pub each : All (IsKept t p start acts) owns
  pub has : (a : ℕ) → a < length t.agents → is_caller t p (Some a) ≡ true → HasOwn owns a
  pub rising : IsStrictlyIncreasing (map own_agent owns)

---- Asks of one requester

-- an ask of the agent
abbrev pub IsAskTo : ℕ → Act → Type 0
IsAskTo a (Act.Ask agent ask) = agent ≡ a
IsAskTo a (Act.Force agent number) = ⊥
IsAskTo a (Act.Restart agent) = ⊥

-- all acts are asks of one agent, and no more than a script has
pub record AreOfOne (acts : List Act) : Type 0 where
  pub agent : ℕ
  pub each : All (IsAskTo agent) acts
  pub few : length acts ≤ 100000

---- Faults

-- some history of the provider, and what its callers handed over, differ there first; several are asked
pub record HasDiffered (t : Network) (p : ℕ) (start : Option ℕ) (acts : List Act) (d : Difference) : Type 0 where
  pub events : List Event
  pub owns : List Own
  pub history : IsHistory (setting_of t p) (own_stp t p) events
  pub kept : AreKept t p start acts owns
  pub first : IsFirstOf (pairs_of t p start events owns) d
  pub told : IsOfNetwork t d
  pub several : AreOfOne acts → ⊥

-- the disk, which had counted nothing, has counted a fault or a stop
abbrev pub IsBroken : Meter → RaceCause → Type 0
IsBroken meter (RaceCause.Differ d) = ⊥
IsBroken meter RaceCause.DiskFault = 0 < counted meter
IsBroken meter RaceCause.NoMemory = Unit {0}

-- what was kept is what the history has, and no more
abbrev pub AllSame : Network → ℕ → Option ℕ → List Event → List Own → Type 0
AllSame t p start events owns = All AreSame (pairs_of t p start events owns)

---- The book of a race

-- nothing happened yet but the tick of the script, where there is one
abbrev pub begun_book : Network → ℕ → Option ℕ → Book
begun_book t p None = fresh t p
begun_book t p (Some second) = entered (tick_entry second) (fresh t p)

-- each cause comes only for its reason
abbrev pub HasFault : Network → ℕ → Option ℕ → List Act → Meter → RaceCause → Type 0
HasFault t p start acts meter (RaceCause.Differ d) = HasDiffered t p start acts d
HasFault t p start acts meter RaceCause.DiskFault = 0 < counted meter
HasFault t p start acts meter RaceCause.NoMemory = Unit {0}

abbrev pub cause_of : BookFault → RaceCause
cause_of (BookFault.DiskFault n) = RaceCause.DiskFault
cause_of (BookFault.Closed n) = RaceCause.DiskFault
cause_of BookFault.Full = RaceCause.NoMemory
cause_of BookFault.NoMemory = RaceCause.NoMemory

abbrev pub start_cause_of : StartCause → RaceCause
start_cause_of StartCause.DiskFault = RaceCause.DiskFault
start_cause_of StartCause.Stopped = RaceCause.DiskFault
start_cause_of (StartCause.NotAJournal place) = RaceCause.NoMemory
start_cause_of StartCause.NoMemory = RaceCause.NoMemory
