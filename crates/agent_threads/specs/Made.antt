-- What calls make of the agents of a net.
use Rattle.std.specs.Prelude.{ℕ, ◌≡◌, ◌+◌, ◌≤◌, ◌<◌, ◌⊎◌, Bool, true, List, [], ◌∷◌, ◌++◌, Option, Some, None, Result, Ok, Err, OnOk}
use Rattle.agent_state.specs.Entries.{most_entries}
use Rattle.nsi_agent.specs.Homes.{Home, Routes, AreRoutes, home_in}
use Rattle.agent_node.specs.declared.fault.TurnFault.{TurnFault}
use Rattle.agent_node.specs.Seat.{Seat}
use Rattle.agent_node.specs.Acts.{asked, forced, ticked}
use Rattle.agent_node.specs.Restarts.{restarted}
use Rattle.agent_node.specs.Reopening.{HasRisen as HasCountRisen, IsReread}
use Rattle.agent_node.specs.declared.reopen.ReopenFault.{ReopenFault}
use Rattle.disk_journal.specs.declared.opening.StartCause.{StartCause}
use Rattle.nsi_disk.specs.ShelfCounts.{Raised, RaisedFrom}
use Rattle.nsi_disk.specs.declared.shelf.ShelfError.{ShelfError}
use Rattle.nsi_disk.specs.Disk.{Meter}
use Rattle.agent_node.specs.Meetings.{met}
use Rattle.agent_node.specs.Kept.{Kept, IsSameAgent, HasSameJournal}
use Rattle.agent_node.specs.Made.{AtHome}
use Rattle.nsi_primitive.specs.declared.ask.Ask.{Ask}
use Rattle.nsi_script.specs.declared.script.Act.{Act}
use Rattle.nsi_play.specs.Play.{changes}
use Rattle.nsi_play.specs.Rounds.{tells}
use Rattle.agent_threads.specs.Nets.{seats, numbers, IsOneOf, AreAmong, HasAsMany}
use Rattle.agent_threads.specs.Stopping.{WasOwned, AtOwned, AtOwnedBefore, stops_among, planned_among, NoneCounted}
pub use Rattle.agent_threads.specs.Stopping.{ShelfCounts, counted}
use Rattle.agent_threads.specs.Promise.{AtShown}
use Rattle.agent_threads.specs.Bounds.{MovesOn}
use Rattle.agent_threads.specs.declared.fault.RoundFault.{RoundFault}
use Rattle.agent_threads.specs.declared.fault.RunFault.{RunFault}

-- a call that didn't fail makes this of an agent
pub record Does (f : Home → Seat → Seat) (old new : Kept) : Type 0 where
  pub ok : AtHome old (λ h. new.seat ≡ f h old.seat)
  pub same : IsSameAgent old new
  pub plugs : new.plugs ≡ old.plugs
  pub usable : new.fault ≡ None
  pub journal : HasSameJournal old new

abbrev pub tick_to : ℕ → Home → Seat → Seat
tick_to second h s = ticked h second s

abbrev pub asks_at : ℕ → ℕ → Ask → Home → Seat → Seat
asks_at a number ask h s = changes a (asked h number ask) s

abbrev pub forces_at : ℕ → ℕ → Home → Seat → Seat
forces_at a n h s = changes a (forced h n) s

-- an agent's part in an act
abbrev pub part_in : Act → ℕ → Home → Seat → Seat
part_in (Act.Ask a ask) count h s = asks_at a count ask h s
part_in (Act.Force a n) count h s = forces_at a n h s
part_in (Act.Restart a) count h s = changes a (restarted h) s

-- It was made anew from its journal, with which it has taken no more, and its clock is no further.
pub record IsRestarted (old new : Kept) : Type 0 where
  pub reread : IsReread old new
  pub moves : MovesOn 0 old new

-- the agent with that number was restarted, and the others are as they were
pub record RestartsAt (a : ℕ) (old new : Kept) : Type 0 where
  pub here : old.seat.number ≡ a → IsRestarted old new
  pub there : (old.seat.number ≡ a → ⊥) → new ≡ old
  pub usable : new.fault ≡ None

-- an agent's part in an act was done
abbrev pub DoesAct : Act → ℕ → Kept → Kept → Type 0
DoesAct (Act.Restart a) count old new = RestartsAt a old new
DoesAct act count old new = Does (part_in act count) old new

abbrev pub tells_at : Home → Seat → Seat
tells_at h s = tells s

-- what has happened was taken away
pub record Drained (old new : Kept) : Type 0 where
  pub made : Does tells_at old new
  pub seat : new.seat ≡ tells old.seat

---- Turns

abbrev pub HasRoom : ℕ → Kept → Type 0
HasRoom room k = k.seat.state.base.taken + room ≤ most_entries

abbrev pub HaveRoom : ℕ → List Kept → Type 0
HaveRoom room [] = Unit {0}
HaveRoom room (k ∷ ks) = HasRoom room k × HaveRoom room ks

abbrev pub or_else : Option RoundFault → Option RoundFault → Option RoundFault
or_else (Some e) o = Some e
or_else None o = o

-- an agent's fault, where it is no stop
abbrev pub failure_at : ℕ → Option TurnFault → Option RoundFault
failure_at a None = None
failure_at a (Some TurnFault.Long) = Some RoundFault.Long
failure_at a (Some TurnFault.DiskFault) = Some (RoundFault.DiskFault a)
failure_at a (Some TurnFault.Stopped) = None
failure_at a (Some TurnFault.NoMemory) = Some RoundFault.NoMemory

-- an agent's stop
abbrev pub stop_at : ℕ → Option TurnFault → Option RoundFault
stop_at a (Some TurnFault.Stopped) = Some (RoundFault.Stopped a)
stop_at a _ = None

-- the first fault that is no stop
unfoldable pub first_failure : List Kept → Option RoundFault
first_failure [] = None
first_failure (k ∷ ks) = or_else (failure_at k.seat.number k.fault) (first_failure ks)

unfoldable pub first_stop : List Kept → Option RoundFault
first_stop [] = None
first_stop (k ∷ ks) = or_else (stop_at k.seat.number k.fault) (first_stop ks)

-- the fault of a round: the first agent's that isn't a stop, or else the first stop
abbrev pub fault_of : List Kept → Option RoundFault
fault_of ks = or_else (first_failure ks) (first_stop ks)

abbrev pub answer : Option RoundFault → Result (Unit {0}) RoundFault
answer None = Ok tt
answer (Some e) = Err e

-- a round has failed as a turn of the agent with that number: this count of its disk rose
abbrev pub HasRisen : (Meter → ℕ) → ℕ → List Kept → List Kept → Type 0
HasRisen count a [] ns = ⊥
HasRisen count a (o ∷ os) [] = ⊥
HasRisen count a (o ∷ os) (n ∷ ns) = ((n.seat.number ≡ a) × (count o.meter < count n.meter)) ⊎ HasRisen count a os ns

abbrev pub faults_in : Meter → ℕ
faults_in m = m.faults

abbrev pub stops_in : Meter → ℕ
stops_in m = m.stops

-- calls of the disk of the agent with that number have failed
abbrev pub HasFailed : ℕ → List Kept → Type 0
HasFailed a [] = ⊥
HasFailed a (k ∷ ks) = ((k.seat.number ≡ a) × (0 < k.meter.faults)) ⊎ HasFailed a ks

---- Runs

-- why an agent wasn't restarted
abbrev pub reopen_fault : ℕ → ReopenFault → RunFault
reopen_fault a (ReopenFault.GivenBack StartCause.DiskFault) = RunFault.DiskFault a
reopen_fault a (ReopenFault.GivenBack StartCause.Stopped) = RunFault.DiskFault a
reopen_fault a (ReopenFault.GivenBack (StartCause.NotAJournal place)) = RunFault.NotAJournal a place
reopen_fault a (ReopenFault.GivenBack StartCause.NoMemory) = RunFault.NoMemory
reopen_fault a (ReopenFault.Lost ShelfError.Failed) = RunFault.DiskFault a
reopen_fault a (ReopenFault.Lost ShelfError.NoMemory) = RunFault.NoMemory

-- the count of faults rose, as far as its type reaches
abbrev pub HaveRisen : ShelfCounts → ShelfCounts → Type 0
HaveRisen old new = HasCountRisen old.faults new.faults

-- the counts don't fall, and rise only where a call fails
pub record KeepsShelf {T : Type 0} (old new : ShelfCounts) (result : Result T RunFault) : Type 0 where
  pub faults : old.faults ≤ new.faults
  pub stops : old.stops ≤ new.stops
  pub quiet : OnOk result (new.faults ≡ old.faults)
  pub calm : OnOk result (new.stops ≡ old.stops)

-- these acts aren't shown: an agent is restarted, and not all their journals tell what made them
abbrev pub AreUntold : List Act → List Kept → Type 0
AreUntold acts ks = AtShown ks acts (λ homes tells. ⊥)

-- its journal doesn't tell what made it, nor did it before its disk stopped
abbrev pub IsUntold : Kept → Type 0
IsUntold k = (routes : Routes) → AreRoutes k.network routes → WasOwned (home_in k.network routes) k → ⊥

-- why an agent wasn't restarted: a call has failed where its disk went, or its journal has no reading, and doesn't tell what made the agent
abbrev pub HasRestartCause : Kept → (before after : ShelfCounts) → RunFault → Type 0
HasRestartCause k before after (RunFault.DiskFault a) = (a ≡ k.seat.number) × HaveRisen before after
HasRestartCause k before after (RunFault.NotAJournal a place) = (a ≡ k.seat.number) × IsUntold k
HasRestartCause k before after RunFault.NoMemory = Unit {0}
HasRestartCause k before after _ = ⊥

-- the fault of a restart
abbrev pub IsOfRestart : RunFault → Type 0
IsOfRestart RunFault.Long = ⊥
IsOfRestart RunFault.WriteFault = ⊥
IsOfRestart _ = Unit {0}

-- behind the others stands an agent that was made of this one
abbrev pub PutsBack : (Kept → Kept → Type 0) → Kept → (before after : List Kept) → Type 0
PutsBack R old before after = (new : Kept) × (after ≡ before ++ new ∷ []) × R old new

-- the others are left, and its stops are counted where its disk went; or it stands behind them
abbrev pub LosesOne : Kept → (before after : List Kept) → (c d : ShelfCounts) → Type 0
LosesOne old before after c d = ((after ≡ before) × RaisedFrom c.stops old.meter.stops d.stops) ⊎ (PutsBack HasAsMany old before after × (d.stops ≡ c.stops))

-- These are left of those agents, and no more stops are planned for their disks. No stop that was counted at one is lost: it is counted at
-- these, or where their disks went.
pub record AreLeft (olds news : List Kept) (before after : ShelfCounts) : Type 0 where
  pub among : AreAmong olds news
  pub by : ℕ
  pub raised : Raised before.stops by after.stops
  pub stops : stops_among olds ≤ by + stops_among news
  pub planned : planned_among news ≤ planned_among olds

-- Why acts of these agents have failed, which are those then: a disk of one of them has failed, or where it went when it was read
-- again; a journal has no reading, and the acts aren't shown.
abbrev pub HasRunCause : List Act → (olds news : List Kept) → (before after : ShelfCounts) → RunFault → Type 0
HasRunCause acts olds news before after (RunFault.DiskFault a) = HasFailed a news ⊎ (IsOneOf a (numbers (seats olds)) × HaveRisen before after)
HasRunCause acts olds news before after (RunFault.NotAJournal a place) = IsOneOf a (numbers (seats olds)) × AreUntold acts olds
HasRunCause acts olds news before after _ = Unit {0}

-- Why those whose disks had stopped don't go on: a disk has failed where it went, or a journal has no reading, and they didn't all
-- tell what made them.
abbrev pub HasGoOnCause : (olds : List Kept) → (before after : ShelfCounts) → RunFault → Type 0
HasGoOnCause olds before after (RunFault.DiskFault a) = IsOneOf a (numbers (seats olds)) × HaveRisen before after
HasGoOnCause olds before after (RunFault.NotAJournal a place) = IsOneOf a (numbers (seats olds)) × AtOwnedBefore olds (λ homes. ⊥)
HasGoOnCause olds before after _ = Unit {0}

-- what a round's fault is to a run: behind a stop it goes on
abbrev pub behind_fault : RoundFault → Result Bool RunFault
behind_fault RoundFault.Long = Err RunFault.Long
behind_fault (RoundFault.DiskFault a) = Err (RunFault.DiskFault a)
behind_fault (RoundFault.Stopped a) = Ok true
behind_fault RoundFault.NoMemory = Err RunFault.NoMemory

-- why a round has failed: behind a stop the agent goes on
abbrev pub HasMetCause : List Kept → RunFault → Type 0
HasMetCause ks RunFault.Long = Unit {0}
HasMetCause ks RunFault.WriteFault = ⊥
HasMetCause ks (RunFault.DiskFault a) = HasFailed a ks
HasMetCause ks (RunFault.NotAJournal a place) = ⊥
HasMetCause ks RunFault.NoMemory = Unit {0}

-- a journal has no reading: they didn't all tell what made them, and where no stop was counted the acts restart an agent
pub record HasUnread (acts : List Act) (olds news : List Kept) (before after : ShelfCounts) : Type 0 where
  pub untold : AtOwned olds (λ homes. ⊥)
  pub restarted : NoneCounted olds news before after → AreUntold acts olds

-- Why these acts and rounds have failed: a disk has failed, or has failed where it went when it was read again; a journal has no
-- reading.
abbrev pub HasSettleCause : List Act → (olds news : List Kept) → (before after : ShelfCounts) → RunFault → Type 0
HasSettleCause acts olds news before after (RunFault.DiskFault a) = HasFailed a news ⊎ (IsOneOf a (numbers (seats olds)) × HaveRisen before after)
HasSettleCause acts olds news before after (RunFault.NotAJournal a place) = IsOneOf a (numbers (seats olds)) × HasUnread acts olds news before after
HasSettleCause acts olds news before after _ = Unit {0}

-- a fault that is an agent's
abbrev pub IsOfAgent : RunFault → Type 0
IsOfAgent (RunFault.DiskFault a) = Unit {0}
IsOfAgent (RunFault.NotAJournal a place) = Unit {0}
IsOfAgent _ = ⊥

-- the fault of a write
abbrev pub IsOfWriting : RunFault → Type 0
IsOfWriting RunFault.WriteFault = Unit {0}
IsOfWriting RunFault.NoMemory = Unit {0}
IsOfWriting _ = ⊥

---- Meetings

-- the same agent, but for what came
pub record Stays (old new : Kept) : Type 0 where
  pub same : IsSameAgent old new
  pub fault : new.fault ≡ old.fault
  pub journal : HasSameJournal old new

-- the others, after one met each of them
unfoldable pub met_by_each : Seat → List Seat → List Seat
met_by_each s [] = []
met_by_each s (o ∷ os) = met s o ∷ met_by_each (met o s) os
