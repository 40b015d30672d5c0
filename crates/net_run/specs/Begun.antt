-- Agents that were begun on the disks of a shelf.
use Rattle.std.specs.List.{All}
use Rattle.std.specs.Prelude.{ℕ, suc, ◌≡◌, ◌==◌, ◌<◌, ◌≤◌, ◌+◌, true, Bool, List, [], ◌∷◌, ◌++◌, length, map, filter, sum, get_or, None}
use Rattle.stp_topology.specs.declared.network.Network.{Network}
use Rattle.stp_topology.specs.Network.{name_of}
use Rattle.agent_link.specs.Link.{OutHalf}
use Rattle.agent_node.specs.Openings.{Plans, others_of, seat_of}
use Rattle.disk_journal.specs.declared.opening.StartCause.{StartCause}
use Rattle.agent_node.specs.Kept.{Kept, Plug, ArePlanned, plug}
use Rattle.nsi_disk.specs.declared.plan.Stop.{Stop}
use Rattle.nsi_disk.specs.declared.shelf.ShelfError.{ShelfError}
use Rattle.nsi_script.specs.declared.script.StopLine.{StopLine}
use Rattle.nsi_play.specs.Openings.{opening}
use Rattle.agent_threads.specs.Nets.{seats, AreOf, AreNet, IsAbsent}
pub use Rattle.agent_threads.specs.Stopping.{stops_among, planned_among}
use Rattle.agent_threads.specs.declared.fault.RunFault.{RunFault}
use Rattle.net_run.specs.declared.joints.Joint.{Joint}
use Rattle.net_run.specs.Joints.{IsPlannedJoint, wires}
use Rattle.nsi_primitive.specs.declared.entry.Event.{Event}
use Rattle.agent_node.specs.Restarts.{untold, restart_events}
use Rattle.nsi_play.specs.Play.{untold_net}

-- the line is of the disk of this agent
abbrev pub is_of : ℕ → StopLine → Bool
is_of a line = line.agent == a

abbrev pub stop_in : StopLine → Stop
stop_in line = line.stop

-- where the lines of a script stop an agent's disk
abbrev pub stops_of : List StopLine → ℕ → List Stop
stops_of lines a = map stop_in (filter (is_of a) lines)

-- an agent that has taken nothing, with ends from among these, whose disk stopped so often or more, and for which no more stops are planned than
-- the lines plan
pub record IsBegun (t : Network) (all : List Joint) (lines : List StopLine) (a tries : ℕ) (k : Kept) : Type 0 where
  pub number : k.seat.number ≡ a
  pub seat : (plans : Plans) → All (IsPlannedJoint plans) all → k.seat ≡ untold (seat_of t plans a)
  pub network : k.network ≡ t
  pub plugs : (b : ℕ) → plug k b ≡ wires a b all
  pub fault : k.fault ≡ None
  pub faults : k.meter.faults ≡ 0
  pub stops : tries ≤ k.meter.stops
  pub planned : k.meter.planned ≤ length (stops_of lines a)
  pub alone : IsAbsent a (others_of t a)

-- agents from a number on, with how often the disk of each one stopped
abbrev pub AreBegun : Network → List Joint → List StopLine → ℕ → List ℕ → List Kept → Type 0
AreBegun t all lines a [] [] = Unit {0}
AreBegun t all lines a (n ∷ ns) (k ∷ ks) = IsBegun t all lines a n k × AreBegun t all lines (suc a) ns ks
AreBegun t all lines a _ _ = ⊥

-- how often each one's disk stopped, by the agents' numbers
abbrev pub making_by : List ℕ → ℕ → ℕ
making_by tries a = get_or tries a 0

-- a restart with no entry for each time, in the agents' order
abbrev pub restarts_from : ℕ → List ℕ → List Event
restarts_from a [] = []
restarts_from a (n ∷ ns) = restart_events n a 0 ++ restarts_from (suc a) ns

-- disks of the names of these agents may be given back
abbrev pub AreListed : (List ℕ → Bool) → Network → List Kept → Type 0
AreListed listed t [] = Unit {0}
AreListed listed t (k ∷ ks) = ((k.seat.number < length t.agents) × (listed (name_of t k.seat.number) ≡ true)) × AreListed listed t ks

-- how often calls of their disks failed
abbrev pub faults_among : List Kept → ℕ
faults_among [] = 0
faults_among (k ∷ ks) = k.meter.faults + faults_among ks

-- All agents of a topology before anything has happened, where this is planned for their links and disks. Their disks stopped so often, or more,
-- while their journals were made.
pub record AreOpened (t : Network) (plans : Plans) (lines : List StopLine) (tries : List ℕ) (ks : List Kept) : Type 0 where
  pub seats : seats ks ≡ untold_net (opening t plans)
  pub net : AreNet ks
  pub of : AreOf t ks
  pub all : length tries ≡ length t.agents
  pub faults : faults_among ks ≡ 0
  pub stops : sum tries ≤ stops_among ks
  pub planned : planned_among ks ≤ length lines

-- an agent that has taken nothing, with these ends of its links and their wires, whose disk stopped so often, or more, of so many planned stops
pub record IsFresh (t : Network) (a : ℕ) (outs : List OutHalf) (made : List Plug) (most tries : ℕ) (k : Kept) : Type 0 where
  pub seat : (plans : Plans) → ArePlanned (plans a) (others_of t a) outs → k.seat ≡ untold (seat_of t plans a)
  pub network : k.network ≡ t
  pub plugs : k.plugs ≡ made
  pub fault : k.fault ≡ None
  pub faults : k.meter.faults ≡ 0
  pub stops : tries ≤ k.meter.stops
  pub planned : k.meter.planned ≤ most

-- the fault of a run whose shelf gave no disk
abbrev pub refusal_of : ℕ → ShelfError → RunFault
refusal_of a ShelfError.Failed = RunFault.DiskFault a
refusal_of a ShelfError.NoMemory = RunFault.NoMemory

-- the fault of a run that didn't begin
abbrev pub fault_of : ℕ → StartCause → RunFault
fault_of a StartCause.DiskFault = RunFault.DiskFault a
fault_of a _ = RunFault.NoMemory
