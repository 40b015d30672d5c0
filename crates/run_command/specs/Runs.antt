-- What the command `run` writes. Where disks stop it is the text of a play whose agents go on from what these have.
use Rattle.std.specs.Prelude.{◌≡◌, ◌≤◌, ◌<◌, ◌⊎◌, ℕ, ◌+◌, Bool, true, false, List, [], ◌++◌, length, take, nat_le, codes, decimal, Result, Ok, Err}
use Rattle.std.specs.List.{All}
use Rattle.nsi_base.specs.Lines.{lines_of}
use Rattle.nsi_base.specs.Range.{greatest_input}
use Rattle.nsi_primitive.specs.declared.entry.Event.{Event}
use Rattle.stp_topology.specs.declared.fault.TopologyFault.{TopologyFault}
use Rattle.stp_topology.specs.declared.network.Network.{Network}
use Rattle.stp_topology.specs.Network.{nothing, name_of}
use Rattle.stp_topology.specs.Text.{read_lines, behind_lines}
use Rattle.nsi_script.specs.declared.fault.ScriptFault.{ScriptFault}
use Rattle.nsi_script.specs.declared.script.Group.{Group}
use Rattle.nsi_script.specs.declared.script.Script.{Script}
use Rattle.nsi_script.specs.Text.{script_of}
use Rattle.nsi_agent.specs.Homes.{Routes, AreRoutes, home_in}
use Rattle.nsi_play.specs.Openings.{plans_of}
use Rattle.nsi_play.specs.Play.{RestartNobody}
use Rattle.nsi_world.specs.Worlds.{empty, said}
use Rattle.nsi_world.specs.Runs.{world_after, asks_of, numbered}
use Rattle.nsi_world.specs.Scripts.{wishes_of}
use Rattle.nsi_world.specs.Rest.{IsAtRest}
use Rattle.circuit_laws.specs.Safe.{IsSafeRun}
use Rattle.end_to_end.specs.Stands.{StandsInEachWorld}
use Rattle.answered_play.specs.Answered.{AnswersAll}
use Rattle.settled_play.specs.Settled.{LeavesOnlyLost, LoseNothing, GoesOn, IsDone}
use Rattle.due_events.specs.Counts.{script_restarts}
use Rattle.run_weight.specs.Weight.{weight}
use Rattle.run_totals.specs.Totals.{totals_of}
use Rattle.run_totals.specs.declared.totals.Totals.{Totals}
use Rattle.agent_threads.specs.Promise.{NoRestart}
use Rattle.agent_threads.specs.Reports.{written}
use Rattle.run_totals.specs.declared.report.Report.{Report}
use Rattle.agent_threads.specs.declared.report.RunOptions.{RunOptions}
use Rattle.net_run.specs.Held.{AreTold, IsShown}
use Rattle.net_run.specs.Shelves.{HasNoStop, IsUnread}
use Rattle.net_run.specs.Worlds.{Holds, PlaysPart, PartPasses, KeepsJournals}
use Rattle.fault_lines.specs.Lines.{as_line, topology_fault, script_fault, journal_fault, disk_fault_line, long_line}
use Rattle.run_command.specs.declared.command.RunEnd.{RunEnd}

-- how many events the run has
abbrev pub settled_line : ℕ → List ℕ
settled_line n = as_line (codes "settled " ++ decimal n)

-- the numbers of a run
abbrev pub summary_line : Totals → List ℕ
summary_line n =
    as_line (codes "summary events " ++ decimal n.events ++ codes " confirmed " ++ decimal n.confirmed ++ codes " committed " ++ decimal n.committed ++ codes " failed " ++ decimal n.failed)

-- the last line of a run
abbrev pub closing_line : Report → Totals → List ℕ
closing_line Report.Trace n = settled_line n.events
closing_line Report.Summary n = summary_line n

---- Plays

-- a safe run, in each world of which what is committed stands from end to end
pub record IsSafeThroughout (t : Network) (routes : Routes) (events : List Event) : Type 0 where
  pub safe : IsSafeRun t routes events
  pub stands : StandsInEachWorld t routes events

-- as no events are, whatever the topology
abbrev pub NothingIsSafeThroughout : Type 0
NothingIsSafeThroughout = (t : Network) (routes : Routes) → IsSafeThroughout t routes []

-- what the disks of a shelf hold by names before a run and behind it, where it tells, and how often calls have stopped them
pub record Disks : Type 0 where
  pub held : Holds
  pub holds : Holds
  pub before : ℕ
  pub after : ℕ

abbrev pub disks : (held holds : Holds) (before after : ℕ) → Disks
disks held holds before after = record { held = held; holds = holds; before = before; after = after }

-- no disk has stopped in the run
abbrev pub NoneStops : Disks → Type 0
NoneStops d = HasNoStop d.before d.after

-- It is known which play was written: the shelf tells what it holds; or the script restarts nobody, and no disk has stopped.
abbrev pub IsKnown : Network → List Group → Holds → (Calm : Type 0) → Type 0
IsKnown t script holds Calm = AreTold t holds ⊎ (Calm × RestartNobody script)

-- The events of a play of some first groups of a script, in which disks stop as some tapes say, and none does where the run was calm. They are
-- no more than that, and where the play is known they are such a run, whichever legs are those of the least paths.
pub record IsTextOf (options : RunOptions) (d : Disks) (Calm : Type 0) (t : Network) (script : Script) (groups : ℕ) (events : List Event) : Type 0 where
  pub play : PlaysPart t (plans_of script.lose) d.held d.before d.after Calm script.groups (take groups script.groups) events
  pub run : IsKnown t script.groups d.held Calm → (routes : Routes) → AreRoutes t routes → IsSafeThroughout t routes events
  pub within : length events ≤ options.limit

-- These events are a safe run that asks the whole script, in order. In the world that they make each journal is synced whole and no work
-- waits; each request that a provider or an aggregator got is answered, but where an aggregator waits for the answer of a child; and of the
-- messages of a kind that one agent has said to another that it isn't cut off from no more weren't got, or weren't acknowledged, than lines of
-- the script lose on the two ways between them. So where it plans no loss, and no event is a restart, each message that was said was got and
-- acknowledged.
pub record IsWholeRun (t : Network) (routes : Routes) (script : Script) (events : List Event) : Type 0 where
  pub run : IsSafeThroughout t routes events
  pub asks : asks_of events ≡ numbered 0 (wishes_of script.groups)
  pub rests : (a : ℕ) → a < length t.agents → IsAtRest (home_in t routes) (world_after empty events) a
  pub answered : AnswersAll t (home_in t routes) (world_after empty events)
  pub left : LeavesOnlyLost t (home_in t routes) (plans_of script.lose) events
  pub over : LoseNothing (plans_of script.lose) → All GoesOn events → (a : ℕ) → a < length t.agents → All (IsDone t (home_in t routes) (world_after empty events) a) (said (home_in t routes) (world_after empty events) a)

-- What is wanted of the whole play, and behind it its numbers. Where the play is known it is such a run, whichever legs are those of the least
-- paths. Where the shelf told what it held, it holds each agent's journal in the world that these events make.
pub record IsSettled (options : RunOptions) (d : Disks) (t : Network) (script : Script) (text : List ℕ) : Type 0 where
  pub events : List Event
  pub play : PlaysPart t (plans_of script.lose) d.held d.before d.after (NoneStops d ⊎ NoRestart events) script.groups script.groups events
  pub run : IsKnown t script.groups d.held (NoneStops d ⊎ NoRestart events) → (routes : Routes) → AreRoutes t routes → IsWholeRun t routes script events
  pub journals : KeepsJournals t d.held d.holds events
  pub within : length events ≤ options.limit
  pub spelled : text ≡ written options.report t events ++ closing_line options.report (totals_of t events)

-- The limit is below the weight of the script, whichever legs are those of the least paths: with as many restarts as the script has lines that
-- restart an agent or stop a disk, where the shelf tells what it holds; and with those of the script alone, where no disk has stopped and the
-- play is known.
pub record IsBelowWeight (limit : ℕ) (d : Disks) (t : Network) (script : Script) : Type 0 where
  pub told : AreTold t d.held → (routes : Routes) → AreRoutes t routes → limit < weight t routes script.groups (script_restarts script.groups + length script.stops)
  pub calm : NoneStops d → IsShown t script.groups d.held → (routes : Routes) → AreRoutes t routes → limit < weight t routes script.groups (script_restarts script.groups)

-- As many groups as make no more events than that, and behind them that there are more. So it is only where the weight of the script is above the
-- limit.
pub record IsTooLong (options : RunOptions) (d : Disks) (t : Network) (script : Script) (text : List ℕ) : Type 0 where
  pub groups : ℕ
  pub events : List Event
  pub first : IsTextOf options d (NoneStops d ⊎ NoRestart events) t script groups events
  pub passes : PartPasses t (plans_of script.lose) (length script.stops) d.held d.before d.after (NoneStops d) options.limit script.groups (take (groups + 1) script.groups)
  pub below : IsBelowWeight options.limit d t script
  pub spelled : text ≡ written options.report t events ++ long_line

-- some first groups of the play, and that text behind them
pub record StartsPlay (options : RunOptions) (d : Disks) (t : Network) (script : Script) (behind : Network → List ℕ) (text : List ℕ) : Type 0 where
  pub groups : ℕ
  pub events : List Event
  pub first : IsTextOf options d (NoneStops d ⊎ NoRestart events) t script groups events
  pub spelled : text ≡ written options.report t events ++ behind t

-- some first groups of the play, and behind them whose disk has failed
abbrev pub BreaksPlay : RunOptions → Disks → Network → Script → List ℕ → Type 0
BreaksPlay options d t script text = (agent : ℕ) × StartsPlay options d t script (λ u. disk_fault_line (name_of u agent)) text

-- Some first groups of the play, and behind them whose journal has no reading. So it is only where the shelf doesn't tell what it holds, and the
-- script restarts an agent or a disk has stopped.
abbrev pub UnreadsPlay : RunOptions → Disks → Network → Script → List ℕ → Type 0
UnreadsPlay options d t script text =
    (agent : ℕ) × (place : ℕ) × IsUnread (AreTold t d.held) (IsShown t script.groups d.held) d.before d.after × StartsPlay options d t script (λ u. journal_fault (name_of u agent) place) text

abbrev pub no_text : Network → List ℕ
no_text t = []

abbrev pub Plays : RunOptions → Disks → Network → Script → RunEnd → List ℕ → Type 0
Plays options d t script RunEnd.Done text = IsSettled options d t script text
Plays options d t script RunEnd.Long text = IsTooLong options d t script text
Plays options d t script RunEnd.NotAJournal text = UnreadsPlay options d t script text
Plays options d t script end text = ⊥

-- all that a play writes, or some first groups of it
abbrev pub BeginsPlay : RunOptions → Disks → Network → Script → List ℕ → Type 0
BeginsPlay options d t script text = ((end : RunEnd) × Plays options d t script end text) ⊎ StartsPlay options d t script no_text text

---- Inputs

abbrev pub RunsScript : RunOptions → Disks → Network → Result Script (ℕ × ScriptFault) → RunEnd → List ℕ → Type 0
RunsScript options d t (Ok script) end text = Plays options d t script end text
RunsScript options d t (Err e) end text = (end ≡ RunEnd.BadScript) × (text ≡ script_fault e.0 e.1)

-- the script stands behind the topology's lines
abbrev pub script_behind : List ℕ → Network × ℕ → Result Script (ℕ × ScriptFault)
script_behind bytes read = script_of read.0 (read.1 + 1) (behind_lines read.1 bytes)

abbrev pub RunsRead : RunOptions → Disks → List ℕ → Result (Network × ℕ) (ℕ × TopologyFault) → RunEnd → List ℕ → Type 0
RunsRead options d bytes (Ok read) end text = RunsScript options d read.0 (script_behind bytes read) end text
RunsRead options d bytes (Err e) end text = (end ≡ RunEnd.BadTopology) × (text ≡ topology_fault e.0 e.1)

abbrev pub RunsIf : (fits : Bool) → RunOptions → Disks → List ℕ → RunEnd → List ℕ → Type 0
RunsIf true options d bytes end text = RunsRead options d bytes (read_lines nothing 0 (lines_of bytes)) end text
RunsIf false options d bytes end text = (end ≡ RunEnd.Long) × (text ≡ long_line)

-- how `run` ends on these bytes with these options, and all that it writes
abbrev pub Runs : RunOptions → Disks → List ℕ → RunEnd → List ℕ → Type 0
Runs options d bytes end text = RunsIf (nat_le (length bytes) greatest_input) options d bytes end text

---- Runs that were cut short

-- the bytes are a topology and a script
pub record AreRead (bytes : List ℕ) (t : Network) (script : Script) : Type 0 where
  pub lines : ℕ
  pub topology : read_lines nothing 0 (lines_of bytes) ≡ Ok (t, lines)
  pub behind : script_behind bytes (t, lines) ≡ Ok script

-- where the bytes are a topology and a script, something of these
abbrev pub OfRead : List ℕ → (Network → Script → Type 0) → Type 0
OfRead bytes P = (t : Network) × (script : Script) × AreRead bytes t script × P t script

-- The bytes are a topology and a script, and no more than are taken; the shelf tells what it holds under the agents' names; and the weight of
-- the script is within the limit, where the legs are those of the least paths.
pub record IsLight (limit : ℕ) (held : Holds) (bytes : List ℕ) : Type 0 where
  pub fits : length bytes ≤ greatest_input
  pub topology : Network
  pub script : Script
  pub read : AreRead bytes topology script
  pub told : AreTold topology held
  pub routes : Routes
  pub least : AreRoutes topology routes
  pub within : weight topology routes script.groups (script_restarts script.groups + length script.stops) ≤ limit

-- the bytes are a topology and a script, and the limit is below the weight of this
abbrev pub OfHeavy : RunOptions → Disks → List ℕ → Type 0
OfHeavy options d bytes = OfRead bytes (λ t script. IsBelowWeight options.limit d t script)

-- the input is longer than is taken, or the limit is below the weight of its script
abbrev pub IsHeavy : RunOptions → Disks → List ℕ → Type 0
IsHeavy options d bytes = (greatest_input < length bytes) ⊎ OfHeavy options d bytes

-- some first groups of the play, and behind them whose disk has failed
abbrev pub Breaks : RunOptions → Disks → List ℕ → List ℕ → Type 0
Breaks options d bytes text = OfRead bytes (λ t script. BreaksPlay options d t script text)

-- all that a run writes, or some first groups of its play
abbrev pub Begins : RunOptions → Disks → List ℕ → List ℕ → Type 0
Begins options d bytes text = ((end : RunEnd) × Runs options d bytes end text) ⊎ OfRead bytes (λ t script. StartsPlay options d t script no_text text)

---- Journals

-- What is held under the name of each agent reads as its journal in the world that the events of a play make, where the shelf told what it held.
abbrev pub KeepsPlay : Disks → Network → Script → Type 0
KeepsPlay d t script =
    (events : List Event) × PlaysPart t (plans_of script.lose) d.held d.before d.after (NoneStops d ⊎ NoRestart events) script.groups script.groups events × KeepsJournals t d.held d.holds events

-- the bytes are a topology and a script, and so it is of the play of it
abbrev pub KeepsRun : List ℕ → Disks → Type 0
KeepsRun bytes d = OfRead bytes (λ t script. KeepsPlay d t script)
