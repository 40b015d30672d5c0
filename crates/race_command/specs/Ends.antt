-- How a race ends, and all that is written.
use Rattle.std.specs.Prelude.{◌≡◌, ◌≤◌, ◌<◌, ◌+◌, ◌⊎◌, ℕ, List, ◌++◌, length, codes, decimal, nat_le, Bool, true, false, take, Option, Some, None, Result, Ok, Err, IfSome}
use Rattle.nsi_base.specs.Lines.{lines_of}
use Rattle.nsi_base.specs.Range.{greatest_input}
use Rattle.nsi_outside.specs.Stream.{WritesFront}
use Rattle.nsi_primitive.specs.declared.entry.Event.{Event}
use Rattle.stp_topology.specs.declared.network.Network.{Network}
use Rattle.stp_topology.specs.declared.fault.TopologyFault.{TopologyFault}
use Rattle.stp_topology.specs.declared.fault.TopologyFault.TheVariants.{Empty}
use Rattle.stp_topology.specs.Network.{nothing, first_provider, name_of}
use Rattle.stp_topology.specs.Text.{read_lines, behind_lines}
use Rattle.nsi_script.specs.declared.fault.ScriptFault.{ScriptFault}
use Rattle.nsi_script.specs.declared.script.Script.{Script}
use Rattle.nsi_script.specs.Scripts.{acts_of}
use Rattle.fault_lines.specs.Counts.{Counts, HasDiskFault}
use Rattle.fault_lines.specs.Lines.{as_line, topology_fault, script_fault, disk_fault_line, long_line, read_fault_line}
use Rattle.trace_text.specs.Lines.{line_of, text_of}
use Rattle.race_run.specs.declared.item.Difference.{Difference}
use Rattle.race_run.specs.Scripts.{start_of}
use Rattle.race_threads.specs.Raced.{IsRaced, HasDiffered}
use Rattle.race_command.specs.declared.ending.RaceEnd.{RaceEnd}
use Rattle.race_command.specs.Lines.{race_script_of}

---- Texts

-- the last line of a race of so many events
abbrev pub raced_line : (events committed : ℕ) → List ℕ
raced_line events committed = as_line (codes "raced " ++ decimal events ++ codes " committed " ++ decimal committed)

-- the line of an event, or that there is none
abbrev pub line_or_none : Network → Option Event → List ℕ
line_or_none t None = as_line (codes "none")
line_or_none t (Some event) = line_of t event

-- where a list that was kept and one that was found differ, and both events there
abbrev pub differ_lines : Network → Difference → List ℕ
differ_lines t d = as_line (codes "fault differ " ++ decimal d.place) ++ line_or_none t d.kept ++ line_or_none t d.found

---- Races

-- the provider's history that a race of this script came to, with so many connections committed
pub record Came (t : Network) (p : ℕ) (script : Script) (events : List Event) (committed : ℕ) (text : List ℕ) : Type 0 where
  pub raced : IsRaced t p (start_of script.groups) (acts_of script.groups) events committed
  pub written : text ≡ text_of t events ++ raced_line (length events) committed

-- what is written of a race of at most so many events
abbrev pub RacesScript : ℕ → Network → ℕ → Script → RaceEnd → List ℕ → Type 0
RacesScript most t p script RaceEnd.Done text = (events : List Event) × (committed : ℕ) × Came t p script events committed text × (length events ≤ most)
RacesScript most t p script RaceEnd.Long text =
    (events : List Event) × (committed : ℕ) × IsRaced t p (start_of script.groups) (acts_of script.groups) events committed × (most < length events) × (text ≡ long_line)
RacesScript most t p script RaceEnd.Differ text = (d : Difference) × HasDiffered t p (start_of script.groups) (acts_of script.groups) d × (text ≡ differ_lines t d)
RacesScript most t p script RaceEnd.DiskFault text = text ≡ disk_fault_line (name_of t p)
RacesScript most t p script end text = ⊥

abbrev pub RacesRead : ℕ → Network → ℕ → Result Script (ℕ × ScriptFault) → RaceEnd → List ℕ → Type 0
RacesRead most t p (Err fault) end text = (end ≡ RaceEnd.BadScript) × (text ≡ script_fault fault.0 fault.1)
RacesRead most t p (Ok script) end text = RacesScript most t p script end text

-- the first provider of a topology on so many lines is raced; where there is none, the last of these is faulty
abbrev pub RacesBy : ℕ → List ℕ → Network → ℕ → Option ℕ → RaceEnd → List ℕ → Type 0
RacesBy most bytes t lines None end text = (end ≡ RaceEnd.BadTopology) × (text ≡ topology_fault lines Empty)
RacesBy most bytes t lines (Some p) end text = RacesRead most t p (race_script_of t p (lines + 1) (behind_lines lines bytes)) end text

abbrev pub RacesTopology : ℕ → List ℕ → Result (Network × ℕ) (ℕ × TopologyFault) → RaceEnd → List ℕ → Type 0
RacesTopology most bytes (Err fault) end text = (end ≡ RaceEnd.BadTopology) × (text ≡ topology_fault fault.0 fault.1)
RacesTopology most bytes (Ok read) end text = RacesBy most bytes read.0 read.1 (first_provider read.0) end text

abbrev pub RacesIf : (fits : Bool) → ℕ → List ℕ → RaceEnd → List ℕ → Type 0
RacesIf true most bytes end text = RacesTopology most bytes (read_lines nothing 0 (lines_of bytes)) end text
RacesIf false most bytes end text = (end ≡ RaceEnd.Long) × (text ≡ long_line)

-- a race may end so on these bytes, and that is all that it writes
abbrev pub Races : ℕ → List ℕ → RaceEnd → List ℕ → Type 0
Races most bytes end text = RacesIf (nat_le (length bytes) greatest_input) most bytes end text

---- What is written

-- an end of which all is written
abbrev pub is_told : RaceEnd → Bool
is_told RaceEnd.NoMemory = false
is_told RaceEnd.ReadFault = false
is_told RaceEnd.WriteFault = false
is_told _ = true

-- where the sink tells, a text of which it holds was appended
abbrev pub WritesSome : (List ℕ → Type 0) → Option (List ℕ) → Option (List ℕ) → Type 0
WritesSome P old new = IfSome old (λ c. (text : List ℕ) × P text × (new ≡ Some (c ++ text)))

-- where the sink tells, a front of a text of which it holds was appended
abbrev pub WritesSomeFront : (List ℕ → Type 0) → Option (List ℕ) → Option (List ℕ) → Type 0
WritesSomeFront P old new = IfSome old (λ c. (text : List ℕ) × (k : ℕ) × P text × (new ≡ Some (c ++ take k text)))

-- a disk that has failed was counted
abbrev pub CountsAs : RaceEnd → Counts → Counts → Type 0
CountsAs RaceEnd.DiskFault before after = HasDiskFault before after
CountsAs end before after = Unit {0}

-- a race of these bytes may end so, and has counted that
pub record Ends (most : ℕ) (bytes : List ℕ) (before after : Counts) (end : RaceEnd) (text : List ℕ) : Type 0 where
  pub told : is_told end ≡ true
  pub races : Races most bytes end text
  pub counts : CountsAs end before after

-- Writing was cut short, or memory is wanting: nothing is written, or a front of what a race of these bytes writes or, where reading failed, of that line.
abbrev pub IsCutShort : ℕ → (content left : Option (List ℕ)) → (before after : Counts) → Option (List ℕ) → Type 0
IsCutShort most content left before after new =
    (new ≡ content) ⊎ ((after.reads ≡ before.reads) × IfSome left (λ bytes. WritesSomeFront (λ text. (end : RaceEnd) × Ends most bytes before after end text) content new))
    ⊎ ((before.reads < after.reads) × WritesFront content new read_fault_line)
