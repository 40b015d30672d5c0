-- Steps of a race on its way to its end.
use Rattle.std.specs.Prelude.{◌≡◌, ◌⊎◌, ◌<◌, ℕ, List, true, Option}
use Rattle.nsi_disk.specs.Disk.{Meter}
use Rattle.nsi_outside.specs.Stream.{WritesAll, WritesFront}
use Rattle.nsi_script.specs.declared.script.Script.{Script}
use Rattle.stp_topology.specs.declared.network.Network.{Network}
use Rattle.fault_lines.specs.Counts.{Counts}
use Rattle.shared_provider.specs.Book.{counted}
use Rattle.race_command.specs.declared.ending.Outcome.{Outcome}
use Rattle.race_command.specs.declared.ending.RaceEnd.{RaceEnd}
use Rattle.race_command.specs.Ends.{Ends, RacesScript, CountsAs, is_told}

-- its disk has counted a fault or a stop where it has failed
abbrev pub CountsDisk : RaceEnd → Meter → Type 0
CountsDisk RaceEnd.DiskFault meter = 0 < counted meter
CountsDisk end meter = Unit {0}

-- what a race of the script came to, over a disk
pub record HasRaced (most : ℕ) (t : Network) (p : ℕ) (script : Script) (meter : Meter) (o : Outcome) : Type 0 where
  pub told : is_told o.end ≡ true
  pub races : RacesScript most t p script o.end o.text.items
  pub counts : CountsDisk o.end meter

-- the same over a shelf
pub record HasComeTo (most : ℕ) (t : Network) (p : ℕ) (script : Script) (before after : Counts) (o : Outcome) : Type 0 where
  pub told : is_told o.end ≡ true
  pub races : RacesScript most t p script o.end o.text.items
  pub counts : CountsAs o.end before after

-- what a race of these bytes came to
abbrev pub ComesTo : ℕ → List ℕ → Counts → Counts → Outcome → Type 0
ComesTo most bytes before after o = Ends most bytes before after o.end o.text.items

-- a text is written at last; or a front of it, where writing fails or memory is wanting
pub record Closes (text : List ℕ) (own end : RaceEnd) (old new : Option (List ℕ)) (faults_before faults_after : ℕ) : Type 0 where
  pub kind : (end ≡ own) ⊎ ((end ≡ RaceEnd.WriteFault) ⊎ (end ≡ RaceEnd.NoMemory))
  pub told : end ≡ own → WritesAll old new text
  pub front : WritesFront old new text
  pub write : end ≡ RaceEnd.WriteFault → faults_before < faults_after
  pub quiet : (end ≡ RaceEnd.WriteFault → ⊥) → faults_after ≡ faults_before

-- neither writing nor memory
pub record IsOwnEnd (end : RaceEnd) : Type 0 where
  pub write : end ≡ RaceEnd.WriteFault → ⊥
  pub memory : end ≡ RaceEnd.NoMemory → ⊥
