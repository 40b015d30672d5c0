-- A topology, and the text behind it.
use Rattle.std.specs.Prelude.{◌≡◌, ℕ, List, Result, Ok, Err}
use Rattle.nsi_base.specs.Lines.{lines_of}
use Rattle.stp_topology.specs.declared.fault.TopologyRefusal.{TopologyRefusal}
use Rattle.stp_topology.specs.declared.fault.TopologyRefusal.TheVariants.{Fault, NoMemory}
use Rattle.stp_topology.specs.Network.{nothing}
use Rattle.stp_topology.specs.Text.{read_lines, behind_lines}
use Rattle.topology_input.specs.declared.Declared.{Declared}

-- the topology stands on these first lines, and that text behind it
pub record IsDeclared (text : List ℕ) (d : Declared) : Type 0 where
  pub read : read_lines nothing 0 (lines_of text) ≡ Ok (d.topology, d.lines)
  pub behind : d.behind.now ≡ behind_lines d.lines text

-- what reading returned is what the text says, unless memory ran out
abbrev pub Declares : List ℕ → Result Declared TopologyRefusal → Type 0
Declares text (Ok d) = IsDeclared text d
Declares text (Err (Fault line fault)) = read_lines nothing 0 (lines_of text) ≡ Err (line, fault)
Declares text (Err NoMemory) = Unit {0}
