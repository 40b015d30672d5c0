-- The lines of faults that a command ends with.
use Rattle.std.specs.Prelude.{ℕ, List, [], ◌∷◌, ◌++◌, codes, decimal}
use Rattle.stp_topology.specs.Faults.{fault_name}
use Rattle.stp_topology.specs.declared.fault.TopologyFault.{TopologyFault}
use Rattle.nsi_script.specs.Faults.{fault_name as script_fault_name}
use Rattle.nsi_script.specs.declared.fault.ScriptFault.{ScriptFault}

-- bytes as a line
abbrev pub as_line : List ℕ → List ℕ
as_line bytes = bytes ++ 10 ∷ []

-- the first faulty line of a topology
abbrev pub topology_fault : ℕ → TopologyFault → List ℕ
topology_fault number fault = as_line (codes "fault topology " ++ decimal number ++ codes " " ++ fault_name fault)

-- the first faulty line of a script
abbrev pub script_fault : ℕ → ScriptFault → List ℕ
script_fault number fault = as_line (codes "fault script " ++ decimal number ++ codes " " ++ script_fault_name fault)

-- the journal of that agent has no reading from that place on
abbrev pub journal_fault : List ℕ → ℕ → List ℕ
journal_fault name place = as_line (codes "fault journal " ++ name ++ codes " " ++ decimal place)

-- the disk of that agent failed or stopped
abbrev pub disk_fault_line : List ℕ → List ℕ
disk_fault_line name = as_line (codes "fault disk " ++ name)

-- the input has more bytes than are taken, or there are too many events
abbrev pub long_line : List ℕ
long_line = as_line (codes "fault long")

-- reading failed
abbrev pub read_fault_line : List ℕ
read_fault_line = as_line (codes "fault read")
