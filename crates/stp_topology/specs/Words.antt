-- Names and numbers of a line.
use Rattle.std.specs.Prelude.{ℕ, List, if◌then◌else◌, Result, Ok, Err}
use Rattle.nsi_base.specs.Bytes.{is_name}
use Rattle.nsi_base.specs.Digits.{number_of}
use Rattle.stp_topology.specs.declared.fault.TopologyFault.{TopologyFault}
use Rattle.stp_topology.specs.declared.fault.TopologyFault.TheVariants.{Word}
use Rattle.stp_topology.specs.Faults.{value_or}

-- a word that is to be a name
abbrev pub name_form : List ℕ → Result (List ℕ) TopologyFault
name_form word = if is_name word then Ok word else Err Word

-- a word that is to be a number of the range
abbrev pub number_form : ℕ → ℕ → List ℕ → Result ℕ TopologyFault
number_form low high word = value_or Word (number_of low high word)
