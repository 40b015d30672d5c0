-- What lines of the topology come to.
use Rattle.std.specs.Prelude.{◌≡◌, ◌<◌, ◌≤◌, ◌+◌, Bool, true, false, OnOk, IsErrOf, ℕ, List, length, Option, Some, Result, Ok}
use Rattle.stp_topology.specs.declared.fault.TopologyFault.{TopologyFault}
use Rattle.stp_topology.specs.declared.network.Network.{Network}
use Rattle.stp_topology.specs.declared.topology.Taken.{Taken}
use Rattle.stp_topology.specs.Network.{first_provider}
use Rattle.stp_topology.specs.Sound.{IsProvider}
use Rattle.provide_command.specs.Outcome.{declared}
use Rattle.provide_command.specs.Phases.{Reading, in_topology, goes_to, ends_as}
use Rattle.line_reader.specs.Given.{Given, TakesLine}
use Rattle.line_reader.specs.Held.{CutsLine}
use Rattle.stp_topology.specs.Text.{of_line}
use Rattle.provide_command.specs.Cut.{TakesOn}
use Rattle.provide_command.specs.Promise.{Writes, promised, promise_of, ended, IsSameEnd}
use Rattle.provide_command.specs.UpTo.{IsBegun}
use Rattle.provide_command.specs.declared.output.Fault.{Fault}
use Rattle.provide_command.specs.declared.declaring.Declaration.{Declaration}
use Rattle.provide_command.specs.declared.declaring.Declared.{Declared}

-- it is served
pub record IsOpening (t : Network) (provider : ℕ) : Type 0 where
  pub first : first_provider t ≡ Some provider
  pub within : provider < length t.agents
  pub provides : IsProvider t provider

-- What was made of a line: there are more to come; the topology is whole and has a provider, and nothing is written yet; or the command ends.
abbrev pub DeclaresLine : Reading → ℕ → ℕ → Result Taken TopologyFault → Option (List ℕ) → Option (List ℕ) → Declared → Type 0
DeclaresLine read most number taken content new (Declared.More t) = ((declared read most number taken).step ≡ goes_to (in_topology (record { topology = t; most = most }))) × Writes content new (declared read most number taken).text
DeclaresLine read most number taken content new (Declared.Whole t provider) = (taken ≡ Ok (Taken.Whole t)) × IsOpening t provider × (new ≡ content)
DeclaresLine read most number taken content new (Declared.End ending) = ((declared read most number taken).step ≡ ends_as ending) × Writes content new (declared read most number taken).text

-- What came of taking the next line: how it will end doesn't change; a whole topology is one line behind.
abbrev pub DeclaresNext : Reading → ℕ → ℕ → Network → (content rest : Option (List ℕ)) → Option Given → (new new_rest : Option (List ℕ)) → Option Given → Declared → Type 0
DeclaresNext read most number t content rest given new new_rest new_given (Declared.More next) =
    IsSameEnd (promised read number (in_topology (record { topology = t; most = most })) content given) (promised read (number + 1) (in_topology (record { topology = next; most = most })) new new_given)
    × TakesOn read number (in_topology (record { topology = t; most = most })) content rest given new new_rest new_given (in_topology (record { topology = next; most = most }))
DeclaresNext read most number t content rest given new new_rest new_given (Declared.Whole next provider) =
    (line : List ℕ) × TakesLine given new_given line × CutsLine rest new_rest line × (of_line t line ≡ Ok (Taken.Whole next)) × IsOpening next provider × (new ≡ content)
DeclaresNext read most number t content rest given new new_rest new_given (Declared.End ending) =
    IsSameEnd (promised read number (in_topology (record { topology = t; most = most })) content given) (ended ending new)

abbrev pub goes_further : Declared → Bool
goes_further (Declared.End ending) = false
goes_further _ = true

-- The counts of source and sink rise only where reading or writing failed; each such fault raised its own.
pub record HasFaultCounts {A : Type 0} (result : Result A Fault) (reads now_reads writes now_writes : ℕ) : Type 0 where
  pub read : IsErrOf result Fault.Read → reads < now_reads
  pub write : IsErrOf result Fault.Write → writes < now_writes
  pub quiet_in : OnOk result (now_reads ≡ reads)
  pub quiet_out : OnOk result (now_writes ≡ writes)
  pub write_in : IsErrOf result Fault.Write → now_reads ≡ reads
  pub read_out : IsErrOf result Fault.Read → now_writes ≡ writes
  pub memory_in : IsErrOf result Fault.NoMemory → now_reads ≡ reads
  pub memory_out : IsErrOf result Fault.NoMemory → now_writes ≡ writes

-- as many lines as that may follow the one that made the topology whole
abbrev pub LeavesFew : ℕ → Declaration → Type 0
LeavesFew left (Declaration.Begun b) = b.number + left ≤ 67108865
LeavesFew left (Declaration.Ended ending) = Unit {0}

-- what the lines of the topology come to: a whole topology, or an end as every journal promises it
abbrev pub ComesTo : ℕ → (first start new rest : Option (List ℕ)) → Option Given → Declaration → Type 0
ComesTo most first start new rest given (Declaration.Begun b) = IsOpening b.topology b.provider × (b.most ≡ most) × IsBegun most first start b.number b.topology b.provider new rest given
ComesTo most first start new rest given (Declaration.Ended ending) = (read : Reading) → IsSameEnd (promise_of read most first start) (ended ending new)
