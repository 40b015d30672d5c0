-- How the command ends on an input, and all that it writes.
use Rattle.std.specs.Prelude.{◌≡◌, ◌⊎◌, ◌+◌, ℕ, Bool, true, false, List, [], length, nat_le, Result, Ok, Err}
use Rattle.nsi_base.specs.Lines.{lines_of}
use Rattle.nsi_base.specs.Range.{greatest_input}
use Rattle.stp_topology.specs.Network.{nothing}
use Rattle.stp_topology.specs.Text.{behind_lines, read_lines}
use Rattle.stp_topology.specs.declared.fault.TopologyFault.{TopologyFault}
use Rattle.stp_topology.specs.declared.network.Network.{Network}
use Rattle.nsi_agent.specs.Homes.{Routes, AreRoutes, home_in}
use Rattle.fault_lines.specs.Lines.{long_line, topology_fault}
use Rattle.trace_verify.specs.Lines.{trace_lines}
use Rattle.trace_verify.specs.Verdicts.{IsTooLong, Tells}
use Rattle.trace_verify.specs.declared.verdict.Verdict.{Verdict}
use Rattle.verify_command.specs.Texts.{verdict_line}
use Rattle.verify_command.specs.declared.end.VerifyEnd.{VerifyEnd}

-- it is what is found of the lines, of which the first has that number, whichever legs are those of the least paths
abbrev pub IsFound : Network → (first_line : ℕ) → List (List ℕ) → Verdict → Type 0
IsFound t first_line lines verdict = (routes : Routes) → AreRoutes t routes → Tells t (home_in t routes) first_line lines verdict

abbrev pub HasMore : Network → (limit : ℕ) → List (List ℕ) → Type 0
HasMore t limit lines = (routes : Routes) → AreRoutes t routes → IsTooLong t (home_in t routes) limit lines

abbrev pub VerifiesLines : (limit : ℕ) → Network → (first_line : ℕ) → List (List ℕ) → VerifyEnd → List ℕ → Type 0
VerifiesLines limit t first_line lines VerifyEnd.Done text = (verdict : Verdict) × IsFound t first_line lines verdict × (text ≡ verdict_line verdict)
VerifiesLines limit t first_line lines VerifyEnd.Long text = HasMore t limit lines × (text ≡ long_line)
VerifiesLines limit t first_line lines end text = ⊥

abbrev pub VerifiesRead : (limit : ℕ) → List ℕ → Result (Network × ℕ) (ℕ × TopologyFault) → VerifyEnd → List ℕ → Type 0
VerifiesRead limit bytes (Ok read) end text = VerifiesLines limit read.0 (read.1 + 1) (trace_lines (behind_lines read.1 bytes)) end text
VerifiesRead limit bytes (Err e) end text = (end ≡ VerifyEnd.BadTopology) × (text ≡ topology_fault e.0 e.1)

abbrev pub VerifiesIf : (fits : Bool) → (limit : ℕ) → List ℕ → VerifyEnd → List ℕ → Type 0
VerifiesIf true limit bytes end text = VerifiesRead limit bytes (read_lines nothing 0 (lines_of bytes)) end text
VerifiesIf false limit bytes end text = (end ≡ VerifyEnd.Long) × (text ≡ long_line)

abbrev pub Verifies : (limit : ℕ) → List ℕ → VerifyEnd → List ℕ → Type 0
Verifies limit bytes end text = VerifiesIf (nat_le (length bytes) greatest_input) limit bytes end text
