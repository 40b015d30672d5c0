-- What the command `check` writes.
use Rattle.std.specs.Prelude.{◌≡◌, ◌⊎◌, ℕ, List, [], ◌∷◌, ◌++◌, length, drop, map, nat_le, Bool, true, false, codes, decimal, Result, Ok, Err}
use Rattle.std.specs.List.{concat}
use Rattle.nsi_base.specs.Lines.{lines_of}
use Rattle.stp_topology.specs.declared.network.Network.{Network}
use Rattle.stp_topology.specs.declared.fault.TopologyFault.{TopologyFault}
use Rattle.stp_topology.specs.Network.{name_of, stp_name_of, sdps_of}
use Rattle.stp_topology.specs.Text.{topology_of}
use Rattle.path_segments.specs.declared.path.Segment.{Segment}
use Rattle.path_segments.specs.Paths.{IsPath, IsLess}
use Rattle.nsi_program.specs.declared.asked.Ask.{Ask}
use Rattle.nsi_program.specs.declared.asked.Wanted.{Wanted}
use Rattle.provide_command.specs.declared.status.Status.{Status}
use Rattle.nsi_program.specs.Asked.{ask_of}
use Rattle.fault_lines.specs.Lines.{as_line}
use Rattle.fault_lines.specs.Lines.{topology_fault}
use Rattle.nsi_base.specs.Range.{greatest_input}

---- Lines

-- how many agents, points and SDPs there are
abbrev pub count_line : Network → List ℕ
count_line t = as_line (codes "agents " ++ decimal (length t.agents) ++ codes " stps " ++ decimal (length t.stps) ++ codes " sdps " ++ decimal (sdps_of t))

abbrev pub name_text : List ℕ → List ℕ
name_text name = codes " " ++ name

-- the names of a segment's child, entry and exit
abbrev pub segment_text : Network → Segment → List ℕ
segment_text t x = name_text (name_of t x.child) ++ name_text (stp_name_of t x.entry) ++ name_text (stp_name_of t x.exit)

abbrev pub path_line : Network → List Segment → List ℕ
path_line t xs = as_line (codes "path" ++ concat (map (segment_text t) xs))

---- Answers

-- a path that is wanted, before which no other comes
pub record IsLeast (t : Network) (w : Wanted) (xs : List Segment) : Type 0 where
  pub path : IsPath t w.aggregator w.source w.dest xs
  pub least : (other : List Segment) → IsPath t w.aggregator w.source w.dest other → IsLess t w.aggregator other xs → ⊥

-- no path is one that is wanted
abbrev pub HasNone : Network → Wanted → Type 0
HasNone t w = (xs : List Segment) → IsPath t w.aggregator w.source w.dest xs → ⊥

-- the line of a least path, or that there is none
abbrev pub TellsPath : Network → Wanted → List ℕ → Type 0
TellsPath t w text = ((xs : List Segment) × IsLeast t w xs × (text ≡ path_line t xs)) ⊎ (HasNone t w × (text ≡ as_line (codes "nopath")))

abbrev pub Tells : Network → Ask → List ℕ → Type 0
Tells t Ask.Nothing text = text ≡ []
Tells t (Ask.Path w) text = TellsPath t w text
Tells t Ask.Bad text = text ≡ as_line (codes "bad")

-- the answer to a line behind the topology
abbrev pub Answers : Network → List ℕ → List ℕ → Type 0
Answers t line text = Tells t (ask_of t line) text

-- the answers to lines, one after another
abbrev pub AnswersAll : Network → List (List ℕ) → List ℕ → Type 0
AnswersAll t [] text = text ≡ []
AnswersAll t (line ∷ lines) text = (first : List ℕ) × (rest : List ℕ) × Answers t line first × AnswersAll t lines rest × (text ≡ first ++ rest)

-- the answers to the first of the lines, behind which others stand
abbrev pub AnswersUpTo : Network → (lines behind : List (List ℕ)) → List ℕ → Type 0
AnswersUpTo t lines behind text = (front : List (List ℕ)) × (lines ≡ front ++ behind) × AnswersAll t front text

-- the answers to the first of the lines
abbrev pub AnswersFront : Network → List (List ℕ) → List ℕ → Type 0
AnswersFront t lines text = (behind : List (List ℕ)) × AnswersUpTo t lines behind text

---- The whole

-- the count line, and behind it answers
abbrev pub Counts : Network → (List ℕ → Type 0) → List ℕ → Type 0
Counts t P text = (answers : List ℕ) × P answers × (text ≡ count_line t ++ answers)

-- what is read of a topology and the place behind it, or the number of a line and its fault
abbrev pub Read : Type 0
Read = Result (Network × ℕ) (ℕ × TopologyFault)

-- the count line and the answers to the lines behind the topology, or the topology's fault
abbrev pub ChecksRead : Read → List ℕ → Status → List ℕ → Type 0
ChecksRead (Ok read) bytes status text = (status ≡ Status.Done) × Counts read.0 (AnswersAll read.0 (lines_of (drop read.1 bytes))) text
ChecksRead (Err fault) bytes status text = (status ≡ Status.BadTopology) × (text ≡ topology_fault fault.0 fault.1)

abbrev pub ChecksIf : (fits : Bool) → List ℕ → Status → List ℕ → Type 0
ChecksIf true bytes status text = ChecksRead (topology_of bytes) bytes status text
ChecksIf false bytes status text = (status ≡ Status.Long) × (text ≡ as_line (codes "fault long"))

-- how `check` ends on these bytes, and all that it writes
abbrev pub Checks : List ℕ → Status → List ℕ → Type 0
Checks bytes status text = ChecksIf (nat_le (length bytes) greatest_input) bytes status text

-- the same, but for the answers to the last lines
abbrev pub BeginsRead : Read → List ℕ → List ℕ → Type 0
BeginsRead (Ok read) bytes text = Counts read.0 (AnswersFront read.0 (lines_of (drop read.1 bytes))) text
BeginsRead (Err fault) bytes text = text ≡ topology_fault fault.0 fault.1

abbrev pub BeginsIf : (fits : Bool) → List ℕ → List ℕ → Type 0
BeginsIf true bytes text = BeginsRead (topology_of bytes) bytes text
BeginsIf false bytes text = text ≡ as_line (codes "fault long")

-- all that `check` has written once it has answered some of the lines of these bytes
abbrev pub Begins : List ℕ → List ℕ → Type 0
Begins bytes text = BeginsIf (nat_le (length bytes) greatest_input) bytes text
