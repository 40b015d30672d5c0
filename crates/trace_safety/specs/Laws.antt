-- What is known of a trace that was found to be the text of a run, and of which texts are.
use Rattle.std.specs.Prelude.{◌≡◌, ◌≤◌, ◌⊎◌, ℕ, List, [], ◌∷◌, ◌++◌, length, map, Result, Ok, Err}
use Rattle.std.specs.List.{All}
use Rattle.nsi_base.specs.Lines.{lines_of}
use Rattle.nsi_base.specs.Range.{greatest_input}
use Rattle.nsi_primitive.specs.Ranges.{IsRangedEvent}
use Rattle.nsi_primitive.specs.declared.entry.Event.{Event}
use Rattle.stp_topology.specs.Laws.{IsWellFormed}
use Rattle.stp_topology.specs.Network.{nothing}
use Rattle.stp_topology.specs.Sound.{IsSound}
use Rattle.stp_topology.specs.Text.{behind_lines, read_lines}
use Rattle.stp_topology.specs.declared.network.Network.{Network}
use Rattle.trace_text.specs.Lines.{line_of, text_of}
use Rattle.trace_reader.specs.Laws.{HasNames}
use Rattle.nsi_agent.specs.Homes.{Routes, AreRoutes, home_in}
use Rattle.nsi_world.specs.Runs.{IsRun, asks_of}
use Rattle.circuit_laws.specs.Safe.{IsSafeRun}
use Rattle.trace_verify.specs.Lines.{ended, settled_line, trace_lines}
use Rattle.trace_verify.specs.Traces.{most_asks}
use Rattle.trace_verify.specs.Verdicts.{Finds, Tells}
use Rattle.trace_verify.specs.declared.verdict.Verdict.{Verdict}
use Rattle.trace_verify.specs.declared.verdict.VerifyFault.{VerifyFault}
use Rattle.verify_command.specs.Texts.{run_line}
use Rattle.verify_command.specs.Verifies.{Verifies}
use Rattle.verify_command.specs.declared.end.VerifyEnd.{VerifyEnd}

-- the bytes are the lines of a run's events, one after another, and behind them the line that tells how many there are; and the run is safe
pub record AreOfSafeRun (t : Network) (routes : Routes) (text : List ℕ) (events : ℕ) : Type 0 where
  pub run : List Event
  pub safe : IsSafeRun t routes run
  pub many : events ≡ length run
  pub lines : map ended (trace_lines text) ≡ map (line_of t) run ++ ended (settled_line events) ∷ []

-- in a topology that a text gives, whoever made the trace
abbrev pub RunsFoundAreSafe : Type 0
RunsFoundAreSafe =
    (t : Network) (routes : Routes) (text : List ℕ) (first_line events : ℕ) → IsSound t → IsWellFormed t → AreRoutes t routes
    → Tells t (home_in t routes) first_line (trace_lines text) (Verdict.Run events) → AreOfSafeRun t routes text events

-- what is printed of events: the line of each, and the one that tells how many there are
abbrev pub printed : Network → List Event → List ℕ
printed t es = text_of t es ++ ended (settled_line (length es))

-- A run of no more asks than a trace has. What the types of events say is taken for granted: numbers within their ranges.
pub record IsPrintedRun (t : Network) (routes : Routes) (es : List Event) : Type 0 where
  pub names : HasNames t
  pub run : IsRun (home_in t routes) es
  pub ranged : All IsRangedEvent es
  pub few : length (asks_of es) ≤ most_asks

-- what is printed of a run is found to be one, by whoever follows as many events and has memory for it
abbrev pub RunsAreFound : Type 0
RunsAreFound =
    (t : Network) (routes : Routes) (es : List Event) (first_line limit : ℕ) (found : Result Verdict VerifyFault) → IsPrintedRun t routes es → length es ≤ limit
    → Finds t (home_in t routes) first_line limit (trace_lines (printed t es)) found → (found ≡ Ok (Verdict.Run (length es))) ⊎ (found ≡ Err VerifyFault.NoMemory)

-- an input: a topology, and behind it what is printed of a run
pub record HasRun (t : Network) (es : List Event) (bytes : List ℕ) : Type 0 where
  pub fits : length bytes ≤ greatest_input
  pub lines : ℕ
  pub topology : read_lines nothing 0 (lines_of bytes) ≡ Ok (t, lines)
  pub behind : behind_lines lines bytes ≡ printed t es

-- and so the command answers: it is done, and has written how many events there are
abbrev pub RunsAreVerified : Type 0
RunsAreVerified =
    (t : Network) (routes : Routes) (es : List Event) (bytes text : List ℕ) (limit : ℕ) (end : VerifyEnd) → AreRoutes t routes → IsPrintedRun t routes es → HasRun t es bytes → length es ≤ limit
    → Verifies limit bytes end text → (end ≡ VerifyEnd.Done) × (text ≡ run_line (length es))
