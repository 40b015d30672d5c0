-- What is found of a trace.
use Rattle.std.specs.Prelude.{◌≡◌, ◌≢◌, ◌⊎◌, ℕ, ◌+◌, true, false, List, [], ◌∷◌, ◌++◌, length, Result, Ok, Err}
use Rattle.nsi_primitive.specs.Ranges.{IsRangedEvent}
use Rattle.nsi_primitive.specs.declared.entry.Event.{Event}
use Rattle.stp_topology.specs.declared.network.Network.{Network}
use Rattle.nsi_world.specs.Worlds.{Homes}
use Rattle.nsi_world.specs.Runs.{IsAllowed}
use Rattle.trace_verify.specs.Lines.{is_closing, settled_line}
use Rattle.trace_verify.specs.Traces.{IsTraceAlone, IsLineOf, IsBeyond, GoesOnBy, world_of}
use Rattle.trace_verify.specs.declared.verdict.Verdict.{Verdict}
use Rattle.trace_verify.specs.declared.verdict.VerifyFault.{VerifyFault}
use Rattle.trace_verify.specs.declared.verdict.Why.{Why}

-- the first lines are the text of these events, and of no others, and behind them stand those
pub record Splits (t : Network) (homes : Homes) (lines : List (List ℕ)) (es : List Event) (behind : List (List ℕ)) : Type 0 where
  pub first : List (List ℕ)
  pub whole : lines ≡ first ++ behind
  pub trace : IsTraceAlone t homes first es

-- the whole is the text of a run of so many events, and behind it a line that tells how many
pub record IsWhole (t : Network) (homes : Homes) (lines : List (List ℕ)) (events : ℕ) : Type 0 where
  pub run : List Event
  pub splits : Splits t homes lines run (settled_line events ∷ [])
  pub many : events ≡ length run

-- The next line is that of no event but of an ask too many, and doesn't end a trace.
pub record HasNoForm (t : Network) (homes : Homes) (es : List Event) (line : List ℕ) : Type 0 where
  pub ends_none : is_closing line ≡ false
  pub none : (e : Event) → IsRangedEvent e → IsLineOf t homes es line e → IsBeyond es e

-- It is that of an event, and of no other, which may not happen there.
pub record IsNotAllowed (t : Network) (homes : Homes) (es : List Event) (line : List ℕ) : Type 0 where
  pub event : Event
  pub line_of : IsLineOf t homes es line event
  pub alone : (e : Event) → IsRangedEvent e → IsLineOf t homes es line e → e ≡ event
  pub within : IsBeyond es event → ⊥
  pub refused : IsAllowed homes (world_of es) event → ⊥

-- it would end the trace of another number of events
pub record IsOtherEnd (es : List Event) (line : List ℕ) : Type 0 where
  pub closing : is_closing line ≡ true
  pub other : line ≢ settled_line (length es)

-- what stands behind a run that it doesn't go on with
abbrev pub BreaksBy : Why → Network → Homes → List Event → List (List ℕ) → Type 0
BreaksBy Why.Form t homes es (line ∷ lines) = HasNoForm t homes es line
BreaksBy Why.NotAllowed t homes es (line ∷ lines) = IsNotAllowed t homes es line
BreaksBy Why.End t homes es (line ∷ lines) = IsOtherEnd es line
BreaksBy Why.End t homes es [] = Unit {0}
BreaksBy why t homes es [] = ⊥

-- behind the text of a run stands what it doesn't go on with, and the first line of that is this
pub record Breaks (t : Network) (homes : Homes) (first_line : ℕ) (lines : List (List ℕ)) (line : ℕ) (why : Why) : Type 0 where
  pub run : List Event
  pub behind : List (List ℕ)
  pub splits : Splits t homes lines run behind
  pub breaks : BreaksBy why t homes run behind
  pub place : line ≡ first_line + length run

-- behind the text of a run stand the line that ends it, and one more, which is this
pub record GoesPast (t : Network) (homes : Homes) (first_line : ℕ) (lines : List (List ℕ)) (line : ℕ) : Type 0 where
  pub run : List Event
  pub next : List ℕ
  pub behind : List (List ℕ)
  pub splits : Splits t homes lines run (settled_line (length run) ∷ next ∷ behind)
  pub place : line ≡ first_line + length run + 1

abbrev pub EndsBadly : Why → Network → Homes → ℕ → List (List ℕ) → ℕ → Type 0
EndsBadly Why.End t homes first_line lines line = GoesPast t homes first_line lines line
EndsBadly why t homes first_line lines line = ⊥

-- what is found of lines, of which the first has that number
abbrev pub Tells : Network → Homes → ℕ → List (List ℕ) → Verdict → Type 0
Tells t homes first_line lines (Verdict.Run events) = IsWhole t homes lines events
Tells t homes first_line lines (Verdict.Not line why) = Breaks t homes first_line lines line why ⊎ EndsBadly why t homes first_line lines line

-- a run of as many events as are to be followed goes on by one more
pub record IsTooLong (t : Network) (homes : Homes) (limit : ℕ) (lines : List (List ℕ)) : Type 0 where
  pub run : List Event
  pub next : List ℕ
  pub behind : List (List ℕ)
  pub event : Event
  pub splits : Splits t homes lines run (next ∷ behind)
  pub goes : GoesOnBy t homes run next event
  pub many : length run ≡ limit

abbrev pub Finds : Network → Homes → (first_line limit : ℕ) → List (List ℕ) → Result Verdict VerifyFault → Type 0
Finds t homes first_line limit lines (Ok verdict) = Tells t homes first_line lines verdict
Finds t homes first_line limit lines (Err VerifyFault.Long) = IsTooLong t homes limit lines
Finds t homes first_line limit lines (Err VerifyFault.NoMemory) = Unit {0}
