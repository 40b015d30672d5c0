-- Which lines are the text of a run.
use Rattle.std.specs.Prelude.{◌≡◌, ◌≤◌, ℕ, List, length, map}
use Rattle.std.specs.List.{All}
use Rattle.nsi_primitive.specs.Ranges.{IsRangedEvent}
use Rattle.nsi_primitive.specs.declared.entry.Event.{Event}
use Rattle.nsi_primitive.specs.declared.entry.Happening.{Happening}
use Rattle.nsi_primitive.specs.declared.entry.Input.{Input}
use Rattle.stp_topology.specs.declared.network.Network.{Network}
use Rattle.trace_text.specs.Lines.{line_of}
use Rattle.trace_reader.specs.Moments.{IsEventOf}
use Rattle.nsi_agent.specs.Told.{told}
use Rattle.nsi_world.specs.Worlds.{Homes, World, empty}
use Rattle.nsi_world.specs.Runs.{IsAllowed, IsRun, asks_of, world_after}
use Rattle.trace_verify.specs.Lines.{ended}

-- how many asks a trace has at most
abbrev pub most_asks : ℕ
most_asks = 100000

-- the lines are the text of these events, which are a run of no more asks than a trace has
pub record IsTraceOf (t : Network) (homes : Homes) (lines : List (List ℕ)) (es : List Event) : Type 0 where
  pub run : IsRun homes es
  pub few : length (asks_of es) ≤ most_asks
  pub text : map ended lines ≡ map (line_of t) es

-- and of no other events, whose numbers are within their ranges
pub record IsTraceAlone (t : Network) (homes : Homes) (lines : List (List ℕ)) (es : List Event) : Type 0 where
  pub trace : IsTraceOf t homes lines es
  pub alone : (fs : List Event) → All IsRangedEvent fs → IsTraceOf t homes lines fs → fs ≡ es

---- What stands next

-- the world that these events make, and the second of each agent in it
abbrev pub world_of : List Event → World
world_of es = world_after empty es

abbrev pub seconds_in : Homes → World → ℕ → ℕ
seconds_in homes w a = (told (homes a) (w.journal a)).state.base.now

-- the line is that of the event, behind these
abbrev pub IsLineOf : Network → Homes → List Event → List ℕ → Event → Type 0
IsLineOf t homes es line e = IsEventOf t (seconds_in homes (world_of es)) (length (asks_of es)) line e

abbrev pub IsAsk : Input → Type 0
IsAsk (Input.Ask number ask) = Unit {0}
IsAsk _ = ⊥

abbrev pub HasAsk : Happening → Type 0
HasAsk (Happening.Entry entry answer) = IsAsk entry.input
HasAsk _ = ⊥

-- it is an ask, behind as many as a trace has
abbrev pub IsBeyond : List Event → Event → Type 0
IsBeyond es e = HasAsk e.what × (length (asks_of es) ≡ most_asks)

-- the line is that of an event that may happen next
pub record GoesOnBy (t : Network) (homes : Homes) (es : List Event) (line : List ℕ) (e : Event) : Type 0 where
  pub line_of : IsLineOf t homes es line e
  pub allowed : IsAllowed homes (world_of es) e
  pub within : IsBeyond es e → ⊥
