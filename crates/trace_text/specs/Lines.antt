-- The events of a run as lines.
use Rattle.std.specs.Prelude.{ℕ, List, [], ◌∷◌, ◌++◌, ◌<◌, length, codes, decimal, Option, Some, None}
use Rattle.std.specs.List.{flat_map}
use Rattle.nsi_base.specs.Words.{behind}
use Rattle.nsi_primitive.specs.Ids.{id_text}
use Rattle.nsi_primitive.specs.Printable.{IsPrintableEvent}
use Rattle.nsi_primitive.specs.States.{machine_text}
use Rattle.nsi_primitive.specs.declared.ask.AskAnswer.{AskAnswer}
use Rattle.nsi_primitive.specs.declared.entry.Event.{Event}
use Rattle.nsi_primitive.specs.declared.entry.Happening.{Happening}
use Rattle.nsi_primitive.specs.declared.entry.Input.{Input}
use Rattle.nsi_primitive.specs.declared.message.Parcel.{Parcel}
use Rattle.ask_text.specs.Asks.{ask_text}
use Rattle.json_primitives.specs.Spelling.{spelling, parcel_spelling}
use Rattle.stp_topology.specs.Network.{name_of}
use Rattle.stp_topology.specs.declared.network.Network.{Network}

-- the first word of a line
abbrev pub input_verb : Input → List ℕ
input_verb (Input.Ask number ask) = codes "ask"
input_verb (Input.Got message) = codes "got"
input_verb (Input.Work number machine) = codes "work"
input_verb Input.Tick = codes "tick"
input_verb (Input.Force number) = codes "force"
input_verb (Input.Acked identity) = codes "acked"

abbrev pub verb_of : Happening → List ℕ
verb_of (Happening.Entry entry answer) = input_verb entry.input
verb_of (Happening.Sync count) = codes "sync"
verb_of (Happening.Restart count) = codes "restart"

-- what was answered to an ask
unfoldable pub answer_text : AskAnswer → List ℕ
answer_text AskAnswer.Sent = codes "sent"
answer_text AskAnswer.NoId = codes "noid"
answer_text (AskAnswer.Outstanding correlation) = codes "outstanding=" ++ id_text correlation

abbrev pub answer_words : Option AskAnswer → List (List ℕ)
answer_words None = []
answer_words (Some answer) = answer_text answer ∷ []

-- the words behind the agent's name
abbrev pub input_words : ℕ → Input → Option AskAnswer → List (List ℕ)
input_words second (Input.Ask number ask) answer = answer_words answer ++ ask_text ask ∷ []
input_words second (Input.Got message) answer = spelling message ∷ []
input_words second (Input.Work number machine) answer = decimal number ∷ machine_text machine ∷ []
input_words second Input.Tick answer = decimal second ∷ []
input_words second (Input.Force number) answer = decimal number ∷ []
input_words second (Input.Acked identity) answer = parcel_spelling (Parcel.Ack identity) ∷ []

abbrev pub what_words : Happening → List (List ℕ)
what_words (Happening.Entry entry answer) = input_words entry.second entry.input answer
what_words (Happening.Sync count) = decimal count ∷ []
what_words (Happening.Restart count) = decimal count ∷ []

-- the line of an event, with its line feed: what happened, the agent's name, and what there is to say of it
unfoldable pub line_of : Network → Event → List ℕ
line_of t e = verb_of e.what ++ (behind (name_of t e.agent ∷ what_words e.what) ++ 10 ∷ [])

-- the text of a run
abbrev pub text_of : Network → List Event → List ℕ
text_of t events = flat_map (line_of t) events

-- the event has a line: its agent is one of the topology, and what happened has a spelling
pub record HasLine (t : Network) (e : Event) : Type 0 where
  pub agent : e.agent < length t.agents
  pub printable : IsPrintableEvent e
