-- Which event a line is, numbers with leading zeros and other spellings allowed.
use Rattle.std.specs.Prelude.{ℕ, List, ◌+◌, take, drop, ◌==◌, nat_eq, codes, if◌then◌else◌, Option, Some, None, option_map, Result, Ok}
use Rattle.std.specs.List.{position_from, starts_with}
use Rattle.std.specs.Str.{bytes_eq}
use Rattle.nsi_base.specs.Digits.{number_of}
use Rattle.nsi_base.specs.Options.{◌>>=◌}
use Rattle.nsi_base.specs.Range.{greatest_second, greatest_record}
use Rattle.nsi_primitive.specs.Ids.{id_from_text}
use Rattle.nsi_primitive.specs.States.{machine_named}
use Rattle.nsi_primitive.specs.declared.ask.AskAnswer.{AskAnswer}
use Rattle.nsi_primitive.specs.declared.entry.Event.{Event}
use Rattle.nsi_primitive.specs.declared.entry.Happening.{Happening}
use Rattle.nsi_primitive.specs.declared.entry.Input.{Input}
use Rattle.nsi_primitive.specs.declared.message.Identity.{Identity}
use Rattle.nsi_primitive.specs.declared.message.Message.{Message}
use Rattle.nsi_primitive.specs.declared.message.Parcel.{Parcel}
use Rattle.ask_text.specs.Reading.{ask_of}
use Rattle.json_fields.specs.declared.fault.LineFault.{LineFault}
use Rattle.json_primitives.specs.Lines.{object_of}
use Rattle.stp_topology.specs.Network.{agent_of}
use Rattle.stp_topology.specs.declared.network.Network.{Network}

---- Words

-- where the first space stands
abbrev pub space_at : List ℕ → Option ℕ
space_at text = position_from (λ b. b == 32) 0 text

-- what stands before the first space, and what behind it
unfoldable pub cut_word : List ℕ → Option (List ℕ × List ℕ)
cut_word text = option_map (λ i. (take i text, drop (i + 1) text)) (space_at text)

---- What stands behind the name of an agent

-- the message of a line, or the message that its acknowledgement is of
abbrev pub if_message : Result Parcel LineFault → Option Message
if_message (Ok (Parcel.Message message)) = Some message
if_message _ = None

abbrev pub if_ack : Result Parcel LineFault → Option Identity
if_ack (Ok (Parcel.Ack identity)) = Some identity
if_ack _ = None

-- an agent takes something, and an ask is answered
abbrev pub taken : ℕ → Input → Option AskAnswer → Happening
taken second input answer = Happening.Entry (record { second = second; input = input }) answer

-- the id behind `outstanding=`
unfoldable pub outstanding_in : List ℕ → Option AskAnswer
outstanding_in word = if starts_with nat_eq word (codes "outstanding=") then option_map AskAnswer.Outstanding (id_from_text (drop 12 word)) else None

unfoldable pub answer_in : List ℕ → Option AskAnswer
answer_in word =
    if bytes_eq word (codes "sent") then Some AskAnswer.Sent
    else if bytes_eq word (codes "noid") then Some AskAnswer.NoId
    else outstanding_in word

unfoldable pub asked_in : (now asks : ℕ) → List ℕ → Option Happening
asked_in now asks rest = do
  words ← cut_word rest
  answer ← answer_in words.0
  ask ← ask_of words.1
  Some (taken now (Input.Ask asks ask) (Some answer))

unfoldable pub got_in : (now : ℕ) → List ℕ → Option Happening
got_in now rest = do
  message ← if_message (object_of rest)
  Some (taken now (Input.Got message) None)

unfoldable pub acked_in : (now : ℕ) → List ℕ → Option Happening
acked_in now rest = do
  identity ← if_ack (object_of rest)
  Some (taken now (Input.Acked identity) None)

unfoldable pub worked_in : (now : ℕ) → List ℕ → Option Happening
worked_in now rest = do
  words ← cut_word rest
  number ← number_of 0 greatest_record words.0
  machine ← machine_named words.1
  Some (taken now (Input.Work number machine) None)

unfoldable pub forced_in : (now : ℕ) → List ℕ → Option Happening
forced_in now rest = do
  number ← number_of 0 greatest_record rest
  Some (taken now (Input.Force number) None)

unfoldable pub ticked_in : List ℕ → Option Happening
ticked_in rest = do
  second ← number_of 0 greatest_second rest
  Some (taken second Input.Tick None)

-- how many entries
abbrev pub count_in : List ℕ → Option ℕ
count_in rest = number_of 0 18446744073709551615 rest

-- by the first word of the line
unfoldable pub what_in : (verb : List ℕ) (now asks : ℕ) → List ℕ → Option Happening
what_in verb now asks rest =
    if bytes_eq verb (codes "tick") then ticked_in rest
    else if bytes_eq verb (codes "ask") then asked_in now asks rest
    else if bytes_eq verb (codes "got") then got_in now rest
    else if bytes_eq verb (codes "work") then worked_in now rest
    else if bytes_eq verb (codes "force") then forced_in now rest
    else if bytes_eq verb (codes "acked") then acked_in now rest
    else if bytes_eq verb (codes "sync") then option_map Happening.Sync (count_in rest)
    else if bytes_eq verb (codes "restart") then option_map Happening.Restart (count_in rest)
    else None

---- Events

-- the event of a line, at the moment at which the agents have these seconds and so many asks came
unfoldable pub event_in : Network → (seconds : ℕ → ℕ) (asks : ℕ) → List ℕ → Option Event
event_in t seconds asks line = do
  verb ← cut_word line
  name ← cut_word verb.1
  agent ← agent_of t name.0
  what ← what_in verb.0 (seconds agent) asks name.1
  Some (record { agent = agent; what = what })
