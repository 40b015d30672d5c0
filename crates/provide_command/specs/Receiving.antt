-- What a line behind the topology says to a provider.
use Rattle.std.specs.Prelude.{◌≡◌, ℕ, List, ◌==◌, nat_eq, nat_le, length, drop, codes, true, if◌then◌else◌, Option, Some, None, Result, Ok, Err}
use Rattle.std.specs.List.{starts_with}
use Rattle.nsi_base.specs.Digits.{number_of}
use Rattle.nsi_primitive.specs.Messages.{is_request}
use Rattle.nsi_primitive.specs.declared.entry.Entry.{Entry}
use Rattle.nsi_primitive.specs.declared.entry.Input.{Input}
use Rattle.nsi_primitive.specs.declared.message.Body.{Body}
use Rattle.nsi_primitive.specs.declared.message.Message.{Message}
use Rattle.nsi_primitive.specs.declared.message.Parcel.{Parcel}
use Rattle.json_fields.specs.declared.key.Key.{Key}
use Rattle.json_fields.specs.declared.fault.LineFault.{LineFault}
use Rattle.json_primitives.specs.Lines.{line_of}
use Rattle.provide_command.specs.declared.payload.PayloadFault.{PayloadFault}
use Rattle.nsi_primitive.specs.Printable.{IsPrintableInput}
use Rattle.provider_agent.specs.State.{State}
use Rattle.agent_state.specs.Entries.{is_on_time}
use Rattle.provider_agent.specs.Steps.{is_seen, is_for_provider}
use Rattle.provide_command.specs.declared.receiving.Received.{Received}

-- a request says nothing where it was taken before
abbrev pub requested : Message → State → Received
requested m s = if is_seen s m then Received.Nothing else Received.Entry (record { second = s.now; input = Input.Got m })

-- why a message isn't served: it is no request
abbrev pub unserved : Body → Option PayloadFault
unserved body = if is_request body then None else Some (PayloadFault.Line (LineFault.Bad Key.Kind))

abbrev pub received_unless : Option PayloadFault → Message → State → Received
received_unless (Some fault) m s = Received.Fault fault
received_unless None m s = requested m s

abbrev pub message_received : Message → State → Received
message_received m s = received_unless (unserved m.body) m s

-- nothing waits for an acknowledgement
abbrev pub parcel_received : Parcel → State → Received
parcel_received (Parcel.Message m) s = message_received m s
parcel_received (Parcel.Ack identity) s = Received.Nothing

abbrev pub read : Result Parcel LineFault → State → Received
read (Err fault) s = Received.Fault (PayloadFault.Line fault)
read (Ok p) s = parcel_received p s

-- the second of a line of the clock: one blank, and a second
abbrev pub second_in : List ℕ → Option ℕ
second_in line = if starts_with nat_eq line (codes "tick ") then number_of 0 253370764799 (drop 5 line) else None

-- the clock doesn't go back
abbrev pub ticked : Option ℕ → State → Received
ticked None s = Received.Fault PayloadFault.Tick
ticked (Some second) s = if nat_le s.now second then Received.Entry (record { second = second; input = Input.Tick }) else Received.Fault PayloadFault.Tick

-- empty lines are skipped
unfoldable pub received : State → List ℕ → Received
received s line =
    if length line == 0 then Received.Nothing
    else if starts_with nat_eq line (codes "tick") then ticked (second_in line) s
    else read (line_of line) s

-- a provider may take the entry now, and its message has a spelling
pub record IsTimelyEntry (s : State) (e : Entry) : Type 0 where
  pub own : is_for_provider e.input ≡ true
  pub on_time : is_on_time e.input e.second s.now ≡ true
  pub printable : IsPrintableInput e.input

-- what is taken may be taken now
abbrev pub IsTimely : State → Received → Type 0
IsTimely s (Received.Entry e) = IsTimelyEntry s e
IsTimely s h = Unit {0}
