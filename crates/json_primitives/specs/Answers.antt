-- Which answer an object of each kind is: key by key in byte order.
use Rattle.std.specs.Prelude.{ℕ, Bool, true, false, Option, Some, None, option_and_then, Result, Ok, Err}
use Rattle.serde_json.specs.Data.{Data}
use Rattle.serde_json.specs.Find.{get}
use Rattle.nsi_base.specs.declared.flow.Flow.{Flow}
use Rattle.nsi_primitive.specs.declared.kind.ErrorName.{ErrorName}
use Rattle.nsi_primitive.specs.declared.message.Cause.{Cause}
use Rattle.nsi_primitive.specs.declared.message.Body.{Body}
use Rattle.nsi_primitive.specs.declared.message.Message.{Message}
use Rattle.json_fields.specs.Faults.{◌>>=◌}
use Rattle.json_fields.specs.Keys.{name_of}
use Rattle.json_fields.specs.Fields.{required, optional, wrapped, id_from, name_from, text_from, capacity_from, second_from, time_from, version_from, count_from, flag_from, directionality_from, error_from, plain_error_from, flow_from}
use Rattle.json_fields.specs.declared.key.Key.{Key}
use Rattle.json_fields.specs.declared.fault.LineFault.{LineFault}
use Rattle.json_primitives.specs.Headers.{header_from}
use Rattle.json_primitives.specs.declared.reading.answers.Refusal.{Refusal}

unfoldable pub confirmation_from : Data → Result Message LineFault
confirmation_from d = do
  capacity ← required capacity_from Key.Capacity d
  connection ← required id_from Key.ConnectionId d
  correlation ← required id_from Key.CorrelationId d
  description ← optional (text_from 256) Key.Description d
  dest ← required name_from Key.DestStp d
  directionality ← required directionality_from Key.Directionality d
  end ← required time_from Key.EndTime d
  global ← optional (text_from 128) Key.GlobalReservationId d
  header ← header_from correlation d
  source ← required name_from Key.SourceStp d
  start ← required time_from Key.StartTime d
  symmetric ← optional flag_from Key.SymmetricPath d
  version ← required version_from Key.Version d
  Ok (record {
    header = header;
    body = Body.ReserveConfirmed (record { capacity = capacity; connection = connection; description = description; dest = dest; directionality = directionality; end = end; global = global; source = source; start = start; symmetric = symmetric; version = version });
  })

---- Refusals: their errorId says which further keys they have

-- the connection, which an `error` need not name
abbrev pub connection_from : Bool → Data → Result (Option ℕ) LineFault
connection_from true d = wrapped (required id_from Key.ConnectionId d)
connection_from false d = optional id_from Key.ConnectionId d

-- without further keys
unfoldable pub plain_from : Bool → Data → Result Refusal LineFault
plain_from is_needed d = do
  connection ← connection_from is_needed d
  correlation ← required id_from Key.CorrelationId d
  error ← required plain_error_from Key.ErrorId d
  nsa ← required name_from Key.NsaId d
  header ← header_from correlation d
  Ok (record {
    header = header;
    connection = connection;
    exception = record { nsa = nsa; cause = Cause.Plain error };
  })

-- both directions share a point's capacity where none is named
abbrev pub flow_or_both : Option Flow → Flow
flow_or_both None = Flow.Both
flow_or_both (Some flow) = flow

-- with BANDWIDTH
unfoldable pub lack_from : Bool → Data → Result Refusal LineFault
lack_from is_needed d = do
  capacity ← required capacity_from Key.Capacity d
  connection ← connection_from is_needed d
  correlation ← required id_from Key.CorrelationId d
  flow ← optional flow_from Key.Direction d
  error ← required error_from Key.ErrorId d
  load ← required count_from Key.Load d
  nsa ← required name_from Key.NsaId d
  header ← header_from correlation d
  second ← required second_from Key.Second d
  stp ← required name_from Key.Stp d
  Ok (record {
    header = header;
    connection = connection;
    exception = record { nsa = nsa; cause = Cause.Bandwidth stp (flow_or_both flow) second load capacity };
  })

-- with CHILD
unfoldable pub child_from : Bool → Data → Result Refusal LineFault
child_from is_needed d = do
  child ← required name_from Key.Child d
  child_error ← required error_from Key.ChildErrorId d
  connection ← connection_from is_needed d
  correlation ← required id_from Key.CorrelationId d
  error ← required error_from Key.ErrorId d
  nsa ← required name_from Key.NsaId d
  header ← header_from correlation d
  Ok (record {
    header = header;
    connection = connection;
    exception = record { nsa = nsa; cause = Cause.Child child child_error };
  })

-- the error that an object names
abbrev pub error_in : Data → Option ErrorName
error_in d = option_and_then error_from (get (name_of Key.ErrorId) d)

-- by the error that is named; where there is none, the keys are those without further ones
abbrev pub refused_by : Option ErrorName → Bool → Data → Result Refusal LineFault
refused_by (Some ErrorName.Bandwidth) is_needed d = lack_from is_needed d
refused_by (Some ErrorName.Child) is_needed d = child_from is_needed d
refused_by _ is_needed d = plain_from is_needed d

unfoldable pub refused_from : Bool → Data → Result Refusal LineFault
refused_from is_needed d = refused_by (error_in d) is_needed d

-- the connection of a refusal that has to name one
abbrev pub named : Option ℕ → Result ℕ LineFault
named None = Err (LineFault.Missing Key.ConnectionId)
named (Some connection) = Ok connection

unfoldable pub failed_from : Data → Result Message LineFault
failed_from d = do
  refusal ← refused_from true d
  connection ← named refusal.connection
  Ok (record { header = refusal.header; body = Body.ReserveFailed connection refusal.exception })

unfoldable pub commit_failed_from : Data → Result Message LineFault
commit_failed_from d = do
  refusal ← refused_from true d
  connection ← named refusal.connection
  Ok (record { header = refusal.header; body = Body.ReserveCommitFailed connection refusal.exception })

unfoldable pub error_message_from : Data → Result Message LineFault
error_message_from d = do
  refusal ← refused_from false d
  Ok (record { header = refusal.header; body = Body.Error refusal.connection refusal.exception })
