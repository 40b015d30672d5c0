-- Which query an object of each kind is: key by key in byte order.
use Rattle.std.specs.Prelude.{Result, Ok}
use Rattle.serde_json.specs.Data.{Data}
use Rattle.nsi_primitive.specs.declared.message.Header.{Header}
use Rattle.nsi_primitive.specs.declared.message.NumberRange.{NumberRange}
use Rattle.nsi_primitive.specs.declared.message.Body.{Body}
use Rattle.nsi_primitive.specs.declared.message.Message.{Message}
use Rattle.json_fields.specs.Faults.{◌>>=◌}
use Rattle.json_fields.specs.Fields.{required, optional, id_from, count_from}
use Rattle.json_fields.specs.declared.key.Key.{Key}
use Rattle.json_fields.specs.declared.fault.LineFault.{LineFault}
use Rattle.json_primitives.specs.Headers.{header_from}

-- of one connection, or of all
unfoldable pub summary_from : Data → Result Message LineFault
summary_from d = do
  connection ← optional id_from Key.ConnectionId d
  correlation ← required id_from Key.CorrelationId d
  header ← header_from correlation d
  Ok (record { header = header; body = Body.QuerySummary connection })

-- the range and the header, by the keys of the range's end and start
unfoldable pub ranged_from : Key → Key → Data → Result (NumberRange × Header) LineFault
ranged_from end_key start_key d = do
  connection ← required id_from Key.ConnectionId d
  correlation ← required id_from Key.CorrelationId d
  end ← optional count_from end_key d
  header ← header_from correlation d
  start ← optional count_from start_key d
  Ok (record { connection = connection; end = end; start = start }, header)

unfoldable pub notifications_from : Data → Result Message LineFault
notifications_from d = do
  asked ← ranged_from Key.EndNotificationId Key.StartNotificationId d
  Ok (record { header = asked.1; body = Body.QueryNotification asked.0 })

unfoldable pub results_from : Data → Result Message LineFault
results_from d = do
  asked ← ranged_from Key.EndResultId Key.StartResultId d
  Ok (record { header = asked.1; body = Body.QueryResult asked.0 })
