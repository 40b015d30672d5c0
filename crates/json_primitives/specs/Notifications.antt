-- Which notification an object of each kind is: key by key in byte order.
use Rattle.std.specs.Prelude.{Result, Ok}
use Rattle.serde_json.specs.Data.{Data}
use Rattle.nsi_primitive.specs.declared.message.Body.{Body}
use Rattle.nsi_primitive.specs.declared.message.Message.{Message}
use Rattle.json_fields.specs.Faults.{◌>>=◌}
use Rattle.json_fields.specs.Fields.{required, id_from, name_from, second_from, version_from, hold_from, count_from, flag_from, event_from}
use Rattle.json_fields.specs.declared.key.Key.{Key}
use Rattle.json_fields.specs.declared.fault.LineFault.{LineFault}
use Rattle.json_primitives.specs.Headers.{header_from}

unfoldable pub timeout_from : Data → Result Message LineFault
timeout_from d = do
  connection ← required id_from Key.ConnectionId d
  correlation ← required id_from Key.CorrelationId d
  notification ← required count_from Key.NotificationId d
  originating_connection ← required id_from Key.OriginatingConnectionId d
  originating_nsa ← required name_from Key.OriginatingNsa d
  header ← header_from correlation d
  time ← required second_from Key.TimeStamp d
  value ← required hold_from Key.TimeoutValue d
  Ok (record {
    header = header;
    body = Body.ReserveTimeout (record { connection = connection; notification = notification; originating_connection = originating_connection; originating_nsa = originating_nsa; time = time; value = value });
  })

unfoldable pub fault_from : Data → Result Message LineFault
fault_from d = do
  connection ← required id_from Key.ConnectionId d
  correlation ← required id_from Key.CorrelationId d
  event ← required event_from Key.Event d
  notification ← required count_from Key.NotificationId d
  originating_connection ← required id_from Key.OriginatingConnectionId d
  originating_nsa ← required name_from Key.OriginatingNsa d
  header ← header_from correlation d
  time ← required second_from Key.TimeStamp d
  Ok (record {
    header = header;
    body = Body.ErrorEvent (record { connection = connection; event = event; notification = notification; originating_connection = originating_connection; originating_nsa = originating_nsa; time = time });
  })

unfoldable pub plane_from : Data → Result Message LineFault
plane_from d = do
  active ← required flag_from Key.Active d
  connection ← required id_from Key.ConnectionId d
  correlation ← required id_from Key.CorrelationId d
  notification ← required count_from Key.NotificationId d
  header ← header_from correlation d
  time ← required second_from Key.TimeStamp d
  version ← required version_from Key.Version d
  consistent ← required flag_from Key.VersionConsistent d
  Ok (record {
    header = header;
    body = Body.DataPlaneStateChange (record { active = active; connection = connection; notification = notification; time = time; version = version; consistent = consistent });
  })

unfoldable pub delivery_from : Data → Result Message LineFault
delivery_from d = do
  connection ← required id_from Key.ConnectionId d
  correlation ← required id_from Key.CorrelationId d
  delivery ← required id_from Key.DeliveryCorrelationId d
  notification ← required count_from Key.NotificationId d
  header ← header_from correlation d
  time ← required second_from Key.TimeStamp d
  Ok (record {
    header = header;
    body = Body.MessageDeliveryTimeout (record { connection = connection; delivery = delivery; notification = notification; time = time });
  })
