-- Which answer with rows an object of each kind is: key by key in byte order.
use Rattle.std.specs.Prelude.{Result, Ok}
use Rattle.serde_json.specs.Data.{Data}
use Rattle.serde_json.specs.Find.{as_array}
use Rattle.nsi_primitive.specs.declared.message.Notice.{Notice}
use Rattle.nsi_primitive.specs.declared.message.Outcome.{Outcome}
use Rattle.nsi_primitive.specs.declared.message.SummaryRow.{SummaryRow}
use Rattle.nsi_primitive.specs.declared.message.RecursiveRow.{RecursiveRow}
use Rattle.nsi_primitive.specs.declared.message.Body.{Body}
use Rattle.nsi_primitive.specs.declared.message.Message.{Message}
use Rattle.json_fields.specs.Faults.{◌>>=◌}
use Rattle.json_fields.specs.Fields.{formed, required, optional, id_from, name_from, text_from, capacity_from, second_from, time_from, version_from, count_from, flag_from, kind_from, directionality_from}
use Rattle.json_fields.specs.RowFields.{rsm_from, psm_from, lsm_from, depth_from, each_from}
use Rattle.json_fields.specs.declared.key.Key.{Key}
use Rattle.json_fields.specs.declared.fault.LineFault.{LineFault}
use Rattle.json_primitives.specs.Headers.{header_from}

---- Rows

-- a connection in the answer to a querySummary
unfoldable pub summary_row_from : Data → Result SummaryRow LineFault
summary_row_from d = do
  active ← required flag_from Key.Active d
  capacity ← optional capacity_from Key.Capacity d
  connection ← required id_from Key.ConnectionId d
  description ← optional (text_from 256) Key.Description d
  dest ← required name_from Key.DestStp d
  directionality ← required directionality_from Key.Directionality d
  end ← optional time_from Key.EndTime d
  global ← optional (text_from 128) Key.GlobalReservationId d
  lifecycle ← required lsm_from Key.LifecycleState d
  provision ← required psm_from Key.ProvisionState d
  reservation ← required rsm_from Key.ReservationState d
  source ← required name_from Key.SourceStp d
  start ← optional time_from Key.StartTime d
  version ← optional version_from Key.Version d
  Ok (record { active = active; capacity = capacity; connection = connection; description = description; dest = dest; directionality = directionality; end = end; global = global; lifecycle = lifecycle; provision = provision; reservation = reservation; source = source; start = start; version = version })

-- a connection in the answer to a queryRecursive
unfoldable pub recursive_row_from : Data → Result RecursiveRow LineFault
recursive_row_from d = do
  connection ← required id_from Key.ConnectionId d
  depth ← required depth_from Key.Depth d
  lifecycle ← required lsm_from Key.LifecycleState d
  provider ← required name_from Key.ProviderNsa d
  provision ← required psm_from Key.ProvisionState d
  reservation ← required rsm_from Key.ReservationState d
  version ← optional version_from Key.Version d
  Ok (record { connection = connection; depth = depth; lifecycle = lifecycle; provider = provider; provision = provision; reservation = reservation; version = version })

unfoldable pub notice_from : Data → Result Notice LineFault
notice_from d = do
  correlation ← required id_from Key.CorrelationId d
  kind ← required kind_from Key.Kind d
  number ← required count_from Key.NotificationId d
  second ← required second_from Key.TimeStamp d
  Ok (record { number = number; kind = kind; correlation = correlation; second = second })

unfoldable pub outcome_from : Data → Result Outcome LineFault
outcome_from d = do
  correlation ← required id_from Key.CorrelationId d
  kind ← required kind_from Key.Kind d
  number ← required count_from Key.ResultId d
  second ← required second_from Key.TimeStamp d
  Ok (record { number = number; kind = kind; correlation = correlation; second = second })

---- Answers

unfoldable pub summary_rows_from : Data → Result Message LineFault
summary_rows_from d = do
  correlation ← required id_from Key.CorrelationId d
  more ← required flag_from Key.More d
  header ← header_from correlation d
  items ← required as_array Key.Reservations d
  rows ← formed Key.Reservations (each_from summary_row_from items)
  Ok (record { header = header; body = Body.QuerySummaryConfirmed more rows })

unfoldable pub recursive_rows_from : Data → Result Message LineFault
recursive_rows_from d = do
  connection ← required id_from Key.ConnectionId d
  correlation ← required id_from Key.CorrelationId d
  more ← required flag_from Key.More d
  header ← header_from correlation d
  items ← required as_array Key.Reservations d
  rows ← formed Key.Reservations (each_from recursive_row_from items)
  Ok (record { header = header; body = Body.QueryRecursiveConfirmed connection more rows })

unfoldable pub notice_rows_from : Data → Result Message LineFault
notice_rows_from d = do
  connection ← required id_from Key.ConnectionId d
  correlation ← required id_from Key.CorrelationId d
  more ← required flag_from Key.More d
  items ← required as_array Key.Notifications d
  rows ← formed Key.Notifications (each_from notice_from items)
  header ← header_from correlation d
  Ok (record { header = header; body = Body.QueryNotificationConfirmed connection more rows })

unfoldable pub outcome_rows_from : Data → Result Message LineFault
outcome_rows_from d = do
  connection ← required id_from Key.ConnectionId d
  correlation ← required id_from Key.CorrelationId d
  more ← required flag_from Key.More d
  header ← header_from correlation d
  items ← required as_array Key.Results d
  rows ← formed Key.Results (each_from outcome_from items)
  Ok (record { header = header; body = Body.QueryResultConfirmed connection more rows })
