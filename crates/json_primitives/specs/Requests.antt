-- Which reserve an object is: key by key in byte order.
use Rattle.std.specs.Prelude.{ℕ, List, Bool, false, if◌then◌else◌, Option, Some, None, Result, Ok, Err}
use Rattle.std.specs.Str.{bytes_eq}
use Rattle.serde_json.specs.Data.{Data}
use Rattle.nsi_primitive.specs.declared.message.Body.{Body}
use Rattle.nsi_primitive.specs.declared.message.Message.{Message}
use Rattle.json_fields.specs.Faults.{◌>>=◌}
use Rattle.json_fields.specs.Fields.{required, optional, wrapped, id_from, name_from, text_from, capacity_from, time_from, version_from, flag_from, directionality_from, empty_list_from}
use Rattle.json_fields.specs.declared.key.Key.{Key}
use Rattle.json_fields.specs.declared.fault.LineFault.{LineFault}
use Rattle.json_primitives.specs.Headers.{header_from}

-- a point, which a reserve has to name where it names no connection
abbrev pub point_from : Option ℕ → Key → Data → Result (Option (List ℕ)) LineFault
point_from None key d = wrapped (required name_from key d)
point_from (Some connection) key d = optional name_from key d

-- both points are given and are one
abbrev pub is_one_point : Option (List ℕ) → Option (List ℕ) → Bool
is_one_point None dest = false
is_one_point (Some source) None = false
is_one_point (Some source) (Some dest) = bytes_eq source dest

-- source and destination differ
abbrev pub between : Option (List ℕ) → Option (List ℕ) → Message → Result Message LineFault
between source dest m = if is_one_point source dest then Err (LineFault.Bad Key.DestStp) else Ok m

-- a first reserve, or with a connection a modification
unfoldable pub reserve_from : Data → Result Message LineFault
reserve_from d = do
  capacity ← required capacity_from Key.Capacity d
  connection ← optional id_from Key.ConnectionId d
  correlation ← required id_from Key.CorrelationId d
  description ← optional (text_from 256) Key.Description d
  dest ← point_from connection Key.DestStp d
  directionality ← optional directionality_from Key.Directionality d
  end ← required time_from Key.EndTime d
  ero ← optional empty_list_from Key.Ero d
  global ← optional (text_from 128) Key.GlobalReservationId d
  header ← header_from correlation d
  source ← point_from connection Key.SourceStp d
  start ← optional time_from Key.StartTime d
  symmetric ← optional flag_from Key.SymmetricPath d
  version ← optional version_from Key.Version d
  between source dest (record {
    header = header;
    body = Body.Reserve (record { capacity = capacity; connection = connection; description = description; dest = dest; directionality = directionality; end = end; global = global; source = source; start = start; symmetric = symmetric; version = version });
  })
