-- Which message an object is that says a connection and nothing else: key by key in byte order.
use Rattle.std.specs.Prelude.{ℕ, Result, Ok}
use Rattle.serde_json.specs.Data.{Data}
use Rattle.nsi_primitive.specs.declared.message.Header.{Header}
use Rattle.nsi_primitive.specs.declared.message.Body.{Body}
use Rattle.nsi_primitive.specs.declared.message.Message.{Message}
use Rattle.json_fields.specs.Faults.{◌>>=◌}
use Rattle.json_fields.specs.Fields.{required, id_from}
use Rattle.json_fields.specs.declared.key.Key.{Key}
use Rattle.json_fields.specs.declared.fault.LineFault.{LineFault}
use Rattle.json_primitives.specs.Headers.{header_from}

-- the connection and the header
unfoldable pub connected_from : Data → Result (ℕ × Header) LineFault
connected_from d = do
  connection ← required id_from Key.ConnectionId d
  correlation ← required id_from Key.CorrelationId d
  header ← header_from correlation d
  Ok (connection, header)

-- the message whose body says the connection
unfoldable pub about : (ℕ → Body) → Data → Result Message LineFault
about body d = do
  said ← connected_from d
  Ok (record { header = said.1; body = body said.0 })
