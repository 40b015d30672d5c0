-- Which header an object says.
use Rattle.std.specs.Prelude.{ℕ, Result, Ok}
use Rattle.serde_json.specs.Data.{Data}
use Rattle.nsi_primitive.specs.declared.message.Header.{Header}
use Rattle.json_fields.specs.Faults.{◌>>=◌}
use Rattle.json_fields.specs.Fields.{required, name_from}
use Rattle.json_fields.specs.declared.key.Key.{Key}
use Rattle.json_fields.specs.declared.fault.LineFault.{LineFault}

-- the two agents, whose keys follow each other in byte order, under a correlation that was read before
unfoldable pub header_from : ℕ → Data → Result Header LineFault
header_from correlation d = do
  provider ← required name_from Key.ProviderNsa d
  requester ← required name_from Key.RequesterNsa d
  Ok (record { correlation = correlation; requester = requester; provider = provider })
