-- Why a line isn't taken, as it is written.
use Rattle.std.specs.Prelude.{ℕ, List, codes, Option, None}
use Rattle.json_fields.specs.Faults.{fault_name, fault_key}
use Rattle.json_fields.specs.declared.key.Key.{Key}
use Rattle.provide_command.specs.declared.payload.PayloadFault.{PayloadFault}

-- the name by which a fault is written
unfoldable pub payload_name : PayloadFault → List ℕ
payload_name (PayloadFault.Line fault) = fault_name fault
payload_name PayloadFault.Tick = codes "Tick"

-- the key that a fault is about, where it is about one
abbrev pub payload_key : PayloadFault → Option Key
payload_key (PayloadFault.Line fault) = fault_key fault
payload_key PayloadFault.Tick = None
