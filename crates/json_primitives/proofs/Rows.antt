-- Lines that the definitions themselves compute.
use Rattle.std.proofs.Common.{◌≡◌, codes, refl, Err, Some}
use Rattle.serde_json.proofs.OnLiterals.{serde_json_on_literals}
use Rattle.std.specs.Fmt.{digits}
use Rattle.std.specs.Str.{is_utf8, chars}
use Rattle.uuid.specs.Text.{by_index}
use Rattle.nsi_base.specs.declared.flow.Flow.{Flow}
use Rattle.nsi_primitive.specs.Ids.{id_of, bytes_of, id_text}
use Rattle.nsi_primitive.specs.Kinds.{kind_name, kind_named, first_named, error_text}
use Rattle.nsi_primitive.specs.declared.kind.ErrorName.{ErrorName}
use Rattle.nsi_primitive.specs.declared.message.Body.{Body}
use Rattle.nsi_primitive.specs.declared.message.Cause.{Cause}
use Rattle.nsi_primitive.specs.declared.message.Message.{Message}
use Rattle.json_fields.specs.Objects.{with_fields}
use Rattle.json_fields.specs.Keys.{name_of}
use Rattle.json_fields.specs.Faults.{fault_name}
use Rattle.json_fields.specs.Fields.{json_of, required, optional}
use Rattle.json_fields.specs.declared.key.Key.{Key}
use Rattle.json_fields.specs.declared.fault.LineFault.{LineFault}
use Rattle.json_primitives.specs.Lines.{object_of}
use Rattle.json_primitives.specs.Requests.{reserve_from}
use Rattle.json_primitives.specs.Payload.{payload_spelling}
use Rattle.json_primitives.specs.Rows.{rows_in}
use Rattle.json_primitives.specs.Spelling.{data_of, spelling}

-- the answer to a sixth line with a capacity of 0
payload : payload_spelling (fault_name (LineFault.Bad Key.Capacity)) (Some Key.Capacity) 6 ≡ codes "{\"errorId\":\"PAYLOAD\",\"fault\":\"Bad\",\"key\":\"capacity\",\"kind\":\"error\",\"line\":6}"
unfolding serde_json_on_literals digits name_of error_text kind_name fault_name
payload = refl

-- a capacity of 0
bad_capacity : object_of (codes "{\"kind\":\"reserve\",\"capacity\":0}") ≡ Err (LineFault.Bad Key.Capacity)
unfolding serde_json_on_literals is_utf8 chars name_of kind_name kind_named first_named json_of object_of reserve_from required optional
bad_capacity = refl

-- what p1 tells r1
abbrev told : Body → Message
told body = record { header = record { correlation = id_of 1 1; requester = codes "r1"; provider = codes "p1" }; body = body }

-- a point that has a capacity for each direction lacks some for what comes in
lack_of_one_direction : spelling (told (Body.ReserveFailed (id_of 0 2) (record { nsa = codes "p1"; cause = Cause.Bandwidth (codes "A") Flow.In 150 600 1000 })))
    ≡ codes "{\"capacity\":1000,\"connectionId\":\"urn:uuid:00000000-0000-8000-8000-000000000002\",\"correlationId\":\"urn:uuid:00000000-0001-8000-8000-000000000001\",\"direction\":\"in\",\"errorId\":\"BANDWIDTH\",\"kind\":\"reserveFailed\",\"load\":600,\"nsaId\":\"p1\",\"providerNSA\":\"p1\",\"requesterNSA\":\"r1\",\"second\":150,\"stp\":\"A\"}"
unfolding serde_json_on_literals digits name_of kind_name error_text data_of rows_in with_fields id_text bytes_of by_index
lack_of_one_direction = refl

-- a commit behind the end of its hold
late_commit : spelling (told (Body.ReserveCommitFailed (id_of 0 1) (record { nsa = codes "p1"; cause = Cause.Plain ErrorName.Timeout })))
    ≡ codes "{\"connectionId\":\"urn:uuid:00000000-0000-8000-8000-000000000001\",\"correlationId\":\"urn:uuid:00000000-0001-8000-8000-000000000001\",\"errorId\":\"TIMEOUT\",\"kind\":\"reserveCommitFailed\",\"nsaId\":\"p1\",\"providerNSA\":\"p1\",\"requesterNSA\":\"r1\"}"
unfolding serde_json_on_literals digits name_of kind_name error_text data_of rows_in with_fields id_text bytes_of by_index
late_commit = refl
