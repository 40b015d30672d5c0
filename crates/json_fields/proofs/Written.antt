-- What was written of an object reads as it.
use Rattle.std.proofs.Common.{◌≡◌, ℕ, List, [], ◌∷◌, ◌++◌, true, Some, ap, ◌∙◌, arith}
use Rattle.std.specs.List.{AllByRecursion}
use Rattle.std.specs.Prelude.{map}
use Rattle.serde_json.specs.Data.{Data, object, Members}
use Rattle.serde_json.specs.Written.{compact_text}
use Rattle.json_fields.specs.Fields.{json_of}
use Rattle.json_fields.specs.Plain.{are_plain}
use Rattle.json_fields.specs.Written.{members_of, with_rows}
use Rattle.json_fields.specs.declared.key.Key.{Key}
use Rattle.json_fields.specs.declared.object.JsonObject.{JsonObject}
use Rattle.json_fields.proofs.PlainFields.{IsPlainRow, wider, plain_rows, object_spelled}
use Rattle.json_fields.proofs.Tested.{members_are}

pub object_again : (ms : Members) → are_plain ms ≡ true → json_of (compact_text (object ms)) ≡ Some (object ms)
object_again ms plain = object_spelled ms (wider ms (members_are ms plain))

plain_row_of : (o : JsonObject) → IsPlainRow (object (members_of o))
plain_row_of o =
    let p = members_are (members_of o) o.plain in
    let low = p.within.shallow in
    record { plain = (p.plain, p.order); flat = record { shallow = omega (arith, low); exact = p.within.exact } }

rows_are : (rows : List JsonObject) → AllByRecursion IsPlainRow (map (λ o. object (members_of o)) rows)
rows_are [] = tt
rows_are (o ∷ rows) = (plain_row_of o, rows_are rows)

pub with_again : (key : Key) (rows : List JsonObject) (ms : Members) → are_plain ms ≡ true
    → json_of (compact_text (object (with_rows key (map (λ o. object (members_of o)) rows) ms))) ≡ Some (object (with_rows key (map (λ o. object (members_of o)) rows) ms))
with_again key rows ms plain = object_spelled (with_rows key (map (λ o. object (members_of o)) rows) ms) (plain_rows key (map (λ o. object (members_of o)) rows) ms (rows_are rows) (members_are ms plain))
