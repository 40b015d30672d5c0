-- What an object that is being written holds.
use Rattle.std.specs.Prelude.{◌≡◌, List, Option, map}
use Rattle.serde_json.specs.Data.{Data, Members, put, array, object}
use Rattle.serde_json.specs.View.{items_of}
use Rattle.json_fields.specs.Keys.{name_of}
use Rattle.json_fields.specs.Members.{members_from}
use Rattle.json_fields.specs.Objects.{Scalar, with_value}
use Rattle.json_fields.specs.declared.key.Key.{Key}
use Rattle.json_fields.specs.declared.object.JsonObject.{JsonObject}
use Rattle.json_fields.specs.declared.rows.JsonRows.{JsonRows}

-- the keys and what stands at them
abbrev pub members_of : JsonObject → Members
members_of o = members_from o.members.items

-- the rows of a list that is being written
abbrev pub rows_of : JsonRows → List Data
rows_of rows = map (λ o. object (members_of o)) rows.items.items

-- the members with a list of rows at a key
abbrev pub with_rows : Key → List Data → Members → Members
with_rows key rows ms = put (name_of key) (array (items_of rows)) ms

-- a key was put to an object with its value, where it has one
abbrev pub Puts : Key → Option Scalar → JsonObject → JsonObject → Type 0
Puts key value old new = members_of new ≡ with_value key value (members_of old)
