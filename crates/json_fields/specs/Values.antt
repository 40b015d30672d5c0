-- The data that a value over a text stands for.
use Rattle.std.specs.Prelude.{ℕ, List, [], ◌∷◌, map}
use Rattle.std.specs.Borrow.{Bor}
use Rattle.serde_json.specs.Data.{Data, null, boolean, number, string, array, object, Items, Members, no_members, put}
use Rattle.serde_json.specs.View.{number_view, items_of}
use Rattle.json_fields.specs.declared.value.JsonValue.{JsonValue, fold-JsonValue}
use Rattle.json_fields.specs.declared.value.JsonValue.TheOpen.{JsonValue-F}

-- members that go in one after another, so that the last value of a key stays
abbrev pub put_all : List (Bor (List ℕ) × Data) → Members → Members
put_all [] found = found
put_all (m ∷ ms) found = put_all ms (put m.0.now m.1 found)

-- one level, with each value inside already seen as its data
abbrev pub view_step : JsonValue-F Data → Data
view_step JsonValue-F.Null = null
view_step (JsonValue-F.Bool b) = boolean b
view_step (JsonValue-F.Number n) = number (number_view n)
view_step (JsonValue-F.String s) = string s.now
view_step (JsonValue-F.Array v) = array (items_of v.items)
view_step (JsonValue-F.Object v) = object (put_all v.items no_members)

abbrev pub view : JsonValue → Data
view = fold-JsonValue Data view_step

abbrev pub items_view : List JsonValue → Items
items_view vs = items_of (map view vs)

abbrev pub members_view : List (Bor (List ℕ) × JsonValue) → Members
members_view ms = put_all (map (λ m. (m.0, view m.1)) ms) no_members
