-- Objects that are written key by key.
use Rattle.std.specs.Prelude.{◌≡◌, ℕ, List, [], ◌∷◌, Bool, Option, Some, None}
use Rattle.serde_json.specs.Data.{Data, Members, put, string, number, boolean, unsigned}
use Rattle.nsi_primitive.specs.Ids.{id_text}
use Rattle.nsi_primitive.specs.Kinds.{direction_text}
use Rattle.nsi_primitive.specs.declared.kind.Directionality.{Directionality}
use Rattle.date_time.specs.Text.{text_of}
use Rattle.json_fields.specs.Keys.{name_of}
use Rattle.json_fields.specs.Fields.{time_from}
use Rattle.json_fields.specs.declared.key.Key.{Key}
use Rattle.json_fields.specs.declared.time_form.TimeForm.{TimeForm}

-- what stands at a key: a number in digits, a text, or true or false
pub data Scalar : Type 0 where
  digits : ℕ → Scalar
  words : List ℕ → Scalar
  flag : Bool → Scalar

abbrev pub scalar_data : Scalar → Data
scalar_data (digits n) = number (unsigned n)
scalar_data (words text) = string text
scalar_data (flag b) = boolean b

-- an id in the spelling that is written
abbrev pub id_scalar : ℕ → Scalar
id_scalar id = words (id_text id)

-- when a schedule starts or ends, as it is written
unfoldable pub time_value : TimeForm → ℕ → Scalar
time_value TimeForm.Number second = digits second
time_value TimeForm.DateTime second = words (text_of second)

abbrev pub directionality_scalar : Directionality → Scalar
directionality_scalar d = words (direction_text d)

-- a key, and what stands there, if anything
abbrev pub Field : Type 0
Field = Key × Option Scalar

-- the members with a key more, which stands in byte order; without a value they stay as they are
abbrev pub with_value : Key → Option Scalar → Members → Members
with_value key None ms = ms
with_value key (Some s) ms = put (name_of key) (scalar_data s) ms

-- the members with one key after the other put to them
unfoldable pub with_fields : Members → List Field → Members
with_fields ms [] = ms
with_fields ms (f ∷ fs) = with_fields (with_value f.0 f.1 ms) fs

-- what is written for a value reads as it
abbrev pub IsReadBack : {A : Type 0} → (Data → Option A) → Scalar → A → Type 0
IsReadBack form s x = form (scalar_data s) ≡ Some x

-- what is written for a time reads as it, whichever form it is written in
unfoldable pub IsReadInEachForm : ℕ → Type 0
IsReadInEachForm time = (form : TimeForm) → IsReadBack time_from (time_value form time) time
