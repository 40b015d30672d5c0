-- The forms of values, and what stands at a key.
use Rattle.std.specs.Prelude.{ℕ, List, codes, Bool, length, nat_le, if◌then◌else◌, Option, Some, None, option_and_then, Result, Ok, Err}
use Rattle.std.specs.Option.{option_or}
use Rattle.std.specs.Str.{is_utf8, bytes_eq}
use Rattle.serde_json.specs.Data.{Data, Items, no_items, item}
use Rattle.serde_json.specs.Find.{get, as_bool, as_number, as_str, as_u64, as_array}
use Rattle.serde_json.specs.Read.{read}
use Rattle.date_time.specs.Reading.{second_of}
use Rattle.nsi_base.specs.Range.{within}
use Rattle.nsi_base.specs.Bytes.{is_name}
use Rattle.nsi_base.specs.declared.flow.Flow.{Flow}
use Rattle.nsi_primitive.specs.Ids.{id_from_text}
use Rattle.nsi_primitive.specs.Kinds.{direction_named, kind_named, error_named, event_named}
use Rattle.nsi_primitive.specs.Printable.{has_further_keys}
use Rattle.nsi_primitive.specs.declared.kind.Kind.{Kind}
use Rattle.nsi_primitive.specs.declared.kind.ErrorName.{ErrorName}
use Rattle.nsi_primitive.specs.declared.kind.FaultEvent.{FaultEvent}
use Rattle.nsi_primitive.specs.declared.kind.Directionality.{Directionality}
use Rattle.json_fields.specs.Keys.{name_of}
use Rattle.json_fields.specs.declared.key.Key.{Key}
use Rattle.json_fields.specs.declared.fault.LineFault.{LineFault}

-- the JSON value of a text in UTF-8 (RFC 8259)
unfoldable pub json_of : List ℕ → Option Data
json_of bytes = if is_utf8 bytes then read bytes else None

-- a text that is an id
abbrev pub id_from : Data → Option ℕ
id_from d = option_and_then id_from_text (as_str d)

-- bytes that pass a test
abbrev pub kept_if : (List ℕ → Bool) → List ℕ → Option (List ℕ)
kept_if test bytes = if test bytes then Some bytes else None

-- a text that is a name
abbrev pub name_from : Data → Option (List ℕ)
name_from d = option_and_then (kept_if is_name) (as_str d)

-- a text of at most so many bytes
abbrev pub text_from : ℕ → Data → Option (List ℕ)
text_from most d = option_and_then (kept_if (λ bytes. nat_le (length bytes) most)) (as_str d)

-- a number in digits alone that is in the range
abbrev pub number_from : ℕ → ℕ → Data → Option ℕ
number_from low high d = option_and_then (within low high) (option_and_then as_u64 (as_number d))

-- a number in digits alone, of 64 bits
abbrev pub count_from : Data → Option ℕ
count_from d = option_and_then as_u64 (as_number d)

-- in Mbps
abbrev pub capacity_from : Data → Option ℕ
capacity_from d = number_from 1 1099511627776 d

-- in seconds
abbrev pub second_from : Data → Option ℕ
second_from d = number_from 0 253370764799 d

-- a text that is a date-time
abbrev pub date_time_from : Data → Option ℕ
date_time_from d = option_and_then second_of (as_str d)

-- when a schedule starts or ends: a number of seconds, or a date-time
unfoldable pub time_from : Data → Option ℕ
time_from d = option_or (second_from d) (date_time_from d)

abbrev pub version_from : Data → Option ℕ
version_from d = number_from 0 2147483647 d

-- how long a hold lasted, in seconds
abbrev pub hold_from : Data → Option ℕ
hold_from d = number_from 1 86400 d

-- true or false
abbrev pub flag_from : Data → Option Bool
flag_from d = as_bool d

-- a text that names a directionality
abbrev pub directionality_from : Data → Option Directionality
directionality_from d = option_and_then direction_named (as_str d)

-- a text that names a kind
abbrev pub kind_from : Data → Option Kind
kind_from d = option_and_then kind_named (as_str d)

-- a text that names an error
abbrev pub error_from : Data → Option ErrorName
error_from d = option_and_then error_named (as_str d)

-- an error that is given by its name alone
abbrev pub kept_if_plain : ErrorName → Option ErrorName
kept_if_plain error = if has_further_keys error then None else Some error

-- a text that names such an error
abbrev pub plain_error_from : Data → Option ErrorName
plain_error_from d = option_and_then kept_if_plain (error_from d)

-- a text that names an event
abbrev pub event_from : Data → Option FaultEvent
event_from d = option_and_then event_named (as_str d)

-- a direction by its name, where a point has one capacity for each
abbrev pub flow_named : List ℕ → Option Flow
flow_named name = if bytes_eq name (codes "in") then Some Flow.In else if bytes_eq name (codes "out") then Some Flow.Out else None

-- a text that names such a direction
abbrev pub flow_from : Data → Option Flow
flow_from d = option_and_then flow_named (as_str d)

-- no items
abbrev pub nothing_of : Items → Option (Unit {0})
nothing_of no_items = Some tt
nothing_of (item d ds) = None

-- the empty list
abbrev pub empty_list_from : Data → Option (Unit {0})
empty_list_from d = option_and_then nothing_of (as_array d)

-- what a value is in its form; else its key is bad
abbrev pub formed : {A : Type 0} → Key → Option A → Result A LineFault
formed key (Some x) = Ok x
formed key None = Err (LineFault.Bad key)

-- what has to be there, in its form
abbrev pub needed : {A : Type 0} → (Data → Option A) → Key → Option Data → Result A LineFault
needed form key (Some d) = formed key (form d)
needed form key None = Err (LineFault.Missing key)

abbrev pub wrapped : {A : Type 0} → Result A LineFault → Result (Option A) LineFault
wrapped (Ok x) = Ok (Some x)
wrapped (Err fault) = Err fault

-- what may be absent, and is in its form where it isn't
abbrev pub allowed : {A : Type 0} → (Data → Option A) → Key → Option Data → Result (Option A) LineFault
allowed form key (Some d) = wrapped (formed key (form d))
allowed form key None = Ok None

-- what stands at a key that an object must have
unfoldable pub required : {A : Type 0} → (Data → Option A) → Key → Data → Result A LineFault
required form key d = needed form key (get (name_of key) d)

-- what stands at a key that an object may have
unfoldable pub optional : {A : Type 0} → (Data → Option A) → Key → Data → Result (Option A) LineFault
optional form key d = allowed form key (get (name_of key) d)
