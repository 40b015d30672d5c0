-- How an entry is spelled.
use Rattle.std.specs.Prelude.{true, ◌≡◌, ◌≤◌, ◌<◌, ◌^◌, ℕ, ◌-◌, List, [], ◌∷◌, ◌++◌, length, Option, Some, option_map, Ok}
use Rattle.std.specs.Int.{w32, w64, to_be_bytes}
use Rattle.nsi_base.specs.Range.{greatest_record}
use Rattle.nsi_primitive.specs.Ranges.{IsSpellableEntry}
use Rattle.nsi_primitive.specs.declared.entry.Entry.{Entry}
use Rattle.nsi_primitive.specs.declared.entry.Input.{Input}
use Rattle.nsi_primitive.specs.declared.message.Parcel.{Parcel}
use Rattle.nsi_primitive.specs.declared.state.Machine.{Machine}
use Rattle.ask_text.specs.Asks.{ask_text}
use Rattle.ask_text.specs.Reading.{ask_of}
use Rattle.json_primitives.specs.Lines.{object_of}
use Rattle.json_primitives.specs.Spelling.{spelling_in, parcel_spelling}
use Rattle.journal_entry.specs.Forms.{times_of, holds, holds_ask, holds_message}
use Rattle.journal_entry.specs.declared.form.Form.{Form}
use Rattle.journal_entry.specs.Fields.{text_field}
use Rattle.journal_entry.specs.Entries.{entry_at}

-- the byte of a machine
abbrev pub machine_byte : Machine → ℕ
machine_byte Machine.Reserve = 0
machine_byte Machine.Provision = 1
machine_byte Machine.Lifecycle = 2

-- the tag of an input
abbrev pub tag_of : Input → ℕ
tag_of (Input.Ask number ask) = 1
tag_of (Input.Got message) = 2
tag_of (Input.Work number machine) = 3
tag_of Input.Tick = 4
tag_of (Input.Force number) = 5
tag_of (Input.Acked identity) = 6

-- what stands behind the second
abbrev pub body_of : Form → Input → List ℕ
body_of form (Input.Ask number ask) = to_be_bytes w32 number ++ text_field (ask_text ask)
body_of form (Input.Got message) = text_field (spelling_in (times_of form) message)
body_of form (Input.Work number machine) = to_be_bytes w32 number ++ machine_byte machine ∷ []
body_of form Input.Tick = []
body_of form (Input.Force number) = to_be_bytes w32 number
body_of form (Input.Acked identity) = text_field (parcel_spelling (Parcel.Ack identity))

-- an entry: a tag, the second in 8 bytes, and a body
abbrev pub entry_spelling : Form → Entry → List ℕ
entry_spelling form e = tag_of e.input ∷ (to_be_bytes w64 e.second ++ body_of form e.input)

-- the entry at the front, and its length
abbrev pub entry_of : Form → List ℕ → Option (Entry × ℕ)
entry_of form bytes = option_map (λ x. (x.0, length bytes - length x.1)) (entry_at form bytes)

-- the entry has a spelling: it is one that the types hold and the form has, and each text's length fits its 8 bytes
pub record HasSpelling (form : Form) (e : Entry) : Type 0 where
  pub spellable : IsSpellableEntry e
  pub held : holds form e.input ≡ true
  pub short : length (entry_spelling form e) < 2 ^ 64

-- what is written of the entry is read again, whatever follows it
abbrev pub IsReadAgain : Form → Entry → Type 0
IsReadAgain form e = (rest : List ℕ) → entry_at form (entry_spelling form e ++ rest) ≡ Some (e, rest)

-- what the types and the texts of an input say to that
abbrev pub HasParts : Form → Input → Type 0
HasParts form (Input.Ask number ask) = (number < 2 ^ 32) × (ask_of (ask_text ask) ≡ Some ask) × (length (ask_text ask) < 2 ^ 64) × (holds_ask form ask ≡ true)
HasParts form (Input.Got message) = (object_of (spelling_in (times_of form) message) ≡ Ok (Parcel.Message message)) × (length (spelling_in (times_of form) message) < 2 ^ 64) × (holds_message form message ≡ true)
HasParts form (Input.Work number machine) = number ≤ greatest_record
HasParts form Input.Tick = Unit {0}
HasParts form (Input.Force number) = number ≤ greatest_record
HasParts form (Input.Acked identity) = (object_of (parcel_spelling (Parcel.Ack identity)) ≡ Ok (Parcel.Ack identity)) × (length (parcel_spelling (Parcel.Ack identity)) < 2 ^ 64)
