-- The JSON of the parcel that an input takes.
use Rattle.std.specs.Prelude.{◌≡◌, ℕ, List, [], Ok}
use Rattle.nsi_primitive.specs.declared.entry.Input.{Input}
use Rattle.nsi_primitive.specs.declared.message.Parcel.{Parcel}
use Rattle.json_primitives.specs.Lines.{object_of}
use Rattle.json_primitives.specs.Spelling.{spelling, parcel_spelling}

-- nothing where it takes none
abbrev pub input_spelling : Input → List ℕ
input_spelling (Input.Got message) = spelling message
input_spelling (Input.Acked identity) = parcel_spelling (Parcel.Ack identity)
input_spelling _ = []

-- it is read again as the parcel
abbrev pub IsInputAgain : Input → Type 0
IsInputAgain (Input.Got message) = object_of (spelling message) ≡ Ok (Parcel.Message message)
IsInputAgain (Input.Acked identity) = object_of (parcel_spelling (Parcel.Ack identity)) ≡ Ok (Parcel.Ack identity)
IsInputAgain _ = Unit {0}
