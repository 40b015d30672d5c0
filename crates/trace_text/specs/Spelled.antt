-- The JSON of the parcel that an event took.
use Rattle.std.specs.Prelude.{◌≡◌, ◌<◌, ℕ, List, [], length}
use Rattle.nsi_primitive.specs.declared.entry.Event.{Event}
use Rattle.nsi_primitive.specs.declared.entry.Happening.{Happening}
use Rattle.json_primitives.specs.Inputs.{input_spelling}

abbrev pub what_spelling : Happening → List ℕ
what_spelling (Happening.Entry entry answer) = input_spelling entry.input
what_spelling _ = []

-- nothing, or that JSON
abbrev pub IsSpelling : Event → List ℕ → Type 0
IsSpelling event line = 0 < length line → line ≡ what_spelling event.what
