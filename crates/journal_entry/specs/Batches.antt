-- Entries as they are spelled to be appended together.
use Rattle.std.specs.Prelude.{◌≡◌, ℕ, List, [], ◌∷◌, length, All, Option, Some, None}
use Rattle.nsi_primitive.specs.Printable.{IsPrintableEntry}
use Rattle.nsi_primitive.specs.declared.entry.Entry.{Entry}
use Rattle.journal_entry.specs.declared.form.Form.{Form}
use Rattle.journal_entry.specs.Payloads.{payload_of, payload_spelling}
use Rattle.journal_entry.specs.Spelling.{IsReadAgain}

abbrev pub or_none : Option (List Entry) → List Entry
or_none None = []
or_none (Some es) = es

-- the entries of a payload, none where the bytes are none
abbrev pub entries_of : List ℕ → List Entry
entries_of bytes = or_none (payload_of bytes)

-- without entries there isn't a byte
abbrev pub batch_spelling : List Entry → List ℕ
batch_spelling [] = []
batch_spelling (e ∷ es) = payload_spelling Form.Two (e ∷ es)

-- the bytes are the spelling of so many entries, which are read again
pub record IsBatch (bytes : List ℕ) (count : ℕ) : Type 0 where
  pub spelled : bytes ≡ batch_spelling (entries_of bytes)
  pub again : All (IsReadAgain Form.Two) (entries_of bytes)
  pub counted : count ≡ length (entries_of bytes)
