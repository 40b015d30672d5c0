-- What is true of entries, payloads and journals.
use Rattle.std.specs.Prelude.{◌≡◌, ℕ, List, [], ◌∷◌, ◌++◌, length, All, Some, Ok}
use Rattle.nsi_primitive.specs.declared.entry.Entry.{Entry}
use Rattle.journal_entry.specs.declared.form.Form.{Form}
use Rattle.journal_entry.specs.Fields.{IsByte}
use Rattle.journal_entry.specs.Entries.{entry_at}
use Rattle.journal_entry.specs.Spelling.{entry_spelling, entry_of, HasSpelling}
use Rattle.journal_entry.specs.Payloads.{payload_of, payload_spelling, IsSpelledPayload, batch_of}
use Rattle.journal_entry.specs.Journals.{recovers, whole, ReadAll}

abbrev pub EntriesAreReadAgain : Type 0
EntriesAreReadAgain =
    (form : Form) (e : Entry) (rest : List ℕ) → HasSpelling form e
    → entry_of form (entry_spelling form e ++ rest) ≡ Some (e, length (entry_spelling form e))

abbrev pub PayloadsAreReadAgain : Type 0
PayloadsAreReadAgain = (form : Form) (es : List Entry) → All (HasSpelling form) es → payload_of (payload_spelling form es) ≡ Some es

abbrev pub EntriesAreSpelled : Type 0
EntriesAreSpelled =
    (form : Form) (bytes rest : List ℕ) (e : Entry) → All IsByte bytes → entry_at form bytes ≡ Some (e, rest) → bytes ≡ entry_spelling form e ++ rest

abbrev pub PayloadsAreSpelled : Type 0
PayloadsAreSpelled =
    (bytes : List ℕ) (es : List Entry) → All IsByte bytes → payload_of bytes ≡ Some es → IsSpelledPayload bytes es

-- a file that stands for payloads stands for their entries
abbrev pub PayloadsAreEntries : Type 0
PayloadsAreEntries =
    (file : List ℕ) (payloads : List (List ℕ)) (entries : List Entry)
    → recovers whole file ≡ Ok payloads → ReadAll batch_of payloads entries → recovers batch_of file ≡ Ok entries

-- one more payload adds its entries at the end
abbrev pub OneMorePayload : Type 0
OneMorePayload =
    (payloads : List (List ℕ)) (payload : List ℕ) (entries more : List Entry)
    → ReadAll batch_of payloads entries → batch_of payload ≡ Some more → ReadAll batch_of (payloads ++ payload ∷ []) (entries ++ more)
