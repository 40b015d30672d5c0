-- Payloads: a form byte and whole entries.
use Rattle.std.specs.Prelude.{◌≡◌, ℕ, zero, suc, List, [], ◌∷◌, length, Option, Some, None}
use Rattle.std.specs.List.{flat_map}
use Rattle.nsi_base.specs.Options.{◌>>=◌}
use Rattle.nsi_primitive.specs.declared.entry.Entry.{Entry}
use Rattle.journal_entry.specs.Forms.{form_byte, form_of}
use Rattle.journal_entry.specs.declared.form.Form.{Form}
use Rattle.journal_entry.specs.Entries.{entry_at}
use Rattle.journal_entry.specs.Spelling.{entry_spelling}

-- an entry before those behind it
abbrev pub onto : Entry → Option (List Entry) → Option (List Entry)
onto e None = None
onto e (Some es) = Some (e ∷ es)

-- entries to the end, at most `fuel`; each takes a byte at least
unfoldable pub entries_in : Form → ℕ → List ℕ → Option (List Entry)
entries_in form fuel [] = Some []
entries_in form zero (b ∷ bytes) = None
entries_in form (suc fuel) (b ∷ bytes) = entry_at form (b ∷ bytes) >>= λ x. onto x.0 (entries_in form fuel x.1)

-- the entries of a payload: the byte of a form, and whole entries in it to the end
unfoldable pub payload_of : List ℕ → Option (List Entry)
payload_of [] = None
payload_of (b ∷ bytes) = do
  form ← form_of b
  entries_in form (length bytes) bytes

-- and how it is spelled in a form
abbrev pub payload_spelling : Form → List Entry → List ℕ
payload_spelling form es = form_byte form ∷ flat_map (entry_spelling form) es

-- the bytes are the spelling of these entries in one of the forms
pub record IsSpelledPayload (bytes : List ℕ) (es : List Entry) : Type 0 where
  pub form : Form
  pub spelled : bytes ≡ payload_spelling form es

-- one entry or more
abbrev pub not_empty : List Entry → Option (List Entry)
not_empty [] = None
not_empty (e ∷ es) = Some (e ∷ es)

-- the entries of a batch of a journal: a payload with one entry or more
abbrev pub batch_of : List ℕ → Option (List Entry)
batch_of payload = payload_of payload >>= not_empty
