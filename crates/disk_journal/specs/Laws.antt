-- What is true of the bytes of journals.
use Rattle.std.specs.Prelude.{◌≡◌, ◌≢◌, ℕ, ◌<◌, ◌^◌, List, ◌∷◌, ◌++◌, length, Ok}
use Rattle.nsi_primitive.specs.declared.entry.Entry.{Entry}
use Rattle.journal_entry.specs.Payloads.{batch_of}
use Rattle.journal_entry.specs.Journals.{recovers, ReadAll}
use Rattle.disk_journal.specs.Batches.{batches}

-- open batches stand for their entries, and a closed gate and what is behind it for nothing
abbrev pub BatchesAreRead : Type 0
BatchesAreRead =
    (payloads : List (List ℕ)) (entries : List Entry) (gate : ℕ) (rest : List ℕ)
    → gate ≢ 1 → length (batches payloads) < 2 ^ 64 → ReadAll batch_of payloads entries → recovers batch_of (batches payloads ++ gate ∷ rest) ≡ Ok entries
