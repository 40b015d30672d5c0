-- How a journal is read and begun.
use Rattle.std.specs.Prelude.{◌≡◌, ◌⊎◌, ℕ, List, [], length, Result, Ok, Err}
use Rattle.nsi_primitive.specs.declared.entry.Entry.{Entry}
use Rattle.nsi_disk.specs.Disk.{History, seen, MayLeave}
use Rattle.journal_entry.specs.Payloads.{batch_of}
use Rattle.journal_entry.specs.Journals.{recovers, entries_from, whole, ReadAll}
use Rattle.disk_journal.specs.Batches.{batches, Begins, Settled, payloads}
use Rattle.disk_journal.specs.declared.reading.ReadFault.{ReadFault}
use Rattle.disk_journal.specs.declared.reading.ReadFault.TheVariants.{NotAJournal, NoMemory}

-- the entries from the first gate on
abbrev pub all_of : List ℕ → Result (List Entry) ℕ
all_of file = entries_from batch_of (length file) 0 file

-- a file was read as batches of these entries, with a closed gate at this place behind them
pub record ReadsAs (file : List ℕ) (place : ℕ) (entries : List Entry) : Type 0 where
  pub is : all_of file ≡ Ok entries
  pub payloads : List (List ℕ)
  pub parts : entries_from whole (length file) 0 file ≡ Ok payloads
  pub begins : Begins payloads file
  pub at : place ≡ length (batches payloads)
  pub read : ReadAll batch_of payloads entries

-- there is no reading, and this is where
abbrev pub Fails : ReadFault → Result (List Entry) ℕ → Type 0
Fails (NotAJournal place) read = read ≡ Err place
Fails NoMemory read = Unit {0}

-- what a crash within a start may leave: what one before it could, or a file of the same entries
abbrev pub AsBefore : History → List ℕ → Type 0
AsBefore h c = MayLeave h c ⊎ (recovers batch_of c ≡ recovers batch_of (seen h))

abbrev pub AsRead : History → List ℕ → Type 0
AsRead h c = MayLeave h c ⊎ (c ≡ seen h)

-- nothing has happened since the last sync
pub record Rests (h : History) : Type 0 where
  pub each : (c : List ℕ) → MayLeave h c → c ≡ seen h

-- an empty journal, whose closed gate is the first byte
pub record IsEmptied (h k : History) : Type 0 where
  pub settled : Settled 0 9 k
  pub none : payloads k ≡ []

-- these entries were read, and stand behind their gates
pub record Opened (entries : List Entry) (gate longest : ℕ) (h k : History) : Type 0 where
  pub is : recovers batch_of (seen h) ≡ Ok entries
  pub settled : Settled gate longest k
  pub read : ReadAll batch_of (payloads k) entries
