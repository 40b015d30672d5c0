-- What a journal on a disk keeps, and when it may be used.
use Rattle.std.specs.Prelude.{◌≡◌, ℕ, ◌≤◌, ◌<◌, ◌^◌, false, List, [], length, Option, Some, None, IfSome, nat_lt, if◌then◌else◌}
use Rattle.nsi_primitive.specs.declared.entry.Entry.{Entry}
use Rattle.nsi_disk.specs.Disk.{History, Meter}
use Rattle.journal_entry.specs.Payloads.{batch_of}
use Rattle.journal_entry.specs.Journals.{read_all, ReadAll}
use Rattle.journal_entry.specs.Journal.{Kept}
use Rattle.disk_journal.specs.Batches.{payloads, waiting, Settled, Waits, HasSyncRoom}

abbrev pub listed : Option (List Entry) → List Entry
listed None = []
listed (Some es) = es

-- the entries of the synced batches of a disk
abbrev pub entries : History → List Entry
entries h = listed (read_all batch_of (payloads h))

-- and those of the batch that waits behind the closed gate, none where none does
abbrev pub waiting_entries : ℕ → ℕ → History → List Entry
waiting_entries gate next h = if nat_lt gate next then listed (batch_of (waiting gate next h)) else []

abbrev pub kept_of : ℕ → ℕ → Option History → Option Kept
kept_of gate next None = None
kept_of gate next (Some h) = Some (record { synced = entries h; waiting = waiting_entries gate next h })

-- the disk runs, and its batches stand where they are to
pub record IsReady (history : Option History) (meter : Meter) (gate next longest : ℕ) : Type 0 where
  pub runs : meter.stopped ≡ false
  pub fits : gate < 2 ^ 64
  pub order : gate ≤ next
  pub settled : IfSome history (Settled gate longest)
  pub waits : gate < next → IfSome history (Waits gate next longest)
  pub room : gate < next → HasSyncRoom meter gate longest

-- the batches hold entries, and they were counted
pub record IsCounted (history : Option History) (gate next count more : ℕ) : Type 0 where
  pub synced : IfSome history (λ h. ReadAll batch_of (payloads h) (entries h))
  pub held : gate < next → IfSome history (λ h. batch_of (waiting gate next h) ≡ Some (waiting_entries gate next h))
  pub counted : IfSome history (λ h. count ≡ length (entries h))
  pub counts : IfSome history (λ h. more ≡ length (waiting_entries gate next h))
