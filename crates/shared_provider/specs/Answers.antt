-- What a book answers.
use Rattle.std.specs.Prelude.{◌≡◌, ◌⊎◌, ◌<◌, ◌+◌, ℕ, [], length, Option, Some, None, IfSome}
use Rattle.nsi_primitive.specs.declared.entry.Entry.{Entry}
use Rattle.agent_state.specs.Entries.{most_entries}
use Rattle.journal_entry.specs.Journal.{HasSameCounts}
use Rattle.shared_provider.specs.declared.reply.Reply.{Reply}
use Rattle.shared_provider.specs.declared.reply.BookFault.{BookFault}
use Rattle.shared_provider.specs.declared.reply.BookFault.TheVariants.{DiskFault, Closed, Full, NoMemory}
use Rattle.shared_provider.specs.History.{journal_of}
use Rattle.shared_provider.specs.Book.{Book, Held, counted, steps, enter, with_entry, entered, closed, IsOpen}

-- nothing was asked, and nothing changed
pub record AddsNothing (old new : Book) (r : Reply) : Type 0 where
  pub same : new ≡ old
  pub place : r.place ≡ None
  pub event : r.event ≡ None
  pub durable : r.durable ≡ (journal_of new.events).synced
  pub messages : r.messages.items ≡ []

-- the entry and its sync; the reply has its place in the history, how much is synced, and what it causes
pub record Adds (e : Entry) (old new : Book) (r : Reply) : Type 0 where
  pub book : new ≡ entered e old
  pub place : r.place ≡ Some (length old.events)
  pub event : r.event ≡ Some (enter old.agent e)
  pub durable : r.durable ≡ (journal_of new.events).synced
  pub messages : r.messages.items ≡ (steps old e).out

-- what is asked was added
abbrev pub Answers : Option Entry → Book → Book → Reply → Type 0
Answers None old new r = AddsNothing old new r
Answers (Some e) old new r = Adds e old new r

-- its disk has failed or stopped: what is asked was added without its sync, or not at all, and it is closed
pub record HasBroken (asked : Option Entry) (old new : Held) (n : ℕ) : Type 0 where
  pub was_open : IsOpen old.book
  pub number : n ≡ 1
  pub counts : counted old.meter < counted new.meter
  pub book : (new.book ≡ closed old.book) ⊎ IfSome asked (λ e. new.book ≡ closed (with_entry e old.book))

-- an earlier call broke it
pub record WasClosed (old new : Held) (n : ℕ) : Type 0 where
  pub was_closed : 0 < old.book.faults
  pub number : n ≡ old.book.faults
  pub same : new ≡ old

pub record WasFull (old new : Held) : Type 0 where
  pub was_open : old.book.faults ≡ 0
  pub full : old.book.state.taken ≡ most_entries
  pub same : new ≡ old

-- memory was wanting: its disk may have been written to, but no call of it failed
pub record HasLacked (old new : Held) : Type 0 where
  pub was_open : IsOpen old.book
  pub same : new.book ≡ old.book
  pub counts : HasSameCounts old.meter new.meter

abbrev pub Fails : Option Entry → Held → Held → BookFault → Type 0
Fails asked old new (DiskFault n) = HasBroken asked old new n
Fails asked old new (Closed n) = WasClosed old new n
Fails asked old new Full = WasFull old new
Fails asked old new NoMemory = HasLacked old new
