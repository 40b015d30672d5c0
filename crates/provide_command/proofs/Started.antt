-- A journal that was begun, or wasn't.
use Rattle.std.proofs.Common.{◌≡◌, ◌<◌, inl, inr, ◌⊎◌, ℕ, zero, suc, List, [], ◌++◌, take, Option, Some, None, Result, Ok, Err, IfSome, refl, sym, ap, ◌∙◌, subst, arith}
use Rattle.std.specs.Prelude.{IfOk, IfErr, OnOk, OnErr}
use Rattle.disk_journal.specs.StartOf.{StartsFor, KeepsCounts, ReadsAsJournal}
use Rattle.disk_journal.specs.declared.opening.StartCause.{StartCause}
use Rattle.nsi_disk.specs.Disk.{History, Meter, seen}
use Rattle.nsi_primitive.specs.declared.entry.Entry.{Entry}
use Rattle.journal_entry.specs.Payloads.{batch_of}
use Rattle.journal_entry.specs.Journals.{recovers}
use Rattle.line_reader.specs.Given.{Given}
use Rattle.line_reader.specs.Held.{Held}
use Rattle.stp_topology.specs.declared.network.Network.{Network}
use Rattle.stp_topology.specs.Network.{name_of}
use Rattle.provide_command.specs.Declares.{HasFaultCounts}
use Rattle.provide_command.specs.Halts.{HasHaltCause, HasHaltCounts, CountsHalts}
use Rattle.provide_command.specs.Outcome.{begins_behind, journal_fault}
use Rattle.provide_command.specs.Phases.{Reading, ends_as}
use Rattle.provide_command.specs.Promise.{Writes, WritesFront, promise_of, ended, IsSameEnd}
use Rattle.provide_command.specs.Provided.{IsUnread, HasFailed, refused_text, ReadsAs, file_of, ServedTo}
use Rattle.provide_command.specs.UpTo.{IsBegun, HaltsAt}
use Rattle.provide_command.specs.declared.output.Fault.{Fault}
use Rattle.provide_command.specs.declared.output.Halt.{Halt}
use Rattle.provide_command.specs.declared.status.Ending.{Ending}
use Rattle.provide_command.proofs.Begun.{begun_same, begun_halts}
use Rattle.provide_command.proofs.Provided.{file_reads}

---- What the disk read as

pub reads_entries : (history : Option History) (entries : List Entry) → ReadsAsJournal entries history → ReadsAs (file_of history) (Ok entries)
reads_entries None entries r = tt
reads_entries (Some h) entries r = r

reads_place : (history : Option History) (place : ℕ) → IfSome history (λ h. recovers batch_of (seen h) ≡ Err place) → ReadsAs (file_of history) (Err place)
reads_place None place r = tt
reads_place (Some h) place r = r

pub served_of : (file : Option (List ℕ)) (read : Reading) (most : ℕ) (first start : Option (List ℕ)) (r : Result Ending Halt) (held : Held) (left new : Option (List ℕ)) → ReadsAs file read
    → IfOk r (λ ending. IsSameEnd (promise_of read most first start) (ended ending new)) → IfErr r (λ halt. HaltsAt read most first start halt held left new) → ServedTo file most first start r held left new
served_of file read most first start (Ok ending) held left new told e h = (read, told, e)
served_of file read most first start (Err halt) held left new told e h = (read, told, h)

---- Counts

-- along counts that didn't rise before
pub counts_along : {T : Type 0} (r : Result T Halt) (reads now_reads old writes now_writes : ℕ) → writes ≡ old → HasHaltCounts r reads now_reads writes now_writes → HasHaltCounts r reads now_reads old now_writes
counts_along r reads now_reads old writes now_writes e h = subst (λ w. HasHaltCounts r reads now_reads w now_writes) e h

ok_same : {T : Type 0} (x : Result T Halt) (n : ℕ) → OnOk x (n ≡ n)
ok_same (Ok y) n = refl
ok_same (Err y) n = tt

ok_along : {T : Type 0} (x : Result T Halt) (P Q : Type 0) → (P → Q) → OnOk x P → OnOk x Q
ok_along (Ok y) P Q f p = f p
ok_along (Err y) P Q f p = tt

-- what reads nothing
pub counts_unread : {T : Type 0} (r : Result T Halt) (reads writes now_writes : ℕ) → CountsHalts r writes now_writes → HasHaltCounts r reads reads writes now_writes
counts_unread r reads writes now_writes c = record {
  read = λ e. absurd (c.not_read e);
  write = c.write;
  quiet_in = ok_same r reads;
  quiet_out = c.quiet;
  write_in = λ _. refl;
  read_out = λ e. absurd (c.not_read e);
  memory_in = λ _. refl;
  memory_out = c.memory;
  disk_in = λ _. refl;
  disk_out = c.disk;
}

-- what reads nothing and writes nothing
pub counts_none : (end : Result Ending Halt) (reads writes : ℕ) → (end ≡ Err (Halt.Outside Fault.Read) → ⊥) → (end ≡ Err (Halt.Outside Fault.Write) → ⊥) → HasHaltCounts end reads reads writes writes
counts_none end reads writes not_read not_write = record {
  read = λ e. absurd (not_read e);
  write = λ e. absurd (not_write e);
  quiet_in = ok_same end reads;
  quiet_out = ok_same end writes;
  write_in = λ _. refl;
  read_out = λ _. refl;
  memory_in = λ _. refl;
  memory_out = λ _. refl;
  disk_in = λ _. refl;
  disk_out = λ _. refl;
}

pub cause_along : {T : Type 0} (r : Result T Halt) (first old now last : Meter) → KeepsCounts first old → HasHaltCause r old now → last ≡ now → HasHaltCause r first last
cause_along r first old now last k c e = record {
  faults = omega (arith, k.faults, c.faults, ap (λ (m : Meter). m.faults) e);
  stops = omega (arith, k.stops, c.stops, ap (λ (m : Meter). m.stops) e);
  quiet = ok_along r (now.faults ≡ old.faults) (last.faults ≡ first.faults) (λ q. ap (λ (m : Meter). m.faults) e ∙ (q ∙ k.faults)) c.quiet;
  calm = ok_along r (now.stops ≡ old.stops) (last.stops ≡ first.stops) (λ q. ap (λ (m : Meter). m.stops) e ∙ (q ∙ k.stops)) c.calm;
  disk = λ d. raised (c.disk d);
}
  where
    raised : (old.faults < now.faults) ⊎ (old.stops < now.stops) → (first.faults < last.faults) ⊎ (first.stops < last.stops)
    raised (inl l) = inl (omega (arith, l, k.faults, ap (λ (m : Meter). m.faults) e))
    raised (inr l) = inr (omega (arith, l, k.stops, ap (λ (m : Meter). m.stops) e))

---- A journal that wasn't begun

-- its counts
pub refused_cause : (r : Result Ending Halt) (old now : Meter) (history : Option History) (cause : StartCause) → StartsFor old now history cause → IfOk r (λ e. (e ≡ Ending.NotAJournal) × IsUnread cause) → (r ≡ Err Halt.Disk → HasFailed cause) → HasHaltCause r old now
refused_cause r old now history cause s ok failed = record {
  faults = s.faults;
  stops = s.stops;
  quiet = quiet r cause s ok;
  calm = calm r cause s ok;
  disk = λ e. raised (failed e);
}
  where
    quiet : (x : Result Ending Halt) (c : StartCause) → StartsFor old now history c → IfOk x (λ e. (e ≡ Ending.NotAJournal) × IsUnread c) → OnOk x (now.faults ≡ old.faults)
    quiet (Ok e) (StartCause.NotAJournal place) s ok = (s.calm place refl).faults
    quiet (Ok e) StartCause.DiskFault s ok = absurd ok.1
    quiet (Ok e) StartCause.Stopped s ok = absurd ok.1
    quiet (Ok e) StartCause.NoMemory s ok = absurd ok.1
    quiet (Err e) c s ok = tt

    calm : (x : Result Ending Halt) (c : StartCause) → StartsFor old now history c → IfOk x (λ e. (e ≡ Ending.NotAJournal) × IsUnread c) → OnOk x (now.stops ≡ old.stops)
    calm (Ok e) (StartCause.NotAJournal place) s ok = (s.calm place refl).stops
    calm (Ok e) StartCause.DiskFault s ok = absurd ok.1
    calm (Ok e) StartCause.Stopped s ok = absurd ok.1
    calm (Ok e) StartCause.NoMemory s ok = absurd ok.1
    calm (Err e) c s ok = tt

    raised : HasFailed cause → (old.faults < now.faults) ⊎ (old.stops < now.stops)
    raised (inl e) = inl (s.fault e)
    raised (inr e) = inr (s.stopped e)

take_none : (k : ℕ) → take {A = ℕ} k [] ≡ []
take_none zero = refl
take_none (suc k) = refl

-- a front of nothing is one of each text
any_front : (content new : Option (List ℕ)) (text : List ℕ) → WritesFront content new [] → WritesFront content new text
any_front None new text w = tt
any_front (Some c) new text w = (0, w.1 ∙ ap (λ (x : List ℕ). Some (c ++ x)) (take_none w.0))

-- and what was written
module _ (most : ℕ) (first start : Option (List ℕ)) (number : ℕ) (whole : Network) (provider : ℕ) (content rest : Option (List ℕ)) (given : Option Given) (b : IsBegun most first start number whole provider content rest given)
    (old now : Meter) (history : Option History) (held : Held) (left new : Option (List ℕ)) where
  -- its bytes are none
  unread : (place : ℕ) (r : Result Ending Halt) → ReadsAs (file_of history) (Err place) → IfOk r (λ e. (e ≡ Ending.NotAJournal) × IsUnread (StartCause.NotAJournal place)) → OnOk r (Writes content new (journal_fault (name_of whole provider) place))
      → OnErr r (WritesFront content new (journal_fault (name_of whole provider) place)) → (r ≡ Err (Halt.Outside Fault.Read) → ⊥) → (r ≡ Err Halt.Disk → new ≡ content) → ServedTo (file_of history) most first start r held left new
  unread place (Ok e) told ok all front not_read unwritten =
      (Err place, told, subst (λ x. IsSameEnd (promise_of (Err place) most first start) (ended x new)) (sym ok.0) (begun_same most first start number whole provider content rest given b (Err place) (ends_as Ending.NotAJournal) new refl all))
  unread place (Err halt) told ok all front not_read unwritten =
      (Err place, told, begun_halts most first start number whole provider content rest given b (Err place) halt held left new (λ e. not_read (ap (λ (h : Halt). err h) e)) (λ e. unwritten (ap (λ (h : Halt). err h) e)) front)
    where
      err : Halt → Result Ending Halt
      err h = Err h

  -- or it couldn't be read
  unable : (cause : StartCause) (r : Result Ending Halt) → (IsUnread cause → ⊥) → IfOk r (λ e. (e ≡ Ending.NotAJournal) × IsUnread cause) → OnErr r (WritesFront content new []) → (r ≡ Err (Halt.Outside Fault.Read) → ⊥) → (r ≡ Err Halt.Disk → new ≡ content)
      → ServedTo (file_of history) most first start r held left new
  unable cause (Ok e) none ok front not_read unwritten = absurd (none ok.1)
  unable cause (Err halt) none ok front not_read unwritten =
      let r = file_reads (file_of history) in (
        r.0,
        r.1,
        begun_halts most first start number whole provider content rest given b r.0 halt held left new (λ e. not_read (ap (λ (h : Halt). err h) e)) (λ e. unwritten (ap (λ (h : Halt). err h) e))
            (any_front content new (begins_behind most whole provider r.0).text front),
      )
    where
      err : Halt → Result Ending Halt
      err h = Err h

  pub refused_to : (cause : StartCause) (r : Result Ending Halt) → StartsFor old now history cause → IfOk r (λ e. (e ≡ Ending.NotAJournal) × IsUnread cause) → OnOk r (Writes content new (refused_text (name_of whole provider) cause))
      → OnErr r (WritesFront content new (refused_text (name_of whole provider) cause)) → (r ≡ Err (Halt.Outside Fault.Read) → ⊥) → (r ≡ Err Halt.Disk → new ≡ content) → ServedTo (file_of history) most first start r held left new
  refused_to (StartCause.NotAJournal place) r s ok all front not_read unwritten = unread place r (reads_place history place (s.reading place refl)) ok all front not_read unwritten
  refused_to StartCause.DiskFault r s ok all front not_read unwritten = unable StartCause.DiskFault r (λ u. u) ok front not_read unwritten
  refused_to StartCause.Stopped r s ok all front not_read unwritten = unable StartCause.Stopped r (λ u. u) ok front not_read unwritten
  refused_to StartCause.NoMemory r s ok all front not_read unwritten = unable StartCause.NoMemory r (λ u. u) ok front not_read unwritten

---- Faults within the topology

outside_is : (a b : Fault) → Halt.Outside a ≡ Halt.Outside b → a ≡ b
outside_is a b h = cc

abbrev halted : Halt → Result Ending Halt
halted h = Err h

halt_is : (a b : Halt) → halted a ≡ halted b → a ≡ b
halt_is a b e = cc

abbrev fails : (A : Type 0) → Fault → Result A Fault
fails A f = Err f

failed_is : (A : Type 0) (a b : Fault) → halted (Halt.Outside a) ≡ halted (Halt.Outside b) → fails A a ≡ fails A b
failed_is A a b e = ap (fails A) (outside_is a b (halt_is (Halt.Outside a) (Halt.Outside b) e))

not_disk : (fault : Fault) → halted (Halt.Outside fault) ≡ halted Halt.Disk → ⊥
not_disk fault e = cc

pub fault_counts : (A : Type 0) (fault : Fault) (reads now_reads writes now_writes : ℕ) → HasFaultCounts {A = A} (Err fault) reads now_reads writes now_writes → HasHaltCounts {A = Ending} (Err (Halt.Outside fault)) reads now_reads writes now_writes
fault_counts A fault reads now_reads writes now_writes h = record {
  read = λ e. h.read (failed_is A fault Fault.Read e);
  write = λ e. h.write (failed_is A fault Fault.Write e);
  quiet_in = tt;
  quiet_out = tt;
  write_in = λ e. h.write_in (failed_is A fault Fault.Write e);
  read_out = λ e. h.read_out (failed_is A fault Fault.Read e);
  memory_in = λ e. h.memory_in (failed_is A fault Fault.NoMemory e);
  memory_out = λ e. h.memory_out (failed_is A fault Fault.NoMemory e);
  disk_in = λ e. absurd (not_disk fault e);
  disk_out = λ e. absurd (not_disk fault e);
}
