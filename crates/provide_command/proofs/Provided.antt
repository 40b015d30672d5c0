-- How `provide` has ended behind a whole topology.
use Rattle.std.proofs.Common.{◌≡◌, ◌≤◌, ◌<◌, ◌-◌, inl, inr, ◌⊎◌, ℕ, List, [], ◌++◌, take, eqb, true, false, Option, Some, None, Result, Ok, Err, IfSome, refl, sym, ap, ◌∙◌, subst, arith}
use Rattle.std.specs.Prelude.{OnOk}
use Rattle.nsi_disk.specs.Disk.{History, Fresh, Meter}
use Rattle.nsi_disk.specs.ShelfCounts.{Raised}
use Rattle.journal_entry.specs.Payloads.{batch_of}
use Rattle.journal_entry.specs.Journals.{recovers}
use Rattle.line_reader.specs.Given.{Given, given_of}
use Rattle.line_reader.specs.Held.{Held}
use Rattle.stp_topology.specs.declared.network.Network.{Network}
use Rattle.stp_topology.specs.Network.{name_of}
use Rattle.nsi_base.specs.Range.{greatest_input}
use Rattle.provide_command.specs.Cut.{IsCutByFault, IsFrontOfCut, IsStopped, StopsAt, AnswersThen}
use Rattle.provide_command.specs.Ends.{Serves, lines_in}
use Rattle.fault_lines.specs.Counts.{Counts, HasDiskFault}
use Rattle.provide_command.specs.Halts.{HasHaltCause, HasHaltCounts}
use Rattle.provide_command.specs.Outcome.{begins_behind, disk_fault_line, status_of}
use Rattle.provide_command.specs.Phases.{Reading, Phase}
use Rattle.provide_command.specs.Promise.{is_told, code_of, read_fault_line, promise_of, ended, IsSameEnd, IsKept}
use Rattle.provide_command.specs.Provided.{ReadsAs, file_of, ServedTo, EndsByLine, ConcludesFault, Concludes, HasProvided, CountsEnd}
use Rattle.provide_command.specs.UpTo.{IsUpToIf, IsBegun, HaltsAt}
use Rattle.provide_command.specs.declared.output.Fault.{Fault}
use Rattle.provide_command.specs.declared.output.Halt.{Halt}
use Rattle.provide_command.specs.declared.status.Ending.{Ending}
use Rattle.provide_command.specs.declared.status.Status.{Status}
use Rattle.provide_command.proofs.Answered.{nothing_stops, cut_by_fault, cut_in_fault, stopped, disk_then, disk_front}
use Rattle.provide_command.proofs.Begun.{declaring, begun_halts, begun_reading, begun_serves, by_told, any_reading, nothing_front}
use Rattle.provide_command.proofs.Promised.{is_kept}

---- Statuses

pub apart : (a b : Status) → eqb (code_of a) (code_of b) ≡ false → a ≡ b → ⊥
apart a b n e = not_equal (code_of b) (subst (λ x. eqb (code_of x) (code_of b) ≡ false) e n)
  where
    same : (k : ℕ) → eqb k k ≡ true
    same k = grind arith

    not_equal : (k : ℕ) → eqb k k ≡ false → ⊥
    not_equal k h = let t = same k in cc

-- an end that isn't told is no told one
pub not_told : (status fault : Status) → status ≡ fault → is_told fault ≡ false → is_told status ≡ true → ⊥
not_told status fault e n t = cc

ending_told : (ending : Ending) → is_told (status_of ending) ≡ true
ending_told Ending.Done = refl
ending_told Ending.BadTopology = refl
ending_told Ending.Long = refl
ending_told Ending.NotAJournal = refl

ending_used : (ending : Ending) → status_of ending ≡ Status.Usage → ⊥
ending_used Ending.Done e = apart _ _ refl e
ending_used Ending.BadTopology e = apart _ _ refl e
ending_used Ending.Long e = apart _ _ refl e
ending_used Ending.NotAJournal e = apart _ _ refl e

abbrev IsKind : Status → Status → Type 0
IsKind fault status = (status ≡ fault) ⊎ ((status ≡ Status.WriteFault) ⊎ (status ≡ Status.NoMemory))

kind_untold : (fault status : Status) → is_told fault ≡ false → IsKind fault status → is_told status ≡ true → ⊥
kind_untold fault status n (inl e) t = not_told status fault e n t
kind_untold fault status n (inr (inl e)) t = not_told status Status.WriteFault e refl t
kind_untold fault status n (inr (inr e)) t = not_told status Status.NoMemory e refl t

kind_not : (fault status other : Status) → IsKind fault status → eqb (code_of fault) (code_of other) ≡ false → eqb 3 (code_of other) ≡ false → eqb 1 (code_of other) ≡ false → status ≡ other → ⊥
kind_not fault status other (inl e) a b c o = apart fault other a (sym e ∙ o)
kind_not fault status other (inr (inl e)) a b c o = apart Status.WriteFault other b (sym e ∙ o)
kind_not fault status other (inr (inr e)) a b c o = apart Status.NoMemory other c (sym e ∙ o)

-- where it was cut short the line isn't whole
cut_not : (fault status : Status) → eqb 3 (code_of fault) ≡ false → eqb 1 (code_of fault) ≡ false → (status ≡ Status.WriteFault) ⊎ (status ≡ Status.NoMemory) → status ≡ fault → ⊥
cut_not fault status a b (inl e) o = apart Status.WriteFault fault a (sym e ∙ o)
cut_not fault status a b (inr e) o = apart Status.NoMemory fault b (sym e ∙ o)

---- Files

pub file_along : (file : Option (List ℕ)) (history : Option History) (read : Reading) → IfSome file (λ bytes. history ≡ Some (Fresh bytes)) → ReadsAs (file_of history) read → ReadsAs file read
file_along None history read told r = tt
file_along (Some bytes) history read told r = subst (λ h. ReadsAs (file_of h) read) told r

pub file_reads : (file : Option (List ℕ)) → (read : Reading) × ReadsAs file read
file_reads None = (Ok [], tt)
file_reads (Some bytes) = (recovers batch_of bytes, refl)

pub served_along : (file : Option (List ℕ)) (history : Option History) (most : ℕ) (first start : Option (List ℕ)) (end : Result Ending Halt) (held : Held) (left new : Option (List ℕ)) → IfSome file (λ bytes. history ≡ Some (Fresh bytes))
    → ServedTo (file_of history) most first start end held left new → ServedTo file most first start end held left new
served_along file history most first start (Ok ending) held left new told s = (s.0, file_along file history s.0 told s.1, s.2)
served_along file history most first start (Err halt) held left new told s = (s.0, file_along file history s.0 told s.1, s.2)

---- What was written

module _ (holds : List ℕ → Option (List ℕ)) (most : ℕ) (few : most ≤ 2000000) (first start : Option (List ℕ)) (number : ℕ) (whole : Network) (provider : ℕ) (content rest : Option (List ℕ)) (given : Option Given)
    (b : IsBegun most first start number whole provider content rest given) where
  abbrev name : List ℕ
  name = name_of whole provider

  -- nothing was written behind the topology
  pub untouched : (halt : Halt) (held : Held) (left new : Option (List ℕ)) → (halt ≡ Halt.Outside Fault.Read → ⊥) → new ≡ content → ServedTo (holds name) most first start (Err halt) held left new
  untouched halt held left new not_read e =
      let r = file_reads (holds name) in
      (r.0, r.1, begun_halts most first start number whole provider content rest given b r.0 halt held left new not_read (λ _. e) (nothing_front content new (begins_behind most whole provider r.0).text e))

  module _ (held : Held) (left mid new : Option (List ℕ)) (before after : Counts) (status : Status) where
    abbrev Goal : Type 0
    Goal = HasProvided holds most first start left before after status new

    ok_provided : (ending : Ending) → ServedTo (holds name) most first start (Ok ending) held left mid → status ≡ status_of ending → new ≡ mid → Goal
    ok_provided ending s is same =
        let told : is_told status ≡ true = ap is_told is ∙ ending_told ending in
        let kept : IsSameEnd (promise_of s.0 most first start) (ended ending new) = subst (λ x. IsSameEnd (promise_of s.0 most first start) (ended ending x)) (sym same) s.2 in
        record {
          ends = λ _. by_told holds (λ f r. IsKept (promise_of r most f start) status new) (λ r. tt) first start s.0
              (begun_reading holds most first start number whole provider content rest given s.0 b s.1) (is_kept (promise_of s.0 most first start) ending status new kept is);
          cut = λ e. absurd (not_told status Status.ReadFault e refl told);
          broken = λ e. absurd (not_told status Status.DiskFault e refl told);
          unfinished = λ how. absurd (not_cut how told);
        }
      where
        not_cut : (status ≡ Status.WriteFault) ⊎ (status ≡ Status.NoMemory) → is_told status ≡ true → ⊥
        not_cut (inl e) t = not_told status Status.WriteFault e refl t
        not_cut (inr e) t = not_told status Status.NoMemory e refl t

    stop_provided : (read : Reading) → ReadsAs (holds name) read → (fault : Status) → is_told fault ≡ false → eqb (code_of fault) 2 ≡ false → eqb (code_of fault) 7 ≡ false → status ≡ fault → after.reads ≡ before.reads
        → (at : ℕ) (phase : Phase) (c r : Option (List ℕ)) (g : Option Given) → IsUpToIf read most first start at phase c r g → StopsAt read at phase c g mid → new ≡ mid → Goal
    stop_provided read told fault untold not_read not_disk is reads at phase c r g up stops same = record {
      ends = λ t. absurd (not_told status fault is untold t);
      cut = λ e. absurd (apart fault Status.ReadFault not_read (sym is ∙ e));
      broken = λ e. absurd (apart fault Status.DiskFault not_disk (sym is ∙ e));
      unfinished = λ _. inl (
        reads,
        by_told holds (λ f x. IsStopped x most f start new) (λ x. tt) first start read (begun_reading holds most first start number whole provider content rest given read b told)
            (stopped read most first start at phase c r g new few up (subst (λ x. StopsAt read at phase c g x) (sym same) stops)),
      );
    }

    read_provided : (s : ServedTo (holds name) most first start (Err (Halt.Outside Fault.Read)) held left mid) (w v : ℕ) → before.reads < after.reads → EndsByLine read_fault_line Status.ReadFault status mid new w v → Goal
    read_provided s w v reads c =
        let told = begun_reading holds most first start number whole provider content rest given s.0 b s.1 in
        let h = s.2 in
        record {
          ends = λ t. absurd (kind_untold Status.ReadFault status refl c.kind t);
          cut = λ e. by_told holds (λ f r. IsCutByFault r most f start left new) (λ r. tt) first start s.0 told
              (cut_by_fault s.0 most first start h.number h.phase h.content h.rest h.given held left mid new read_fault_line few h.up_to h.halts.0 h.halts.1 h.halts.2 (c.told e));
          broken = λ e. absurd (kind_not Status.ReadFault status Status.DiskFault c.kind refl refl refl e);
          unfinished = λ how. inr (inl (
            reads,
            by_told holds (λ f r. IsFrontOfCut r most f start left new) (λ r. (0, tt)) first start s.0 told
                (cut_in_fault s.0 most first start h.number h.phase h.content h.rest h.given held left mid new read_fault_line few h.up_to h.halts.0 h.halts.1 h.halts.2 (c.front (cut_not Status.ReadFault status refl refl how))),
          ));
        }

    disk_provided : (s : ServedTo (holds name) most first start (Err Halt.Disk) held left mid) (w v : ℕ) → HasDiskFault before after → EndsByLine (disk_fault_line name) Status.DiskFault status mid new w v → Goal
    disk_provided s w v disk c =
        let told = begun_reading holds most first start number whole provider content rest given s.0 b s.1 in
        let h = s.2 in
        record {
          ends = λ t. absurd (kind_untold Status.DiskFault status refl c.kind t);
          cut = λ e. absurd (kind_not Status.DiskFault status Status.ReadFault c.kind refl refl refl e);
          broken = λ e. by_told holds Broken (λ r. tt) first start s.0 told
              (with_whole first start (begun_serves most first start number whole provider content rest given b)
              (disk_then s.0 most first start h.number h.phase h.content h.rest h.given mid new (disk_fault_line name) few h.up_to h.halts (c.told e)));
          unfinished = λ how. inr (inr (
            disk,
            by_told holds BrokenFront (λ r. tt) first start s.0 told
                (with_front first start (begun_serves most first start number whole provider content rest given b)
                (disk_front s.0 most first start h.number h.phase h.content h.rest h.given mid new (disk_fault_line name) few h.up_to h.halts (c.front (cut_not Status.DiskFault status refl refl how)))),
          ));
        }
      where
        Broken : Option (List ℕ) → Reading → Type 0
        Broken f read = IfSome f (λ c. IfSome start (λ bytes. (t : Network) × (p : ℕ) × Serves (lines_in bytes) t p
            × (text : List ℕ) × AnswersThen read most (given_of greatest_input bytes) (disk_fault_line (name_of t p)) text × (new ≡ Some (c ++ text))))

        BrokenFront : Option (List ℕ) → Reading → Type 0
        BrokenFront f read = IfSome f (λ c. IfSome start (λ bytes. (t : Network) × (p : ℕ) × Serves (lines_in bytes) t p × (k : ℕ)
            × (text : List ℕ) × AnswersThen read most (given_of greatest_input bytes) (take k (disk_fault_line (name_of t p))) text × (new ≡ Some (c ++ text))))

        with_whole : (f o : Option (List ℕ)) → IfSome f (λ c. IfSome o (λ bytes. Serves (lines_in bytes) whole provider))
            → IfSome f (λ c. IfSome o (λ bytes. (text : List ℕ) × AnswersThen s.0 most (given_of greatest_input bytes) (disk_fault_line name) text × (new ≡ Some (c ++ text))))
            → IfSome f (λ c. IfSome o (λ bytes. (t : Network) × (p : ℕ) × Serves (lines_in bytes) t p
            × (text : List ℕ) × AnswersThen s.0 most (given_of greatest_input bytes) (disk_fault_line (name_of t p)) text × (new ≡ Some (c ++ text))))
        with_whole None o v a = tt
        with_whole (Some c) None v a = tt
        with_whole (Some c) (Some bytes) v a = (whole, provider, v, a.0, a.1, a.2)

        with_front : (f o : Option (List ℕ)) → IfSome f (λ c. IfSome o (λ bytes. Serves (lines_in bytes) whole provider))
            → IfSome f (λ c. IfSome o (λ bytes. (k : ℕ) × (text : List ℕ) × AnswersThen s.0 most (given_of greatest_input bytes) (take k (disk_fault_line name)) text × (new ≡ Some (c ++ text))))
            → IfSome f (λ c. IfSome o (λ bytes. (t : Network) × (p : ℕ) × Serves (lines_in bytes) t p × (k : ℕ)
            × (text : List ℕ) × AnswersThen s.0 most (given_of greatest_input bytes) (take k (disk_fault_line (name_of t p))) text × (new ≡ Some (c ++ text))))
        with_front None o v a = tt
        with_front (Some c) None v a = tt
        with_front (Some c) (Some bytes) v a = (whole, provider, v, a.0, a.1, a.2, a.3)

    -- by how the lines ended or halted
    pub provided : (end : Result Ending Halt) (writes mid_writes now_writes : ℕ) → ServedTo (holds name) most first start end held left mid → HasHaltCounts end before.reads after.reads writes mid_writes
        → (end ≡ Err Halt.Disk → HasDiskFault before after) → Concludes name end status mid new mid_writes now_writes → Goal
    provided (Ok ending) w m v s counts disk c = ok_provided ending s c.is c.same
    provided (Err (Halt.Outside Fault.Read)) w m v s counts disk c = read_provided s m v (counts.read refl) c
    provided (Err (Halt.Outside Fault.Write)) w m v s counts disk c =
        stop_provided s.0 s.1 Status.WriteFault refl refl refl c.is (counts.write_in refl) s.2.number s.2.phase s.2.content s.2.rest s.2.given s.2.up_to s.2.halts c.same
    provided (Err (Halt.Outside Fault.NoMemory)) w m v s counts disk c =
        stop_provided s.0 s.1 Status.NoMemory refl refl refl c.is (counts.memory_in refl) s.2.number s.2.phase s.2.content s.2.rest s.2.given s.2.up_to s.2.halts c.same
    provided (Err Halt.Disk) w m v s counts disk c = disk_provided s m v (disk refl) c

    -- under a name that is the provider's
    pub provided_by : (n : List ℕ) → n ≡ name → (end : Result Ending Halt) (writes mid_writes now_writes : ℕ) → ServedTo (holds n) most first start end held left mid → HasHaltCounts end before.reads after.reads writes mid_writes
        → (end ≡ Err Halt.Disk → HasDiskFault before after) → Concludes n end status mid new mid_writes now_writes → Goal
    provided_by n e end w m v s counts disk c =
        provided end w m v (subst (λ x. ServedTo (holds x) most first start end held left mid) e s) counts disk (subst (λ x. Concludes x end status mid new m v) e c)

    -- the shelf gave no disk
    pub shelf_provided : (n : List ℕ) → n ≡ name → (w v : ℕ) → mid ≡ content → HasDiskFault before after → EndsByLine (disk_fault_line n) Status.DiskFault status mid new w v → Goal
    shelf_provided n e w v same disk c =
        disk_provided (untouched Halt.Disk held left mid (λ h. absurd (cc)) same) w v disk (subst (λ x. EndsByLine (disk_fault_line x) Status.DiskFault status mid new w v) e c)

    -- there was no memory for its name, or its disk
    pub memory_provided : status ≡ Status.NoMemory → new ≡ content → after.reads ≡ before.reads → mid ≡ content → Goal
    memory_provided is unwritten reads same =
        let r = file_reads (holds name) in
        stop_provided r.0 r.1 Status.NoMemory refl refl refl is reads number (declaring b.topology most) mid b.rest b.given
        (subst (λ x. IsUpToIf r.0 most first start number (declaring b.topology most) x b.rest b.given) (sym same) (b.up_to r.0)) (nothing_stops r.0 number (declaring b.topology most) mid b.given) (unwritten ∙ sym same)

---- What was counted

module _ (before after : Counts) (writes mid now : ℕ) (status : Status) where
  silent_counts : (fault : Status) → is_told fault ≡ false → eqb (code_of fault) 4 ≡ false → eqb (code_of fault) 2 ≡ false → eqb (code_of fault) 7 ≡ false → (fault ≡ Status.WriteFault → writes < now) → (fault ≡ Status.NoMemory → now ≡ writes)
      → status ≡ fault → CountsEnd before after writes now status
  silent_counts fault untold not_usage not_read not_disk write memory is = record {
    not_usage = λ e. apart fault Status.Usage not_usage (sym is ∙ e);
    read_fault = λ e. absurd (apart fault Status.ReadFault not_read (sym is ∙ e));
    write_fault = λ e. write (sym is ∙ e);
    disk_fault = λ e. absurd (apart fault Status.DiskFault not_disk (sym is ∙ e));
    quiet_in = λ t. absurd (not_told status fault is untold t);
    quiet_out = λ t. absurd (not_told status fault is untold t);
    quiet_faults = λ t. absurd (not_told status fault is untold t);
    quiet_stops = λ t. absurd (not_told status fault is untold t);
    reading = λ e. absurd (apart fault Status.ReadFault not_read (sym is ∙ e));
    memory = λ e. memory (sym is ∙ e);
  }

  line_counts : (fault : Status) (line : List ℕ) (content new : Option (List ℕ)) → is_told fault ≡ false → eqb (code_of fault) 4 ≡ false → (fault ≡ Status.ReadFault → before.reads < after.reads) → (fault ≡ Status.DiskFault → HasDiskFault before after)
      → eqb (code_of fault) 3 ≡ false → eqb (code_of fault) 1 ≡ false → mid ≡ writes → EndsByLine line fault status content new mid now → CountsEnd before after writes now status
  line_counts fault line content new untold not_usage reads disk not_write not_memory same c = record {
    not_usage = λ e. kind_not fault status Status.Usage c.kind not_usage refl refl e;
    read_fault = λ e. reads (is_fault Status.ReadFault c.kind refl refl e);
    write_fault = λ e. omega (arith, c.write e, same);
    disk_fault = λ e. disk (is_fault Status.DiskFault c.kind refl refl e);
    quiet_in = λ t. absurd (kind_untold fault status untold c.kind t);
    quiet_out = λ t. absurd (kind_untold fault status untold c.kind t);
    quiet_faults = λ t. absurd (kind_untold fault status untold c.kind t);
    quiet_stops = λ t. absurd (kind_untold fault status untold c.kind t);
    reading = λ e. c.quiet (e ∙ sym (is_fault Status.ReadFault c.kind refl refl e)) ∙ same;
    memory = λ e. c.memory e ∙ same;
  }
    where
      is_fault : (other : Status) → IsKind fault status → eqb 3 (code_of other) ≡ false → eqb 1 (code_of other) ≡ false → status ≡ other → fault ≡ other
      is_fault other (inl e) a d o = sym e ∙ o
      is_fault other (inr (inl e)) a d o = absurd (apart Status.WriteFault other a (sym e ∙ o))
      is_fault other (inr (inr e)) a d o = absurd (apart Status.NoMemory other d (sym e ∙ o))

  pub counts_end : (name : List ℕ) (end : Result Ending Halt) (content new : Option (List ℕ)) → HasHaltCounts end before.reads after.reads writes mid → (end ≡ Err Halt.Disk → HasDiskFault before after)
      → ((ending : Ending) → end ≡ Ok ending → Raised before.faults 0 after.faults × Raised before.stops 0 after.stops) → Concludes name end status content new mid now → CountsEnd before after writes now status
  counts_end name (Ok ending) content new counts disk raised c = record {
    not_usage = λ e. ending_used ending (sym c.is ∙ e);
    read_fault = λ e. absurd (not_told status Status.ReadFault e refl told);
    write_fault = λ e. absurd (not_told status Status.WriteFault e refl told);
    disk_fault = λ e. absurd (not_told status Status.DiskFault e refl told);
    quiet_in = λ _. counts.quiet_in;
    quiet_out = λ _. c.quiet ∙ counts.quiet_out;
    quiet_faults = λ _. (raised ending refl).0;
    quiet_stops = λ _. (raised ending refl).1;
    reading = λ _. c.quiet ∙ counts.quiet_out;
    memory = λ _. c.quiet ∙ counts.quiet_out;
  }
    where
      told : is_told status ≡ true
      told = ap is_told c.is ∙ ending_told ending
  counts_end name (Err (Halt.Outside Fault.Read)) content new counts disk raised c =
      line_counts Status.ReadFault _ content new refl refl (λ _. counts.read refl) (λ e. absurd (apart Status.ReadFault Status.DiskFault refl e)) refl refl (counts.read_out refl) c
  counts_end name (Err (Halt.Outside Fault.Write)) content new counts disk raised c =
      silent_counts Status.WriteFault refl refl refl refl (λ _. omega (arith, counts.write refl, c.quiet)) (λ e. absurd (apart Status.WriteFault Status.NoMemory refl e)) c.is
  counts_end name (Err (Halt.Outside Fault.NoMemory)) content new counts disk raised c =
      silent_counts Status.NoMemory refl refl refl refl (λ e. absurd (apart Status.NoMemory Status.WriteFault refl e)) (λ _. c.quiet ∙ counts.memory_out refl) c.is
  counts_end name (Err Halt.Disk) content new counts disk raised c =
      line_counts Status.DiskFault _ content new refl refl (λ e. absurd (apart Status.DiskFault Status.ReadFault refl e)) (λ _. disk refl) refl refl (counts.disk_out refl) c

---- The shelf

-- a disk that has counted faults raises those of its shelf
pub disk_raises : {T : Type 0} (result : Result T Halt) (old new : Meter) (before mid after : Counts) → HasHaltCause result old new → old.faults ≡ 0 → old.stops ≡ 0 → mid.faults ≡ before.faults → mid.stops ≡ before.stops
    → Raised mid.faults new.faults after.faults → Raised mid.stops new.stops after.stops → result ≡ Err Halt.Disk → HasDiskFault before after
disk_raises result old new before mid after cause f s mf ms rf rs e = by_count (cause.disk e)
  where
    by_count : (old.faults < new.faults) ⊎ (old.stops < new.stops) → HasDiskFault before after
    by_count (inl l) = inl (new.faults, omega (arith, f, l), subst (λ k. Raised k new.faults after.faults) mf rf)
    by_count (inr l) = inr (new.stops, omega (arith, s, l), subst (λ k. Raised k new.stops after.stops) ms rs)

-- one that has counted none doesn't
pub none_raised : (old now before mid after : ℕ) → now ≡ old → old ≡ 0 → mid ≡ before → Raised mid now after → Raised before 0 after
none_raised old now before mid after same zero at r = subst (λ k. Raised k 0 after) at (subst (λ k. Raised mid k after) (same ∙ zero) r)

-- a shelf that gave no disk has counted that
pub shelf_raises : (before after : Counts) → before.faults < after.faults → HasDiskFault before after
shelf_raises before after l = inl (after.faults - before.faults, omega (arith, l), inl (omega (arith, l)))

-- what holds at an end that was told
pub at_ok : (r : Result Ending Halt) (x : Ending) (P : Type 0) → OnOk r P → r ≡ Ok x → P
at_ok r x P h e = subst (λ y. OnOk y P) e h

---- Within the topology

module _ (holds : List ℕ → Option (List ℕ)) (most : ℕ) (few : most ≤ 2000000) (first start : Option (List ℕ)) (held : Held) (left mid new : Option (List ℕ)) (before after : Counts) (status : Status) where
  -- how the topology ends is what every journal promises
  pub ended_provided : (ending : Ending) → ((read : Reading) → IsSameEnd (promise_of read most first start) (ended ending mid)) → status ≡ status_of ending → new ≡ mid → HasProvided holds most first start left before after status new
  ended_provided ending same is unwritten =
      let told : is_told status ≡ true = ap is_told is ∙ ending_told ending in
      record {
        ends = λ _. any_reading holds start (λ r. IsKept (promise_of r most first start) status new)
            (λ r. is_kept (promise_of r most first start) ending status new (subst (λ x. IsSameEnd (promise_of r most first start) (ended ending x)) (sym unwritten) (same r)) is);
        cut = λ e. absurd (not_told status Status.ReadFault e refl told);
        broken = λ e. absurd (not_told status Status.DiskFault e refl told);
        unfinished = λ how. absurd (not_cut how told);
      }
    where
      not_cut : (status ≡ Status.WriteFault) ⊎ (status ≡ Status.NoMemory) → is_told status ≡ true → ⊥
      not_cut (inl e) t = not_told status Status.WriteFault e refl t
      not_cut (inr e) t = not_told status Status.NoMemory e refl t

  stopped_any : (fault : Status) → is_told fault ≡ false → eqb (code_of fault) 2 ≡ false → eqb (code_of fault) 7 ≡ false → status ≡ fault → after.reads ≡ before.reads → ((read : Reading) → IsStopped read most first start new)
      → HasProvided holds most first start left before after status new
  stopped_any fault untold not_read not_disk is reads stops = record {
    ends = λ t. absurd (not_told status fault is untold t);
    cut = λ e. absurd (apart fault Status.ReadFault not_read (sym is ∙ e));
    broken = λ e. absurd (apart fault Status.DiskFault not_disk (sym is ∙ e));
    unfinished = λ _. inl (reads, any_reading holds start (λ r. IsStopped r most first start new) stops);
  }

  -- a fault from outside within the topology
  pub fault_provided : (fault : Fault) (writes mid_writes now_writes : ℕ) → ((read : Reading) → HaltsAt read most first start (Halt.Outside fault) held left mid) → HasHaltCounts {A = Ending} (Err (Halt.Outside fault)) before.reads after.reads writes mid_writes
      → ConcludesFault fault status mid new mid_writes now_writes → HasProvided holds most first start left before after status new
  fault_provided Fault.Read w m v halts counts c = record {
    ends = λ t. absurd (kind_untold Status.ReadFault status refl c.kind t);
    cut = λ e. any_reading holds start (λ r. IsCutByFault r most first start left new)
        (λ r. let h = halts r in cut_by_fault r most first start h.number h.phase h.content h.rest h.given held left mid new read_fault_line few h.up_to h.halts.0 h.halts.1 h.halts.2 (c.told e));
    broken = λ e. absurd (kind_not Status.ReadFault status Status.DiskFault c.kind refl refl refl e);
    unfinished = λ how. inr (inl (
      counts.read refl,
      any_reading holds start (λ r. IsFrontOfCut r most first start left new)
          (λ r. let h = halts r in cut_in_fault r most first start h.number h.phase h.content h.rest h.given held left mid new read_fault_line few h.up_to h.halts.0 h.halts.1 h.halts.2 (c.front (cut_not Status.ReadFault status refl refl how))),
    ));
  }
  fault_provided Fault.Write w m v halts counts c =
      stopped_any Status.WriteFault refl refl refl c.is (counts.write_in refl)
      (λ r. let h = halts r in stopped r most first start h.number h.phase h.content h.rest h.given new few h.up_to (subst (λ x. StopsAt r h.number h.phase h.content h.given x) (sym c.same) h.halts))
  fault_provided Fault.NoMemory w m v halts counts c =
      stopped_any Status.NoMemory refl refl refl c.is (counts.memory_in refl)
      (λ r. let h = halts r in stopped r most first start h.number h.phase h.content h.rest h.given new few h.up_to (subst (λ x. StopsAt r h.number h.phase h.content h.given x) (sym c.same) h.halts))
