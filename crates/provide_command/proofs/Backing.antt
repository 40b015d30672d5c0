-- What was written is backed by the disk that is given back.
use Rattle.std.proofs.Common.{◌≡◌, ◌≤◌, ◌+◌, ◌∙◌, inl, inr, ◌⊎◌, ℕ, List, [], ◌∷◌, ◌++◌, length, take, leb, eqb, cond, Bool, true, false, Option, Some, None, is_some, Result, Ok, Err, IfSome, All, refl, sym, ap, subst, append_assoc, append-nil, arith, bytes_eq}
use Rattle.std.specs.Prelude.{OnOk, OnErr, if◌then◌else◌}
use Rattle.std.proofs.lemmas.Bool.Decides.{nat_tests}
use Rattle.std.proofs.lemmas.Slice.Eq.{bytes_eq-Decides}
use Rattle.disk_journal.specs.Batches.{Crashes}
use Rattle.disk_journal.specs.Opening.{AsBefore}
use Rattle.disk_journal.specs.StartOf.{LeavesNow, ReadsAsJournal, Keeps}
use Rattle.disk_journal.specs.declared.opening.StartCause.{StartCause}
use Rattle.journal_entry.specs.Journal.{Kept, MayLeaveSynced}
use Rattle.journal_entry.specs.Journals.{recovers}
use Rattle.journal_entry.specs.Payloads.{batch_of}
use Rattle.line_reader.specs.Given.{Given}
use Rattle.line_reader.specs.Held.{Held}
use Rattle.nsi_disk.specs.Disk.{History, Fresh, MayLeave, seen}
use Rattle.nsi_primitive.specs.Printable.{IsPrintableEntry}
use Rattle.nsi_primitive.specs.declared.entry.Entry.{Entry}
use Rattle.provider_agent.specs.Replay.{replayed}
use Rattle.provider_agent.specs.Runs.{after_all}
use Rattle.provider_agent.specs.Setting.{Setting, setting_of, own_stp}
use Rattle.provider_agent.specs.State.{State}
use Rattle.stp_topology.specs.Network.{nothing, first_provider, name_of}
use Rattle.stp_topology.specs.Text.{of_line, read_lines}
use Rattle.stp_topology.specs.declared.fault.TopologyFault.{TopologyFault}
use Rattle.stp_topology.specs.declared.network.Network.{Network}
use Rattle.stp_topology.specs.declared.topology.Taken.{Taken}
use Rattle.provide_command.specs.Backed.{StandsFor, IsLast, IsFrontOf, BacksRead, BacksProvider, Backs}
use Rattle.provide_command.specs.Backed.IsLast.{last_none, last_long, last_read, last_disk, last_journal, last_topology}
use Rattle.provide_command.specs.Cut.{StopsAt}
use Rattle.provide_command.specs.Ends.{Serves, lines_in}
use Rattle.provide_command.specs.Halts.{opened_step}
use Rattle.provide_command.specs.Keeping.{HasKept, KeepsAt, KeepsStated, LeavesTold, LeavesBacked, TellsRead, IsToldBy, is_whole, ends_whole}
use Rattle.provide_command.specs.Outcome.{begins_behind, declared, opened, disk_fault_line, journal_fault, next_text, status_of, move_of, GoesOn}
use Rattle.provide_command.specs.Phases.{Reading, Phase, in_service, goes_to, ends_as}
use Rattle.provide_command.specs.Promise.{code_of, read_fault_line, Writes, WritesFront, promise_of, ended, IsSameEnd}
use Rattle.provide_command.specs.Provided.{refused_text, EndsByLine, Concludes, ConcludesFault}
use Rattle.provide_command.specs.Runs.{IsWoven}
use Rattle.provide_command.specs.Serving.{Serving, serving_of}
use Rattle.provide_command.specs.UpTo.{IsUpTo, IsBegun, HaltsAt}
use Rattle.provide_command.specs.declared.output.Fault.{Fault}
use Rattle.provide_command.specs.declared.output.Halt.{Halt}
use Rattle.provide_command.specs.declared.status.Ending.{Ending}
use Rattle.provide_command.specs.declared.status.Status.{Status}
use Rattle.provide_command.proofs.Begun.{declaring, begins_if, begun_serves, reads_through, same_topology, nothing_front}
use Rattle.provide_command.proofs.Declared.{is_safe}
use Rattle.provide_command.proofs.Kept.{ok, stands, told_front, whole_front}
use Rattle.provide_command.proofs.Promised.{is_kept}
use Rattle.provide_command.proofs.Provided.{apart}
use Rattle.provide_command.proofs.Served.{woven_none}
use Rattle.provide_command.proofs.Serves.{well_at_first}

---- Behind a journal that was just read

-- its entries cause nothing in this call
stands_stated : (setting : Setting) (stp_of : List ℕ → Option ℕ) (reading : List ℕ → Reading) (stated : List Entry) (file : List ℕ) → All IsPrintableEntry stated → reading file ≡ Ok stated → StandsFor setting stp_of reading stated file []
unfolding after_all
stands_stated setting stp_of reading stated file printable read =
    stands setting stp_of reading stated [] [] file [] printable tt (read ∙ ap (λ (es : List Entry). ok es) (sym (append-nil stated))) ([], refl) woven_none

none_written : (setting : Setting) (stp_of : List ℕ → Option ℕ) (stated : List Entry) (content new : Option (List ℕ)) → Writes content new []
    → IfSome content (λ c. (text : List ℕ) × IsWoven (after_all setting stp_of (replayed setting stp_of stated) []).out text × (new ≡ Some (c ++ text)))
unfolding after_all
none_written setting stp_of stated None new w = tt
none_written setting stp_of stated (Some c) new w = ([], woven_none, w)

none_more : (setting : Setting) (stp_of : List ℕ → Option ℕ) (s : State) → s ≡ (after_all setting stp_of s []).state
unfolding after_all
none_more setting stp_of s = refl

kept_stated : (stated : List Entry) (kept : Option Kept) (history : Option History) → is_some kept ≡ is_some history → KeepsStated stated history kept → IfSome kept (λ k. (k.synced ≡ stated ++ []) × (k.waiting ≡ []))
kept_stated stated None history same s = tt
kept_stated stated (Some k) None same s = absurd (cc)
kept_stated stated (Some k) (Some h) same s = let e = some_is k (record { synced = stated; waiting = [] }) s in (ap (λ (x : Kept). x.synced) e ∙ sym (append-nil stated), ap (λ (x : Kept). x.waiting) e)
  where
    some_is : (a b : Kept) → Some a ≡ Some b → a ≡ b
    some_is a b q = cc

le_of : (a b : ℕ) → leb a b ≡ true → a ≤ b
le_of a b h = grind (arith, nat_tests)

module _ (most : ℕ) (few : most ≤ 2000000) (t : Network) (provider : ℕ) (stated : List Entry) (printable : All IsPrintableEntry stated) (kept : Option Kept) (history : Option History) (same : is_some kept ≡ is_some history)
    (begun : KeepsStated stated history kept) (content new : Option (List ℕ)) where
  first_kept : length stated ≤ most → Writes content new [] → HasKept stated (serving_of t provider stated most) kept content new
  first_kept fits w =
      let well = well_at_first t provider most stated few fits printable in
      record {
        printable = printable;
        more = [];
        run = tt;
        state = none_more (setting_of t provider) (own_stp t provider) (replayed (setting_of t provider) (own_stp t provider) stated);
        good = well.good;
        fits = well.few;
        most = well.most;
        kept_is = kept_stated stated kept history same begun;
        text = none_written (setting_of t provider) (own_stp t provider) stated content new w;
      }

  -- so a service begins that goes on
  pub opened_keeps : (s : Serving) → opened_step (Some s) ≡ (begins_behind most t provider (Ok stated)).step → Writes content new (begins_behind most t provider (Ok stated)).text
      → KeepsAt (setting_of t provider) (own_stp t provider) stated s kept content new
  opened_keeps s step w = by_few (leb (length stated) most) refl step w
    where
      not_ended : goes_to (in_service s) ≡ ends_as Ending.Long → ⊥
      not_ended e = cc

      same_service : goes_to (in_service s) ≡ goes_to (in_service (serving_of t provider stated most)) → s ≡ serving_of t provider stated most
      same_service e = cc

      by_few : (b : Bool) → leb (length stated) most ≡ b → goes_to (in_service s) ≡ (begins_if b most t provider stated).step → Writes content new (begins_if b most t provider stated).text
          → KeepsAt (setting_of t provider) (own_stp t provider) stated s kept content new
      by_few false f e w = absurd (not_ended e)
      by_few true f e w =
          subst (λ x. KeepsAt (setting_of t provider) (own_stp t provider) stated x kept content new) (sym (same_service e))
          (record { setting_is = refl; points_are = refl; has = first_kept (le_of (length stated) most f) w })

-- what is written before a service goes on is no line of a message
pub begins_last : (name : List ℕ) (most : ℕ) (t : Network) (provider : ℕ) (stated : List Entry) → IsLast name (begins_behind most t provider (Ok stated)).text
begins_last name most t provider stated = by_few (leb (length stated) most)
  where
    by_few : (b : Bool) → IsLast name (begins_if b most t provider stated).text
    by_few true = last_none refl
    by_few false = last_long refl

-- no service went on
pub unserved_left : (setting : Setting) (stp_of : List ℕ → Option ℕ) (reading : List ℕ → Reading) (stated : List Entry) (kept : Option Kept) (history : Option History) (content new : Option (List ℕ)) (last : List ℕ) → All IsPrintableEntry stated
    → KeepsStated stated history kept → IsLast setting.name last → WritesFront content new last → MayLeaveSynced reading kept history → LeavesTold false setting stp_of reading stated history content new
unserved_left setting stp_of reading stated kept history None new last printable begun is w l = tt
unserved_left setting stp_of reading stated kept None (Some c) new last printable begun is w l = tt
unserved_left setting stp_of reading stated kept (Some h) (Some c) new last printable begun is w l =
    let leaves = subst (λ k. MayLeaveSynced reading k (Some h)) begun l in
    λ file may. ([], stands_stated setting stp_of reading stated file printable (leaves file may), take w.0 last, w.1, (last, is, w.0, refl))

-- it has halted where neither reading nor the disk failed
pub cut_halt : (halt : Halt) → (halt ≡ Halt.Outside Fault.Read → ⊥) → (halt ≡ Halt.Disk → ⊥) → is_whole halt ≡ false
cut_halt (Halt.Outside Fault.Read) not_read not_disk = absurd (not_read refl)
cut_halt (Halt.Outside Fault.Write) not_read not_disk = refl
cut_halt (Halt.Outside Fault.NoMemory) not_read not_disk = refl
cut_halt Halt.Disk not_read not_disk = absurd (not_disk refl)

---- Behind a disk

pub begun_keeps : (stated : List Entry) (old now : Option History) (kept : Option Kept) → Keeps stated old kept → (old ≡ None → now ≡ None) → KeepsStated stated now kept
begun_keeps stated old None kept k untold = tt
begun_keeps stated None (Some h) kept k untold = absurd (none_told (untold refl))
  where
    none_told : Some h ≡ None → ⊥
    none_told e = cc
begun_keeps stated (Some o) (Some h) kept k untold = k

told_by : (a b : Option History) (h : History) → is_some a ≡ is_some b → b ≡ Some h → (k : History) × (a ≡ Some k)
told_by (Some k) b h same e = (k, refl)
told_by None b h same e = absurd (cc)

module _ (old : List ℕ) (t : Network) (provider : ℕ) where
  -- what was served behind a journal that was read
  pub disk_served : (whole : Bool) (before between now : Option History) (stated : List Entry) (content new : Option (List ℕ)) → before ≡ Some (Fresh old) → ReadsAsJournal stated before → Crashes before between AsBefore → is_some now ≡ is_some between
      → LeavesTold whole (setting_of t provider) (own_stp t provider) (recovers batch_of) stated now content new → LeavesBacked whole old t provider now content new
  disk_served whole before between now stated None new fresh reads crashes tells l = tt
  disk_served whole before between now stated (Some c) new fresh reads crashes tells l =
      let read : recovers batch_of old ≡ Ok stated = subst (ReadsAsJournal stated) fresh reads in
      let start = subst (λ h. Crashes h between AsBefore) fresh crashes in
      let told = told_by now between start.0 tells start.1 in
      let left = subst (λ h. LeavesTold whole (setting_of t provider) (own_stp t provider) (recovers batch_of) stated h (Some c) new) told.1 l in
      (told.0, told.1, λ file may. let x = left file may in (x.2, x.3, subst (λ r. TellsRead whole r t provider file x.2) (sym read) (λ printable. (x.0, x.1, x.4))))

  -- a file that reads as before, and no message was written
  untouched_tells : (whole : Bool) (read : Reading) (file text : List ℕ) → recovers batch_of file ≡ read → IsToldBy whole (name_of t provider) [] text → TellsRead whole read t provider file text
  untouched_tells whole (Ok stated) file text e told = λ printable. ([], stands_stated (setting_of t provider) (own_stp t provider) (recovers batch_of) stated file printable e, told)
  untouched_tells whole (Err place) file text e told = (e, told)

  refused_last : (cause : StartCause) → IsLast (name_of t provider) (refused_text (name_of t provider) cause)
  refused_last (StartCause.NotAJournal place) = last_journal place refl
  refused_last StartCause.DiskFault = last_none refl
  refused_last StartCause.Stopped = last_none refl
  refused_last StartCause.NoMemory = last_none refl

  front_told : (c last : List ℕ) (new : Option (List ℕ)) → IsLast (name_of t provider) last → WritesFront (Some c) new last → (text : List ℕ) × (new ≡ Some (c ++ text)) × IsFrontOf (name_of t provider) [] text
  front_told c last new is w = (take w.0 last, w.1, (last, is, w.0, refl))

  refused_told : (r : Result Ending Halt) (c last : List ℕ) (new : Option (List ℕ)) → IsLast (name_of t provider) last → OnOk r (Writes (Some c) new last) → OnErr r (WritesFront (Some c) new last) → (r ≡ Err (Halt.Outside Fault.Read) → ⊥) → (r ≡ Err Halt.Disk → new ≡ Some c)
      → (text : List ℕ) × (new ≡ Some (c ++ text)) × IsToldBy (ends_whole r) (name_of t provider) [] text
  refused_told (Ok ending) c last new is all front not_read unwritten = front_told c last new is (whole_front (Some c) new last all)
  refused_told (Err (Halt.Outside Fault.Read)) c last new is all front not_read unwritten = absurd (not_read refl)
  refused_told (Err (Halt.Outside Fault.Write)) c last new is all front not_read unwritten = front_told c last new is front
  refused_told (Err (Halt.Outside Fault.NoMemory)) c last new is all front not_read unwritten = front_told c last new is front
  refused_told (Err Halt.Disk) c last new is all front not_read unwritten = ([], unwritten refl ∙ ap (λ x. Some x) (sym (append-nil c)), refl)

  -- the journal wasn't begun
  pub disk_refused : (r : Result Ending Halt) (cause : StartCause) (before now : Option History) (content new : Option (List ℕ)) → before ≡ Some (Fresh old) → Crashes before now AsBefore → LeavesNow before now AsBefore
      → OnOk r (Writes content new (refused_text (name_of t provider) cause)) → OnErr r (WritesFront content new (refused_text (name_of t provider) cause)) → (r ≡ Err (Halt.Outside Fault.Read) → ⊥) → (r ≡ Err Halt.Disk → new ≡ content)
      → LeavesBacked (ends_whole r) old t provider now content new
  disk_refused r cause before now None new fresh crashes left all front not_read unwritten = tt
  disk_refused r cause before now (Some c) new fresh crashes left all front not_read unwritten =
      let start = subst (λ h. Crashes h now AsBefore) fresh crashes in
      let leaves = subst (λ h. LeavesNow (Some (Fresh old)) h AsBefore) start.1 (subst (λ h. LeavesNow h now AsBefore) fresh left) in
      let x = refused_told r c (refused_text (name_of t provider) cause) new (refused_last cause) all front not_read unwritten in
      (start.0, start.1, λ file may. (x.0, x.1, untouched_tells (ends_whole r) (recovers batch_of old) file x.0 (as_before file (leaves file may)) x.2))
    where
      as_before : (file : List ℕ) → AsBefore (Fresh old) file → recovers batch_of file ≡ recovers batch_of old
      as_before file (inl e) = ap (recovers batch_of) e
      as_before file (inr e) = e

  ---- Behind a shelf

  backs_of : (read : Reading) (file text : List ℕ) → TellsRead false read t provider file text → BacksRead read t provider file text
  backs_of (Ok stated) file text told = λ printable. let x = told printable in record { lines = x.0; stands = x.1; front = x.2 }
  backs_of (Err place) file text told = told

  backs_with : (read : Reading) (file text last : List ℕ) (k : ℕ) → IsLast (name_of t provider) last → TellsRead true read t provider file text → BacksRead read t provider file (text ++ take k last)
  backs_with (Ok stated) file text last k is told = λ printable.
      let x = told printable in
      record { lines = x.0; stands = x.1; front = subst (λ y. IsFrontOf (name_of t provider) x.0 (y ++ take k last)) (sym x.2) (told_front (name_of t provider) x.0 last k is) }
  backs_with (Err place) file text last k is told = (told.0, subst (λ y. IsFrontOf (name_of t provider) [] (y ++ take k last)) (sym told.1) (told_front (name_of t provider) [] last k is))

  abbrev Ended : List ℕ → Reading → List ℕ → Option (List ℕ) → Type 0
  Ended c read file new = (text : List ℕ) × (new ≡ Some (c ++ text)) × BacksRead read t provider file text

  ended_silent : (c : List ℕ) (read : Reading) (file text : List ℕ) (between new : Option (List ℕ)) → between ≡ Some (c ++ text) → TellsRead false read t provider file text → new ≡ between → Ended c read file new
  ended_silent c read file text between new e told same = (text, same ∙ e, backs_of read file text told)

  ended_line : (c : List ℕ) (read : Reading) (file text last : List ℕ) (between new : Option (List ℕ)) → IsLast (name_of t provider) last → between ≡ Some (c ++ text) → TellsRead true read t provider file text → WritesFront between new last → Ended c read file new
  ended_line c read file text last between new is e told w =
      let v = subst (λ o. WritesFront o new last) e w in
      (text ++ take v.0 last, v.1 ∙ ap (λ x. Some x) (append_assoc c text (take v.0 last)), backs_with read file text last v.0 is told)

-- a line of a fault was written, or a front of it
pub line_front : (line : List ℕ) (fault status : Status) (content new : Option (List ℕ)) (writes now_writes : ℕ) → eqb 3 (code_of fault) ≡ false → eqb 1 (code_of fault) ≡ false → EndsByLine line fault status content new writes now_writes
    → WritesFront content new line
line_front line fault status content new writes now_writes not_write not_memory c = by_kind c.kind
  where
    by_kind : (status ≡ fault) ⊎ ((status ≡ Status.WriteFault) ⊎ (status ≡ Status.NoMemory)) → WritesFront content new line
    by_kind (inl e) = whole_front content new line (c.told e)
    by_kind (inr (inl e)) = c.front (λ f. apart Status.WriteFault fault not_write (sym e ∙ f))
    by_kind (inr (inr e)) = c.front (λ f. apart Status.NoMemory fault not_memory (sym e ∙ f))

module _ (old : List ℕ) (t : Network) (provider : ℕ) (name : List ℕ) (is : name ≡ name_of t provider) (status : Status) (between new : Option (List ℕ)) (writes now_writes : ℕ) where
  concluded : (end : Result Ending Halt) (c file text : List ℕ) (read : Reading) → between ≡ Some (c ++ text) → TellsRead (ends_whole end) read t provider file text → Concludes name end status between new writes now_writes → Ended old t provider c read file new
  concluded (Ok ending) c file text read e told x = ended_silent old t provider c read file text between new e told x.same
  concluded (Err (Halt.Outside Fault.Read)) c file text read e told x =
      ended_line old t provider c read file text read_fault_line between new (last_read refl) e told (line_front read_fault_line Status.ReadFault status between new writes now_writes refl refl x)
  concluded (Err (Halt.Outside Fault.Write)) c file text read e told x = ended_silent old t provider c read file text between new e told x.same
  concluded (Err (Halt.Outside Fault.NoMemory)) c file text read e told x = ended_silent old t provider c read file text between new e told x.same
  concluded (Err Halt.Disk) c file text read e told x =
      ended_line old t provider c read file text (disk_fault_line name) between new (last_disk (ap disk_fault_line is)) e told (line_front (disk_fault_line name) Status.DiskFault status between new writes now_writes refl refl x)

abbrev Holds : Type 0
Holds = List ℕ → Option (List ℕ)

-- what a shelf holds when a disk was given back
abbrev GivesBack : Holds → Holds → List ℕ → Bool → Option History → Type 0
GivesBack between_holds new_holds name stopped given =
    IfSome given (λ h. (file : List ℕ) × MayLeave h file × (stopped ≡ false → file ≡ seen h) × ((n : List ℕ) → new_holds n ≡ (if bytes_eq name n then Some file else between_holds n)))

module _ (old_holds between_holds new_holds : Holds) (t : Network) (provider : ℕ) (name : List ℕ) (fetched given : Option History) (stopped : Bool) (end : Result Ending Halt) (status : Status) (between new : Option (List ℕ)) (writes now_writes : ℕ) where
  pub shelf_backed : (content : Option (List ℕ)) → name ≡ name_of t provider → IfSome (old_holds name) (λ file. fetched ≡ Some (Fresh file)) → ((file : List ℕ) → fetched ≡ Some (Fresh file) → LeavesBacked (ends_whole end) file t provider given content between)
      → GivesBack between_holds new_holds name stopped given → Concludes name end status between new writes now_writes → BacksProvider old_holds new_holds t provider content new
  shelf_backed None is told left back concludes = tt
  shelf_backed (Some c) is told left back concludes = by_old (old_holds (name_of t provider)) (subst (λ n. IfSome (old_holds n) (λ file. fetched ≡ Some (Fresh file))) is told)
    where
      held : (file : List ℕ) → new_holds (name_of t provider) ≡ (if bytes_eq name (name_of t provider) then Some file else between_holds (name_of t provider)) → new_holds (name_of t provider) ≡ Some file
      held file e = e ∙ ap (λ b. cond b (Some file) (between_holds (name_of t provider))) ((bytes_eq-Decides name (name_of t provider)).1 is)

      by_old : (o : Option (List ℕ)) → IfSome o (λ file. fetched ≡ Some (Fresh file))
          → IfSome o (λ old. (file : List ℕ) × (new_holds (name_of t provider) ≡ Some file) × (text : List ℕ) × (new ≡ Some (c ++ text)) × BacksRead (recovers batch_of old) t provider file text)
      by_old None f = tt
      by_old (Some old) f =
          let l = left old f in
          let g = subst (GivesBack between_holds new_holds name stopped) l.1 back in
          let x = l.2 g.0 g.1 in
          let y = concluded old t provider name is status between new writes now_writes end c g.0 x.0 (recovers batch_of old) x.1 x.2 concludes in
          (g.0, held g.0 (g.3 (name_of t provider)), y.0, y.1, y.2)

-- no disk was fetched
pub unshelved : (old_holds new_holds : Holds) (t : Network) (provider : ℕ) (content new : Option (List ℕ)) (last : List ℕ) → ((n : List ℕ) → new_holds n ≡ old_holds n) → IsLast (name_of t provider) last → WritesFront content new last
    → BacksProvider old_holds new_holds t provider content new
unshelved old_holds new_holds t provider None new last same is w = tt
unshelved old_holds new_holds t provider (Some c) new last same is w = by_old (old_holds (name_of t provider)) refl
  where
    by_old : (o : Option (List ℕ)) → old_holds (name_of t provider) ≡ o
        → IfSome o (λ old. (file : List ℕ) × (new_holds (name_of t provider) ≡ Some file) × (text : List ℕ) × (new ≡ Some (c ++ text)) × BacksRead (recovers batch_of old) t provider file text)
    by_old None e = tt
    by_old (Some old) e = (
      old,
      same (name_of t provider) ∙ e,
      take w.0 last,
      w.1,
      backs_of old t provider (recovers batch_of old) old (take w.0 last) (untouched_tells old t provider false (recovers batch_of old) old (take w.0 last) refl (last, is, w.0, refl)),
    )

-- nothing was written
pub unshelved_silent : (old_holds new_holds : Holds) (t : Network) (provider : ℕ) (content new : Option (List ℕ)) → ((n : List ℕ) → new_holds n ≡ old_holds n) → new ≡ content → BacksProvider old_holds new_holds t provider content new
unshelved_silent old_holds new_holds t provider content new same e = unshelved old_holds new_holds t provider content new [] same (last_none refl) (nothing_front content new [] e)

---- The lines of the topology

-- By a journal without a reading: lines that go on are lines of the topology, and nothing is written for them.
silent : (place number most : ℕ) (t : Network) (lines : List (List ℕ)) (phase : Phase) (text : List ℕ) → GoesOn (Err place) number (declaring t most) lines phase text → (text ≡ []) × (next : Network) × (phase ≡ declaring next most)
unfolding move_of
silent place number most t [] phase text g = (g.1, t, g.0)
silent place number most t (line ∷ lines) phase text g = by_result (of_line t line) (λ next h. silent place (number + 1) most next lines phase g.1 h) g.2 g.3 g.4
  where
    Goal : Type 0
    Goal = (text ≡ []) × (next : Network) × (phase ≡ declaring next most)

    not_ended : (e : Ending) → ends_as e ≡ goes_to g.0 → ⊥
    not_ended e h = cc

    by_result : (r : Result Taken TopologyFault) → ((next : Network) → GoesOn (Err place) (number + 1) (declaring next most) lines phase g.1 → (g.1 ≡ []) × (last : Network) × (phase ≡ declaring last most))
        → (declared (Err place) most number r).step ≡ goes_to g.0 → GoesOn (Err place) (number + 1) g.0 lines phase g.1 → text ≡ (declared (Err place) most number r).text ++ g.1 → Goal
    by_result (Err fault) deeper e h is = absurd (not_ended Ending.BadTopology e)
    by_result (Ok (Taken.More next)) deeper e h is =
        let x = deeper next (subst (λ p. GoesOn (Err place) (number + 1) p lines phase g.1) (sym (same e)) h) in
        (is ∙ x.0, x.1, x.2)
      where
        same : goes_to (declaring next most) ≡ goes_to g.0 → declaring next most ≡ g.0
        same h = cc
    by_result (Ok (Taken.Whole next)) deeper e h is = absurd (not_opened (first_provider next) e)
      where
        not_opened : (o : Option ℕ) → (opened (Err place) most number next o).step ≡ goes_to g.0 → ⊥
        not_opened None e = not_ended Ending.BadTopology e
        not_opened (Some p) e = not_ended Ending.NotAJournal e

-- What is written next ends the command, or is nothing; it has this name where the next line makes a topology whole whose first provider has it.
next_last : (name : List ℕ) (place number most : ℕ) (long : Bool) (t : Network) (lines : List (List ℕ))
    → ((line : List ℕ) (rest : List (List ℕ)) (whole : Network) (p : ℕ) → lines ≡ line ∷ rest → of_line t line ≡ Ok (Taken.Whole whole) → first_provider whole ≡ Some p → name_of whole p ≡ name) → IsLast name (next_text (Err place) long number (declaring t most) lines)
unfolding move_of
next_last name place number most true t [] named = last_long refl
next_last name place number most false t [] named = last_topology number TopologyFault.Word refl
next_last name place number most long t (line ∷ lines) named = by_result (of_line t line) refl
  where
    by_first : (next : Network) → of_line t line ≡ Ok (Taken.Whole next) → (o : Option ℕ) → first_provider next ≡ o → IsLast name (opened (Err place) most number next o).text
    by_first next e None f = last_topology number TopologyFault.Empty refl
    by_first next e (Some p) f = last_journal place (ap (λ n. journal_fault n place) (named line lines next p refl e f))

    by_result : (r : Result Taken TopologyFault) → of_line t line ≡ r → IsLast name (declared (Err place) most number r).text
    by_result (Err fault) e = last_topology number fault refl
    by_result (Ok (Taken.More next)) e = last_none refl
    by_result (Ok (Taken.Whole next)) e = by_first next e (first_provider next) refl

-- the sink has what it had
up_to_silent : (most : ℕ) (c bytes : List ℕ) (number : ℕ) (phase : Phase) (content rest : Option (List ℕ)) (given : Option Given) → IsUpTo (Err 0) most c bytes number phase content rest given
    → (content ≡ Some c) × (next : Network) × (phase ≡ declaring next most)
up_to_silent most c bytes number phase content rest given u =
    let x = silent 0 1 most nothing u.lines phase u.text u.goes in
    (u.content_is ∙ ap (λ y. Some y) (ap (λ y. c ++ y) x.0 ∙ append-nil c), x.1, x.2)

---- The command

pub begun_backs : (old_holds new_holds : Holds) (most : ℕ) (first start : Option (List ℕ)) (number : ℕ) (whole : Network) (provider : ℕ) (content rest : Option (List ℕ)) (given : Option Given) (new : Option (List ℕ))
    → IsBegun most first start number whole provider content rest given → BacksProvider old_holds new_holds whole provider content new → Backs old_holds new_holds first start new
begun_backs old_holds new_holds most first None number whole provider content rest given new b backs = tt
begun_backs old_holds new_holds most None (Some bytes) number whole provider content rest given new b backs = λ t p s. tt
begun_backs old_holds new_holds most (Some c) (Some bytes) number whole provider content rest given new b backs = λ t p s.
    let e = same_topology (lines_in bytes) whole t provider p (begun_serves most (Some c) (Some bytes) number whole provider content rest given b) s in
    let had = up_to_silent most c bytes number (declaring b.topology most) content b.rest b.given (b.up_to (Err 0)) in
    subst (λ x. BacksProvider old_holds new_holds x p (Some c) new) e.0 (subst (λ x. BacksProvider old_holds new_holds whole x (Some c) new) e.1 (subst (λ x. BacksProvider old_holds new_holds whole provider x new) had.0 backs))

pub ended_backs : (holds : Holds) (most : ℕ) (few : most ≤ 2000000) (first start : Option (List ℕ)) (ending : Ending) (new : Option (List ℕ)) → ((read : Reading) → IsSameEnd (promise_of read most first start) (ended ending new)) → Backs holds holds first start new
ended_backs holds most few first None ending new same = tt
ended_backs holds most few None (Some bytes) ending new same = λ t p s. tt
ended_backs holds most few (Some c) (Some bytes) ending new same = λ t p s.
    let safe = is_safe (Err 0) most (Some c) (Some bytes) new (status_of ending) few (is_kept (promise_of (Err 0) most (Some c) (Some bytes)) ending (status_of ending) new (same (Err 0)) refl) in
    let said = (safe.2 t s.0 p s.1 s.2).1 in
    unshelved holds holds t p (Some c) new (journal_fault (name_of t p) 0) (λ n. refl) (last_journal 0 refl)
    (whole_front (Some c) new (journal_fault (name_of t p) 0) (safe.1 ∙ ap (λ x. Some (c ++ x)) said))

stops_backs : (holds : Holds) (most : ℕ) (c bytes : List ℕ) (t : Network) (provider : ℕ) → Serves (lines_in bytes) t provider → (between new : Option (List ℕ)) (number : ℕ) (phase : Phase) (content rest : Option (List ℕ)) (given : Option Given)
    → IsUpTo (Err 0) most c bytes number phase content rest given → StopsAt (Err 0) number phase content given between → new ≡ between → BacksProvider holds holds t provider (Some c) new
stops_backs holds most c bytes t provider s between new number phase content rest given u stops same =
    let x = subst (λ o. StopsAt (Err 0) number phase (Some c) o between) u.given_is (subst (λ o. StopsAt (Err 0) number phase o given between) had.0 stops) in
    unshelved holds holds t provider (Some c) new (next_text (Err 0) u.left.long number phase u.left.lines) (λ n. refl)
    (subst (λ q. IsLast (name_of t provider) (next_text (Err 0) u.left.long number q u.left.lines)) (sym had.2) (next_last (name_of t provider) 0 number most u.left.long had.1 u.left.lines named)) (x.0, same ∙ x.1)
  where
    had : (content ≡ Some c) × (next : Network) × (phase ≡ declaring next most)
    had = up_to_silent most c bytes number phase content rest given u

    named : (line : List ℕ) (rest : List (List ℕ)) (whole : Network) (p : ℕ) → u.left.lines ≡ line ∷ rest → of_line had.1 line ≡ Ok (Taken.Whole whole) → first_provider whole ≡ Some p → name_of whole p ≡ name_of t provider
    named line rest whole p q is first =
        let r = reads_through (Err 0) 1 0 nothing had.1 whole most u.lines u.text line rest (subst (λ x. GoesOn (Err 0) 1 (declaring nothing most) u.lines x u.text) had.2 u.goes) is in
        let all : lines_in bytes ≡ u.lines ++ line ∷ rest = u.whole_lines ∙ ap (λ ls. u.lines ++ ls) q in
        let e = same_topology (lines_in bytes) whole t p provider (r.0, ap (read_lines nothing 0) all ∙ r.1, first) s in
        ap (λ x. name_of x p) e.0 ∙ ap (λ x. name_of t x) e.1

pub fault_backs : (holds : Holds) (most : ℕ) (first start : Option (List ℕ)) (fault : Fault) (status : Status) (held : Held) (left between new : Option (List ℕ)) (writes now_writes : ℕ) → HaltsAt (Err 0) most first start (Halt.Outside fault) held left between
    → ConcludesFault fault status between new writes now_writes → Backs holds holds first start new
fault_backs holds most first None fault status held left between new writes now_writes h concludes = tt
fault_backs holds most None (Some bytes) fault status held left between new writes now_writes h concludes = λ t p s. tt
fault_backs holds most (Some c) (Some bytes) Fault.Read status held left between new writes now_writes h concludes = λ t p s.
    let had = up_to_silent most c bytes h.number h.phase h.content h.rest h.given h.up_to in
    unshelved holds holds t p (Some c) new read_fault_line (λ n. refl) (last_read refl)
    (subst (λ o. WritesFront o new read_fault_line) (h.halts.2 ∙ had.0) (line_front read_fault_line Status.ReadFault status between new writes now_writes refl refl concludes))
fault_backs holds most (Some c) (Some bytes) Fault.Write status held left between new writes now_writes h concludes = λ t p s. stops_backs holds most c bytes t p s between new h.number h.phase h.content h.rest h.given h.up_to h.halts concludes.same
fault_backs holds most (Some c) (Some bytes) Fault.NoMemory status held left between new writes now_writes h concludes = λ t p s. stops_backs holds most c bytes t p s between new h.number h.phase h.content h.rest h.given h.up_to h.halts concludes.same
