-- A journal that is read again.
use Rattle.std.proofs.Common.{ℕ, ◌<◌, ◌≤◌, ◌≡◌, ◌⊎◌, inl, inr, ◌∙◌, ◌-◌, ◌++◌, List, [], true, false, length, Option, Some, None, is_some, IfSome, Result, Ok, Err, IfOk, OnOk, refl, sym, ap, subst, arith}
use Rattle.nsi_primitive.specs.declared.entry.Entry.{Entry}
use Rattle.nsi_disk.specs.Disk.{History, Fresh, Meter, MayLeave, seen}
use Rattle.nsi_disk.specs.ShelfCounts.{Raised, RaisedFrom}
use Rattle.nsi_disk.specs.declared.shelf.ShelfError.{ShelfError}
use Rattle.journal_entry.specs.Journal.{Kept as Journaled, MayLeaveSynced, MayLeaveWith}
use Rattle.journal_entry.specs.Journals.{recovers}
use Rattle.journal_entry.specs.Payloads.{batch_of}
use Rattle.disk_journal.specs.StartOf.{StartsFor, Keeps}
use Rattle.disk_journal.specs.declared.opening.StartCause.{StartCause}
use Rattle.agent_node.specs.declared.fault.TurnFault.{TurnFault}
use Rattle.agent_node.specs.declared.reopen.ReopenFault.{ReopenFault}
use Rattle.agent_node.specs.Reopening.{MayRead, KeepsRead, AreEither, HasRisen, HasReopenCause, HasStopped, HasRead, IsReread, IsReopened}
use Rattle.agent_node.specs.Kept.{kept_with, first_kept, HasSynced, LeavesBatch}
use Rattle.agent_node.specs.Restarts.{reads}
use Rattle.agent_node.specs.Seat.{Seat}
use Rattle.agent_node.specs.Seated.{Seated, AtSeat, IsSameCore}

---- The image

-- the bytes of an image are read
pub image_read : (reading : List ℕ → Result (List Entry) ℕ) (x : Result (List Entry) ℕ) (h g : Option History) → IfSome h (λ y. (c : List ℕ) × MayLeave y c × (g ≡ Some (Fresh c))) → IfSome g (λ z. reading (seen z) ≡ x) → MayRead reading x h
image_read reading x None g image reads = tt
image_read reading x (Some y) g image reads = (image.0, image.1, subst (λ (o : Option History). IfSome o (λ z. reading (seen z) ≡ x)) image.2 reads)

-- the same of a disk that is that of a journal
pub image_of : (reading : List ℕ → Result (List Entry) ℕ) (x : Result (List Entry) ℕ) (k h g : Option History) → h ≡ k → IfSome h (λ y. (c : List ℕ) × MayLeave y c × (g ≡ Some (Fresh c))) → IfSome g (λ z. reading (seen z) ≡ x) → MayRead reading x k
image_of reading x k h g e image reads = subst (λ (o : Option History). MayRead reading x o) e (image_read reading x h g image reads)

---- What was kept

abbrev ok : List Entry → Result (List Entry) ℕ
ok es = Ok es

same_ok : (xs ys : List Entry) → ok xs ≡ ok ys → xs ≡ ys
same_ok xs ys e = cc

-- a journal that may be used is read as what was synced
pub read_is_synced : (reading : List ℕ → Result (List Entry) ℕ) (k : Option Journaled) (h : Option History) (es : List Entry) → is_some k ≡ is_some h → MayLeaveSynced reading k h → MayRead reading (Ok es) h → IfSome k (λ x. es ≡ x.synced)
read_is_synced reading None h es tells leaves read = tt
read_is_synced reading (Some x) None es tells leaves read = absurd (cc)
read_is_synced reading (Some x) (Some y) es tells leaves read = same_ok es x.synced (sym read.2 ∙ leaves read.0 read.1)

-- so it keeps what it kept
pub keeps_again : (es : List Entry) (k j : Option Journaled) → IfSome k (λ x. x.waiting ≡ []) → IfSome k (λ x. es ≡ x.synced) → KeepsRead es k j → IfSome k (λ x. j ≡ k)
keeps_again es None j none same keeps = tt
keeps_again es (Some x) j none same keeps =
    keeps ∙ (ap (λ (xs : List Entry). Some (record { synced = xs; waiting = [] })) same ∙ ap (λ (xs : List Entry). Some (record { synced = x.synced; waiting = xs })) (sym none))

not_read : (r : Result (List Entry) ℕ) (xs ys : List Entry) (place : ℕ) → (r ≡ Ok xs) ⊎ (r ≡ Ok ys) → r ≡ Err place → ⊥
not_read r xs ys place (inl p) e = cc
not_read r xs ys place (inr p) e = cc

-- a journal whose disk has stopped is read as what was synced, or that with the batch
pub read_is_either : (reading : List ℕ → Result (List Entry) ℕ) (batch : List Entry) (k : Option Journaled) (h : Option History) (es : List Entry) → is_some k ≡ is_some h → MayLeaveWith reading batch k h → MayRead reading (Ok es) h → AreEither batch k es
read_is_either reading batch None h es tells leaves read = tt
read_is_either reading batch (Some x) None es tells leaves read = absurd (cc)
read_is_either reading batch (Some x) (Some y) es tells leaves read = elim (leaves read.0 read.1) [
  | inl e ↦ inl (same_ok es x.synced (sym read.2 ∙ e))
  | inr e ↦ inr (same_ok es (x.synced ++ batch) (sym read.2 ∙ e))
]

-- it has a reading, where it is told
pub unread_none : (reading : List ℕ → Result (List Entry) ℕ) (batch : List Entry) (k : Option Journaled) (h : Option History) (place : ℕ) → is_some k ≡ is_some h → MayLeaveWith reading batch k h → MayRead reading (Err place) h → k ≡ None
unread_none reading batch None h place tells leaves read = refl
unread_none reading batch (Some x) None place tells leaves read = absurd (cc)
unread_none reading batch (Some x) (Some y) place tells leaves read = absurd (not_read (reading read.0) x.synced (x.synced ++ batch) place (leaves read.0 read.1) read.2)

pub synced_with : (reading : List ℕ → Result (List Entry) ℕ) (batch : List Entry) (k : Option Journaled) (h : Option History) → MayLeaveSynced reading k h → MayLeaveWith reading batch k h
synced_with reading batch None h leaves = tt
synced_with reading batch (Some x) None leaves = tt
synced_with reading batch (Some x) (Some y) leaves = λ c may. inl (leaves c may)

pub first_tells : (n : ℕ) (k : Option Journaled) → is_some (first_kept n k) ≡ is_some k
first_tells n None = refl
first_tells n (Some x) = refl

first_none : (n : ℕ) (k : Option Journaled) → first_kept n k ≡ None → k ≡ None
first_none n None e = refl
first_none n (Some x) e = absurd (cc)

---- Counts

-- what was read is as many entries as are kept
pub counted_read : (es : List Entry) (h g : Option History) (k : Option Journaled) → is_some k ≡ is_some g → (h ≡ None → g ≡ None) → Keeps es h k → HasSynced (length es) k
counted_read es None g None tells untold keeps = tt
counted_read es None g (Some x) tells untold keeps = let e : true ≡ false = tells ∙ ap (λ (z : Option History). is_some z) (untold refl) in absurd (cc)
counted_read es (Some y) g k tells untold keeps = subst (λ (o : Option Journaled). HasSynced (length es) o) (sym keeps) refl

risen_more : (a b : ℕ) → a < b → HasRisen a b
risen_more a b h = (b - a, omega (arith, h), inl (omega (arith, h)))

-- the shelf gave no disk
pub lost_cause : (P : ℕ → Type 0) (f g : ℕ) (e : ShelfError) → (e ≡ ShelfError.Failed → f < g) → HasReopenCause f g P (ReopenFault.Lost e)
lost_cause P f g ShelfError.Failed h = risen_more f g (h refl)
lost_cause P f g ShelfError.NoMemory h = tt

-- the disk was given back to a shelf whose count of faults had not changed before
pub start_cause : (P : ℕ → Type 0) (f m g : ℕ) (old new : Meter) (history : Option History) (cause : StartCause) → StartsFor old new history cause → (cause ≡ StartCause.Stopped → ⊥) → m ≡ f → Raised m new.faults g
    → ((place : ℕ) → IfSome history (λ h. recovers batch_of (seen h) ≡ Err place) → P place) → HasReopenCause f g P (ReopenFault.GivenBack cause)
start_cause P f m g old new history StartCause.DiskFault starts going d p unread = (new.faults, omega (arith, starts.fault refl), subst (λ k. Raised k new.faults g) d p)
start_cause P f m g old new history StartCause.Stopped starts going d p unread = absurd (going refl)
start_cause P f m g old new history (StartCause.NotAJournal place) starts going d p unread = unread place (starts.reading place refl)
start_cause P f m g old new history StartCause.NoMemory starts going d p unread = tt

-- its stops were counted
pub given_back : (s n r least : ℕ) (old new : Meter) → n ≡ s → old.stops ≡ least → old.stops ≤ new.stops → Raised n new.stops r → RaisedFrom s least r
given_back s n r least old new e f g p = (new.stops, omega (arith, f, g), subst (λ k. Raised k new.stops r) e p)

-- the same causes, where what is so of bytes that are no journal is more
pub cause_of : (P Q : ℕ → Type 0) (f g : ℕ) (e : ReopenFault) → ((place : ℕ) → P place → Q place) → HasReopenCause f g P e → HasReopenCause f g Q e
cause_of P Q f g (ReopenFault.GivenBack StartCause.DiskFault) so c = c
cause_of P Q f g (ReopenFault.GivenBack StartCause.Stopped) so c = c
cause_of P Q f g (ReopenFault.GivenBack (StartCause.NotAJournal place)) so c = so place c
cause_of P Q f g (ReopenFault.GivenBack StartCause.NoMemory) so c = tt
cause_of P Q f g (ReopenFault.Lost ShelfError.Failed) so c = c
cause_of P Q f g (ReopenFault.Lost ShelfError.NoMemory) so c = tt

---- The agent

-- it is made anew from what was read, and its journal is the one that was read
pub made_again : {T : Type 0} (P : List Entry → Type 0) (r : Result T ReopenFault) (journal : T) (meter : T → Meter) (kept : T → Option Journaled) (m : Meter) (k : Option Journaled) (c d : Seated) (tries : ℕ) (es : List Entry) → IfOk r (λ j. j ≡ journal)
    → AtSeat c (λ h. OnOk r (d.seat ≡ reads h tries es c.seat)) → IsSameCore c d → P es → KeepsRead es k (kept journal) → HasStopped tries m (meter journal) → IfOk r (λ j. HasRead P (kept_with c None m k) (kept_with d None (meter j) (kept j)))
made_again P (Err e) journal meter kept m k c d tries es is seat stays read keeps counts = tt
made_again {T} P (Ok j) journal meter kept m k c d tries es is seat stays read keeps counts = record {
  tries = tries;
  entries = es;
  seat = seat;
  read = read;
  kept = subst (λ (i : T). KeepsRead es k (kept i)) (sym is) keeps;
  fault = refl;
  counts = subst (λ (i : T). HasStopped tries m (meter i)) (sym is) counts;
  same = record { network = stays.network; number = stays.number; others = stays.others };
  plugs = stays.plugs;
}

pub counted_again : {T : Type 0} (r : Result T ReopenFault) (journal : T) (kept : T → Option Journaled) (n m : ℕ) → IfOk r (λ j. j ≡ journal) → OnOk r (n ≡ m) → HasSynced m (kept journal) → IfOk r (λ j. HasSynced n (kept j))
counted_again (Err e) journal kept n m is same counted = tt
counted_again {T} (Ok j) journal kept n m is same counted = subst (λ (i : T). HasSynced n (kept i)) (sym is) (subst (λ (x : ℕ). HasSynced x (kept journal)) (sym same) counted)

module _ (reading : List ℕ → Result (List Entry) ℕ) (c d : Seated) (m n : Meter) (k j : Option Journaled) (h : Option History) (z : Option TurnFault) where
  abbrev ReadsFrom : List Entry → Type 0
  ReadsFrom es = MayRead reading (Ok es) h

  -- a journal that may be used was read
  pub reread : is_some k ≡ is_some h → IfSome k (λ x. x.waiting ≡ []) → MayLeaveSynced reading k h → HasRead ReadsFrom (kept_with c None m k) (kept_with d None n j) → IsReread (kept_with c z m k) (kept_with d None n j)
  reread tells none leaves has =
      let same = read_is_synced reading k h has.entries tells leaves has.read in
      record {
        tries = has.tries;
        entries = has.entries;
        seat = has.seat;
        synced = same;
        kept = keeps_again has.entries k j none same has.kept;
        fault = refl;
        counts = has.counts;
        same = record { network = has.same.network; number = has.same.number; others = has.same.others };
        plugs = has.plugs;
      }

  -- one whose disk has stopped was read
  pub reopened : is_some k ≡ is_some h → LeavesBatch reading c.seat k h → HasRead ReadsFrom (kept_with c None m k) (kept_with d None n j) → IsReopened (kept_with c z m k) (kept_with d None n j)
  reopened tells leaves has =
      record {
        tries = has.tries;
        entries = has.entries;
        seat = has.seat;
        read = read_is_either reading c.seat.fresh (first_kept c.seat.synced k) h has.entries (first_tells c.seat.synced k ∙ tells) leaves has.read;
        kept = has.kept;
        fault = refl;
        counts = has.counts;
        same = record { network = has.same.network; number = has.same.number; others = has.same.others };
        plugs = has.plugs;
      }

-- why bytes have no reading: nothing is told
pub untold_cause : (reading : List ℕ → Result (List Entry) ℕ) (s : Seat) (k : Option Journaled) (h : Option History) (z : Option TurnFault) (place : ℕ) → is_some k ≡ is_some h → (z ≡ None) ⊎ (z ≡ Some TurnFault.Stopped) → (z ≡ None → MayLeaveSynced reading k h)
    → (z ≡ Some TurnFault.Stopped → LeavesBatch reading s k h) → MayRead reading (Err place) h → k ≡ None
untold_cause reading s k h z place tells (inl e) usable stopped read = unread_none reading [] k h place tells (synced_with reading [] k h (usable e)) read
untold_cause reading s k h z place tells (inr e) usable stopped read = first_none s.synced k (unread_none reading s.fresh (first_kept s.synced k) h place (first_tells s.synced k ∙ tells) (stopped e) read)
