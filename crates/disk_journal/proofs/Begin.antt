-- What the calls of a start leave.
use Rattle.std.proofs.Common.{◌≡◌, inl, inr, ℕ, ◌<◌, ◌≤◌, List, [], ◌∷◌, length, drop, Option, Some, Ok, Err, refl, sym, ◌∙◌, ap, subst, arith, IfSome, None}
use Rattle.std.proofs.lemmas.Bool.Decides.{nat_tests}
use Rattle.nsi_disk.specs.declared.disk.DiskError.{DiskError}
use Rattle.nsi_disk.specs.Disk.{History, Wrote, Synced, Broke, seen, written, MayLeave, MayStep, Steps, Leaves, age}
use Rattle.nsi_primitive.specs.declared.entry.Entry.{Entry}
use Rattle.journal_entry.specs.Payloads.{batch_of}
use Rattle.journal_entry.specs.Journals.{recovers, whole, ReadAll}
use Rattle.disk_journal.specs.Batches.{batches, payloads, ok_or_none, Begins, Crashes}
use Rattle.disk_journal.specs.StartOf.{LeavesNow}
use Rattle.journal_entry.proofs.Left.{since_may}
use Rattle.disk_journal.specs.Opening.{AsRead, AsBefore, Rests, IsEmptied, Opened, ReadsAs, all_of}
use Rattle.nsi_disk.specs.Stopped.{length-written}
use Rattle.disk_journal.specs.Files.{not_nine, long_file}
use Rattle.nsi_disk.proofs.Moments.{started, synced, wrote, sync_gave_up, write_gave_up}

pub idle_ok : (T : Type 0) (u : T) (o n : Option History) (h : History) → o ≡ Some h → Steps Broke (λ k. k) o n (Ok u) → n ≡ Some h
idle_ok T u o n h is steps = subst (λ q. Steps Broke (λ k. k) q n (Ok u)) is steps

pub idle_err : (T : Type 0) (e : DiskError) (o n : Option History) (h : History) → o ≡ Some h → Steps {T = T} Broke (λ k. k) o n (Err e) → MayStep Broke h n
idle_err T e o n h is steps = subst (λ q. Steps {T = T} Broke (λ k. k) q n (Err e)) is steps

pub read_starts : (h : History) → Leaves h h (AsRead h)
read_starts h = started h (AsRead h) (λ c im. inl im)

pub read_synced : (h : History) → Leaves h (Synced h) (AsRead h)
read_synced h = synced h h (AsRead h) (read_starts h) (inr refl)

pub read_sync_err : (h : History) (new : Option History) → MayStep Broke h new → (k : History) × (new ≡ Some k) × Leaves h k (AsRead h)
read_sync_err h new may = sync_gave_up h h new (AsRead h) (read_starts h) may (λ c im. inl im)

pub read_later_err : (h : History) (new : Option History) → MayStep Broke (Synced h) new → (k : History) × (new ≡ Some k) × Leaves h k (AsRead h)
read_later_err h new may = sync_gave_up h (Synced h) new (AsRead h) (read_synced h) may (λ c im. inr im)

-- a short file has no entries
pub short_means : {E : Type 0} (read : List ℕ → Option (List E)) (c : List ℕ) → length c < 9 → recovers read c ≡ Ok []
short_means read c short = grind (arith, nat_tests)

abbrev pub None9 : List ℕ → Type 0
None9 c = recovers batch_of c ≡ Ok []

module _ (h : History) (r : Rests h) (short : length (seen h) < 9) where
  here : (c : List ℕ) → MayLeave h c → None9 c
  here c im = short_means batch_of c (omega (arith, ap length (r.each c im), short))

  behind : (now c : List ℕ) → MayLeave (Wrote 0 1 now h) c → None9 c
  behind now c im = short_means batch_of c (omega (arith, im.2.no_longer, ap length (r.each im.0 im.1), short))

  pub close_starts : Leaves h h None9
  close_starts = started h None9 here

  pub close_write_err : (new : Option History) → MayStep (Wrote 0 1) h new → (k : History) × (new ≡ Some k) × Leaves h k None9
  close_write_err new may = write_gave_up 0 1 h h new None9 close_starts may (λ c im. behind [] c im)

  abbrev pub now : List ℕ
  now = written 0 (0 ∷ []) (seen h)

  close_wrote : Leaves h (Wrote 0 1 now h) None9
  close_wrote = wrote 0 1 now h h None9 close_starts (λ c im. behind now c im)

  pub close_sync_err : (new : Option History) → MayStep Broke (Wrote 0 1 now h) new → (k : History) × (new ≡ Some k) × Leaves h k None9
  close_sync_err new may = sync_gave_up h (Wrote 0 1 now h) new None9 close_wrote may (λ c im. behind now c im)

  now_short : length now < 9
  now_short = omega (arith, length-written 0 (0 ∷ []) (seen h) (omega arith), short)

  pub close_synced : Leaves h (Synced (Wrote 0 1 now h)) None9
  close_synced = synced h (Wrote 0 1 now h) None9 close_wrote (short_means batch_of now now_short)

  none : payloads (Synced (Wrote 0 1 now h)) ≡ []
  none = ap ok_or_none (short_means whole now now_short)

  begins_none : Begins [] now
  begins_none = record { gate = 0; rest = drop 1 (seen h); shut = omega arith; is = refl }

  pub close_settled : IsEmptied h (Synced (Wrote 0 1 now h))
  close_settled = record {
    settled = record {
      place = sym (ap (λ (l : List (List ℕ)). length (batches l)) none);
      reads = subst (λ (l : List (List ℕ)). Begins l now) (sym none) begins_none;
      images = λ c is. subst (λ (f : List ℕ). Begins (payloads (Synced (Wrote 0 1 now h))) f) (sym is) (subst (λ (l : List (List ℕ)). Begins l now) (sym none) begins_none);
      long = omega (arith, now_short);
    };
    none = none;
  }

-- after a sync nothing has happened
pub rests_synced : (h : History) → Rests (Synced h)
rests_synced h = record { each = λ c im. im }

long_entries : (bytes : List ℕ) → 9 ≤ length bytes → recovers batch_of bytes ≡ all_of bytes
long_entries bytes le = rw (not_nine (length bytes) le)

pub opened_batches : (h : History) (es : List Entry) (gate longest : ℕ) → 9 ≤ length (seen h) → ReadsAs (seen h) gate es → longest ≡ length (seen h) → Opened es gate longest h (Synced h)
opened_batches h es gate longest enough r long =
    let same : payloads (Synced h) ≡ r.payloads = ap ok_or_none (long_file (seen h) enough ∙ r.parts) in
    let begins : Begins (payloads (Synced h)) (seen h) = subst (λ (l : List (List ℕ)). Begins l (seen h)) (sym same) r.begins in
    record {
      is = long_entries (seen h) enough ∙ r.is;
      settled = record {
        place = r.at ∙ ap (λ (l : List (List ℕ)). length (batches l)) (sym same);
        reads = begins;
        images = λ c im. subst (λ (f : List ℕ). Begins (payloads (Synced h)) f) (sym im) begins;
        long = omega (arith, long);
      };
      read = subst (λ (l : List (List ℕ)). ReadAll batch_of l es) (sym same) r.read;
    }

pub opened_none : (h k : History) → length (seen h) < 9 → IsEmptied h k → Opened [] 0 9 h k
opened_none h k short e = record { is = short_means batch_of (seen h) short; settled = e.settled; read = subst (λ (l : List (List ℕ)). ReadAll batch_of l []) (sym e.none) refl }

pub read_as_before : (h : History) (c : List ℕ) → AsRead h c → AsBefore h c
read_as_before h c (inl im) = inl im
read_as_before h c (inr is) = inr (ap (recovers batch_of) is)

pub none_as_before : (h : History) → length (seen h) < 9 → (c : List ℕ) → None9 c → AsBefore h c
none_as_before h short c none = inr (none ∙ sym (short_means batch_of (seen h) short))

pub leaves_now : (o n : Option History) (P : History → List ℕ → Type 0) → Crashes o n P → LeavesNow o n P
leaves_now None n P crash = tt
leaves_now (Some h) n P crash = subst (λ (q : Option History). IfSome q (λ k. (c : List ℕ) → MayLeave k c → P h c)) (sym crash.1) (λ c may. crash.2.each c (since_may (age h) crash.0 c may))
