-- What a crash leaves of a journal that may be used.
use Rattle.std.specs.Prelude.{is_some, nat_lt}
use Rattle.std.proofs.Common.{◌≡◌, ℕ, false, List, [], Option, Some, None, Ok, IfSome, refl, ap, ◌∙◌, arith}
use Rattle.nsi_primitive.specs.declared.entry.Entry.{Entry}
use Rattle.nsi_disk.specs.Disk.{History, Meter, MayLeave, seen}
use Rattle.journal_entry.specs.Payloads.{batch_of}
use Rattle.journal_entry.specs.Journals.{recovers, read_all}
use Rattle.journal_entry.specs.Journal.{ReadsKept}
use Rattle.journal_entry.proofs.Recovered.{recovered, payloads_recovered}
use Rattle.disk_journal.specs.Batches.{payloads, ok_or_none}
use Rattle.disk_journal.specs.Files.{begins-means}
use Rattle.disk_journal.specs.Keeping.{kept_of, listed, entries, IsReady, IsCounted}

pub leaves_synced : (gate next longest count more : ℕ) (o : Option History) (meter : Meter) → IsReady o meter gate next longest → IsCounted o gate next count more
    → IfSome (kept_of gate next o) (λ k. IfSome o (λ h. (c : List ℕ) → MayLeave h c → recovers batch_of c ≡ Ok k.synced))
leaves_synced gate next longest count more None meter ready counted = tt
leaves_synced gate next longest count more (Some h) meter ready counted = λ c may.
    recovered batch_of c (payloads h) (entries h) (begins-means (payloads h) c (omega (arith, ready.settled.place, ready.fits)) (ready.settled.images c may)) counted.synced

pub tells : (gate next : ℕ) (o : Option History) → is_some (kept_of gate next o) ≡ is_some o
tells gate next None = refl
tells gate next (Some h) = refl

pub none_waits : (gate next : ℕ) (o : Option History) → nat_lt gate next ≡ false → IfSome (kept_of gate next o) (λ k. k.waiting ≡ [])
none_waits gate next None none = tt
none_waits gate next (Some h) none = rw none

pub reads_kept : (gate next : ℕ) (o : Option History) (es : List Entry) → ReadsKept (recovers batch_of) es o (kept_of gate next o)
reads_kept gate next None es = tt
reads_kept gate next (Some h) es = λ e.
    let p = payloads_recovered batch_of (seen h) es e in
    ap (λ r. listed (read_all batch_of (ok_or_none r))) p.1 ∙ ap listed p.2
