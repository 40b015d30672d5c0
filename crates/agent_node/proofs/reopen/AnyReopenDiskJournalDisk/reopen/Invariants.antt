use Rattle.std.proofs.Common.{◌≡◌, ◌-◌, List, ℕ, true, Result}
use Rattle.nsi_primitive.specs.declared.entry.Entry.{Entry}
use Rattle.journal_entry.specs.Payloads.{batch_of}
use Rattle.journal_entry.specs.Journals.{recovers}
use Rattle.disk_journal.specs.StartOf.{StaysTold}
use Rattle.agent_node.specs.Reopening.{MayRead, HasStopped}
use Rattle.agent_node.proofs.reopen.AnyReopenDiskJournalDisk.reopen.Given as goal

abbrev pub invariant-loop-journal : goal.invariant-loop-journal
invariant-loop-journal g l = record {
  faults : g.H.Shelf.faults l.self ≡ g.H.Shelf.faults l.fn.self;
  stops : g.H.Shelf.stops l.self ≡ g.H.Shelf.stops l.fn.self;
  stays : (n : List ℕ) → g.H.Shelf.listed l.fn.self n ≡ true → g.H.Shelf.listed l.self n ≡ true;
  counts : HasStopped l.tries (g.H.Disk.Disk.meter l.fn.journal.batches.disk) (g.H.Disk.Disk.meter l.disk);
  told : StaysTold (g.H.Disk.Disk.history l.fn.journal.batches.disk) (g.H.Disk.Disk.history l.disk);
  left : (read : Result (List Entry) ℕ) → MayRead (recovers batch_of) read (g.H.Disk.Disk.history l.disk) → MayRead (recovers batch_of) read (g.H.Disk.Disk.history l.fn.journal.batches.disk);
}

abbrev pub decreases-loop-journal : goal.decreases-loop-journal
decreases-loop-journal g l = (g.H.Disk.Disk.meter l.disk).planned - (g.H.Disk.Disk.meter l.disk).stops
