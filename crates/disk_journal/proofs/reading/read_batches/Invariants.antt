use Rattle.std.proofs.Common.{length}
use Rattle.disk_journal.proofs.Loop.{Reading}
use Rattle.disk_journal.proofs.reading.read_batches.Given as goal

abbrev pub invariant-loop-rest : goal.invariant-loop-rest
invariant-loop-rest l = Reading l.bytes l.rest l.place l.entries.items

abbrev pub decreases-loop-rest : goal.decreases-loop-rest
decreases-loop-rest l = length l.rest
