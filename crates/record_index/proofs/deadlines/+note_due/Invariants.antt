use Rattle.std.proofs.Common.{◌-◌, length}
use Rattle.record_index.proofs.deadlines.+note_due.Given as goal

abbrev pub decreases-note_due : goal.decreases-note_due
decreases-note_due l = length l.entries.now - l.at
