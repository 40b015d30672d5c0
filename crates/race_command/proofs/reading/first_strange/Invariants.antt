use Rattle.std.proofs.Common.{◌≡◌, ◌+◌, ◌≤◌, length, false}
use Rattle.nsi_base.specs.Lines.{lines_of}
use Rattle.race_command.specs.Lines.{first_strange}
use Rattle.race_command.proofs.reading.first_strange.Given as goal

abbrev pub invariant-lines : goal.invariant-lines
invariant-lines l = record {
  same : first_strange l.fn.topology l.fn.provider l.has_begun l.number (lines_of l.rest) ≡ first_strange l.fn.topology l.fn.provider false l.fn.first_line (lines_of l.fn.text);
  few : l.number + length l.rest ≤ l.fn.first_line + length l.fn.text;
}

abbrev pub decreases-lines : goal.decreases-lines
decreases-lines l = length l.rest
