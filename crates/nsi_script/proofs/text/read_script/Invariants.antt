use Rattle.std.proofs.Common.{◌≡◌, ◌+◌, ◌≤◌, length}
use Rattle.nsi_base.specs.Lines.{lines_of}
use Rattle.nsi_script.specs.Drafts.{script_in, AreIndexed}
use Rattle.nsi_script.specs.Fits.{Fits}
use Rattle.nsi_script.specs.Text.{read_lines, script_of}
use Rattle.nsi_script.proofs.text.read_script.Given as goal

abbrev pub invariant-lines : goal.invariant-lines
invariant-lines l = record {
  same : read_lines l.fn.topology (script_in l.draft) l.number (lines_of l.rest) ≡ script_of l.fn.topology l.fn.first_line l.fn.text;
  few : l.number + length l.rest ≤ l.fn.first_line + length l.fn.text;
  indexed : AreIndexed l.draft;
  fits : Fits l.fn.topology (script_in l.draft);
}

abbrev pub decreases-lines : goal.decreases-lines
decreases-lines l = length l.rest
