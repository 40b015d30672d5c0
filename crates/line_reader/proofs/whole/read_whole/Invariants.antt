use Rattle.std.proofs.Common.{◌≡◌, ◌≤◌, ◌+◌, ◌-◌, length}
use Rattle.line_reader.specs.Whole.{IsRead}
use Rattle.line_reader.proofs.whole.read_whole.Given as goal

abbrev pub decreases-pieces : goal.decreases-pieces
decreases-pieces g l = l.size + 1 - length l.bytes.items

abbrev pub invariant-pieces : goal.invariant-pieces
invariant-pieces g l = record {
  read : IsRead (g.S.Source.left l.fn.input) (g.S.Source.left l.input) l.bytes.items;
  few : length l.bytes.items ≤ l.size;
  quiet : g.S.Source.faults l.input ≡ g.S.Source.faults l.fn.input;
}
