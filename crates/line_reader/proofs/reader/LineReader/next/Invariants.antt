use Rattle.std.proofs.Common.{◌≡◌}
use Rattle.line_reader.specs.Given.{IsSame}
use Rattle.line_reader.specs.Held.{budget, to_come, rest_of}
use Rattle.line_reader.proofs.reader.LineReader.next.Given as goal

abbrev pub decreases-reading : goal.decreases-reading
decreases-reading g l = l.self.room

abbrev pub invariant-reading : goal.invariant-reading
invariant-reading g l = record {
  same : IsSame (to_come l.fn.self (g.S.Source.left l.fn.input)) (to_come l.self (g.S.Source.left l.input));
  kept : budget l.self ≡ budget l.fn.self;
  quiet : g.S.Source.faults l.input ≡ g.S.Source.faults l.fn.input;
  bytes : IsSame (rest_of l.fn.self (g.S.Source.left l.fn.input)) (rest_of l.self (g.S.Source.left l.input));
}
