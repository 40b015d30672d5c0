use Rattle.std.proofs.Common.{arith}
use Rattle.line_reader.proofs.Coming.{none_between}
use Rattle.line_reader.proofs.reader.LineReader.take_last.Goals as goal

pub invariant_of-self : goal.invariant_of-self
invariant_of-self c = record { started = omega arith; within = omega arith; clear = none_between c.self.inside.kept.items c.len-end.result }
