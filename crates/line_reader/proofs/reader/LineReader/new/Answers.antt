use Rattle.std.proofs.Common.{arith}
use Rattle.line_reader.proofs.Coming.{no_feed}
use Rattle.line_reader.proofs.reader.LineReader.new.Goals as goal

pub invariant_of-result : goal.invariant_of-result
invariant_of-result c = record { started = omega arith; within = omega arith; clear = no_feed }
