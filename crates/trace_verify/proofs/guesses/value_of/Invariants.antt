use Rattle.std.proofs.Common.{length}
use Rattle.trace_verify.proofs.guesses.value_of.Given as goal

abbrev pub decreases-pieces : goal.decreases-pieces
decreases-pieces l = length l.rest
