use Rattle.std.proofs.Common.{◌≡◌}
use Rattle.link_tests.proofs.at_once.turn.Given as goal

abbrev pub invariant-loop-k : goal.invariant-loop-k
invariant-loop-k l = record {
  out : l.side.out.wire ≡ l.fn.side.out.wire;
  inc : l.side.inc.wire ≡ l.fn.side.inc.wire;
}
