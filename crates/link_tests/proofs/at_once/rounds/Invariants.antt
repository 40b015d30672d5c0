use Rattle.std.proofs.Common.{◌≡◌}
use Rattle.link_tests.proofs.at_once.rounds.Given as goal

abbrev pub invariant-loop-number : goal.invariant-loop-number
invariant-loop-number g l = record {
  there : l.first.out.wire ≡ l.second.inc.wire;
  back : l.second.out.wire ≡ l.first.inc.wire;
}
