use Rattle.std.proofs.Common.{◌≡◌, ◌-◌, length}
use Rattle.agent_link.proofs.ends.Incoming.clear.Given as goal

abbrev pub invariant-loop-k : goal.invariant-loop-k
invariant-loop-k l = record {
  wire : l.self.wire ≡ l.fn.self.wire;
  left : length l.self.parcels ≡ length l.fn.self.parcels - l._k;
}
