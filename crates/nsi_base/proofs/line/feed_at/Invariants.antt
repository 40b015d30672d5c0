use Rattle.std.proofs.Common.{◌≡◌, ◌+◌, drop, option_map}
use Rattle.nsi_base.specs.Lines.{feed_at}
use Rattle.nsi_base.proofs.line.feed_at.Given as goal

abbrev pub invariant-loop-i : goal.invariant-loop-i
invariant-loop-i l = feed_at l.bytes ≡ option_map (λ k. l.i + k) (feed_at (drop l.i l.bytes))
