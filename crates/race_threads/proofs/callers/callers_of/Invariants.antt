use Rattle.std.proofs.Common.{◌≡◌}
use Rattle.race_threads.specs.Callers.{AreCallers}
use Rattle.race_threads.proofs.callers.callers_of.Given as goal

abbrev pub invariant-loop-place : goal.invariant-loop-place
invariant-loop-place g l = (l.pass.mark ≡ l.fn.shared) × AreCallers l.fn.topology l.fn.race.provider l.fn.race.start l.fn.shared l.place l.callers.items
