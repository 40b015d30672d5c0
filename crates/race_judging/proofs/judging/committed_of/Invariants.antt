use Rattle.std.proofs.Common.{◌≡◌, ◌≤◌, take}
use Rattle.std.specs.Prelude.{count_by}
use Rattle.race_judging.specs.Pairs.{has_committed}
use Rattle.race_judging.proofs.judging.committed_of.Given as goal

abbrev pub invariant-loop-record : goal.invariant-loop-record
invariant-loop-record l = (l.count ≡ count_by has_committed (take l.record-index l.records)) × (l.count ≤ l.record-index)
