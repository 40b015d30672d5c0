use Rattle.std.proofs.Common.{rules}
use Rattle.race_run.proofs.Fronts.{same_entry}
use Rattle.race_run.proofs.same.is_same_entry.Goals as goal

pub returns : goal.returns
returns c = same_entry c.args.one.now c.args.other.now c.in_ok-left.left.items c.in_ok-right.right.items c.same_bytes-same.result (search rules) c.in_ok-left.ensures.spelled c.in_ok-right.ensures.spelled c.in_ok-left.ensures.again c.in_ok-right.ensures.again
