use Rattle.std.proofs.Common.{rules}
use Rattle.durable_mark.proofs.Steps.{loads}
use Rattle.durable_mark.proofs.Mark.seen.Goals as goal

pub load-requires : goal.load-requires
load-requires c = search (rules, loads)
