use Rattle.std.proofs.Common.{rules}
use Rattle.durable_mark.proofs.Steps.{raises}
use Rattle.durable_mark.proofs.Mark.raise.Goals as goal

pub fetch_max-requires : goal.fetch_max-requires
fetch_max-requires c = search (rules, raises)
