use Rattle.std.proofs.Common.{rules}
use Rattle.durable_mark.proofs.Steps.{joins}
use Rattle.durable_mark.proofs.Mark.join.Goals as goal

pub join_seat-requires : goal.join_seat-requires
join_seat-requires c = search (rules, joins)
