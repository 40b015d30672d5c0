use Rattle.std.proofs.Common.{rules}
use Rattle.durable_mark.proofs.Steps.{splits}
use Rattle.durable_mark.proofs.Mark.split.Goals as goal

pub split_seat-seat-requires : goal.split_seat-seat-requires
split_seat-seat-requires c = search (rules, splits)
