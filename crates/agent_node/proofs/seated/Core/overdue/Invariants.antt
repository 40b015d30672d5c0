use Rattle.std.proofs.Common.{◌≡◌, ◌++◌, filter}
use Rattle.std.specs.List.{All}
use Rattle.nsi_primitive.specs.Printable.{IsPrintable}
use Rattle.agent_node.specs.Acts.{is_overdue, overdue}
use Rattle.agent_node.proofs.seated.Core.overdue.Given as goal

abbrev pub invariant-loop-message : goal.invariant-loop-message
invariant-loop-message l = record {
  found : l.again.items ++ filter (is_overdue l.self.seat.unsaid l.self.seat.doors) l.message-iterator ≡ overdue l.self.seat;
  printable : All IsPrintable l.again.items;
  left : All IsPrintable l.message-iterator;
}
