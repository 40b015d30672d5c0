use Rattle.std.proofs.Common.{◌≡◌, ◌++◌}
use Rattle.std.specs.List.{All}
use Rattle.nsi_primitive.specs.Printable.{IsPrintable}
use Rattle.agent_node.proofs.reading.copy_waiting.Given as goal

abbrev pub invariant-loop-message : goal.invariant-loop-message
invariant-loop-message l = record {
  all : l.copies.items ++ l.message-iterator ≡ l.fn.agent.state.base.waiting;
  printable : All IsPrintable l.copies.items;
  left : All IsPrintable l.message-iterator;
}
