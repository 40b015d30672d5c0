use Rattle.std.specs.List.{All}
use Rattle.agent_node.specs.Passing.{IsPrintableCome}
use Rattle.agent_node.specs.Turns.{takes_all}
use Rattle.agent_node.proofs.Stepping.{IsOnWay}
use Rattle.agent_node.proofs.seated.Core.take_all.Given as goal

abbrev pub invariant-loop-from : goal.invariant-loop-from
invariant-loop-from l = record {
  way : IsOnWay (λ h s. takes_all h l.fn.parcels.items s) (λ h s. takes_all h l.from-iterator.rest.items s) l.fn.room l.room l.fn.self l.self;
  printable : All IsPrintableCome l.from-iterator.rest.items;
}
