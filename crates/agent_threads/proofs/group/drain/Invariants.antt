use Rattle.std.proofs.Common.{◌≡◌, ◌++◌, drop}
use Rattle.std.specs.List.{All}
use Rattle.nsi_primitive.specs.Printable.{IsPrintableEvent}
use Rattle.nsi_play.specs.Rounds.{events_of}
use Rattle.agent_threads.specs.Nets.{seats}
use Rattle.agent_threads.specs.Stopping.{Emptied}
use Rattle.agent_threads.proofs.Places.{UpTo}
use Rattle.agent_threads.proofs.group.drain.Given as goal

abbrev pub invariant-loop-node : goal.invariant-loop-node
invariant-loop-node g l = record {
  up : UpTo Emptied l.fn.nodes.items l.node-items l.node-index;
  told : l.events.items ++ events_of (seats (drop l.node-index l.fn.nodes.items)) ≡ l.fn.events.items ++ events_of (seats l.fn.nodes.items);
  printable : All IsPrintableEvent l.events.items;
}
