use Rattle.std.proofs.Common.{◌≡◌}
use Rattle.std.specs.List.{All}
use Rattle.nsi_primitive.specs.Printable.{IsPrintable}
use Rattle.stp_topology.specs.Network.{agent_of}
use Rattle.agent_node.specs.Passing.{says_all}
use Rattle.agent_node.specs.Linked.{HasSameLinks}
use Rattle.agent_node.proofs.links.Links.say_all.Given as goal

abbrev pub invariant-loop-message : goal.invariant-loop-message
invariant-loop-message l = record {
  way : says_all (agent_of l.topology) l.message-iterator.rest.items l.self.doors ≡ says_all (agent_of l.topology) l.fn.messages.items l.fn.self.doors;
  printable : All IsPrintable l.message-iterator.rest.items;
  links : HasSameLinks l.fn.self l.self;
}
