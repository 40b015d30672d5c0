use Rattle.std.proofs.Common.{ℕ, ◌≡◌, ◌≤◌, ◌+◌, ◌++◌, length, map, vec_len, vec_capacity}
use Rattle.agent_link.specs.Plans.{Plan}
use Rattle.agent_node.specs.Kept.{AreEnds, ArePlanned, plugs_of}
use Rattle.agent_node.specs.Linked.{doors, plugs}
use Rattle.agent_node.specs.Openings.{opened}
use Rattle.agent_node.proofs.opening.links_to.Given as goal

abbrev pub invariant-loop-other : goal.invariant-loop-other
invariant-loop-other l = record {
  planned : (plans : ℕ → Plan) → ArePlanned plans l.fn.others.items l.fn.outgoing → ArePlanned plans l.other-iterator.rest.items l.outs.rest.items;
  doors : (plans : ℕ → Plan) → ArePlanned plans l.fn.others.items l.fn.outgoing → doors l.links.items ++ map (opened plans) l.other-iterator.rest.items ≡ map (opened plans) l.fn.others.items;
  plugs : plugs l.links.items ++ plugs_of l.other-iterator.rest.items l.outs.rest.items l.incs.rest.items ≡ plugs_of l.fn.others.items l.fn.outgoing l.fn.incoming;
  ends : AreEnds l.other-iterator.rest.items l.outs.rest.items l.incs.rest.items;
  room : vec_len l.links + length l.other-iterator.rest.items ≤ vec_capacity l.links;
}
