use Rattle.std.proofs.Common.{◌≡◌, ◌++◌, ◌-◌, length, filter}
use Rattle.std.specs.List.{range_with_len}
use Rattle.agent_node.specs.Openings.{are_linked, others_of}
use Rattle.agent_node.proofs.opening.others.Given as goal

abbrev pub invariant-loop-place : goal.invariant-loop-place
invariant-loop-place l = l.others.items ++ filter (are_linked l.topology l.agent) (range_with_len l.place (length l.topology.agents - l.place)) ≡ others_of l.topology l.agent
