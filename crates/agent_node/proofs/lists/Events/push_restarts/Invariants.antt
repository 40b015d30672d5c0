use Rattle.std.proofs.Common.{◌≡◌, ◌++◌}
use Rattle.agent_node.specs.Restarts.{restart_events}
use Rattle.agent_node.proofs.lists.Events.push_restarts.Given as goal

abbrev pub invariant-loop : goal.invariant-loop
invariant-loop l = l.self ≡ l.fn.self ++ restart_events l.counter l.agent l.count
