use Rattle.std.proofs.Common.{◌≡◌, ◌++◌}
use Rattle.agent_node.specs.Restarts.{restart_events}
use Rattle.net_run.proofs.world.push_restarts.Given as goal

abbrev pub invariant-loop : goal.invariant-loop
invariant-loop l = l.events.items ≡ l.fn.events.items ++ restart_events l.counter l.agent 0
