use Rattle.std.proofs.Common.{◌≡◌, drop}
use Rattle.nsi_play.specs.Rounds.{all_quiet}
use Rattle.agent_threads.specs.Nets.{seats_by, AtHomes}
use Rattle.agent_threads.proofs.rounds.settled.Given as goal

abbrev pub invariant-loop-node : goal.invariant-loop-node
invariant-loop-node g l = AtHomes l.fn.nodes (λ homes tells. all_quiet homes (seats_by tells (drop l.node-index l.nodes)) ≡ all_quiet homes (seats_by tells l.fn.nodes))
