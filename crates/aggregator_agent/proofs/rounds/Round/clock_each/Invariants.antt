use Rattle.aggregator_agent.specs.Bonds.{bonds, clocked_bond, each_bond}
use Rattle.aggregator_agent.proofs.EachBond.{IsRoundTo}
use Rattle.aggregator_agent.proofs.rounds.Round.clock_each.Given as goal

abbrev pub invariant-loop-place : goal.invariant-loop-place
invariant-loop-place l =
    IsRoundTo (clocked_bond l.clocking.agent.now l.clocking.second l.clocking.late.now)
    (each_bond (clocked_bond l.clocking.agent.now l.clocking.second l.clocking.late.now) 0 l.initial.self.said.next (bonds l.initial.connections.items))
    (bonds l.initial.connections.items) l.places l.place-index (bonds l.connections.items) l.self.kept.items l.self.said.out.items l.self.said.dues.items l.self.said.next
