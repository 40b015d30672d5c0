use Rattle.aggregator_agent.specs.Bonds.{bonds, answered, each_bond}
use Rattle.aggregator_agent.specs.Indexed.{Grows, AreFound}
use Rattle.aggregator_agent.proofs.EachBond.{IsRoundTo}
use Rattle.aggregator_agent.proofs.rounds.Round.hear_each.Given as goal

abbrev pub invariant-loop-place : goal.invariant-loop-place
invariant-loop-place l =
    record {
      round : IsRoundTo (answered l.entering.agent.now l.entering.second l.entering.message.now)
          (each_bond (answered l.entering.agent.now l.entering.second l.entering.message.now) 0 l.initial.self.said.next (bonds l.initial.connections.items))
          (bonds l.initial.connections.items) l.places l.place-index (bonds l.connections.items) l.self.kept.items l.self.said.out.items l.self.said.dues.items l.self.said.next;
      grows : Grows l.initial.index l.index;
      found : AreFound l.index (bonds l.connections.items);
    }
