use Rattle.nsi_agent.specs.Homes.{Role}
use Rattle.nsi_agent.specs.Kinds.{state_in}
use Rattle.nsi_agent.specs.Laws.{IsGood}
use Rattle.nsi_agent.proofs.Roles.{by_home}
use Rattle.nsi_agent.proofs.Works.{works_few}
use Rattle.nsi_agent.proofs.agent.Agent.facts.Goals as goal

pub returns-clause-good : goal.returns-clause-good
returns-clause-good c routes =
    let d = c.self.inside in
    rw (← c.self.view_is) (by_home d.topology.now d.number d.kind c.self.invariant routes (λ (role : Role). IsGood role (state_in d.kind)) (c.facts.ensures (routes d.number) d.topology.now))

pub returns-clause-works : goal.returns-clause-works
returns-clause-works c routes = works_few _ _ (returns-clause-good c routes)
