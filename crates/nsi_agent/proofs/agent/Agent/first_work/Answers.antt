use Rattle.std.proofs.Common.{◌≡◌}
use Rattle.nsi_agent.specs.Homes.{Role}
use Rattle.nsi_agent.specs.Kinds.{state_in}
use Rattle.nsi_agent.specs.Steps.{work_of}
use Rattle.nsi_agent.proofs.Roles.{by_home}
use Rattle.nsi_agent.proofs.agent.Agent.first_work.Goals as goal

pub returns : goal.returns
returns c routes =
    let d = c.self.inside in
    rw (← c.self.view_is)
    (by_home d.topology.now d.number d.kind c.self.invariant routes (λ (role : Role). c.first_work.result ≡ work_of role (state_in d.kind)) (c.first_work.ensures (routes d.number) d.topology.now))
