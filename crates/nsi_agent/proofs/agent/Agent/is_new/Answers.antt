use Rattle.nsi_agent.proofs.Roles.{new_home}
use Rattle.nsi_agent.proofs.agent.Agent.is_new.Goals as goal

pub returns : goal.returns
returns c routes =
    let d = c.self.inside in
    rw (← c.self.view_is) (new_home d.topology.now d.number d.kind c.self.invariant routes c.args.message.now c.is_new.result (c.is_new.ensures (routes d.number) d.topology.now))
