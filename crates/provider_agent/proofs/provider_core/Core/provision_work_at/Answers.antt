use Rattle.provider_agent.proofs.Indexing.{named_by_work}
use Rattle.provider_agent.proofs.provider_core.Core.provision_work_at.Goals as goal

pub turn-requires-clause-named : goal.turn-requires-clause-named
turn-requires-clause-named c =
    let d = c.args.self.now in
    named_by_work d.now d.records.items d.waiting d.deadlines c.args.place _ c.requires.ready.consistent.indexed c.requires.within c.requires.waits
