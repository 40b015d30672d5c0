use Rattle.provider_agent.proofs.Indexing.{ready_added, named_added}
use Rattle.provider_agent.proofs.provider_core.Core.force.Goals as goal

pub force_at-requires-clause-ready : goal.force_at-requires-clause-ready
force_at-requires-clause-ready c = ready_added c.args.self.now c.add.new.self c.get-place.result c.requires c.in_ok-add.ensures.ok

pub force_at-requires-clause-named : goal.force_at-requires-clause-named
force_at-requires-clause-named c = named_added c.args.self.now.waiting c.add.new.self c.get-place.result c.in_ok-add.ensures.ok
