use Rattle.provider_agent.proofs.Indexing.{ready_added, named_added}
use Rattle.provider_agent.proofs.provider_core.Core.take_at.Goals as goal

pub move_at-requires-clause-ready : goal.move_at-requires-clause-ready
move_at-requires-clause-ready c = ready_added c.args.self.now c.add.new.self c.args.place c.requires.ready c.in_ok-add.ensures.ok

pub move_at-requires-clause-named : goal.move_at-requires-clause-named
move_at-requires-clause-named c = named_added c.args.self.now.waiting c.add.new.self c.args.place c.in_ok-add.ensures.ok
