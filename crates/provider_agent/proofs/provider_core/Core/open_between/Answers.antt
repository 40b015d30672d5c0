use Rattle.std.proofs.Common.{subst, arith, Contains}
use Rattle.provider_agent.proofs.Indexing.{ready_added, named_added}
use Rattle.provider_agent.proofs.provider_core.Core.open_between.Goals as goal

pub add_record-requires-clause-ready : goal.add_record-requires-clause-ready
add_record-requires-clause-ready c = ready_added c.args.self.now c.add.new.self c.len.result c.requires.ready c.in_ok-add.ensures.ok

pub add_record-requires-clause-named : goal.add_record-requires-clause-named
add_record-requires-clause-named c =
    let d = c.args.self.now in
    subst (Contains c.add.new.self) (omega arith) (named_added d.waiting c.add.new.self c.len.result c.in_ok-add.ensures.ok)
