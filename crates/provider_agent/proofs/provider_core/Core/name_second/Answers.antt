use Rattle.provider_agent.proofs.Indexing.{ready_timed, timed_added, still_named}
use Rattle.provider_agent.proofs.provider_core.Core.name_second.Goals as goal

pub returns-clause-ready : goal.returns-clause-ready
returns-clause-ready c = ready_timed c.args.self.now c.add.new.self c.args.second c.args.place c.requires.ready c.requires.within c.in_ok-add.ensures.ok

pub returns-clause-named : goal.returns-clause-named
returns-clause-named c = timed_added c.args.self.now.deadlines c.add.new.self c.args.second c.args.place c.in_ok-add.ensures.ok

pub returns-clause-before : goal.returns-clause-before
returns-clause-before c = λ x has. still_named c.args.self.now.deadlines c.add.new.self c.args.second c.args.place x c.in_ok-add.ensures.ok has
