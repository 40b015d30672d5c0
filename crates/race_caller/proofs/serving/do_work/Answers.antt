use Rattle.race_caller.proofs.Asking.{nothing_heard}
use Rattle.race_caller.proofs.Going.{work_idle, work_refused, work_done}
use Rattle.race_caller.proofs.serving.do_work.Goals as goal

pub returns-in-Idle-clause-heard : goal.returns-in-Idle-clause-heard
returns-in-Idle-clause-heard g c = nothing_heard c.args.topology.now c.args.asker.now _ c.requires.is

pub returns-in-Idle-clause-alone : goal.returns-in-Idle-clause-alone
returns-in-Idle-clause-alone g c = λ first j b told h. work_idle c.args.topology.now first j c.args.connection b c.args.asker.now _ _ h (c.in_ok-have_done.ensures.done b told) c.in-Idle.is

pub returns-in-Refused-clause-alone : goal.returns-in-Refused-clause-alone
returns-in-Refused-clause-alone g c = λ first j b told h. work_refused c.args.topology.now first j c.args.connection b c.args.asker.now _ _ h (c.in_ok-have_done.ensures.done b told) c.in-Refused.is

pub returns-in_ok-on-in-Done-clause-alone : goal.returns-in_ok-on-in-Done-clause-alone
returns-in_ok-on-in-Done-clause-alone g c = λ first j b told h.
    work_done c.args.topology.now first j c.args.connection b c.args.asker.now _ _ _ c.in-Done.done c.in_ok-on-in-Done.on h (c.in_ok-have_done.ensures.done b told) c.in-Done.is c.in_ok-on-in-Done.ensures.alone
