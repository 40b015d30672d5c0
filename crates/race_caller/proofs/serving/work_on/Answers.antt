use Rattle.std.proofs.Common.{subst, Option}
use Rattle.race_caller.specs.Alone.{IsAlone, waiting}
use Rattle.race_caller.proofs.Asking.{nothing_heard}
use Rattle.race_caller.proofs.Going.{ends_idle}
use Rattle.std.proofs.Common.{ℕ}
use Rattle.race_caller.proofs.serving.work_on.Goals as goal

pub returns-in-None-clause-heard : goal.returns-in-None-clause-heard
returns-in-None-clause-heard g c = nothing_heard c.args.topology.now c.args.asker.now _ c.requires.is

pub returns-in-None-clause-alone : goal.returns-in-None-clause-alone
returns-in-None-clause-alone g c = λ first j b told h. ends_idle c.args.topology.now first j c.args.connection b c.args.asker.now _ told h c.in-None.is

pub returns-in-Some-clause-alone : goal.returns-in-Some-clause-alone
returns-in-Some-clause-alone g c = λ first j b told h. c.do_work.ensures.alone first j b told (subst (λ (o : Option ℕ). IsAlone c.args.topology.now first (waiting j 1 o) b c.args.asker.now) c.in-Some.is h)
