use Rattle.std.proofs.Common.{◌+◌, subst, ap, length}
use Rattle.race_run.specs.Scripts.{ask_by}
use Rattle.race_caller.specs.Alone.{IsAlone, idle}
use Rattle.race_caller.proofs.Playing.{played_if, played_other}
use Rattle.race_caller.proofs.Going.{ends_here}
use Rattle.race_caller.proofs.serving.act_once.Goals as goal

pub returns-in-Some-clause-played : goal.returns-in-Some-clause-played
returns-in-Some-clause-played g c =
    played_if c.args.topology.now (ask_by c.args.asker.now.call.agent c.args.act.now) c.in-Some.ask.now c.args.asker.now _ _ c.in-Some.ensures.own c.ask_once.ensures.asked

pub returns-in-Some-clause-alone : goal.returns-in-Some-clause-alone
returns-in-Some-clause-alone g c = λ first j b told h.
    c.ask_once.ensures.alone first j b told (subst (λ n. IsAlone c.args.topology.now first (idle (j + n)) b c.args.asker.now) (ap length c.in-Some.ensures.own) h)

pub returns-in-None-clause-played : goal.returns-in-None-clause-played
returns-in-None-clause-played g c =
    played_other c.args.topology.now (ask_by c.args.asker.now.call.agent c.args.act.now) c.args.asker.now _ c.in-None.ensures.none c.requires.is

pub returns-in-None-clause-alone : goal.returns-in-None-clause-alone
returns-in-None-clause-alone g c = λ first j b told h.
    ends_here c.args.topology.now first j (length (ask_by c.args.asker.now.call.agent c.args.act.now)) b c.args.asker.now _ told (ap length c.in-None.ensures.none) h
