use Rattle.std.proofs.Common.{subst}
use Rattle.race_caller.specs.Askers.{HasHeard}
use Rattle.race_caller.specs.Alone.{EndsTo, waiting, idle}
use Rattle.race_caller.proofs.Asking.{heard_twice}
use Rattle.race_caller.proofs.Going.{answers_heard, ended_hearing}
use Rattle.race_caller.proofs.serving.hear_through.Goals as goal

pub returns-clause-heard : goal.returns-clause-heard
returns-clause-heard g c =
    heard_twice c.args.topology.now c.args.asker.now c.hear_all.new.self c.work_on.new.asker _ (subst (HasHeard c.args.topology.now c.args.asker.now c.hear_all.new.self) c.if-not-on.false c.in_ok-on.ensures.heard) c.in_ok-to_end.ensures.heard

pub returns-clause-alone : goal.returns-clause-alone
returns-clause-alone g c = λ first j b told h.
    c.in_ok-to_end.ensures.alone first j b told
    (subst (EndsTo c.args.topology.now first (waiting j 1 c.args.connection) b c.hear_all.new.self) c.if-not-on.false (answers_heard c.args.topology.now first j c.args.connection b c.args.asker.now c.hear_all.new.self c.args.answer c.in_ok-on.on h c.in_ok-on.ensures.these))

pub returns-then-not-on-clause-alone : goal.returns-then-not-on-clause-alone
returns-then-not-on-clause-alone g c = λ first j b told h.
    ended_hearing c.args.topology.now first (waiting j 1 c.args.connection) (idle j) b c.hear_all.new.self _ c.in_ok-on.on told c.if-not-on.true
    (answers_heard c.args.topology.now first j c.args.connection b c.args.asker.now c.hear_all.new.self c.args.answer c.in_ok-on.on h c.in_ok-on.ensures.these)
