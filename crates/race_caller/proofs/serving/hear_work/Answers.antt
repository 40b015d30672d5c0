use Rattle.std.proofs.Common.{◌∙◌, sym, subst}
use Rattle.std.proofs.lemmas.Bool.{true≢false}
use Rattle.race_caller.specs.Askers.{HasHeard}
use Rattle.race_caller.proofs.Asking.{heard_twice}
use Rattle.race_caller.proofs.Going.{work_heard}
use Rattle.race_caller.proofs.serving.hear_work.Goals as goal

pub returns-clause-heard : goal.returns-clause-heard
returns-clause-heard c =
    heard_twice c.args.topology.now c.args.asker.now c.keep_work.new.self c.hear_all.new.self _ (subst (HasHeard c.args.topology.now c.args.asker.now c.keep_work.new.self) c.if-not-on.false c.in_ok-on.ensures.heard) c.in_ok-to_end.ensures.heard

pub returns-clause-alone : goal.returns-clause-alone
returns-clause-alone c = λ first j works at b work h.
    work_heard c.args.topology.now first j works at b c.args.done c.args.asker.now c.keep_work.new.self c.hear_all.new.self c.in_ok-to_end.to_end h (c.in_ok-on.ensures.kept c.if-not-on.false) c.in_ok-to_end.ensures.these

pub returns-then-not-on-clause-alone : goal.returns-then-not-on-clause-alone
returns-then-not-on-clause-alone c = λ first j works at b work h. absurd (true≢false (sym (c.in_ok-on.ensures.work work) ∙ c.if-not-on.true))
