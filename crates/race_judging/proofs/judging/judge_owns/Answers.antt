use Rattle.std.proofs.Common.{arith, subst, ◌∷◌, [], Option}
use Rattle.race_run.specs.declared.item.Difference.{Difference}
use Rattle.race_run.specs.Compared.{IsOfNetwork, AllStand}
use Rattle.std.specs.Prelude.{IfSome}
use Rattle.race_judging.specs.declared.judging.Own.{Own}
use Rattle.race_judging.specs.Verdicts.{IsVerdict, found_pair}
use Rattle.race_judging.proofs.Comparing.{own_all, own_next, of_one}
use Rattle.race_judging.proofs.judging.judge_owns.Goals as goal

pub returns-in-Some-clause-told : goal.returns-in-Some-clause-told
returns-in-Some-clause-told c = λ t kept found.
    subst (λ (o : Option Difference). IfSome o (IsOfNetwork t)) c.in-Some.is
    (c.in_ok-difference.ensures.told t (of_one (λ (o : Own). AllStand t o.items) c.args.owns.now c.loop-own.own-index c.own-item.result c.loop-own-test.true c.own-item.is kept) found)

pub loop-own-preserved : goal.loop-own-preserved
loop-own-preserved c =
    own_next (found_pair c.args.found.now) c.args.owns.now c.loop-own.own-index c.own-item.result c.loop-own-test.true c.own-item.is c.loop-own.invariant
    (subst (λ (o : Option Difference). IsVerdict (found_pair c.args.found.now c.own-item.result ∷ []) o) c.in-None.is c.in_ok-difference.ensures.judged)

pub returns-clause-judged : goal.returns-clause-judged
returns-clause-judged c = own_all (found_pair c.args.found.now) c.args.owns.now c.loop-own.own-index (omega (arith, c.loop-own-test.false)) c.loop-own.invariant
