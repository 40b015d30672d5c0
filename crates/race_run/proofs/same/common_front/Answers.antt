use Rattle.std.proofs.Common.{rules, arith}
use Rattle.race_run.proofs.Fronts.{one_same}
use Rattle.race_run.proofs.same.common_front.Goals as goal

pub returns-then-not-same : goal.returns-then-not-same
returns-then-not-same c = record {
  within_kept = omega arith;
  within_found = c.loop-place.invariant.0;
  same = c.loop-place.invariant.1;
  differs = λ _ h. c.in_ok-same.ensures.differs (search rules) h;
}

pub loop-place-preserved : goal.loop-place-preserved
loop-place-preserved c =
    let on = c.if-not-same.false in (
      omega (arith, c.in_ok-same.ensures.within on),
      one_same c.args.kept.now c.args.found.now c.loop-place.place (search rules) (c.in_ok-same.ensures.within on) c.loop-place.invariant.1 (c.in_ok-same.ensures.same on),
    )

pub returns : goal.returns
returns c = record {
  within_kept = omega arith;
  within_found = search rules;
  same = search rules;
  differs = λ h _. absurd (omega (arith, h));
}
