use Rattle.std.proofs.Common.{◌∙◌, refl, arith}
use Rattle.provide_command.proofs.Answered.{up_to_next}
use Rattle.provide_command.proofs.Promised.{same_along}
use Rattle.provide_command.proofs.serving.serve_all.Goals as goal

pub lines-preserved : goal.lines-preserved
lines-preserved g c = record {
  same = λ read promise h. same_along _ _ _ (c.lines.invariant.same read promise h) (rw c.in-Ok-None.field-0-is at c.in-Ok-None.ensures.step read);
  up_to = λ read most first start h. up_to_next read most first start c.lines.number _ _ _ _ _ _ _ _ (c.lines.invariant.up_to read most first start h) ((rw c.in-Ok-None.field-0-is at c.in-Ok-None.ensures.takes_on read) refl);
  few = omega (arith, c.lines.invariant.few, (rw c.in-Ok-None.field-0-is at c.in-Ok-None.ensures.shrinks) refl);
  reads = c.in-Ok-None.ensures.counts.quiet_in ∙ c.lines.invariant.reads;
  writes = c.in-Ok-None.ensures.counts.quiet_out ∙ c.lines.invariant.writes;
  ready = c.in-Ok-None.ensures.ready;
  none = c.in-Ok-None.ensures.none;
  faults = c.in-Ok-None.ensures.cause.quiet ∙ c.lines.invariant.faults;
  stops = c.in-Ok-None.ensures.cause.calm ∙ c.lines.invariant.stops;
  kept = λ setting stp_of stated first k. (rw c.in-Ok-None.field-0-is at c.in-Ok-None.ensures.kept) setting stp_of stated first (c.lines.invariant.kept setting stp_of stated first k);
  tells = c.serve_next.ensures.tells ∙ c.lines.invariant.tells;
}

pub returns-in-Ok-Some-clause-kept : goal.returns-in-Ok-Some-clause-kept
returns-in-Ok-Some-clause-kept g c = λ setting stp_of stated first k. (rw c.in-Ok-Some.field-0-is at c.in-Ok-Some.ensures.kept) setting stp_of stated first (c.lines.invariant.kept setting stp_of stated first k)

pub returns-in-Err-clause-kept : goal.returns-in-Err-clause-kept
returns-in-Err-clause-kept g c = λ setting stp_of stated first k. c.in-Err.ensures.kept setting stp_of stated first (c.lines.invariant.kept setting stp_of stated first k)
