use Rattle.std.proofs.Common.{◌∙◌, sym, arith}
use Rattle.nsi_base.proofs.Numbers.{value_step, value_end, not_digits, too_high, out_of_range, in_range}
use Rattle.nsi_base.proofs.digits.number_of.Goals as goal
use Rattle.nsi_base.proofs.digits.number_of.Goals.{else-from-n-via-then-from-n+else-n-from-2, else-from-n-via-else-from-n}

pub returns-then-not-are_digits-clause-value : goal.returns-then-not-are_digits-clause-value
returns-then-not-are_digits-clause-value c = sym (not_digits c.args.low c.args.high c.args.word.now (sym c.are_digits.ensures ∙ c.if-not-are_digits.true))

pub returns-then-n-from-clause-value : goal.returns-then-n-from-clause-value
returns-then-n-from-clause-value c = sym (too_high c.args.low c.args.high c.loop-b.n c.args.word.now _ c.loop-b.invariant (omega arith))

pub loop-b-preserved : goal.loop-b-preserved
loop-b-preserved c = sym (value_step c.loop-b.n c.loop-b.b-index c.args.word.now c.loop-b-test.true) ∙ c.loop-b.invariant

pub returns-then-n-from-2-clause-value : goal.returns-then-n-from-2-clause-value
returns-then-n-from-2-clause-value c = sym (in_range c.args.low c.args.high c.loop-b.n c.args.word.now (sym c.are_digits.ensures ∙ c.if-not-are_digits.false)
    (sym (value_end c.loop-b.n c.loop-b.b-index c.args.word.now (omega arith)) ∙ c.loop-b.invariant) (omega arith) (omega arith))

pub returns-else-from-n-clause-value : goal.returns-else-from-n-clause-value
returns-else-from-n-clause-value c = sym (out_of_range c.args.low c.args.high c.loop-b.n c.args.word.now
    (sym (value_end c.loop-b.n c.loop-b.b-index c.args.word.now (omega arith)) ∙ c.loop-b.invariant) (λ l. elim c.else-from-n.branch [ else-from-n-via-then-from-n+else-n-from-2 w ↦ omega (arith, w.if-n-from-2.false, w.from-then-from-n.ensures) | else-from-n-via-else-from-n w ↦ absurd (omega (arith, w.if-from-n.false, c.from-2.ensures, l)) ]))
