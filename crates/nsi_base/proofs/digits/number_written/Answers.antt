use Rattle.std.proofs.Common.{◌∙◌, sym, subst, ◌≡◌, ◌↔◌, ◌<◌, ◌^◌, decimal, Option, Some, ℕ}
use Rattle.nsi_base.proofs.Written.{leading_none, plain_digits, is_written}
use Rattle.nsi_base.proofs.digits.number_written.Goals as goal

pub returns-then-has_leading_zero-clause-value : goal.returns-then-has_leading_zero-clause-value
returns-then-has_leading_zero-clause-value c = leading_none c.args.word.now (sym c.has_leading_zero.ensures ∙ c.if-has_leading_zero.true)

pub returns-then-has_leading_zero-clause-exact : goal.returns-then-has_leading_zero-clause-exact
returns-then-has_leading_zero-clause-exact c = λ n. subst (λ (o : Option ℕ). o ≡ Some n ↔ ((n < 2 ^ 64) × (c.args.word.now ≡ decimal n)))
    (sym (leading_none c.args.word.now (sym c.has_leading_zero.ensures ∙ c.if-has_leading_zero.true))) (is_written c.args.word.now n)

pub returns-clause-value : goal.returns-clause-value
returns-clause-value c = c.number_of.ensures.value ∙ plain_digits c.args.word.now (sym c.has_leading_zero.ensures ∙ c.if-has_leading_zero.false)

pub returns-clause-exact : goal.returns-clause-exact
returns-clause-exact c = λ n. subst (λ (o : Option ℕ). o ≡ Some n ↔ ((n < 2 ^ 64) × (c.args.word.now ≡ decimal n)))
    (sym (c.number_of.ensures.value ∙ plain_digits c.args.word.now (sym c.has_leading_zero.ensures ∙ c.if-has_leading_zero.false))) (is_written c.args.word.now n)
