use Rattle.std.proofs.Common.{inr, refl, sym, ◌∙◌, arith}
use Rattle.std.proofs.lemmas.Slice.Eq.{bytes_eq-Decides}
use Rattle.trace_verify.specs.Lines.{settled_line}
use Rattle.trace_verify.proofs.Cutting.{more_lines, some_lines}
use Rattle.trace_verify.proofs.checking.close.Goals as goal

pub returns-then-behind-gt0 : goal.returns-then-behind-gt0
returns-then-behind-gt0 c =
    let its = (bytes_eq-Decides (settled_line c.args.events) c.args.bytes.now).0 (sym c.in_ok-is_settled.ensures ∙ c.if-not-branch.false) in
    let more = more_lines c.args.behind.now c.if-behind-gt0.true in
    inr (more.0, more.1, sym its, more.2, refl)

pub returns : goal.returns
returns c =
    let its = (bytes_eq-Decides (settled_line c.args.events) c.args.bytes.now).0 (sym c.in_ok-is_settled.ensures ∙ c.if-not-branch.false) in
    (sym its, some_lines c.args.behind.now (omega (arith, c.if-behind-gt0.false)), refl)
