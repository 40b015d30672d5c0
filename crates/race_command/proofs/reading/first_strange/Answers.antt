use Rattle.std.proofs.Common.{◌+◌, arith, sym, ap, ◌∙◌, Bool}
use Rattle.std.specs.Prelude.{◌||◌}
use Rattle.nsi_base.specs.Lines.{lines_of}
use Rattle.race_command.specs.Lines.{first_strange}
use Rattle.race_command.proofs.Strange.{not_true, not_false, goes_on, stops, at_end}
use Rattle.race_command.proofs.reading.first_strange.Goals as goal

pub returns-then-not-seen : goal.returns-then-not-seen
returns-then-not-seen c =
    stops c.args.topology.now c.args.provider c.lines.has_begun c.lines.number c.lines.rest.now c.cut_line.result.0.now c.cut_line.result.1.now _ c.cut_line.ensures.lines c.lines.invariant.same
    (sym c.in_ok-seen.ensures.may_stand ∙ not_true c.in_ok-seen.seen.may_stand c.if-not-seen.true)

pub lines-preserved : goal.lines-preserved
lines-preserved c =
    let i = c.lines.invariant in
    let on = goes_on c.args.topology.now c.args.provider c.lines.has_begun c.lines.number c.lines.rest.now c.cut_line.result.0.now c.cut_line.result.1.now _ c.cut_line.ensures.lines i.same
    (sym c.in_ok-seen.ensures.may_stand ∙ not_false c.in_ok-seen.seen.may_stand c.if-not-seen.false) in
    record {
      same = ap (λ (b : Bool). first_strange c.args.topology.now c.args.provider b (c.lines.number + 1) (lines_of c.cut_line.result.1.now))
          (c.either-begun.ensures ∙ ap (λ (b : Bool). c.lines.has_begun || b) c.in_ok-seen.ensures.begins)
          ∙ on;
      few = omega (arith, i.few, c.cut_line.ensures.shorter);
    }

pub returns : goal.returns
returns c =
    let i = c.lines.invariant in
    at_end c.args.topology.now c.args.provider c.lines.has_begun c.lines.number c.lines.rest.now _ (omega arith) i.same
