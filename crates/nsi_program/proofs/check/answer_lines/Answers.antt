use Rattle.std.proofs.Common.{arith, ◌∙◌}
use Rattle.nsi_base.specs.Lines.{lines_of}
use Rattle.nsi_program.proofs.Checks.{answers_next, answers_cut, answers_end, lines_none}
use Rattle.provide_command.proofs.Written.{on_err}
use Rattle.nsi_program.proofs.check.answer_lines.Goals as goal

pub returns-in_err-answer_line-clause-front : goal.returns-in_err-answer_line-clause-front
returns-in_err-answer_line-clause-front g c =
    on_err c.from_residual.result _ (answers_cut c.args.topology.now (lines_of c.args.lines.now) c.cut_line.result.0.now (lines_of c.lines.rest.now) (lines_of c.cut_line.result.1.now)
    (g.K.Sink.content c.args.out.now) (g.K.Sink.content c.lines.out) (g.K.Sink.content c.answer_line.new.out) c.cut_line.ensures.lines c.lines.invariant.answered c.in_err-answer_line.ensures.front)

pub lines-preserved : goal.lines-preserved
lines-preserved g c = record {
  answered = answers_next c.args.topology.now (lines_of c.args.lines.now) c.cut_line.result.0.now (lines_of c.lines.rest.now) (lines_of c.cut_line.result.1.now)
      (g.K.Sink.content c.args.out.now) (g.K.Sink.content c.lines.out) (g.K.Sink.content c.answer_line.new.out) c.cut_line.ensures.lines c.lines.invariant.answered c.in_ok-answer_line.ensures.all;
  quiet = c.in_ok-answer_line.ensures.faults.quiet ∙ c.lines.invariant.quiet;
}

pub returns-clause-all : goal.returns-clause-all
returns-clause-all g c =
    answers_end c.args.topology.now (lines_of c.args.lines.now) (lines_of c.lines.rest.now) (g.K.Sink.content c.args.out.now) (g.K.Sink.content c.lines.out) (lines_none c.lines.rest.now (omega arith)) c.lines.invariant.answered
