use Rattle.nsi_base.specs.Lines.{lines_of}
use Rattle.nsi_program.specs.Check.{AnswersFront}
use Rattle.nsi_program.proofs.Checks.{counts_front, counts_cut}
use Rattle.provide_command.proofs.Written.{on_err}
use Rattle.nsi_program.proofs.check.write_answers.Goals as goal

pub returns-in_err-write_counts-clause-front : goal.returns-in_err-write_counts-clause-front
returns-in_err-write_counts-clause-front g c =
    on_err c.from_residual.result _ (counts_front c.args.topology.now (lines_of c.args.lines.now) (g.K.Sink.content c.args.out.now) (g.K.Sink.content c.write_counts.new.out) c.in_err-write_counts.ensures.front)

pub returns-in_err-answer_lines-clause-front : goal.returns-in_err-answer_lines-clause-front
returns-in_err-answer_lines-clause-front g c =
    on_err c.from_residual-in_err-answer_lines.result _ (counts_cut c.args.topology.now (AnswersFront c.args.topology.now (lines_of c.args.lines.now)) (g.K.Sink.content c.args.out.now) (g.K.Sink.content c.write_counts.new.out)
    (g.K.Sink.content c.answer_lines.new.out) c.in_ok-write_counts.ensures.all c.in_err-answer_lines.ensures.front)
