use Rattle.std.proofs.Common.{[], ◌∷◌, refl}
use Rattle.nsi_program.specs.Check.{AnswersFront}
use Rattle.nsi_program.proofs.Checks.{answer_front, answer_none}
use Rattle.provide_command.proofs.Written.{on_err, front_some, nothing_some}
use Rattle.nsi_program.proofs.check.answer_line.Goals as goal

pub returns-in_default-clause-front : goal.returns-in_default-clause-front
returns-in_default-clause-front g c =
    let old = g.K.Sink.content c.args.out.now in
    nothing_some (AnswersFront c.args.topology.now (c.args.line.now ∷ [])) old old [] (answer_none c.args.topology.now c.args.line.now) refl

pub returns-in_err-write_text-clause-front : goal.returns-in_err-write_text-clause-front
returns-in_err-write_text-clause-front g c =
    on_err c.from_residual.result _ (front_some (AnswersFront c.args.topology.now (c.args.line.now ∷ [])) (g.K.Sink.content c.args.out.now) (g.K.Sink.content c.write_text.new.out) c.in-Ok.text.items
    (answer_front c.args.topology.now c.args.line.now c.in-Ok.text.items c.in-Ok.ensures) (rw c.deref.ensures.value at c.in_err-write_text.ensures.front))
