use Rattle.std.proofs.Common.{inl, Err, ap, refl}
use Rattle.nsi_program.proofs.Ended.{nothing_begun}
use Rattle.nsi_program.proofs.check.check.Goals as goal

pub returns-in-Err-NoMemory-clause-unfinished : goal.returns-in-Err-NoMemory-clause-unfinished
returns-in-Err-NoMemory-clause-unfinished g c = λ _.
    inl (
      c.in-Err-NoMemory.ensures.memory (ap (λ e. Err e) c.in-Err-NoMemory.field-0-is),
      nothing_begun (g.S.Source.left c.args.input.now) (g.K.Sink.content c.args.out.now) (g.K.Sink.content c.args.out.now) refl,
    )
