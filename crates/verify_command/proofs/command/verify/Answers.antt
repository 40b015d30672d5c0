use Rattle.std.proofs.Common.{inl, Err, ap}
use Rattle.verify_command.proofs.Ended.{nothing_read}
use Rattle.verify_command.proofs.command.verify.Goals as goal

pub returns-in-Err-NoMemory-clause-unfinished : goal.returns-in-Err-NoMemory-clause-unfinished
returns-in-Err-NoMemory-clause-unfinished g c = λ _.
    inl (
      c.in-Err-NoMemory.ensures.memory (ap (λ e. Err e) c.in-Err-NoMemory.field-0-is),
      nothing_read c.args.most (g.S.Source.left c.args.input.now) (g.K.Sink.content c.args.out.now),
    )
