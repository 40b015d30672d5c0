use Rattle.nsi_program.proofs.Verdicts.{is_short, verify_short}
use Rattle.nsi_program.proofs.verifying.verify.Goals as goal

pub returns-clause-unfinished : goal.returns-clause-unfinished
returns-clause-unfinished g c = λ short.
    verify_short c.args.most (g.S.Source.left c.args.input.now) (g.K.Sink.content c.args.out.now) (g.K.Sink.content c.verify-end.new.out)
    (c.verify-end.ensures.unfinished (is_short c.verify-end.result c.status_of.result c.status_of.ensures.status short))
