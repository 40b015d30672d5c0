use Rattle.std.proofs.Common.{inl, Ok, Err, ap, arith}
use Rattle.run_command.specs.declared.command.RunEnd.{RunEnd}
use Rattle.run_command.specs.Runs.{disks}
use Rattle.run_command.proofs.Running.{kinds, long_only}
use Rattle.run_command.proofs.Inputs.{quiet_still, nothing_begun, long_begun, long_heavy}
use Rattle.run_command.proofs.command.run.Goals as goal

pub returns-in-Ok-None-clause-unfinished : goal.returns-in-Ok-None-clause-unfinished
returns-in-Ok-None-clause-unfinished g c = λ _.
    inl (
      c.in-Ok-None.ensures.quiet,
      long_begun c.args.options (disks (g.H.Shelf.holds c.args.shelf.now) (g.H.Shelf.holds c.args.shelf.now) (g.H.Shelf.stops c.args.shelf.now) (g.H.Shelf.stops c.args.shelf.now)) (g.S.Source.left c.args.input.now) (g.K.Sink.content c.args.out.now) (g.K.Sink.content c.close.new.out) (c.in-Ok-None.ensures.long (ap (λ o. Ok o) c.in-Ok-None.field-0-is)) c.close.ensures.front,
    )

pub returns-in-Err-NoMemory-clause-unfinished : goal.returns-in-Err-NoMemory-clause-unfinished
returns-in-Err-NoMemory-clause-unfinished g c = λ _.
    inl (
      c.in-Err-NoMemory.ensures.memory (ap (λ e. Err e) c.in-Err-NoMemory.field-0-is),
      nothing_begun c.nothing_throughout.ensures c.args.options (disks (g.H.Shelf.holds c.args.shelf.now) (g.H.Shelf.holds c.args.shelf.now) (g.H.Shelf.stops c.args.shelf.now) (g.H.Shelf.stops c.args.shelf.now)) (omega arith) (g.S.Source.left c.args.input.now) (g.K.Sink.content c.args.out.now),
    )

pub returns-in-Ok-None-clause-journals : goal.returns-in-Ok-None-clause-journals
returns-in-Ok-None-clause-journals g c = λ done. absurd (kinds RunEnd.Long c.close.result c.close.ensures.kind (λ d. cc) done)

pub returns-in-Err-Failed-clause-journals : goal.returns-in-Err-Failed-clause-journals
returns-in-Err-Failed-clause-journals g c = λ done. absurd (kinds RunEnd.ReadFault c.close-in-Err-Failed.result c.close-in-Err-Failed.ensures.kind (λ d. cc) done)

pub returns-in-Ok-None-clause-quiet_disk : goal.returns-in-Ok-None-clause-quiet_disk
returns-in-Ok-None-clause-quiet_disk g c = λ told shown. quiet_still _ _

pub returns-in-Err-Failed-clause-quiet_disk : goal.returns-in-Err-Failed-clause-quiet_disk
returns-in-Err-Failed-clause-quiet_disk g c = λ told shown. quiet_still _ _

pub returns-in-Err-NoMemory-clause-quiet_disk : goal.returns-in-Err-NoMemory-clause-quiet_disk
returns-in-Err-NoMemory-clause-quiet_disk g c = λ told shown. quiet_still _ _

pub returns-in-Ok-None-clause-settles : goal.returns-in-Ok-None-clause-settles
returns-in-Ok-None-clause-settles g c = λ long. long_heavy c.args.options (disks (g.H.Shelf.holds c.args.shelf.now) (g.H.Shelf.holds c.args.shelf.now) (g.H.Shelf.stops c.args.shelf.now) (g.H.Shelf.stops c.args.shelf.now)) (g.S.Source.left c.args.input.now) (c.in-Ok-None.ensures.long (ap (λ o. Ok o) c.in-Ok-None.field-0-is))

pub returns-in-Err-Failed-clause-settles : goal.returns-in-Err-Failed-clause-settles
returns-in-Err-Failed-clause-settles g c = λ long. absurd (long_only RunEnd.ReadFault c.close-in-Err-Failed.result c.close-in-Err-Failed.ensures.kind (λ d. cc) long)
