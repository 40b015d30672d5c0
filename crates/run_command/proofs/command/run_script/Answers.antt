use Rattle.std.proofs.Common.{arith}
use Rattle.run_command.specs.declared.command.RunEnd.{RunEnd}
use Rattle.run_command.specs.Runs.{disks}
use Rattle.run_command.proofs.Running.{kinds, long_only}
use Rattle.run_command.proofs.Inputs.{played_read, bad_script_read, wanting_read, are_read}
use Rattle.run_command.proofs.command.run_script.Goals as goal

pub returns-in-Ok-clause-read : goal.returns-in-Ok-clause-read
returns-in-Ok-clause-read g c = played_read c.args.options (disks (g.H.Shelf.holds c.args.shelf.now) (g.H.Shelf.holds c.play.new.shelf) (g.H.Shelf.stops c.args.shelf.now) (g.H.Shelf.stops c.play.new.shelf)) c.args.bytes.now c.requires.size c.args.declared.now c.requires.declared c.in-Ok.script c.in-Ok.ensures.reads _ _ _ _ _ _ _ c.play.ensures.played

pub returns-in-Ok-clause-journals : goal.returns-in-Ok-clause-journals
returns-in-Ok-clause-journals g c = λ done. (
  c.args.declared.now.topology,
  c.in-Ok.script,
  are_read c.args.options (disks (g.H.Shelf.holds c.args.shelf.now) (g.H.Shelf.holds c.play.new.shelf) (g.H.Shelf.stops c.args.shelf.now) (g.H.Shelf.stops c.play.new.shelf)) c.args.bytes.now c.requires.size c.args.declared.now c.requires.declared c.in-Ok.script c.in-Ok.ensures.reads,
  c.play.ensures.journals done,
)

pub returns-in-Ok-clause-settles : goal.returns-in-Ok-clause-settles
returns-in-Ok-clause-settles g c = λ long. (
  c.args.declared.now.topology,
  c.in-Ok.script,
  are_read c.args.options (disks (g.H.Shelf.holds c.args.shelf.now) (g.H.Shelf.holds c.play.new.shelf) (g.H.Shelf.stops c.args.shelf.now) (g.H.Shelf.stops c.play.new.shelf)) c.args.bytes.now c.requires.size c.args.declared.now c.requires.declared c.in-Ok.script c.in-Ok.ensures.reads,
  c.play.ensures.settles long,
)

pub returns-in-Err-Fault-clause-read : goal.returns-in-Err-Fault-clause-read
returns-in-Err-Fault-clause-read g c = bad_script_read c.args.options (disks (g.H.Shelf.holds c.args.shelf.now) (g.H.Shelf.holds c.args.shelf.now) (g.H.Shelf.stops c.args.shelf.now) (g.H.Shelf.stops c.args.shelf.now)) c.args.bytes.now c.requires.size c.args.declared.now c.requires.declared _ _ _ _ _ _ _ _ (rw c.in-Err-Fault.field-0-is at c.in-Err-Fault.ensures.reads) (rw c.in-Err-Fault.field-0-is at c.bad_script.ensures)

pub returns-in-Err-Fault-clause-journals : goal.returns-in-Err-Fault-clause-journals
returns-in-Err-Fault-clause-journals g c = λ done. absurd (kinds RunEnd.BadScript c.bad_script.result c.bad_script.ensures.kind (λ d. cc) done)

pub returns-in-Err-NoMemory-clause-read : goal.returns-in-Err-NoMemory-clause-read
returns-in-Err-NoMemory-clause-read g c = wanting_read c.nothing_throughout.ensures c.args.options (disks (g.H.Shelf.holds c.args.shelf.now) (g.H.Shelf.holds c.args.shelf.now) (g.H.Shelf.stops c.args.shelf.now) (g.H.Shelf.stops c.args.shelf.now)) (omega arith) c.args.bytes.now (g.K.Sink.content c.args.out.now) _ _

pub returns-in-Err-NoMemory-clause-journals : goal.returns-in-Err-NoMemory-clause-journals
returns-in-Err-NoMemory-clause-journals g c = λ done. cc

pub returns-in-Err-Fault-clause-settles : goal.returns-in-Err-Fault-clause-settles
returns-in-Err-Fault-clause-settles g c = λ long. absurd (long_only RunEnd.BadScript c.bad_script.result c.bad_script.ensures.kind (λ d. cc) long)

pub returns-in-Err-NoMemory-clause-settles : goal.returns-in-Err-NoMemory-clause-settles
returns-in-Err-NoMemory-clause-settles g c = λ long. cc
