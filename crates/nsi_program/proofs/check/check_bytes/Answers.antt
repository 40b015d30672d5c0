use Rattle.std.proofs.Common.{refl}
use Rattle.stp_topology.specs.Text.{topology_of}
use Rattle.nsi_program.specs.Check.{BeginsRead}
use Rattle.nsi_program.proofs.Checks.{read_begins}
use Rattle.provide_command.proofs.Written.{nothing_some}
use Rattle.nsi_program.proofs.check.check_bytes.Goals as goal

pub returns-in-Err-NoMemory-clause-front : goal.returns-in-Err-NoMemory-clause-front
returns-in-Err-NoMemory-clause-front g c = λ _.
    let begun = read_begins c.args.bytes.now (topology_of c.args.bytes.now) in
    let old = g.K.Sink.content c.args.out.now in
    nothing_some (BeginsRead (topology_of c.args.bytes.now) c.args.bytes.now) old old begun.0 begun.1 refl
