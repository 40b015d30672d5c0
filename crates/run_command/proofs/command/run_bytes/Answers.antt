use Rattle.std.proofs.Common.{arith}
use Rattle.run_command.specs.declared.command.RunEnd.{RunEnd}
use Rattle.run_command.specs.Runs.{disks}
use Rattle.run_command.proofs.Running.{kinds, long_only}
use Rattle.run_command.proofs.Inputs.{bad_topology_read, wanting_read}
use Rattle.run_command.proofs.command.run_bytes.Goals as goal

pub returns-in-Err-Fault-clause-read : goal.returns-in-Err-Fault-clause-read
returns-in-Err-Fault-clause-read g c = bad_topology_read c.args.options (disks (g.H.Shelf.holds c.args.shelf.now) (g.H.Shelf.holds c.args.shelf.now) (g.H.Shelf.stops c.args.shelf.now) (g.H.Shelf.stops c.args.shelf.now)) c.args.bytes.now c.requires.size _ _ _ _ _ _ _ _ (rw c.in-Err-Fault.field-0-is at c.in-Err-Fault.ensures.reads) (rw c.in-Err-Fault.field-0-is at c.bad_topology.ensures)

pub returns-in-Err-Fault-clause-journals : goal.returns-in-Err-Fault-clause-journals
returns-in-Err-Fault-clause-journals g c = λ done. absurd (kinds RunEnd.BadTopology c.bad_topology.result c.bad_topology.ensures.kind (λ d. cc) done)

pub returns-in-Err-NoMemory-clause-read : goal.returns-in-Err-NoMemory-clause-read
returns-in-Err-NoMemory-clause-read g c = wanting_read c.nothing_throughout.ensures c.args.options (disks (g.H.Shelf.holds c.args.shelf.now) (g.H.Shelf.holds c.args.shelf.now) (g.H.Shelf.stops c.args.shelf.now) (g.H.Shelf.stops c.args.shelf.now)) (omega arith) c.args.bytes.now (g.K.Sink.content c.args.out.now) _ _

pub returns-in-Err-NoMemory-clause-journals : goal.returns-in-Err-NoMemory-clause-journals
returns-in-Err-NoMemory-clause-journals g c = λ done. cc

pub returns-in-Err-Fault-clause-settles : goal.returns-in-Err-Fault-clause-settles
returns-in-Err-Fault-clause-settles g c = λ long. absurd (long_only RunEnd.BadTopology c.bad_topology.result c.bad_topology.ensures.kind (λ d. cc) long)

pub returns-in-Err-NoMemory-clause-settles : goal.returns-in-Err-NoMemory-clause-settles
returns-in-Err-NoMemory-clause-settles g c = λ long. cc
