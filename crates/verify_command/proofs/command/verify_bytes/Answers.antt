use Rattle.std.proofs.Common.{refl}
use Rattle.stp_topology.specs.declared.fault.TopologyFault.{TopologyFault}
use Rattle.fault_lines.specs.Lines.{topology_fault}
use Rattle.trace_verify.specs.Lines.{trace_lines}
use Rattle.verify_command.specs.Verifies.{Verifies, VerifiesLines}
use Rattle.verify_command.specs.declared.end.VerifyEnd.{VerifyEnd}
use Rattle.verify_command.proofs.Ended.{ended_as, ended_silently, ended_so, of_fault, of_lines}
use Rattle.verify_command.proofs.command.verify_bytes.Goals as goal

pub returns-in-Ok : goal.returns-in-Ok
returns-in-Ok g c =
    let d = c.in-Ok.declared in
    ended_as _ (Verifies c.args.most c.args.bytes.now) _ _ _ _ _
    (of_lines c.args.most c.args.bytes.now d.behind.now d.topology d.lines c.requires c.in-Ok.ensures.reads.read c.in-Ok.ensures.reads.behind) c.verify_lines.ensures

pub returns-in-Err-Fault : goal.returns-in-Err-Fault
returns-in-Err-Fault g c =
    ended_so (Verifies c.args.most c.args.bytes.now) _ VerifyEnd.BadTopology _ _ _ _ _ refl (of_fault c.args.most c.args.bytes.now _ _ c.requires (rw c.in-Err-Fault.field-0-is at c.in-Err-Fault.ensures.reads))
    (rw c.in-Err-Fault.field-0-is at c.bad_topology.ensures)

pub returns-in-Err-NoMemory : goal.returns-in-Err-NoMemory
returns-in-Err-NoMemory g c = ended_silently (Verifies c.args.most c.args.bytes.now) (g.K.Sink.content c.args.out.now) _
