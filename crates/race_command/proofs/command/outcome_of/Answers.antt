use Rattle.std.proofs.Common.{◌≡◌}
use Rattle.fault_lines.specs.Lines.{topology_fault}
use Rattle.race_command.specs.declared.ending.RaceEnd.{RaceEnd}
use Rattle.race_command.proofs.Racing.{both, comes_no_topology}
use Rattle.race_command.proofs.command.outcome_of.Goals as goal

pub returns-in-Err-Fault : goal.returns-in-Err-Fault
returns-in-Err-Fault g c =
    both c.bad_topology.result (λ o. o.end ≡ RaceEnd.BadTopology) (λ o. o.text.items ≡ topology_fault c.in-Err-Fault.line c.in-Err-Fault.fault) _
    (λ o end text. comes_no_topology c.args.means.now.most c.args.bytes.now _ _ o c.in-Err-Fault.line c.in-Err-Fault.fault c.requires (rw c.in-Err-Fault.field-0-is at c.in-Err-Fault.ensures.reads) end text)
    c.bad_topology.ensures.end c.bad_topology.ensures.text
