use Rattle.nsi_program.proofs.calls.top_plain.Goals as goal

pub returns-clause-ends : goal.returns-clause-ends
returns-clause-ends g c = c.top.ensures.plain.ends

pub returns-clause-complete : goal.returns-clause-complete
returns-clause-complete g c = c.top.ensures.plain.complete

pub returns-clause-safe : goal.returns-clause-safe
returns-clause-safe g c = c.top.ensures.plain.safe

pub returns-clause-checked : goal.returns-clause-checked
returns-clause-checked g c = c.top.ensures.plain.checked

pub returns-clause-generated : goal.returns-clause-generated
returns-clause-generated g c = c.top.ensures.plain.generated

pub returns-clause-bad_topology : goal.returns-clause-bad_topology
returns-clause-bad_topology g c = c.top.ensures.plain.bad_topology

pub returns-clause-read_fault : goal.returns-clause-read_fault
returns-clause-read_fault g c = c.top.ensures.plain.read_fault

pub returns-clause-cut : goal.returns-clause-cut
returns-clause-cut g c = c.top.ensures.plain.cut

pub returns-clause-alone : goal.returns-clause-alone
returns-clause-alone g c = c.top.ensures.plain.alone

pub returns-clause-write_fault : goal.returns-clause-write_fault
returns-clause-write_fault g c = c.top.ensures.plain.write_fault

pub returns-clause-unfinished : goal.returns-clause-unfinished
returns-clause-unfinished g c = c.top.ensures.plain.unfinished

pub returns-clause-disk_fault : goal.returns-clause-disk_fault
returns-clause-disk_fault g c = c.top.ensures.plain.disk_fault

pub returns-clause-broken : goal.returns-clause-broken
returns-clause-broken g c = c.top.ensures.plain.broken

pub returns-clause-backed : goal.returns-clause-backed
returns-clause-backed g c = c.top.ensures.plain.backed

pub returns-clause-journals : goal.returns-clause-journals
returns-clause-journals g c = c.top.ensures.plain.journals

pub returns-clause-quiet_in : goal.returns-clause-quiet_in
returns-clause-quiet_in g c = c.top.ensures.plain.quiet_in

pub returns-clause-quiet_out : goal.returns-clause-quiet_out
returns-clause-quiet_out g c = c.top.ensures.plain.quiet_out

pub returns-clause-quiet_disk : goal.returns-clause-quiet_disk
returns-clause-quiet_disk g c = c.top.ensures.plain.quiet_disk

pub returns-clause-reading : goal.returns-clause-reading
returns-clause-reading g c = c.top.ensures.plain.reading

pub returns-clause-memory : goal.returns-clause-memory
returns-clause-memory g c = c.top.ensures.plain.memory

pub returns-clause-settles : goal.returns-clause-settles
returns-clause-settles g c = c.top.ensures.plain.settles

pub returns-clause-completes : goal.returns-clause-completes
returns-clause-completes g c = c.top.ensures.plain.completes
