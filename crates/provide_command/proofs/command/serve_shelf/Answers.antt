use Rattle.std.proofs.Common.{◌≡◌, Err, refl, ap}
use Rattle.provide_command.specs.Backed.IsLast.{last_disk}
use Rattle.provide_command.specs.Outcome.{disk_fault_line}
use Rattle.provide_command.specs.declared.output.Halt.{Halt}
use Rattle.provide_command.specs.declared.status.Status.{Status}
use Rattle.provide_command.proofs.Backing.{shelf_backed, unshelved, unshelved_silent, line_front}
use Rattle.provide_command.proofs.Provided.{served_along, provided_by, shelf_provided, memory_provided, counts_end, disk_raises, none_raised, shelf_raises, at_ok}
use Rattle.provide_command.proofs.Started.{counts_none}
use Rattle.provide_command.proofs.command.serve_shelf.Goals as goal

pub returns-in_default-clause-provided : goal.returns-in_default-clause-provided
returns-in_default-clause-provided g c = λ first start b.
    memory_provided (g.H.Shelf.holds c.args.shelf.now) c.args.begun.most c.requires.most first start c.args.begun.number c.args.begun.topology c.args.begun.provider _ _ _ b c.args.reader.now (g.S.Source.left c.args.input.now) (g.K.Sink.content c.args.out.now)
    (g.K.Sink.content c.args.out.now) _ _ _ refl refl refl refl

pub returns-in-Ok-fetch-clause-provided : goal.returns-in-Ok-fetch-clause-provided
returns-in-Ok-fetch-clause-provided g c = λ first start b.
    provided_by (g.H.Shelf.holds c.args.shelf.now) c.args.begun.most c.requires.most first start c.args.begun.number c.args.begun.topology c.args.begun.provider _ _ _ b c.serve_disk-end.new.reader (g.S.Source.left c.serve_disk-end.new.input)
    (g.K.Sink.content c.serve_disk-end.new.out) (g.K.Sink.content c.conclude.new.out) (record { reads = g.S.Source.faults c.args.input.now; faults = g.H.Shelf.faults c.args.shelf.now; stops = g.H.Shelf.stops c.args.shelf.now }) (record { reads = g.S.Source.faults c.serve_disk-end.new.input; faults = g.H.Shelf.faults c.give_back.new.self; stops = g.H.Shelf.stops c.give_back.new.self }) c.conclude.result c.in-Ok.name c.in-Ok.ensures c.serve_disk-end.result.0 (g.K.Sink.faults c.args.out.now) (g.K.Sink.faults c.serve_disk-end.new.out) (g.K.Sink.faults c.conclude.new.out)
    (served_along _ (g.H.Disk.Disk.history c.in-Ok-fetch.disk) c.args.begun.most first start c.serve_disk-end.result.0 _ _ _ c.in-Ok-fetch.ensures.content (c.serve_disk-end.ensures.served first start b)) c.serve_disk-end.ensures.counts
    (disk_raises c.serve_disk-end.result.0 (g.H.Disk.Disk.meter c.in-Ok-fetch.disk) (g.H.Disk.Disk.meter c.serve_disk-end.result.1) (record { reads = g.S.Source.faults c.args.input.now; faults = g.H.Shelf.faults c.args.shelf.now; stops = g.H.Shelf.stops c.args.shelf.now }) (record { reads = g.S.Source.faults c.args.input.now; faults = g.H.Shelf.faults c.fetch.new.self; stops = g.H.Shelf.stops c.fetch.new.self }) (record { reads = g.S.Source.faults c.serve_disk-end.new.input; faults = g.H.Shelf.faults c.give_back.new.self; stops = g.H.Shelf.stops c.give_back.new.self })
    c.serve_disk-end.ensures.cause c.in-Ok-fetch.ensures.counts.0 c.in-Ok-fetch.ensures.counts.1 c.in-Ok-fetch.ensures.quiet c.fetch.ensures.stops c.give_back.ensures.faults c.give_back.ensures.stops) c.conclude.ensures

pub returns-in-Ok-fetch-clause-counts : goal.returns-in-Ok-fetch-clause-counts
returns-in-Ok-fetch-clause-counts g c =
    let end = c.serve_disk-end.result.0 in
    let cause = c.serve_disk-end.ensures.cause in
    counts_end (record { reads = g.S.Source.faults c.args.input.now; faults = g.H.Shelf.faults c.args.shelf.now; stops = g.H.Shelf.stops c.args.shelf.now }) (record { reads = g.S.Source.faults c.serve_disk-end.new.input; faults = g.H.Shelf.faults c.give_back.new.self; stops = g.H.Shelf.stops c.give_back.new.self }) (g.K.Sink.faults c.args.out.now) (g.K.Sink.faults c.serve_disk-end.new.out) (g.K.Sink.faults c.conclude.new.out) c.conclude.result c.in-Ok.name end (g.K.Sink.content c.serve_disk-end.new.out) (g.K.Sink.content c.conclude.new.out) c.serve_disk-end.ensures.counts
    (disk_raises end (g.H.Disk.Disk.meter c.in-Ok-fetch.disk) (g.H.Disk.Disk.meter c.serve_disk-end.result.1) (record { reads = g.S.Source.faults c.args.input.now; faults = g.H.Shelf.faults c.args.shelf.now; stops = g.H.Shelf.stops c.args.shelf.now }) (record { reads = g.S.Source.faults c.args.input.now; faults = g.H.Shelf.faults c.fetch.new.self; stops = g.H.Shelf.stops c.fetch.new.self }) (record { reads = g.S.Source.faults c.serve_disk-end.new.input; faults = g.H.Shelf.faults c.give_back.new.self; stops = g.H.Shelf.stops c.give_back.new.self })
    cause c.in-Ok-fetch.ensures.counts.0 c.in-Ok-fetch.ensures.counts.1 c.in-Ok-fetch.ensures.quiet c.fetch.ensures.stops c.give_back.ensures.faults c.give_back.ensures.stops)
    (λ ending e. (
      none_raised (g.H.Disk.Disk.meter c.in-Ok-fetch.disk).faults (g.H.Disk.Disk.meter c.serve_disk-end.result.1).faults (g.H.Shelf.faults c.args.shelf.now) (g.H.Shelf.faults c.fetch.new.self) (g.H.Shelf.faults c.give_back.new.self) (at_ok end ending ((g.H.Disk.Disk.meter c.serve_disk-end.result.1).faults ≡ (g.H.Disk.Disk.meter c.in-Ok-fetch.disk).faults) cause.quiet e) c.in-Ok-fetch.ensures.counts.0 c.in-Ok-fetch.ensures.quiet c.give_back.ensures.faults,
      none_raised (g.H.Disk.Disk.meter c.in-Ok-fetch.disk).stops (g.H.Disk.Disk.meter c.serve_disk-end.result.1).stops (g.H.Shelf.stops c.args.shelf.now) (g.H.Shelf.stops c.fetch.new.self) (g.H.Shelf.stops c.give_back.new.self) (at_ok end ending ((g.H.Disk.Disk.meter c.serve_disk-end.result.1).stops ≡ (g.H.Disk.Disk.meter c.in-Ok-fetch.disk).stops) cause.calm e) c.in-Ok-fetch.ensures.counts.1 c.fetch.ensures.stops c.give_back.ensures.stops,
    )) c.conclude.ensures

pub returns-in-Err-Failed-clause-provided : goal.returns-in-Err-Failed-clause-provided
returns-in-Err-Failed-clause-provided g c = λ first start b.
    shelf_provided (g.H.Shelf.holds c.args.shelf.now) c.args.begun.most c.requires.most first start c.args.begun.number c.args.begun.topology c.args.begun.provider _ _ _ b c.args.reader.now (g.S.Source.left c.args.input.now) (g.K.Sink.content c.args.out.now)
    (g.K.Sink.content c.disk_fault.new.out) (record { reads = g.S.Source.faults c.args.input.now; faults = g.H.Shelf.faults c.args.shelf.now; stops = g.H.Shelf.stops c.args.shelf.now }) (record { reads = g.S.Source.faults c.args.input.now; faults = g.H.Shelf.faults c.fetch.new.self; stops = g.H.Shelf.stops c.fetch.new.self }) c.disk_fault.result c.in-Ok.name c.in-Ok.ensures (g.K.Sink.faults c.args.out.now) (g.K.Sink.faults c.disk_fault.new.out) refl (shelf_raises (record { reads = g.S.Source.faults c.args.input.now; faults = g.H.Shelf.faults c.args.shelf.now; stops = g.H.Shelf.stops c.args.shelf.now }) (record { reads = g.S.Source.faults c.args.input.now; faults = g.H.Shelf.faults c.fetch.new.self; stops = g.H.Shelf.stops c.fetch.new.self }) (rw c.in-Err-Failed.field-0-is at c.in-Err-Failed.ensures.failed refl))
    (record { kind = c.disk_fault.ensures.kind; told = c.disk_fault.ensures.told; front = c.disk_fault.ensures.front; write = c.disk_fault.ensures.write; quiet = c.disk_fault.ensures.quiet; memory = c.disk_fault.ensures.memory })

pub returns-in-Err-Failed-clause-counts : goal.returns-in-Err-Failed-clause-counts
returns-in-Err-Failed-clause-counts g c =
    counts_end (record { reads = g.S.Source.faults c.args.input.now; faults = g.H.Shelf.faults c.args.shelf.now; stops = g.H.Shelf.stops c.args.shelf.now }) (record { reads = g.S.Source.faults c.args.input.now; faults = g.H.Shelf.faults c.fetch.new.self; stops = g.H.Shelf.stops c.fetch.new.self }) (g.K.Sink.faults c.args.out.now) (g.K.Sink.faults c.args.out.now) (g.K.Sink.faults c.disk_fault.new.out) c.disk_fault.result c.in-Ok.name (Err Halt.Disk) (g.K.Sink.content c.args.out.now) (g.K.Sink.content c.disk_fault.new.out)
    (counts_none (Err Halt.Disk) _ _ (λ e. absurd (cc)) (λ e. absurd (cc))) (λ _. shelf_raises (record { reads = g.S.Source.faults c.args.input.now; faults = g.H.Shelf.faults c.args.shelf.now; stops = g.H.Shelf.stops c.args.shelf.now }) (record { reads = g.S.Source.faults c.args.input.now; faults = g.H.Shelf.faults c.fetch.new.self; stops = g.H.Shelf.stops c.fetch.new.self }) (rw c.in-Err-Failed.field-0-is at c.in-Err-Failed.ensures.failed refl)) (λ ending e. absurd (cc))
    (record { kind = c.disk_fault.ensures.kind; told = c.disk_fault.ensures.told; front = c.disk_fault.ensures.front; write = c.disk_fault.ensures.write; quiet = c.disk_fault.ensures.quiet; memory = c.disk_fault.ensures.memory })

pub returns-clause-provided : goal.returns-clause-provided
returns-clause-provided g c = λ first start b.
    memory_provided (g.H.Shelf.holds c.args.shelf.now) c.args.begun.most c.requires.most first start c.args.begun.number c.args.begun.topology c.args.begun.provider _ _ _ b c.args.reader.now (g.S.Source.left c.args.input.now) (g.K.Sink.content c.args.out.now)
    (g.K.Sink.content c.args.out.now) _ _ _ refl refl refl refl

pub returns-in_default-clause-backed : goal.returns-in_default-clause-backed
returns-in_default-clause-backed g c =
    unshelved_silent (g.H.Shelf.holds c.args.shelf.now) (g.H.Shelf.holds c.args.shelf.now) c.args.begun.topology c.args.begun.provider (g.K.Sink.content c.args.out.now) (g.K.Sink.content c.args.out.now) (λ n. refl) refl

pub returns-in-Ok-fetch-clause-backed : goal.returns-in-Ok-fetch-clause-backed
returns-in-Ok-fetch-clause-backed g c =
    shelf_backed (g.H.Shelf.holds c.args.shelf.now) (g.H.Shelf.holds c.fetch.new.self) (g.H.Shelf.holds c.give_back.new.self) c.args.begun.topology c.args.begun.provider c.in-Ok.name (g.H.Disk.Disk.history c.in-Ok-fetch.disk)
    (g.H.Disk.Disk.history c.serve_disk-end.result.1) (g.H.Disk.Disk.meter c.serve_disk-end.result.1).stopped c.serve_disk-end.result.0 c.conclude.result (g.K.Sink.content c.serve_disk-end.new.out) (g.K.Sink.content c.conclude.new.out)
    (g.K.Sink.faults c.serve_disk-end.new.out) (g.K.Sink.faults c.conclude.new.out) (g.K.Sink.content c.args.out.now) c.in-Ok.ensures c.in-Ok-fetch.ensures.content c.serve_disk-end.ensures.left c.give_back.ensures.held c.conclude.ensures

pub returns-in-Err-Failed-clause-backed : goal.returns-in-Err-Failed-clause-backed
returns-in-Err-Failed-clause-backed g c =
    let content = g.K.Sink.content c.args.out.now in
    let new = g.K.Sink.content c.disk_fault.new.out in
    unshelved (g.H.Shelf.holds c.args.shelf.now) (g.H.Shelf.holds c.fetch.new.self) c.args.begun.topology c.args.begun.provider content new (disk_fault_line c.in-Ok.name) c.fetch.ensures.same (last_disk (ap disk_fault_line c.in-Ok.ensures))
    (line_front (disk_fault_line c.in-Ok.name) Status.DiskFault c.disk_fault.result content new (g.K.Sink.faults c.args.out.now) (g.K.Sink.faults c.disk_fault.new.out) refl refl
    (record { kind = c.disk_fault.ensures.kind; told = c.disk_fault.ensures.told; front = c.disk_fault.ensures.front; write = c.disk_fault.ensures.write; quiet = c.disk_fault.ensures.quiet; memory = c.disk_fault.ensures.memory }))

pub returns-clause-backed : goal.returns-clause-backed
returns-clause-backed g c =
    unshelved_silent (g.H.Shelf.holds c.args.shelf.now) (g.H.Shelf.holds c.fetch.new.self) c.args.begun.topology c.args.begun.provider (g.K.Sink.content c.args.out.now) (g.K.Sink.content c.args.out.now) c.fetch.ensures.same refl
