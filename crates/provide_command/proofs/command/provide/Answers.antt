use Rattle.std.proofs.Common.{[], Err, refl}
use Rattle.line_reader.specs.Held.{rest_of, to_come}
use Rattle.provide_command.specs.declared.declaring.Declaration.{Declaration}
use Rattle.provide_command.specs.declared.output.Halt.{Halt}
use Rattle.provide_command.proofs.Backing.{begun_backs, ended_backs, fault_backs}
use Rattle.provide_command.proofs.Provided.{ended_provided, fault_provided, counts_end}
use Rattle.provide_command.proofs.Started.{fault_counts}
use Rattle.provide_command.proofs.command.provide.Goals as goal

pub returns-in-Ok-Ended-clause-provided : goal.returns-in-Ok-Ended-clause-provided
returns-in-Ok-Ended-clause-provided g c =
    ended_provided (g.H.Shelf.holds c.args.shelf.now) c.args.most c.requires (g.K.Sink.content c.args.out.now) (g.S.Source.left c.args.input.now) c.declare_all.new.reader (g.S.Source.left c.declare_all.new.input) (g.K.Sink.content c.declare_all.new.out)
    (g.K.Sink.content c.declare_all.new.out) (record { reads = g.S.Source.faults c.args.input.now; faults = g.H.Shelf.faults c.args.shelf.now; stops = g.H.Shelf.stops c.args.shelf.now }) (record { reads = g.S.Source.faults c.declare_all.new.input; faults = g.H.Shelf.faults c.args.shelf.now; stops = g.H.Shelf.stops c.args.shelf.now }) c.status.result c.in-Ok-Ended.ending (rw c.in-Ok-Ended.field-0-is at c.in-Ok-Ended.ensures.comes_to) c.status.ensures.status refl

pub returns-clause-provided : goal.returns-clause-provided
returns-clause-provided g c =
    fault_provided (g.H.Shelf.holds c.args.shelf.now) c.args.most c.requires (g.K.Sink.content c.args.out.now) (g.S.Source.left c.args.input.now) c.declare_all.new.reader (g.S.Source.left c.declare_all.new.input) (g.K.Sink.content c.declare_all.new.out)
    (g.K.Sink.content c.outside.new.out) (record { reads = g.S.Source.faults c.args.input.now; faults = g.H.Shelf.faults c.args.shelf.now; stops = g.H.Shelf.stops c.args.shelf.now }) (record { reads = g.S.Source.faults c.declare_all.new.input; faults = g.H.Shelf.faults c.args.shelf.now; stops = g.H.Shelf.stops c.args.shelf.now }) c.outside.result c.in-Err.fault (g.K.Sink.faults c.args.out.now) (g.K.Sink.faults c.declare_all.new.out) (g.K.Sink.faults c.outside.new.out) c.in-Err.ensures.halts
    (fault_counts Declaration c.in-Err.fault (g.S.Source.faults c.args.input.now) (g.S.Source.faults c.declare_all.new.input) (g.K.Sink.faults c.args.out.now) (g.K.Sink.faults c.declare_all.new.out) c.in-Err.ensures.counts) c.outside.ensures

pub returns-clause-counts : goal.returns-clause-counts
returns-clause-counts g c =
    counts_end (record { reads = g.S.Source.faults c.args.input.now; faults = g.H.Shelf.faults c.args.shelf.now; stops = g.H.Shelf.stops c.args.shelf.now }) (record { reads = g.S.Source.faults c.declare_all.new.input; faults = g.H.Shelf.faults c.args.shelf.now; stops = g.H.Shelf.stops c.args.shelf.now }) (g.K.Sink.faults c.args.out.now) (g.K.Sink.faults c.declare_all.new.out) (g.K.Sink.faults c.outside.new.out) c.outside.result [] (Err (Halt.Outside c.in-Err.fault)) (g.K.Sink.content c.declare_all.new.out) (g.K.Sink.content c.outside.new.out)
    (fault_counts Declaration c.in-Err.fault (g.S.Source.faults c.args.input.now) (g.S.Source.faults c.declare_all.new.input) (g.K.Sink.faults c.args.out.now) (g.K.Sink.faults c.declare_all.new.out) c.in-Err.ensures.counts) (λ e. absurd (cc)) (λ ending e. absurd (cc)) c.outside.ensures

pub returns-in-Ok-Begun-clause-backed : goal.returns-in-Ok-Begun-clause-backed
returns-in-Ok-Begun-clause-backed g c =
    let begun = c.in-Ok-Begun.begun in
    begun_backs (g.H.Shelf.holds c.args.shelf.now) (g.H.Shelf.holds c.serve_shelf.new.shelf) c.args.most (g.K.Sink.content c.args.out.now) (g.S.Source.left c.args.input.now) begun.number begun.topology begun.provider (g.K.Sink.content c.declare_all.new.out)
    (rest_of c.declare_all.new.reader (g.S.Source.left c.declare_all.new.input)) (to_come c.declare_all.new.reader (g.S.Source.left c.declare_all.new.input)) (g.K.Sink.content c.serve_shelf.new.out) (rw c.in-Ok-Begun.field-0-is at c.in-Ok-Begun.ensures.comes_to).2 c.serve_shelf.ensures.backed

pub returns-in-Ok-Ended-clause-backed : goal.returns-in-Ok-Ended-clause-backed
returns-in-Ok-Ended-clause-backed g c =
    ended_backs (g.H.Shelf.holds c.args.shelf.now) c.args.most c.requires (g.K.Sink.content c.args.out.now) (g.S.Source.left c.args.input.now) c.in-Ok-Ended.ending (g.K.Sink.content c.declare_all.new.out)
    (rw c.in-Ok-Ended.field-0-is at c.in-Ok-Ended.ensures.comes_to)

pub returns-clause-backed : goal.returns-clause-backed
returns-clause-backed g c =
    fault_backs (g.H.Shelf.holds c.args.shelf.now) c.args.most (g.K.Sink.content c.args.out.now) (g.S.Source.left c.args.input.now) c.in-Err.fault c.outside.result c.declare_all.new.reader (g.S.Source.left c.declare_all.new.input)
    (g.K.Sink.content c.declare_all.new.out) (g.K.Sink.content c.outside.new.out) (g.K.Sink.faults c.declare_all.new.out) (g.K.Sink.faults c.outside.new.out) (c.in-Err.ensures.halts (Err 0)) c.outside.ensures
