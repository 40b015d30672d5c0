use Rattle.std.proofs.Common.{[], true, false, refl}
use Rattle.line_reader.specs.Held.{rest_of, to_come}
use Rattle.provide_command.specs.Phases.{in_service}
use Rattle.provide_command.specs.declared.status.Ending.{Ending}
use Rattle.provide_command.proofs.Promised.{end_step}
use Rattle.provide_command.proofs.Stepping.{line_ends, line_on, line_halts, writes_none, long_ends, long_halts}
use Rattle.provide_command.proofs.Kept.{rests_kept, long_kept, untold_now}
use Rattle.provide_command.proofs.serving.serve_next.Goals as goal

pub returns-in-Ok-Line-clause-step : goal.returns-in-Ok-Line-clause-step
returns-in-Ok-Line-clause-step g c = λ read.
    line_ends read c.args.number c.args.desk.now.service c.in-Ok-Line.line.items (g.K.Sink.content c.args.out.now) (g.K.Sink.content c.serve_line.new.out) (rest_of c.args.reader.now (g.S.Source.left c.args.input.now)) (rest_of c.next.new.self (g.S.Source.left c.next.new.input))
    (to_come c.args.reader.now (g.S.Source.left c.args.input.now)) (to_come c.next.new.self (g.S.Source.left c.next.new.input)) (rw c.in-Ok-Line.field-0-is at c.in-Ok-Line.ensures.next) c.serve_line.result c.serve_line.new.desk.service
    (rw c.deref.ensures.value at c.serve_line.ensures.step) (rw c.deref.ensures.value at c.serve_line.ensures.all)

pub returns-in-Ok-Line-clause-takes_on : goal.returns-in-Ok-Line-clause-takes_on
returns-in-Ok-Line-clause-takes_on g c = λ read.
    line_on read c.args.number c.args.desk.now.service c.in-Ok-Line.line.items (g.K.Sink.content c.args.out.now) (g.K.Sink.content c.serve_line.new.out) (rest_of c.args.reader.now (g.S.Source.left c.args.input.now)) (rest_of c.next.new.self (g.S.Source.left c.next.new.input))
    (to_come c.args.reader.now (g.S.Source.left c.args.input.now)) (to_come c.next.new.self (g.S.Source.left c.next.new.input)) (rw c.in-Ok-Line.field-0-is at c.in-Ok-Line.ensures.next) c.serve_line.result c.serve_line.new.desk.service
    (rw c.in-Ok-Line.field-0-is at c.in-Ok-Line.ensures.cut) (rw c.deref.ensures.value at c.serve_line.ensures.step) (rw c.deref.ensures.value at c.serve_line.ensures.all)

pub returns-in-Ok-Line-clause-halts : goal.returns-in-Ok-Line-clause-halts
returns-in-Ok-Line-clause-halts g c = λ read.
    line_halts read c.args.number c.args.desk.now.service c.in-Ok-Line.line.items (g.K.Sink.content c.args.out.now) (g.K.Sink.content c.serve_line.new.out) (rest_of c.args.reader.now (g.S.Source.left c.args.input.now)) (rest_of c.next.new.self (g.S.Source.left c.next.new.input))
    (to_come c.args.reader.now (g.S.Source.left c.args.input.now)) (to_come c.next.new.self (g.S.Source.left c.next.new.input)) (rw c.in-Ok-Line.field-0-is at c.in-Ok-Line.ensures.next) c.serve_line.result c.next.new.self (g.S.Source.left c.next.new.input)
    (rw c.deref.ensures.value at c.serve_line.ensures.front) c.serve_line.ensures.faults.not_read c.serve_line.ensures.unwritten

pub returns-in-Ok-End-clause-step : goal.returns-in-Ok-End-clause-step
returns-in-Ok-End-clause-step g c = λ read.
    end_step read c.args.number (in_service c.args.desk.now.service) false (Ending.Done, []) (g.K.Sink.content c.args.out.now) (g.K.Sink.content c.args.out.now) (to_come c.args.reader.now (g.S.Source.left c.args.input.now))
    (rw c.in-Ok-End.field-0-is at c.in-Ok-End.ensures.next) refl (writes_none (g.K.Sink.content c.args.out.now))

pub returns-in-Ok-Long-clause-step : goal.returns-in-Ok-Long-clause-step
returns-in-Ok-Long-clause-step g c = λ read.
    long_ends read c.args.number c.args.desk.now.service (g.K.Sink.content c.args.out.now) (g.K.Sink.content c.long.new.out) (rest_of c.args.reader.now (g.S.Source.left c.args.input.now)) (to_come c.args.reader.now (g.S.Source.left c.args.input.now))
    (rw c.in-Ok-Long.field-0-is at c.in-Ok-Long.ensures.next) c.long.result c.args.desk.now.service (to_come c.next.new.self (g.S.Source.left c.next.new.input)) c.long.ensures.ended c.long.ensures.all

pub returns-in-Ok-Long-clause-halts : goal.returns-in-Ok-Long-clause-halts
returns-in-Ok-Long-clause-halts g c = λ read.
    long_halts read c.args.number c.args.desk.now.service (g.K.Sink.content c.args.out.now) (g.K.Sink.content c.long.new.out) (rest_of c.args.reader.now (g.S.Source.left c.args.input.now)) (to_come c.args.reader.now (g.S.Source.left c.args.input.now))
    (rw c.in-Ok-Long.field-0-is at c.in-Ok-Long.ensures.next) c.long.result c.next.new.self (g.S.Source.left c.next.new.input) c.long.ensures.front c.long.ensures.faults.not_read c.long.ensures.not_disk

pub returns-in-Err-Failed-clause-kept : goal.returns-in-Err-Failed-clause-kept
returns-in-Err-Failed-clause-kept g c = λ setting stp_of stated first k.
    let kept = g.J.Journal.kept c.args.desk.now.journal in
    let history = g.J.Journal.history c.args.desk.now.journal in
    rests_kept setting stp_of g.J.Journal.reading stated c.args.desk.now.service kept first (g.K.Sink.content c.args.out.now) k history (untold_now kept history history (g.met.J.Journal.tells c.args.desk.now.journal) refl) true
    (g.K.Sink.content c.args.out.now) refl (g.met.J.Journal.leaves_synced c.args.desk.now.journal c.requires.ready)

pub returns-in-Err-NoMemory-clause-kept : goal.returns-in-Err-NoMemory-clause-kept
returns-in-Err-NoMemory-clause-kept g c = λ setting stp_of stated first k.
    let kept = g.J.Journal.kept c.args.desk.now.journal in
    let history = g.J.Journal.history c.args.desk.now.journal in
    rests_kept setting stp_of g.J.Journal.reading stated c.args.desk.now.service kept first (g.K.Sink.content c.args.out.now) k history (untold_now kept history history (g.met.J.Journal.tells c.args.desk.now.journal) refl) false
    (g.K.Sink.content c.args.out.now) refl (g.met.J.Journal.leaves_synced c.args.desk.now.journal c.requires.ready)

pub returns-in-Ok-End-clause-kept : goal.returns-in-Ok-End-clause-kept
returns-in-Ok-End-clause-kept g c = λ setting stp_of stated first k.
    let kept = g.J.Journal.kept c.args.desk.now.journal in
    let history = g.J.Journal.history c.args.desk.now.journal in
    rests_kept setting stp_of g.J.Journal.reading stated c.args.desk.now.service kept first (g.K.Sink.content c.args.out.now) k history (untold_now kept history history (g.met.J.Journal.tells c.args.desk.now.journal) refl) false
    (g.K.Sink.content c.args.out.now) refl (g.met.J.Journal.leaves_synced c.args.desk.now.journal c.requires.ready)

pub returns-in-Ok-Long-clause-kept : goal.returns-in-Ok-Long-clause-kept
returns-in-Ok-Long-clause-kept g c = λ setting stp_of stated first k.
    let kept = g.J.Journal.kept c.args.desk.now.journal in
    let history = g.J.Journal.history c.args.desk.now.journal in
    long_kept setting stp_of g.J.Journal.reading stated c.args.desk.now.service kept first (g.K.Sink.content c.args.out.now) k history (untold_now kept history history (g.met.J.Journal.tells c.args.desk.now.journal) refl) c.long.result
    c.args.desk.now.service kept (g.K.Sink.content c.long.new.out) c.long.ensures.ended c.long.ensures.all c.long.ensures.front c.long.ensures.cut (g.met.J.Journal.leaves_synced c.args.desk.now.journal c.requires.ready)
