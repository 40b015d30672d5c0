use Rattle.std.proofs.Common.{None, true, false, refl, sym, subst}
use Rattle.line_reader.specs.Held.{rest_of, to_come}
use Rattle.provide_command.specs.Lines.{long_line}
use Rattle.provide_command.specs.Outcome.{topology_fault}
use Rattle.provide_command.specs.UpTo.{HaltsWith}
use Rattle.provide_command.specs.declared.output.Halt.{Halt}
use Rattle.provide_command.specs.declared.status.Ending.{Ending}
use Rattle.stp_topology.specs.declared.fault.TopologyFault.{TopologyFault}
use Rattle.provide_command.proofs.Answered.{nothing_stops}
use Rattle.provide_command.proofs.Begun.{declaring}
use Rattle.provide_command.proofs.TopologyLines.{next_line, next_end, stopped_halts, line_halts, end_halts}
use Rattle.provide_command.proofs.declaring.declare_next.Goals as goal

pub returns-in-Ok-Line-clause-next : goal.returns-in-Ok-Line-clause-next
returns-in-Ok-Line-clause-next g c = λ read most.
    next_line read most c.args.number c.args.topology (g.K.Sink.content c.args.out.now) (rest_of c.args.reader.now (g.S.Source.left c.args.input.now)) _ (rest_of c.next.new.self (g.S.Source.left c.next.new.input)) (to_come c.args.reader.now (g.S.Source.left c.args.input.now)) (to_come c.next.new.self (g.S.Source.left c.next.new.input))
    c.in-Ok-Line.line.items c.declare.result (rw c.deref.ensures.value at (c.declare.ensures.line read most)) (rw c.in-Ok-Line.field-0-is at c.in-Ok-Line.ensures.next) (rw c.in-Ok-Line.field-0-is at c.in-Ok-Line.ensures.cut)

pub returns-in-Ok-Line-clause-halts : goal.returns-in-Ok-Line-clause-halts
returns-in-Ok-Line-clause-halts g c = λ read most.
    let content = g.K.Sink.content c.args.out.now in
    let rest = rest_of c.args.reader.now (g.S.Source.left c.args.input.now) in
    let given = to_come c.args.reader.now (g.S.Source.left c.args.input.now) in
    stopped_halts read most c.args.number c.args.topology content rest _ None given None c.declare.result _ _ c.declare.ensures.faults.not_read
    (line_halts read most c.args.number c.args.topology content rest _ None given _ c.in-Ok-Line.line.items c.declare.result (rw c.in-Ok-Line.field-0-is at c.in-Ok-Line.ensures.next) (rw c.deref.ensures.value at (c.declare.ensures.front read most)))

pub returns-in-Ok-End-clause-next : goal.returns-in-Ok-End-clause-next
returns-in-Ok-End-clause-next g c = λ read most.
    next_end read most c.args.number c.args.topology (g.K.Sink.content c.args.out.now) (rest_of c.args.reader.now (g.S.Source.left c.args.input.now)) _ (rest_of c.next.new.self (g.S.Source.left c.next.new.input)) (to_come c.args.reader.now (g.S.Source.left c.args.input.now)) (to_come c.next.new.self (g.S.Source.left c.next.new.input))
    false Ending.BadTopology (topology_fault c.args.number TopologyFault.Word) c.refuse.result (rw c.in-Ok-End.field-0-is at c.in-Ok-End.ensures.next) refl c.refuse.ensures.ended c.refuse.ensures.all

pub returns-in-Ok-End-clause-halts : goal.returns-in-Ok-End-clause-halts
returns-in-Ok-End-clause-halts g c = λ read most.
    let content = g.K.Sink.content c.args.out.now in
    let rest = rest_of c.args.reader.now (g.S.Source.left c.args.input.now) in
    let given = to_come c.args.reader.now (g.S.Source.left c.args.input.now) in
    stopped_halts read most c.args.number c.args.topology content rest _ None given None c.refuse.result _ _ c.refuse.ensures.faults.not_read
    (end_halts read most c.args.number c.args.topology content rest _ None given None false (topology_fault c.args.number TopologyFault.Word) c.refuse.result (rw c.in-Ok-End.field-0-is at c.in-Ok-End.ensures.next) refl c.refuse.ensures.front)

pub returns-in-Ok-Long-clause-next : goal.returns-in-Ok-Long-clause-next
returns-in-Ok-Long-clause-next g c = λ read most.
    next_end read most c.args.number c.args.topology (g.K.Sink.content c.args.out.now) (rest_of c.args.reader.now (g.S.Source.left c.args.input.now)) _ (rest_of c.next.new.self (g.S.Source.left c.next.new.input)) (to_come c.args.reader.now (g.S.Source.left c.args.input.now)) (to_come c.next.new.self (g.S.Source.left c.next.new.input))
    true Ending.Long long_line c.long.result (rw c.in-Ok-Long.field-0-is at c.in-Ok-Long.ensures.next) refl c.long.ensures.ended c.long.ensures.all

pub returns-in-Ok-Long-clause-halts : goal.returns-in-Ok-Long-clause-halts
returns-in-Ok-Long-clause-halts g c = λ read most.
    let content = g.K.Sink.content c.args.out.now in
    let rest = rest_of c.args.reader.now (g.S.Source.left c.args.input.now) in
    let given = to_come c.args.reader.now (g.S.Source.left c.args.input.now) in
    stopped_halts read most c.args.number c.args.topology content rest _ None given None c.long.result _ _ c.long.ensures.faults.not_read
    (end_halts read most c.args.number c.args.topology content rest _ None given None true long_line c.long.result (rw c.in-Ok-Long.field-0-is at c.in-Ok-Long.ensures.next) refl c.long.ensures.front)

pub returns-in-Err-NoMemory-clause-halts : goal.returns-in-Err-NoMemory-clause-halts
returns-in-Err-NoMemory-clause-halts g c = λ read most.
    subst (λ fault. HaltsWith read (Halt.Outside fault) c.args.number (declaring c.args.topology most) (g.K.Sink.content c.args.out.now) (rest_of c.args.reader.now (g.S.Source.left c.args.input.now)) (to_come c.args.reader.now (g.S.Source.left c.args.input.now)) c.next.new.self (g.S.Source.left c.next.new.input) (g.K.Sink.content c.args.out.now))
    (sym c.give_up-in-Err-NoMemory.ensures) (nothing_stops read c.args.number (declaring c.args.topology most) (g.K.Sink.content c.args.out.now) (to_come c.args.reader.now (g.S.Source.left c.args.input.now)))
