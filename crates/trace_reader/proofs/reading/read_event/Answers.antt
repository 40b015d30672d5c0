use Rattle.std.proofs.Common.{sym, ◌∙◌}
use Rattle.std.proofs.lemmas.Result.{err_from_is_err_and}
use Rattle.trace_reader.specs.Pasts.{seconds_of}
use Rattle.trace_reader.specs.Reading.{event_in}
use Rattle.trace_reader.proofs.Exact.{none_read, nothing_printed, one_printed, other_printed}
use Rattle.trace_reader.proofs.reading.read_event.Goals as goal

pub returns-in_err-event-clause-refused : goal.returns-in_err-event-clause-refused
returns-in_err-event-clause-refused c = λ n e r h.
    let p = err_from_is_err_and c.from_residual.result c.from_residual.ensures.1 in
    let read = event_in c.args.topology.now (seconds_of c.args.now.now) c.args.asks c.args.line.now in
    nothing_printed c.texts_are_read_again.ensures c.args.topology.now (seconds_of c.args.now.now) c.args.asks c.args.line.now c.names_are_told.ensures
    (none_read c.from_residual.result p.0 c.in_err-event.field-0.0 read p.1 p.2 c.in_err-event.ensures.gives n) e r h

pub returns-then-is_line-clause-only : goal.returns-then-is_line-clause-only
returns-then-is_line-clause-only c =
    one_printed c.texts_are_read_again.ensures c.args.topology.now (seconds_of c.args.now.now) c.args.asks c.args.line.now c.in_ok-event.event c.names_are_told.ensures c.in_ok-event.ensures.gives

pub returns-else-is_line-clause-refused : goal.returns-else-is_line-clause-refused
returns-else-is_line-clause-refused c = λ n.
    other_printed c.texts_are_read_again.ensures c.args.topology.now (seconds_of c.args.now.now) c.args.asks c.args.line.now c.in_ok-event.event c.names_are_told.ensures c.in_ok-event.ensures.gives
    c.deref.result.now (c.deref.ensures.value ∙ c.in_ok-print.ensures.spelled) (sym c.is_line.ensures ∙ c.if-is_line.false)
