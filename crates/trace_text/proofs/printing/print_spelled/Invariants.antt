use Rattle.std.proofs.Common.{◌≡◌, ◌++◌, drop}
use Rattle.trace_text.specs.Lines.{text_of}
use Rattle.trace_text.proofs.printing.print_spelled.Given as goal

abbrev pub invariant-loop-event : goal.invariant-loop-event
invariant-loop-event l = l.text.items ++ text_of l.topology (drop l.event-index l.events) ≡ text_of l.topology l.events
