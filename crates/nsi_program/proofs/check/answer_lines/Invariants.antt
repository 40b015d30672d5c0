use Rattle.std.proofs.Common.{◌≡◌, length}
use Rattle.nsi_base.specs.Lines.{lines_of}
use Rattle.nsi_program.specs.Check.{AnswersUpTo}
use Rattle.provide_command.specs.Writes.{WritesSome}
use Rattle.nsi_program.proofs.check.answer_lines.Given as goal

abbrev pub decreases-lines : goal.decreases-lines
decreases-lines g l = length l.rest

-- the answers so far are those to the lines before the rest
abbrev pub invariant-lines : goal.invariant-lines
invariant-lines g l = record {
  answered : WritesSome (AnswersUpTo l.topology (lines_of l.lines) (lines_of l.rest)) (g.K.Sink.content l.fn.out) (g.K.Sink.content l.out);
  quiet : g.K.Sink.faults l.out ≡ g.K.Sink.faults l.fn.out;
}
