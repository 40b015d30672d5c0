use Rattle.std.proofs.Common.{◌≡◌, ◌≤◌, ◌+◌, ℕ, false, List, Option, is_some}
use Rattle.line_reader.specs.Held.{budget, rest_of, to_come}
use Rattle.nsi_primitive.specs.declared.entry.Entry.{Entry}
use Rattle.provider_agent.specs.Setting.{Setting}
use Rattle.provide_command.specs.Keeping.{KeepsAt}
use Rattle.provide_command.specs.Phases.{Reading, in_service}
use Rattle.provide_command.specs.Promise.{promised, IsSameEnd}
use Rattle.provide_command.specs.UpTo.{IsUpToIf}
use Rattle.provide_command.specs.declared.status.Status.{Status}
use Rattle.provide_command.proofs.serving.serve_all.Given as goal

abbrev pub decreases-lines : goal.decreases-lines
decreases-lines g l = budget l.reader

-- how it will end doesn't change, and the lines so far are answered
abbrev pub invariant-lines : goal.invariant-lines
invariant-lines g l = record {
  same : (read : Reading) (promise : Option (Status × List ℕ))
      → IsSameEnd promise (promised read l.fn.number (in_service l.fn.desk.service) (g.K.Sink.content l.fn.out) (to_come l.fn.reader (g.S.Source.left l.fn.input)))
      → IsSameEnd promise (promised read l.number (in_service l.desk.service) (g.K.Sink.content l.out) (to_come l.reader (g.S.Source.left l.input)));
  up_to : (read : Reading) (most : ℕ) (first start : Option (List ℕ))
      → IsUpToIf read most first start l.fn.number (in_service l.fn.desk.service) (g.K.Sink.content l.fn.out) (rest_of l.fn.reader (g.S.Source.left l.fn.input)) (to_come l.fn.reader (g.S.Source.left l.fn.input))
      → IsUpToIf read most first start l.number (in_service l.desk.service) (g.K.Sink.content l.out) (rest_of l.reader (g.S.Source.left l.input)) (to_come l.reader (g.S.Source.left l.input));
  few : l.number + budget l.reader ≤ 67108866;
  reads : g.S.Source.faults l.input ≡ g.S.Source.faults l.fn.input;
  writes : g.K.Sink.faults l.out ≡ g.K.Sink.faults l.fn.out;
  ready : g.J.Journal.is_ready l.desk.journal;
  none : g.J.Journal.waits l.desk.journal ≡ false;
  faults : (g.J.Journal.meter l.desk.journal).faults ≡ (g.J.Journal.meter l.fn.desk.journal).faults;
  stops : (g.J.Journal.meter l.desk.journal).stops ≡ (g.J.Journal.meter l.fn.desk.journal).stops;
  kept : (setting : Setting) (stp_of : List ℕ → Option ℕ) (stated : List Entry) (first : Option (List ℕ)) → KeepsAt setting stp_of stated l.fn.desk.service (g.J.Journal.kept l.fn.desk.journal) first (g.K.Sink.content l.fn.out)
      → KeepsAt setting stp_of stated l.desk.service (g.J.Journal.kept l.desk.journal) first (g.K.Sink.content l.out);
  tells : is_some (g.J.Journal.history l.desk.journal) ≡ is_some (g.J.Journal.history l.fn.desk.journal);
}
