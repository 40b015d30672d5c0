use Rattle.std.proofs.Common.{◌≡◌, ◌≤◌, ◌+◌}
use Rattle.line_reader.specs.Held.{budget, rest_of, to_come}
use Rattle.provide_command.specs.Phases.{Reading, in_topology}
use Rattle.provide_command.specs.Promise.{promise_of, promised, IsSameEnd}
use Rattle.provide_command.specs.UpTo.{IsUpToIf}
use Rattle.provide_command.proofs.declaring.declare_all.Given as goal

abbrev pub decreases-lines : goal.decreases-lines
decreases-lines g l = budget l.reader

-- how it will end doesn't change, and the lines so far are answered
abbrev pub invariant-lines : goal.invariant-lines
invariant-lines g l = record {
  same : (read : Reading) → IsSameEnd (promise_of read l.fn.most (g.K.Sink.content l.fn.out) (g.S.Source.left l.fn.input))
      (promised read l.number (in_topology (record { topology = l.topology; most = l.fn.most })) (g.K.Sink.content l.out) (to_come l.reader (g.S.Source.left l.input)));
  up_to : (read : Reading) → IsUpToIf read l.fn.most (g.K.Sink.content l.fn.out) (g.S.Source.left l.fn.input) l.number (in_topology (record { topology = l.topology; most = l.fn.most }))
      (g.K.Sink.content l.out) (rest_of l.reader (g.S.Source.left l.input)) (to_come l.reader (g.S.Source.left l.input));
  few : l.number + budget l.reader ≤ 67108865;
  reads : g.S.Source.faults l.input ≡ g.S.Source.faults l.fn.input;
  writes : g.K.Sink.faults l.out ≡ g.K.Sink.faults l.fn.out;
}
