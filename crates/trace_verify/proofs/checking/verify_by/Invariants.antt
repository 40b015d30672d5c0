use Rattle.std.proofs.Common.{◌≡◌, ◌≤◌, ◌+◌, length}
use Rattle.trace_verify.specs.Lines.{trace_lines}
use Rattle.trace_verify.specs.Standing.{IsFollower}
use Rattle.trace_verify.specs.Steps.{AreSoFar}
use Rattle.trace_verify.proofs.checking.verify_by.Given as goal

abbrev pub invariant-lines : goal.invariant-lines
invariant-lines l = record {
  place : l.line ≡ l.first_line + l.events;
  within : l.events ≤ l.limit;
  size : l.line + length l.rest ≤ l.first_line + length l.text;
  follower : IsFollower l.topology l.follower;
  few : l.asks ≤ 100000;
  far : AreSoFar l.topology (trace_lines l.text) (trace_lines l.rest) l.follower l.asks l.events;
}

abbrev pub decreases-lines : goal.decreases-lines
decreases-lines l = length l.rest
