use Rattle.std.proofs.Common.{◌≡◌, ◌<◌, ℕ, length}
use Rattle.trace_reader.specs.Pasts.{seconds_of}
use Rattle.trace_verify.specs.Standing.{Throughout}
use Rattle.trace_verify.specs.Traces.{seconds_in}
use Rattle.trace_verify.proofs.follower.Follower.seconds.Given as goal

abbrev pub invariant-loop-place : goal.invariant-loop-place
invariant-loop-place l = record {
  many : length l.seconds.items ≡ l.place;
  value : Throughout l.topology l.self (λ homes w. (a : ℕ) → a < l.place → seconds_of l.seconds.items a ≡ seconds_in homes w a);
}
