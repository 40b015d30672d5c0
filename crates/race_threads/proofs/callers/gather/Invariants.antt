use Rattle.std.proofs.Common.{◌≡◌, ◌++◌, map, Ok}
use Rattle.race_threads.proofs.callers.gather.Given as goal

abbrev pub invariant-loop-own : goal.invariant-loop-own
invariant-loop-own l = map Ok l.owns.items ++ l.own-iterator.rest.items ≡ l.fn.results.items
