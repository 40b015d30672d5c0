use Rattle.std.proofs.Common.{◌≡◌, map, take}
use Rattle.aggregator_agent.specs.Below.{rows_of}
use Rattle.aggregator_agent.proofs.parts.all_rows.Given as goal

abbrev pub invariant-loop-part : goal.invariant-loop-part
invariant-loop-part l = l.all.items ≡ map rows_of (take l.part-index l.parts)
