use Rattle.std.proofs.Common.{◌≡◌, ◌++◌, take}
use Rattle.aggregator_agent.specs.Indexed.{numbers_of}
use Rattle.aggregator_agent.proofs.connection_index.note_late.Given as goal

abbrev pub invariant-loop-due : goal.invariant-loop-due
invariant-loop-due l = l.places.items ≡ l.initial.places.items ++ numbers_of (take l.due-index l.late)
