use Rattle.std.proofs.Common.{◌≡◌, map, take}
use Rattle.json_primitives.specs.Spelling.{spelling}
use Rattle.shared_provider.specs.Calls.{bytes_of}
use Rattle.shared_provider.proofs.call.print_all.Given as goal

abbrev pub invariant-loop-message : goal.invariant-loop-message
invariant-loop-message l = map bytes_of l.lines.items ≡ map spelling (take l.message-index l.messages)
