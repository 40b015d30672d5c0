use Rattle.std.proofs.Common.{◌≡◌, ◌++◌, map, take}
use Rattle.race_run.specs.Found.{heard_item}
use Rattle.race_run.proofs.replayed.push_heard.Given as goal

abbrev pub invariant-loop-message : goal.invariant-loop-message
invariant-loop-message l = l.items ≡ l.fn.items ++ map (heard_item l.fn.agent l.fn.second l.fn.place) (take l.message-index l.out)
