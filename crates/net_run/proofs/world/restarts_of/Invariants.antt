use Rattle.std.proofs.Common.{◌≡◌, take}
use Rattle.net_run.specs.Begun.{restarts_from}
use Rattle.net_run.proofs.world.restarts_of.Given as goal

abbrev pub invariant-loop-place : goal.invariant-loop-place
invariant-loop-place l = l.events.items ≡ restarts_from 0 (take l.place l.tries)
