use Rattle.std.proofs.Common.{◌≡◌, take}
use Rattle.nsi_play.specs.Openings.{plans_of}
use Rattle.net_run.proofs.joints.plan_between.Given as goal

abbrev pub invariant-loop-line : goal.invariant-loop-line
invariant-loop-line l = l.plan ≡ plans_of (take l.line-index l.lines) l.from l.to
