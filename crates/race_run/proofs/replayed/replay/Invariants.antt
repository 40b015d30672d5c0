use Rattle.std.proofs.Common.{◌≡◌, drop}
use Rattle.provider_agent.specs.Setting.{setting_of}
use Rattle.race_run.specs.Replay.{IsAt}
use Rattle.race_run.proofs.replayed.replay.Given as goal

abbrev pub invariant-loop-place : goal.invariant-loop-place
invariant-loop-place l = IsAt l.fn.topology l.fn.agent l.fn.second l.fn.history l.provider.state l.place (drop l.place l.fn.history) l.lists × (l.provider.setting ≡ setting_of l.fn.topology l.fn.agent)
