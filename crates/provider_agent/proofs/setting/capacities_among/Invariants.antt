use Rattle.std.proofs.Common.{◌≡◌}
use Rattle.provider_agent.specs.Setting.{capacities_among}
use Rattle.provider_agent.proofs.setting.capacities_among.Given as goal

abbrev pub invariant-points : goal.invariant-points
invariant-points l = l.capacities ≡ capacities_among l.topology l.provider l.n
