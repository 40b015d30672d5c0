use Rattle.provider_agent.proofs.PointsAfter.{points_after, points_blank}
use Rattle.provider_agent.proofs.laws.own_points.Goals as goal

pub returns-clause-first : goal.returns-clause-first
returns-clause-first c = points_blank

pub returns-clause-after : goal.returns-clause-after
returns-clause-after c = points_after
