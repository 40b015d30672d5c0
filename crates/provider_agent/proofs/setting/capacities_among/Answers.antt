use Rattle.std.proofs.Common.{◌∙◌, sym}
use Rattle.provider_agent.specs.Setting.{capacities_among}
use Rattle.provider_agent.proofs.Capacities.{among_more, within_is}
use Rattle.provider_agent.proofs.setting.capacities_among.Goals as goal

pub points-init : goal.points-init
unfolding capacities_among
points-init c = c.new-capacities.ensures

pub points-preserved : goal.points-preserved
points-preserved c =
    among_more c.args.topology.now c.args.provider c.points.n c.in-Some.stp c.points.capacities c.push_own.new.capacities
    (within_is 0 4095 c.points.n c.in-Some.stp (sym c.new.ensures ∙ c.in-Some.is)) c.points.invariant c.in_ok-push_own.ensures
