use Rattle.std.proofs.Common.{◌∙◌, ap}
use Rattle.connection_record.specs.Demand.{load}
use Rattle.capacity_calendar.specs.Places.{capacity_at}
use Rattle.provider_agent.specs.State.{Standing}
use Rattle.provider_agent.proofs.Loads.{same_load, sums_by}
use Rattle.provider_agent.proofs.provider.Provider.load_at.Goals as goal

pub returns-clause-sum : goal.returns-clause-sum
returns-clause-sum c =
    let d = c.self.inside.core in
    sums_by (capacity_at d.calendar.capacities c.args.stp c.args.flow) (capacity_at c.args.self.now.setting.capacities c.args.stp c.args.flow) c.load_at.result _ _
    (ap (λ (x : Standing). capacity_at x.setting.capacities c.args.stp c.args.flow) c.self.view_is)
    (same_load c.args.flow c.args.stp c.args.t d.records.items d.calendar.bookings c.self.invariant.consistent.kept c.facts.ensures.one_each
    ∙ ap (λ (x : Standing). load c.args.flow c.args.stp c.args.t x.state.records) c.self.view_is)
    c.load_at.ensures.sum
