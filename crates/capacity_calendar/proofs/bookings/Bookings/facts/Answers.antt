use Rattle.std.proofs.Common.{arith}
use Rattle.capacity_calendar.proofs.Kept.{one_each_present, present_fewer}
use Rattle.capacity_calendar.proofs.bookings.Bookings.facts.Goals as goal

pub returns-clause-one_each : goal.returns-clause-one_each
returns-clause-one_each c = rw (← c.self.view_is) (one_each_present 0 c.self.inside.by_number.items c.self.invariant.0)

pub returns-clause-few : goal.returns-clause-few
returns-clause-few c = rw (← c.self.view_is) (omega (arith, present_fewer c.self.inside.by_number.items, c.self.invariant.1))
