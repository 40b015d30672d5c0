use Rattle.std.proofs.Common.{sym}
use Rattle.capacity_calendar.proofs.Kept.{found_at, one_each_present}
use Rattle.capacity_calendar.proofs.bookings.Bookings.of.Goals as goal

pub returns-clause-value : goal.returns-clause-value
returns-clause-value c = rw (← c.self.view_is, c.at.ensures, c.deref.ensures.value) (sym (found_at c.args.number _ c.self.invariant.0))

pub returns-clause-one_each : goal.returns-clause-one_each
returns-clause-one_each c = rw (← c.self.view_is) (one_each_present 0 c.self.inside.by_number.items c.self.invariant.0)
