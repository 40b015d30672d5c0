use Rattle.capacity_calendar.specs.Index.{timeline_at}
use Rattle.capacity_calendar.specs.Tables.{table_of}
use Rattle.capacity_calendar.proofs.Owned.{load_if, within_if}
use Rattle.capacity_calendar.proofs.calendar.Calendar.load_at.Goals as goal

pub returns-clause-sum : goal.returns-clause-sum
returns-clause-sum c =
    rw (← c.self.view_is)
    (load_if c.self.inside.capacities c.args.flow c.args.stp c.args.t c.load.result c.self.inside.bookings (timeline_at (table_of c.args.flow c.self.inside.tables) c.args.stp) (c.self.invariant.1 c.args.flow c.args.stp) c.at.ensures.in_range (rw (c.at.ensures.value, c.of-2.ensures) at c.load.ensures))

pub returns-clause-within : goal.returns-clause-within
returns-clause-within c =
    rw (← c.self.view_is)
    (within_if c.self.inside.capacities c.args.flow c.args.stp c.args.t c.load.result c.self.inside.bookings (timeline_at (table_of c.args.flow c.self.inside.tables) c.args.stp) c.self.invariant.0 (c.self.invariant.1 c.args.flow c.args.stp) c.at.ensures.in_range (rw (c.at.ensures.value, c.of-2.ensures) at c.load.ensures))
