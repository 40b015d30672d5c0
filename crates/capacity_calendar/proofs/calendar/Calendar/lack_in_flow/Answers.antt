use Rattle.std.proofs.Common.{sym, ◌∙◌}
use Rattle.capacity_calendar.proofs.Function.{not_booked, no_such_flow}
use Rattle.capacity_calendar.proofs.calendar.Calendar.lack_in_flow.Goals as goal

pub returns-then-not-books : goal.returns-then-not-books
returns-then-not-books c = sym (not_booked _ c.args.stp c.args.flow _ _ _ _ (cc))

pub returns-in_err-of : goal.returns-in_err-of
returns-in_err-of c = rw (← c.self.view_is) (c.from_residual.ensures ∙ sym (no_such_flow _ c.args.stp c.args.flow _ _ _ _ (cc (c.in_err-of.ensures))))
