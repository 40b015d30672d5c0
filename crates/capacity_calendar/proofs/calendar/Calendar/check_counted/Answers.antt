use Rattle.std.proofs.Common.{sym, ◌∙◌}
use Rattle.capacity_calendar.proofs.Function.{none_answer, some_answer}
use Rattle.capacity_calendar.proofs.calendar.Calendar.check_counted.Goals as goal

pub returns-in_err-found-clause-function : goal.returns-in_err-found-clause-function
returns-in_err-found-clause-function g c =
    rw (← c.self.view_is)
    (c.from_residual-in_err-found.ensures
    ∙ sym (none_answer _ _ c.args.number c.args.stp c.args.flow _ c.args.mbps c.in_ok-capacity.capacity (cc (c.in_ok-capacity.ensures)) c.in_err-found.ensures.ordered c.in_err-found.ensures.first))

pub returns-clause-function : goal.returns-clause-function
returns-clause-function g c =
    rw (← c.self.view_is, c.in_ok-found.ensures.load)
    (sym (some_answer _ _ c.args.number c.args.stp c.args.flow _ c.args.mbps c.in_ok-capacity.capacity c.in_ok-found.found.second (cc (c.in_ok-capacity.ensures)) c.in_ok-found.ensures.ordered c.in_ok-found.ensures.first))
