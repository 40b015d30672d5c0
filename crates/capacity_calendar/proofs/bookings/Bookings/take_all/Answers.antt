use Rattle.std.proofs.Common.{List, Option, ◌≤◌, length, sym, ap, ◌∙◌, subst}
use Rattle.capacity_calendar.specs.declared.booking.Booking.{Booking}
use Rattle.capacity_calendar.specs.Kept.{present, IsNumbered}
use Rattle.capacity_calendar.proofs.Kept.{emptied_at, numbered_unset, set_few}
use Rattle.capacity_calendar.proofs.bookings.Bookings.take_all.Goals as goal

pub invariant_of-self : goal.invariant_of-self
invariant_of-self c = (
  subst (λ (xs : List (Option Booking)). IsNumbered 0 xs) (sym c.set.ensures) (numbered_unset 0 c.args.number c.self.inside.by_number.items c.self.invariant.0),
  subst (λ (xs : List (Option Booking)). length xs ≤ 4194304) (sym c.set.ensures) (set_few c.self.inside.by_number.items c.args.number 4194304 _ c.self.invariant.1),
)

pub returns : goal.returns
returns c = rw (← c.self.view_is) (ap present c.set.ensures ∙ emptied_at c.args.number c.self.inside.by_number.items c.self.invariant.0)
