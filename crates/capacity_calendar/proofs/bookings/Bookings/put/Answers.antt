use Rattle.std.proofs.Common.{List, Option, ◌≤◌, length, refl, sym, ap, ◌∙◌, subst}
use Rattle.capacity_calendar.specs.declared.booking.Booking.{Booking}
use Rattle.capacity_calendar.specs.Kept.{present, IsNumbered}
use Rattle.capacity_calendar.specs.Plan.{placed}
use Rattle.capacity_calendar.proofs.Kept.{placed_at, numbered_at, one_each_present, set_few}
use Rattle.capacity_calendar.proofs.bookings.Bookings.put.Goals as goal

pub returns-in_err-make_room-clause-one_each : goal.returns-in_err-make_room-clause-one_each
returns-in_err-make_room-clause-one_each c = one_each_present 0 c.make_room.new.by_number.items (c.make_room.ensures.numbered c.self.invariant.0)

pub invariant_of-self-2 : goal.invariant_of-self-2
invariant_of-self-2 c = (
  subst (λ (xs : List (Option Booking)). IsNumbered 0 xs) (sym c.set.ensures) (numbered_at c.args.booking.now.number c.make_room.new.by_number.items c.args.booking.now refl (c.make_room.ensures.numbered c.self.invariant.0)),
  subst (λ (xs : List (Option Booking)). length xs ≤ 4194304) (sym c.set.ensures) (set_few c.make_room.new.by_number.items c.args.booking.now.number 4194304 _ (c.make_room.ensures.few c.self.invariant.1)),
)

pub returns-clause-ok : goal.returns-clause-ok
returns-clause-ok c =
    rw (← c.self.view_is)
    (ap present c.set.ensures ∙ placed_at c.args.booking.now.number c.make_room.new.by_number.items c.args.booking.now refl c.in_ok-make_room.ensures.room (c.make_room.ensures.numbered c.self.invariant.0)
    ∙ ap (placed c.args.booking.now) c.make_room.ensures.same)

pub returns-clause-one_each : goal.returns-clause-one_each
returns-clause-one_each c =
    one_each_present 0 c.set.new.by_number.items
    (subst (λ (xs : List (Option Booking)). IsNumbered 0 xs) (sym c.set.ensures) (numbered_at c.args.booking.now.number c.make_room.new.by_number.items c.args.booking.now refl (c.make_room.ensures.numbered c.self.invariant.0)))
