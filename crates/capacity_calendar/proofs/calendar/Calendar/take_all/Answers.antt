use Rattle.std.proofs.Common.{List, sym, subst}
use Rattle.capacity_calendar.specs.declared.booking.Booking.{Booking}
use Rattle.capacity_calendar.specs.Plan.{IsSound}
use Rattle.capacity_calendar.proofs.Owned.{take_before, take_within, take_next, nothing_within, take_after}
use Rattle.capacity_calendar.proofs.Sound.{sound_others}
use Rattle.capacity_calendar.proofs.calendar.Calendar.take_all.Goals as goal

pub release-requires-clause-within : goal.release-requires-clause-within
release-requires-clause-within c = λ flow. rw (c.take_all.ensures, c.own-former.ensures) (take_within _ flow c.args.number c.self.inside.bookings c.self.invariant.0)

pub release-requires-clause-index : goal.release-requires-clause-index
release-requires-clause-index c = λ flow. rw (c.take_all.ensures, c.own-former.ensures) (take_before _ flow c.args.number c.self.inside.bookings _ c.self.invariant.0.one_each (c.self.invariant.1 flow))

pub release-requires-2-clause-within : goal.release-requires-2-clause-within
release-requires-2-clause-within c = λ flow. rw c.take_all.ensures (nothing_within _ flow c.args.number c.self.inside.bookings (sound_others _ c.args.number _ c.self.invariant.0))

pub release-requires-2-clause-index : goal.release-requires-2-clause-index
release-requires-2-clause-index c = λ flow. take_next _ flow c.args.number c.own-former.result.pending _ _ (c.release.ensures flow)

pub invariant_of-self : goal.invariant_of-self
invariant_of-self c =
    let P : List Booking → Type 0 = λ bs. IsSound (record { capacities = c.self.inside.capacities; bookings = bs }) in (
      subst P (sym c.take_all.ensures) (sound_others _ c.args.number _ c.self.invariant.0),
      λ flow. rw c.take_all.ensures (take_after _ flow c.args.number c.self.inside.bookings _ c.self.invariant.0.one_each (rw c.take_all.ensures at (c.release-2.ensures flow))),
    )

pub returns-clause-sound : goal.returns-clause-sound
returns-clause-sound c =
    let P : List Booking → Type 0 = λ bs. IsSound (record { capacities = c.self.inside.capacities; bookings = bs }) in
    subst P (sym c.take_all.ensures) (sound_others _ c.args.number _ c.self.invariant.0)
