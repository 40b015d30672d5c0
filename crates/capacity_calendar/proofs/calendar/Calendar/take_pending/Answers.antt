use Rattle.std.proofs.Common.{List, sym, subst}
use Rattle.capacity_calendar.specs.declared.booking.Booking.{Booking}
use Rattle.capacity_calendar.specs.Plan.{IsSound}
use Rattle.capacity_calendar.proofs.Owned.{unset_before, unset_within, unset_after}
use Rattle.capacity_calendar.proofs.Sound.{sound_unset}
use Rattle.capacity_calendar.proofs.calendar.Calendar.take_pending.Goals as goal

pub release-requires-clause-within : goal.release-requires-clause-within
release-requires-clause-within c = λ flow. rw (c.take_pending.ensures, c.own-former.ensures) (unset_within _ flow c.args.number c.self.inside.bookings (sound_unset _ c.args.number _ c.self.invariant.0))

pub release-requires-clause-index : goal.release-requires-clause-index
release-requires-clause-index c = λ flow. rw (c.take_pending.ensures, c.own-former.ensures) (unset_before _ flow c.args.number c.self.inside.bookings _ c.self.invariant.0.one_each (c.self.invariant.1 flow))

pub invariant_of-self : goal.invariant_of-self
invariant_of-self c =
    let P : List Booking → Type 0 = λ bs. IsSound (record { capacities = c.self.inside.capacities; bookings = bs }) in
    let sound = sound_unset c.self.inside.capacities c.args.number c.self.inside.bookings c.self.invariant.0 in (
      subst P (sym c.take_pending.ensures) sound,
      λ flow. rw c.take_pending.ensures (unset_after _ flow c.args.number c.self.inside.bookings _ sound.one_each (rw (c.take_pending.ensures, c.own-former.ensures) at (c.release.ensures flow))),
    )

pub returns-clause-sound : goal.returns-clause-sound
returns-clause-sound c =
    let P : List Booking → Type 0 = λ bs. IsSound (record { capacities = c.self.inside.capacities; bookings = bs }) in
    subst P (sym c.take_pending.ensures) (sound_unset _ c.args.number _ c.self.invariant.0)
