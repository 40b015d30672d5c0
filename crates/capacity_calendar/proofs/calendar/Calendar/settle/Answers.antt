use Rattle.std.proofs.Common.{List, sym, subst}
use Rattle.capacity_calendar.specs.declared.booking.Booking.{Booking}
use Rattle.capacity_calendar.specs.Plan.{IsSound}
use Rattle.capacity_calendar.proofs.Owned.{settle_before, settle_within, settle_after}
use Rattle.capacity_calendar.proofs.Sound.{sound_settled}
use Rattle.capacity_calendar.proofs.calendar.Calendar.settle.Goals as goal

pub release-requires-clause-within : goal.release-requires-clause-within
release-requires-clause-within c = λ flow. rw (c.settle.ensures, c.own-former.ensures) (settle_within _ flow c.args.number c.self.inside.bookings (sound_settled _ c.args.number _ c.self.invariant.0))

pub release-requires-clause-index : goal.release-requires-clause-index
release-requires-clause-index c = λ flow. rw (c.settle.ensures, c.own-former.ensures) (settle_before _ flow c.args.number c.self.inside.bookings _ c.self.invariant.0.one_each (c.self.invariant.1 flow))

pub invariant_of-self : goal.invariant_of-self
invariant_of-self c =
    let P : List Booking → Type 0 = λ bs. IsSound (record { capacities = c.self.inside.capacities; bookings = bs }) in
    let sound = sound_settled c.self.inside.capacities c.args.number c.self.inside.bookings c.self.invariant.0 in (
      subst P (sym c.settle.ensures) sound,
      λ flow. rw c.settle.ensures (settle_after _ flow c.args.number c.self.inside.bookings _ sound.one_each (rw (c.settle.ensures, c.own-former.ensures) at (c.release.ensures flow))),
    )

pub returns-clause-sound : goal.returns-clause-sound
returns-clause-sound c =
    let P : List Booking → Type 0 = λ bs. IsSound (record { capacities = c.self.inside.capacities; bookings = bs }) in
    subst P (sym c.settle.ensures) (sound_settled _ c.args.number _ c.self.invariant.0)
