use Rattle.std.proofs.Common.{List, Some, None, ◌≡◌, sym, ap, ◌∙◌, subst}
use Rattle.capacity_calendar.specs.declared.booking.Booking.{Booking}
use Rattle.capacity_calendar.specs.declared.booking.Slot.{Slot}
use Rattle.capacity_calendar.specs.Changes.{booking_with}
use Rattle.capacity_calendar.specs.Index.{IsIndexed}
use Rattle.capacity_calendar.specs.Plan.{IsSound, HasOneEach, placed, with_pending, pending_of}
use Rattle.capacity_calendar.specs.Tables.{table_of}
use Rattle.capacity_calendar.proofs.Owned.{same_points, put_before, put_within, put_after}
use Rattle.capacity_calendar.proofs.Sound.{sound_with_pending}
use Rattle.capacity_calendar.proofs.calendar.Calendar.put.Goals as goal

pub turn-requires-clause-within : goal.turn-requires-clause-within
turn-requires-clause-within c = λ flow.
    let bs = c.self.inside.bookings in
    let slot : Slot = record { source = c.args.source; dest = c.args.dest; both_ways = c.args.both_ways; interval = c.args.interval; mbps = c.args.mbps } in
    let new : c.put.new.self ≡ with_pending c.args.number slot bs = c.in_ok-put.ensures.ok ∙ ap (λ b. placed b bs) (c.after.ensures ∙ ap (λ o. booking_with c.args.number o (Some slot)) c.committed_of.ensures) in
    let one : HasOneEach (with_pending c.args.number slot bs) = subst (λ (xs : List Booking). HasOneEach xs) new c.put.ensures.one_each in
    let sound = sound_with_pending c.self.inside.capacities c.args.number slot bs (rw (← c.self.view_is) at c.requires.fits) one c.self.invariant.0 in
    rw (new, c.committed_of.ensures) (put_within _ flow c.args.number slot bs sound)

pub turn-requires-clause-index : goal.turn-requires-clause-index
turn-requires-clause-index c = λ flow.
    let bs = c.self.inside.bookings in
    let slot : Slot = record { source = c.args.source; dest = c.args.dest; both_ways = c.args.both_ways; interval = c.args.interval; mbps = c.args.mbps } in
    let new : c.put.new.self ≡ with_pending c.args.number slot bs = c.in_ok-put.ensures.ok ∙ ap (λ b. placed b bs) (c.after.ensures ∙ ap (λ o. booking_with c.args.number o (Some slot)) c.committed_of.ensures) in
    let one : HasOneEach (with_pending c.args.number slot bs) = subst (λ (xs : List Booking). HasOneEach xs) new c.put.ensures.one_each in
    let free : pending_of c.args.number bs ≡ None = rw (← c.self.view_is) at c.requires.free in
    let before : IsIndexed c.self.inside.capacities flow bs (table_of flow c.make_room-2.new.self) =
    same_points c.self.inside.capacities flow bs (table_of flow c.self.inside.tables) (table_of flow c.make_room-2.new.self) (λ q. c.make_room-2.ensures.points flow q ∙ c.make_room.ensures.points flow q) (c.self.invariant.1 flow) in
    rw (new, c.committed_of.ensures) (put_before _ flow c.args.number slot bs _ c.self.invariant.0.one_each one free before)

pub invariant_of-self-2 : goal.invariant_of-self-2
invariant_of-self-2 c =
    let bs = c.self.inside.bookings in
    let slot : Slot = record { source = c.args.source; dest = c.args.dest; both_ways = c.args.both_ways; interval = c.args.interval; mbps = c.args.mbps } in
    let P : List Booking → Type 0 = λ xs. IsSound (record { capacities = c.self.inside.capacities; bookings = xs }) in
    let new : c.put.new.self ≡ with_pending c.args.number slot bs = c.in_ok-put.ensures.ok ∙ ap (λ b. placed b bs) (c.after.ensures ∙ ap (λ o. booking_with c.args.number o (Some slot)) c.committed_of.ensures) in
    let one : HasOneEach (with_pending c.args.number slot bs) = subst (λ (xs : List Booking). HasOneEach xs) new c.put.ensures.one_each in
    let sound = sound_with_pending c.self.inside.capacities c.args.number slot bs (rw (← c.self.view_is) at c.requires.fits) one c.self.invariant.0 in (
      subst P (sym new) sound,
      λ flow. rw new (put_after _ flow c.args.number slot bs _ one (rw (new, c.committed_of.ensures) at (c.turn.ensures flow))),
    )

pub returns-clause-sound : goal.returns-clause-sound
returns-clause-sound c =
    let bs = c.self.inside.bookings in
    let slot : Slot = record { source = c.args.source; dest = c.args.dest; both_ways = c.args.both_ways; interval = c.args.interval; mbps = c.args.mbps } in
    let P : List Booking → Type 0 = λ xs. IsSound (record { capacities = c.self.inside.capacities; bookings = xs }) in
    let new : c.put.new.self ≡ with_pending c.args.number slot bs = c.in_ok-put.ensures.ok ∙ ap (λ b. placed b bs) (c.after.ensures ∙ ap (λ o. booking_with c.args.number o (Some slot)) c.committed_of.ensures) in
    let one : HasOneEach (with_pending c.args.number slot bs) = subst (λ (xs : List Booking). HasOneEach xs) new c.put.ensures.one_each in
    subst P (sym new) (sound_with_pending c.self.inside.capacities c.args.number slot bs (rw (← c.self.view_is) at c.requires.fits) one c.self.invariant.0)
