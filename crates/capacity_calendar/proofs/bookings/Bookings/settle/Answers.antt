use Rattle.std.proofs.Common.{List, Option, ◌≤◌, length, ◌≡◌, get_or, set, Some, None, refl, sym, ap, ◌∙◌, subst}
use Rattle.capacity_calendar.specs.declared.booking.Booking.{Booking}
use Rattle.capacity_calendar.specs.Kept.{present, IsNumbered}
use Rattle.capacity_calendar.proofs.Kept.{changed_at, unchanged_at, numbered_changed, set_few}
use Rattle.capacity_calendar.proofs.bookings.Bookings.settle.Goals as goal

pub returns-in_default : goal.returns-in_default
returns-in_default c =
    let none : get_or c.self.inside.by_number.items c.args.number None ≡ None = cc (c.in_default.ensures, c.deref.ensures.value) in
    rw (← c.self.view_is) (sym (unchanged_at c.args.number (λ b. record b { committed = b.pending; pending = None }) c.self.inside.by_number.items none c.self.invariant.0))

pub invariant_of-self : goal.invariant_of-self
invariant_of-self c =
    let there : get_or c.self.inside.by_number.items c.args.number None ≡ Some c.in-Some.booking.now = cc (c.in-Some.ensures, c.deref.ensures.value) in
    let new : c.set.new.by_number.items ≡ set c.self.inside.by_number.items c.args.number (Some (record c.in-Some.booking.now { committed = c.in-Some.booking.now.pending; pending = None })) = c.set.ensures ∙ ap (λ b. set c.self.inside.by_number.items c.args.number (Some b)) c.settled-committed.ensures in (
      subst (λ (xs : List (Option Booking)). IsNumbered 0 xs) (sym new) (numbered_changed c.args.number (λ b. record b { committed = b.pending; pending = None }) c.self.inside.by_number.items c.in-Some.booking.now refl there c.self.invariant.0),
      subst (λ (xs : List (Option Booking)). length xs ≤ 4194304) (sym new) (set_few c.self.inside.by_number.items c.args.number 4194304 _ c.self.invariant.1),
    )

pub returns : goal.returns
returns c =
    let there : get_or c.self.inside.by_number.items c.args.number None ≡ Some c.in-Some.booking.now = cc (c.in-Some.ensures, c.deref.ensures.value) in
    let new : c.set.new.by_number.items ≡ set c.self.inside.by_number.items c.args.number (Some (record c.in-Some.booking.now { committed = c.in-Some.booking.now.pending; pending = None })) = c.set.ensures ∙ ap (λ b. set c.self.inside.by_number.items c.args.number (Some b)) c.settled-committed.ensures in
    rw (← c.self.view_is) (ap present new ∙ changed_at c.args.number (λ b. record b { committed = b.pending; pending = None }) c.self.inside.by_number.items c.in-Some.booking.now there c.self.invariant.0)
