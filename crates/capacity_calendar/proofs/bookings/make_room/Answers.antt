use Rattle.std.proofs.Common.{List, Option, ◌≤◌, ◌+◌, length, arith, sym, ap, ◌∙◌, subst}
use Rattle.std.proofs.lemmas.Bool.Decides.{nat_tests}
use Rattle.capacity_calendar.specs.declared.booking.Booking.{Booking}
use Rattle.capacity_calendar.specs.Kept.{present, IsNumbered}
use Rattle.capacity_calendar.proofs.Kept.{resized, numbered_resized}
use Rattle.capacity_calendar.proofs.bookings.make_room.Goals as goal

pub returns-in_ok-resize-clause-same : goal.returns-in_ok-resize-clause-same
returns-in_ok-resize-clause-same c =
    let le : length c.args.by_number.now.items ≤ c.get.result + 1 = grind (arith, nat_tests, c.if-len-end.true, c.len.ensures) in
    ap present c.in_ok-resize.ensures.items ∙ resized (c.get.result + 1) _ c.args.by_number.now.items le

pub returns-in_ok-resize-clause-numbered : goal.returns-in_ok-resize-clause-numbered
returns-in_ok-resize-clause-numbered c =
    let le : length c.args.by_number.now.items ≤ c.get.result + 1 = grind (arith, nat_tests, c.if-len-end.true, c.len.ensures) in
    λ h. subst (λ (xs : List (Option Booking)). IsNumbered 0 xs) (sym c.in_ok-resize.ensures.items) (numbered_resized (c.get.result + 1) _ c.args.by_number.now.items le h)
