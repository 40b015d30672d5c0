use Rattle.std.proofs.Common.{ℕ, eqb, arith, ap}
use Rattle.capacity_calendar.specs.Load.{load, others}
use Rattle.capacity_calendar.specs.Changes.{before, after, all_after}
use Rattle.capacity_calendar.specs.Index.{one_if}
use Rattle.capacity_calendar.proofs.Turns.{one_of_same, ends_go, claims_beside, claims_held, claims_fit, loads_restated, ends_restated}
use Rattle.capacity_calendar.proofs.index.Index.go.Goals as goal

pub restate-requires-clause-same : goal.restate-requires-clause-same
restate-requires-clause-same c = λ t out. rw (c.before-2.ensures, c.after.ensures) (claims_beside c.args.place.now c.args.change.now t out)

pub restate-requires-clause-least : goal.restate-requires-clause-least
restate-requires-clause-least c = λ k lt. rw c.before-2.ensures (claims_held c.args.place.now c.args.change.now c.args.bookings.now c.args.self.now.points c.requires.index.loads k lt)

pub restate-requires-clause-most : goal.restate-requires-clause-most
restate-requires-clause-most c = λ k lt.
    rw (c.before-2.ensures, c.after.ensures)
    (claims_fit c.args.place.now c.args.change.now c.args.bookings.now c.args.self.now.points c.requires.index.loads c.requires.within k lt)

pub unmark-requires : goal.unmark-requires
unmark-requires c =
    let now = c.args.place.now in
    let change = c.args.change.now in
    let t = c.start.result in
    let points = rw (c.before-2.ensures, c.after.ensures) at c.restate.ensures.points in
    omega (
      arith,
      ends_restated now.flow now.stp (before change) (after change) c.args.self.now.points c.restate.new.self.points t c.restate.ensures.length points,
      c.requires.index.ends t,
      ends_go now.flow now.stp t change c.args.bookings.now c.requires.goes c.requires.booked,
      ap (λ s. one_if (eqb s t)) c.start.ensures.start,
      one_of_same t,
    )

pub unmark-requires-2 : goal.unmark-requires-2
unmark-requires-2 c =
    let now = c.args.place.now in
    let change = c.args.change.now in
    let t = c.end.result in
    let points = rw (c.before-2.ensures, c.after.ensures) at c.restate.ensures.points in
    omega (
      arith,
      ends_restated now.flow now.stp (before change) (after change) c.args.self.now.points c.restate.new.self.points t c.restate.ensures.length points,
      c.requires.index.ends t,
      ends_go now.flow now.stp t change c.args.bookings.now c.requires.goes c.requires.booked,
      c.unmark.ensures.ends t,
      ap (λ s. one_if (eqb s t)) c.start.ensures.start,
      ap (λ s. one_if (eqb s t)) c.end.ensures.end,
      one_of_same t,
    )

pub returns : goal.returns
returns c =
    let now = c.args.place.now in
    let change = c.args.change.now in
    let f : ℕ → ℕ = λ t. load now.flow now.stp t (all_after change c.args.bookings.now) in
    let points = rw (c.before-2.ensures, c.after.ensures) at c.restate.ensures.points in
    let told = loads_restated now.flow now.stp (before change) (after change) (others change.number c.args.bookings.now) c.args.self.now.points c.restate.new.self.points c.restate.ensures.length points c.requires.index.loads in
    record {
      loads = c.unmark-2.ensures.loads f (c.unmark.ensures.loads f told);
      ends = λ u.
          omega (
            arith,
            ends_restated now.flow now.stp (before change) (after change) c.args.self.now.points c.restate.new.self.points u c.restate.ensures.length points,
            c.unmark.ensures.ends u,
            c.unmark-2.ensures.ends u,
            ap (λ s. one_if (eqb s u)) c.start.ensures.start,
            ap (λ s. one_if (eqb s u)) c.end.ensures.end,
            c.requires.index.ends u,
            ends_go now.flow now.stp u change c.args.bookings.now c.requires.goes c.requires.booked,
          );
    }
