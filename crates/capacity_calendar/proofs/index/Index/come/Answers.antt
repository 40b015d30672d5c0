use Rattle.std.proofs.Common.{ℕ, eqb, arith, ap}
use Rattle.capacity_calendar.specs.Load.{load, others}
use Rattle.capacity_calendar.specs.Changes.{before, after, all_before}
use Rattle.capacity_calendar.specs.Index.{one_if}
use Rattle.capacity_calendar.proofs.Steady.{tells_load}
use Rattle.capacity_calendar.proofs.Turns.{one_at_most, few_ends, ends_come, claims_beside, claims_held, claims_fit, loads_restated, ends_restated}
use Rattle.capacity_calendar.proofs.index.Index.come.Goals as goal

pub mark-requires-clause-few : goal.mark-requires-clause-few
mark-requires-clause-few c =
    let now = c.args.place.now in
    let change = c.args.change.now in
    let few = few_ends now.flow now.stp c.start.result change.number (before change) c.args.bookings.now c.facts.ensures.few in
    omega (arith, c.requires.index.ends c.start.result, few)

pub mark-requires-2-clause-few : goal.mark-requires-2-clause-few
mark-requires-2-clause-few c =
    let now = c.args.place.now in
    let change = c.args.change.now in
    let few = few_ends now.flow now.stp c.end.result change.number (before change) c.args.bookings.now c.facts.ensures.few in
    let one = c.mark.ensures.ends c.end.result in
    omega (arith, c.requires.index.ends c.end.result, few, one, one_at_most (eqb c.start.result c.end.result))

pub restate-requires-clause-same : goal.restate-requires-clause-same
restate-requires-clause-same c = λ t out. rw (c.before-2.ensures, c.after.ensures) (claims_beside c.args.place.now c.args.change.now t out)

pub restate-requires-clause-least : goal.restate-requires-clause-least
restate-requires-clause-least c = λ k lt.
    let now = c.args.place.now in
    let f : ℕ → ℕ = λ t. load now.flow now.stp t (all_before c.args.change.now c.args.bookings.now) in
    let told = c.mark-2.ensures.tells f (c.mark.ensures.tells f (tells_load now.flow now.stp _ _ c.requires.index)) in
    rw c.before-2.ensures (claims_held now c.args.change.now c.args.bookings.now c.mark-2.new.self.points told.loads k lt)

pub restate-requires-clause-most : goal.restate-requires-clause-most
restate-requires-clause-most c = λ k lt.
    let now = c.args.place.now in
    let f : ℕ → ℕ = λ t. load now.flow now.stp t (all_before c.args.change.now c.args.bookings.now) in
    let told = c.mark-2.ensures.tells f (c.mark.ensures.tells f (tells_load now.flow now.stp _ _ c.requires.index)) in
    rw (c.before-2.ensures, c.after.ensures) (claims_fit now c.args.change.now c.args.bookings.now c.mark-2.new.self.points told.loads c.requires.within k lt)

pub returns : goal.returns
returns c =
    let now = c.args.place.now in
    let change = c.args.change.now in
    let f : ℕ → ℕ = λ t. load now.flow now.stp t (all_before change c.args.bookings.now) in
    let told = c.mark-2.ensures.tells f (c.mark.ensures.tells f (tells_load now.flow now.stp _ _ c.requires.index)) in
    let points = rw (c.before-2.ensures, c.after.ensures) at c.restate.ensures.points in
    record {
      loads = loads_restated now.flow now.stp (before change) (after change) (others change.number c.args.bookings.now) c.mark-2.new.self.points _ c.restate.ensures.length points told.loads;
      ends = λ u.
          omega (
            arith,
            ends_restated now.flow now.stp (before change) (after change) c.mark-2.new.self.points c.restate.new.self.points u c.restate.ensures.length points,
            c.mark.ensures.ends u,
            c.mark-2.ensures.ends u,
            ap (λ s. one_if (eqb s u)) c.start.ensures.start,
            ap (λ s. one_if (eqb s u)) c.end.ensures.end,
            c.requires.index.ends u,
            ends_come now.flow now.stp u change c.args.bookings.now c.requires.comes c.requires.booked,
          );
    }
