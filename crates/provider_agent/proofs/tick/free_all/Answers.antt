use Rattle.std.proofs.Common.{◌+◌, ◌∙◌, get_or, drop, sym, ap, subst, arith}
use Rattle.std.proofs.lemmas.List.Elements.{Contains-get_or}
use Rattle.capacity_calendar.specs.Plan.{Plan}
use Rattle.provider_agent.specs.Ticks.{IsFreedBut}
use Rattle.provider_agent.proofs.TickFreed.{freed_less, all_freed}
use Rattle.provider_agent.proofs.tick.free_all.Goals as goal

pub free_at-requires-clause-within : goal.free_at-requires-clause-within
free_at-requires-clause-within c = c.requires.within (get_or c.args.due.now c.loop-place.place-index 0) (Contains-get_or c.args.due.now c.loop-place.place-index 0 c.loop-place-test.true)

pub free_at-requires-clause-few : goal.free_at-requires-clause-few
free_at-requires-clause-few c =
    let inside = c.requires.within (get_or c.args.due.now c.loop-place.place-index 0) (Contains-get_or c.args.due.now c.loop-place.place-index 0 c.loop-place-test.true) in
    omega (arith, inside, c.requires.few)

pub loop-place-preserved : goal.loop-place-preserved
loop-place-preserved c =
    let records = c.args.records.now in
    let due = c.args.due.now in
    let i = c.loop-place.place-index in
    record {
      capacities = ap (λ (x : Plan). x.capacities) c.free_at.ensures ∙ c.loop-place.invariant.capacities;
      but = subst (λ (x : Plan). IsFreedBut records x.bookings (drop (i + 1) due)) (sym c.free_at.ensures)
          (freed_less records c.loop-place.calendar.bookings due i c.loop-place.invariant.but c.loop-place-test.true);
    }

pub returns-clause-kept : goal.returns-clause-kept
returns-clause-kept c = all_freed c.args.records.now c.loop-place.calendar.bookings c.args.due.now c.loop-place.place-index c.loop-place-test.false c.loop-place.invariant.but
