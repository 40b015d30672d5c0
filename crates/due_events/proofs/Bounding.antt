-- Events that are due are few where few messages are caused.
use Rattle.std.proofs.Common.{◌≡◌, ◌≤◌, ◌+◌, ◌*◌, ℕ, Bool, List, [], ◌∷◌, ◌++◌, ap, subst, arith}
use Rattle.std.proofs.lemmas.List.Sums.{sum_by-append}
use Rattle.nsi_primitive.specs.declared.entry.Event.{Event}
use Rattle.nsi_primitive.specs.declared.entry.Input.{Input}
use Rattle.nsi_agent.specs.Homes.{home_in}
use Rattle.nsi_agent.specs.Laws.{WhatIsSaidIsItsOwn, BlankIsGood, EntriesKeepGood}
use Rattle.nsi_world.specs.Worlds.{Homes, World, empty}
use Rattle.nsi_world.specs.Runs.{MayHappen, happens, world_after, AreAllowed}
use Rattle.nsi_world.specs.Seats.{MayBe, AreFree}
use Rattle.nsi_world.specs.Laws.{HeardWasSent}
use Rattle.nsi_primitive.specs.declared.entry.Happening.{Happening}
use Rattle.run_growth.proofs.Worlds.{allowed_front}
use Rattle.due_events.specs.Counts.{is_tick, is_ask, is_force, is_entry_of, events_in}
use Rattle.due_events.specs.Due.{AreDue}
use Rattle.due_events.specs.Laws.{RunsAreShort, HoldNoMore}
use Rattle.due_events.proofs.Counting.{events_are_few}
use Rattle.due_events.proofs.Entries.{one_if}
use Rattle.due_events.proofs.Fronts.{fronts_are_due}
use Rattle.due_events.proofs.Short.{journals_are_short}

-- what is allowed is free
may_be : (homes : Homes) (w : World) (a : ℕ) (what : Happening) → MayHappen homes w a what → MayBe homes w a what
may_be homes w a (Happening.Entry e answer) may = may.1
may_be homes w a (Happening.Sync count) may = may
may_be homes w a (Happening.Restart count) may = may

free_of_allowed : (homes : Homes) (w : World) (es : List Event) → AreAllowed homes w es → AreFree homes w es
unfolding AreAllowed AreFree
free_of_allowed homes w [] run = tt
free_of_allowed homes w (e ∷ es) run = ((run.0.0, may_be homes w e.agent e.what run.0.1), free_of_allowed homes (happens w e) es run.1)

-- a front has no more of any kind
pub front_few : (kind : Input → Bool) (events front rest : List Event) → events ≡ front ++ rest → events_in kind front ≤ events_in kind events
front_few kind events front rest e = omega (arith, ap (events_in kind) e, sum_by-append (λ (x : Event). one_if (is_entry_of kind x)) front rest)

pub runs_are_short : WhatIsSaidIsItsOwn → HeardWasSent → BlankIsGood → EntriesKeepGood → RunsAreShort
runs_are_short own heard first keep t routes events agents messages run due distinct all few =
    let homes : Homes = home_in t routes in
    let most : ℕ = events_in is_tick events + (events_in is_ask events + (events_in is_force events + 3 * messages)) in
    let low : HoldNoMore agents events most = λ front rest e.
    let v : World = world_after empty front in
    let allowed : AreAllowed homes empty front = allowed_front homes empty front rest (subst (AreAllowed homes empty) e run) in
    let fit : AreDue homes empty front = fronts_are_due homes empty front rest (subst (AreDue homes empty) e due) in
    omega (
      arith,
      journals_are_short own heard first keep t routes front agents allowed fit distinct all,
      few front rest e,
      front_few is_tick events front rest e,
      front_few is_ask events front rest e,
      front_few is_force events front rest e,
    )
    in
    events_are_few homes events agents most (free_of_allowed homes empty events run) due all low
