-- Which events are due, by rows.
use Rattle.std.proofs.Common.{◌≡◌, ℕ, List, [], ◌∷◌, None, refl, arith}
use Rattle.nsi_primitive.specs.declared.entry.Event.{Event}
use Rattle.nsi_primitive.specs.declared.entry.Happening.{Happening}
use Rattle.nsi_primitive.specs.declared.entry.Input.{Input}
use Rattle.nsi_world.specs.Worlds.{Homes, empty}
use Rattle.nsi_world.specs.Runs.{world_after}
use Rattle.due_events.specs.Counts.{is_tick, is_force, held, events_in}
use Rattle.due_events.specs.Due.{AreDue}

ticks : ℕ → ℕ → Event
ticks a second = record { agent = a; what = Happening.Entry (record { second = second; input = Input.Tick }) None }

syncs : ℕ → ℕ → Event
syncs a count = record { agent = a; what = Happening.Sync count }

restarts : ℕ → ℕ → Event
restarts a count = record { agent = a; what = Happening.Restart count }

-- two agents tick, one of them syncs, and the other one begins again without its tick
abbrev some_events : List Event
some_events = ticks 0 5 ∷ ticks 1 5 ∷ syncs 0 1 ∷ restarts 1 0 ∷ []

they_are_due : (homes : Homes) → AreDue homes empty some_events
unfolding AreDue ticks syncs restarts
they_are_due homes = (tt, (tt, (omega arith, (tt, tt))))

two_ticks : events_in is_tick some_events ≡ 2
unfolding ticks syncs restarts
two_ticks = refl

no_force : events_in is_force some_events ≡ 0
unfolding ticks syncs restarts
no_force = refl

one_is_held : held (world_after empty some_events) (0 ∷ 1 ∷ []) ≡ 1
unfolding world_after ticks syncs restarts
one_is_held = refl

-- nobody syncs twice
not_again : (homes : Homes) → AreDue homes empty (ticks 0 5 ∷ syncs 0 1 ∷ syncs 0 1 ∷ []) → ⊥
unfolding AreDue ticks syncs
not_again homes due = let more = due.1.1.0 in omega (arith, more)

-- nor without an entry
not_at_once : (homes : Homes) → AreDue homes empty (syncs 0 0 ∷ []) → ⊥
unfolding AreDue syncs
not_at_once homes due = let more = due.0 in omega (arith, more)
