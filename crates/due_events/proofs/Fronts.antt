-- Events that are due, one after another.
use Rattle.std.proofs.Common.{List, [], ◌∷◌, ◌++◌}
use Rattle.nsi_primitive.specs.declared.entry.Event.{Event}
use Rattle.nsi_world.specs.Worlds.{Homes, World}
use Rattle.nsi_world.specs.Runs.{happens, world_after}
use Rattle.due_events.specs.Due.{AreDue}
use Rattle.due_events.specs.Laws.{FrontsAreDue}

pub fronts_are_due : FrontsAreDue
unfolding AreDue
fronts_are_due homes w [] rest h = tt
fronts_are_due homes w (e ∷ es) rest h = (h.0, fronts_are_due homes (happens w e) es rest h.1)

pub due_append : (homes : Homes) (w : World) (es fs : List Event) → AreDue homes w es → AreDue homes (world_after w es) fs → AreDue homes w (es ++ fs)
unfolding world_after AreDue
due_append homes w [] fs p q = q
due_append homes w (e ∷ es) fs p q = (p.0, due_append homes (happens w e) es fs p.1 q)
