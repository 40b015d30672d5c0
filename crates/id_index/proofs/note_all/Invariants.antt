use Rattle.std.proofs.Common.{◌≡◌, ◌++◌, map}
use Rattle.id_index.specs.declared.IdPlace.{IdPlace}
use Rattle.id_index.proofs.note_all.Given as goal

abbrev pub invariant-loop-entry : goal.invariant-loop-entry
invariant-loop-entry l = l.places.items ++ map (λ (e : IdPlace). e.place) l.entry-iterator ≡ l.fn.places.items ++ map (λ (e : IdPlace). e.place) l.fn.entries
