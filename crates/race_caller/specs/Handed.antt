-- What a caller hands over.
use Rattle.std.specs.Prelude.{◌≡◌, Bool, true, false, List, Result, Ok, Err}
use Rattle.std.specs.declared.alloc.AllocError.{AllocError}
use Rattle.race_run.specs.declared.item.Item.{Item}
use Rattle.race_caller.specs.declared.asker.Asker.{Asker}
use Rattle.race_caller.specs.Plays.{HasEnd}

-- what it kept where it came to its end, a list with an end where it ended early, and nothing where memory was wanting
abbrev pub HandsOver : Asker → Result Bool AllocError → List Item → Type 0
HandsOver x (Ok true) kept = kept ≡ x.kept
HandsOver x (Ok false) kept = HasEnd kept
HandsOver x (Err e) kept = ⊥
