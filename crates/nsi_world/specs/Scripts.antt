-- What a script asks.
use Rattle.std.specs.Prelude.{List, [], ◌∷◌, ◌++◌}
use Rattle.nsi_script.specs.declared.script.Act.{Act}
use Rattle.nsi_script.specs.declared.script.Group.{Group}
use Rattle.nsi_script.specs.Scripts.{acts_of}
use Rattle.nsi_world.specs.Runs.{Wish}

abbrev pub wish_of : Act → List Wish
wish_of (Act.Ask a ask) = (a, ask) ∷ []
wish_of (Act.Force a n) = []
wish_of (Act.Restart a) = []

-- what is asked among acts, and whom, in order
unfoldable pub wishes_among : List Act → List Wish
wishes_among [] = []
wishes_among (a ∷ rest) = wish_of a ++ wishes_among rest

abbrev pub wishes_of : List Group → List Wish
wishes_of groups = wishes_among (acts_of groups)
