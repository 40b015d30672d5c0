-- Labels in tables, one for each requester.
use Rattle.std.specs.Prelude.{ℕ, List, [], Bool, is_some, get_or}
use Rattle.stp_topology.specs.Names.{place_of}

-- whether the label stands in the table of the requester
abbrev pub is_noted : List (List (List ℕ)) → ℕ → List ℕ → Bool
is_noted tables agent label = is_some (place_of (get_or tables agent []) label)
