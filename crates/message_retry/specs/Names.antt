-- Names by their places.
use Rattle.std.specs.Prelude.{◌≡◌, ℕ, List, [], Option, Some, String, map, get_or, string_bytes}
use Rattle.std.specs.List.{position_from}
use Rattle.std.specs.Str.{bytes_eq}
use Rattle.std.specs.declared.alloc.Global.{Global}

-- where a name stands among the names
abbrev pub place_of : List (List ℕ) → List ℕ → Option ℕ
place_of names name = position_from (bytes_eq name) 0 names

-- the name that stands at a place
abbrev pub name_at : List (List ℕ) → ℕ → List ℕ
name_at names place = get_or names place []

-- the bytes of each
abbrev pub texts : List (String Global) → List (List ℕ)
texts keys = map string_bytes keys

-- each name stays at its place
abbrev pub Keeps : List (List ℕ) → List (List ℕ) → Type 0
Keeps old new = (name : List ℕ) (place : ℕ) → place_of old name ≡ Some place → place_of new name ≡ Some place
