-- Names by their places.
use Rattle.std.specs.Prelude.{ℕ, List, Option, Vec, map}
use Rattle.std.specs.List.{position_from}
use Rattle.std.specs.Str.{bytes_eq}
use Rattle.std.specs.declared.alloc.Global.{Global}

-- where a name stands among the names
abbrev pub place_of : List (List ℕ) → List ℕ → Option ℕ
place_of names name = position_from (bytes_eq name) 0 names

-- the bytes of each key
abbrev pub texts : List (Vec ℕ Global) → List (List ℕ)
texts keys = map (λ k. k.items) keys
