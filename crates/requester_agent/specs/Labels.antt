-- Labels as texts.
use Rattle.std.specs.Prelude.{ℕ, List, String, map, string_bytes}
use Rattle.std.specs.declared.alloc.Global.{Global}

-- the bytes of each
abbrev pub texts_of : List (String Global) → List (List ℕ)
texts_of keys = map string_bytes keys
