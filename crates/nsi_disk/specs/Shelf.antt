-- What a shelf in memory holds under each name.
use Rattle.std.specs.Prelude.{◌≡◌, ℕ, ◌<◌, length, get_or, Bool, true, false, List, [], ◌∷◌, Option, Some, None, is_some, if◌then◌else◌, bytes_eq}
use Rattle.nsi_disk.specs.declared.memory_shelf.NamedDisk.{NamedDisk}

-- the first of the name counts
abbrev pub held : List ℕ → List NamedDisk → Option (List ℕ)
held name [] = None
held name (d ∷ ds) = if bytes_eq d.name name then Some d.bytes.items else held name ds

abbrev pub is_listed : List ℕ → List NamedDisk → Bool
is_listed name ds = is_some (held name ds)

abbrev pub or_empty : Option (List ℕ) → List ℕ
or_empty None = []
or_empty (Some bytes) = bytes

-- nothing where there is no such name
abbrev pub content_of : List ℕ → List NamedDisk → List ℕ
content_of name ds = or_empty (held name ds)

-- none before this one has the name
abbrev pub NoneBefore : List ℕ → List NamedDisk → ℕ → Type 0
NoneBefore name ds i = (k : ℕ) (d : NamedDisk) → k < i → bytes_eq (get_or ds k d).name name ≡ false

-- the first of this name
pub record FirstAt (name : List ℕ) (ds : List NamedDisk) (i : ℕ) : Type 0 where
  pub inside : i < length ds
  pub none : NoneBefore name ds i
  pub named : (d : NamedDisk) → bytes_eq (get_or ds i d).name name ≡ true
