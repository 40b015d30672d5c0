-- The calls since the last sync, done again with each of their bytes torn.
use Rattle.std.specs.Prelude.{ℕ, List, [], ◌∷◌, take, replicate}
use Rattle.nsi_disk.specs.Disk.{written}
use Rattle.nsi_disk.specs.declared.content.Past.{Past}
use Rattle.nsi_disk.specs.declared.content.Past.TheVariants.{Write, Cut, Sync, Pause}

abbrev pub blot : Past → List ℕ → List ℕ
blot (Write at n k) b = written at (replicate n 165) b
blot (Cut n k) b = take n b
blot Sync b = b
blot Pause b = b

-- the newest call first
abbrev pub blotted : List Past → List ℕ → List ℕ
blotted [] b = b
blotted (p ∷ calls) b = blot p (blotted calls b)
