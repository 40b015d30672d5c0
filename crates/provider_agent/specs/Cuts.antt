-- A journal, of which a front is synced, and what a crash leaves of it.
use Rattle.std.specs.Prelude.{◌≤◌, ℕ, List, length, take}
use Rattle.nsi_primitive.specs.declared.entry.Entry.{Entry}

-- its entries, and how many of them are synced
pub record Journal : Type 0 where
  pub entries : List Entry
  pub synced : ℕ

-- what a crash may leave: so many first entries, and all that are synced among them
pub record IsCut (j : Journal) (k : ℕ) : Type 0 where
  pub synced : j.synced ≤ k
  pub within : k ≤ length j.entries

abbrev pub cut : Journal → ℕ → List Entry
cut j k = take k j.entries
