-- File names that are worked out by hand.
use Rattle.std.proofs.Common.{◌≡◌, [], ◌∷◌, refl}
use Rattle.percent_encoding.specs.AsciiSet.{should_percent_encode}
use Rattle.percent_encoding.specs.Percent.{percent_encode, percent_encode_byte}
use Rattle.file_shelf.specs.FileNames.{file_name, suffix}

pub record NameRows : Type 0 where
  -- `aZ09-_`
  pub kept : file_name (97 ∷ 90 ∷ 48 ∷ 57 ∷ 45 ∷ 95 ∷ []) ≡ 97 ∷ 90 ∷ 48 ∷ 57 ∷ 45 ∷ 95 ∷ suffix
  -- `..`
  pub dots : file_name (46 ∷ 46 ∷ []) ≡ 37 ∷ 50 ∷ 69 ∷ 37 ∷ 50 ∷ 69 ∷ suffix
  -- `a/%`
  pub slash : file_name (97 ∷ 47 ∷ 37 ∷ []) ≡ 97 ∷ 37 ∷ 50 ∷ 70 ∷ 37 ∷ 50 ∷ 53 ∷ suffix
  -- `:~`
  pub others : file_name (58 ∷ 126 ∷ []) ≡ 37 ∷ 51 ∷ 65 ∷ 37 ∷ 55 ∷ 69 ∷ suffix

pub name_rows : NameRows
unfolding percent_encode percent_encode_byte should_percent_encode
name_rows = record { kept = refl; dots = refl; slash = refl; others = refl }
