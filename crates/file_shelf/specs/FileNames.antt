-- The names of files.
use Rattle.std.specs.Prelude.{◌≡◌, ◌≢◌, ℕ, IsTrue, All, List, [], ◌∷◌, ◌++◌}
use Rattle.percent_encoding.specs.Percent.{percent_encode}
use Rattle.nsi_base.specs.Bytes.{is_name}
use Rattle.file_shelf.specs.declared.name.TheConstants.{ESCAPED}

-- `.journal`
abbrev pub suffix : List ℕ
suffix = 46 ∷ 106 ∷ 111 ∷ 117 ∷ 114 ∷ 110 ∷ 97 ∷ 108 ∷ []

abbrev pub file_name : List ℕ → List ℕ
file_name name = percent_encode ESCAPED name ++ suffix

-- two names of agents that are written as one file name are one name
abbrev pub HasDistinctFiles : Type 0
HasDistinctFiles = (a b : List ℕ) → IsTrue (is_name a) → IsTrue (is_name b) → file_name a ≡ file_name b → a ≡ b

-- no slash is in a file name, and no NUL
abbrev pub StaysInFolder : Type 0
StaysInFolder = (name : List ℕ) → All (λ b. (b ≢ 47) × (b ≢ 0)) (file_name name)
