-- Versions of a parent beside those of the record that its child keeps.
use Rattle.std.specs.Prelude.{◌≡◌, ◌⊎◌, ◌++◌, ℕ, List, [], ◌∷◌, map}
use Rattle.std.specs.List.Sorted.{IsStrictlyIncreasing}
use Rattle.nsi_primitive.specs.declared.message.Criteria.{Criteria}
use Rattle.connection_record.specs.declared.record.Record.{Record}
use Rattle.connection_record.specs.Rising.{AreRising}

abbrev pub version_of : Criteria → ℕ
version_of c = c.version

-- the versions that a record has committed
abbrev pub versions_of : Record → List ℕ
versions_of r = map version_of r.committed

-- the parent's are those of the record, or all but the last
abbrev pub IsInStep : (mine theirs : List ℕ) → Type 0
IsInStep mine theirs = (theirs ≡ mine) ⊎ ((v : ℕ) × (theirs ≡ mine ++ v ∷ []))

-- what is in step with a record whose versions rise, rises
abbrev pub InStepRises : Type 0
InStepRises = (versions : List ℕ) (r : Record) → IsInStep versions (versions_of r) → AreRising r.committed → IsStrictlyIncreasing versions
