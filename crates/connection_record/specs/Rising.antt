-- Committed versions.
use Rattle.std.specs.Prelude.{◌<◌, List, [], ◌∷◌, Option, IfSome}
use Rattle.nsi_primitive.specs.declared.message.Criteria.{Criteria}
use Rattle.connection_record.specs.Demand.{last}

-- each version is larger than the one before it
abbrev pub AreRising : List Criteria → Type 0
AreRising [] = Unit {0}
AreRising (c ∷ []) = Unit {0}
AreRising (c ∷ d ∷ cs) = (c.version < d.version) × AreRising (d ∷ cs)

-- a version is larger than the last of these
abbrev pub IsAboveLast : Option Criteria → List Criteria → Type 0
IsAboveLast pending committed = IfSome pending (λ c. IfSome (last committed) (λ l. l.version < c.version))
