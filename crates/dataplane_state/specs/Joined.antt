-- What the joined state of planes means.
use Rattle.std.specs.Prelude.{◌≡◌, ◌≢◌, ◌⊎◌, ◌↔◌, ℕ, ◌≤◌, ◌<◌, Bool, List, length, All, Contains, Option, IsTrue, IsSomeAnd}
use Rattle.std.specs.List.{AllPass}
use Rattle.nsi_base.specs.Range.{Span}
use Rattle.nsi_primitive.specs.declared.message.Criteria.{Criteria}
use Rattle.nsi_primitive.specs.declared.plane.Plane.{Plane}
use Rattle.nsi_primitive.specs.declared.state.Psm.{Psm}
use Rattle.nsi_primitive.specs.declared.state.Lsm.{Lsm}
use Rattle.dataplane_state.specs.Plane.{is_active, versions}

abbrev pub IsCovered : Span → ℕ → Type 0
IsCovered span t = (span.start ≤ t) × (t < span.end)

-- provisioned and created, and the second lies in the schedule that was committed last
abbrev pub IsActive : Psm → Lsm → Option Criteria → ℕ → Type 0
IsActive psm lsm last now = (psm ≡ Psm.Provisioned) × (lsm ≡ Lsm.Created) × IsSomeAnd last (λ c. IsCovered c.interval now)

abbrev pub is_consistent : Plane → Bool
is_consistent p = p.consistent

-- one of the numbers, and none is less
pub record IsLeast (ns : List ℕ) (n : ℕ) : Type 0 where
  pub found : Contains ns n
  pub bound : All (λ m. n ≤ m) ns

-- all numbers are the same
abbrev pub AreOne : List ℕ → Type 0
AreOne ns = (n : ℕ) × All (λ m. m ≡ n) ns

-- what the status over children says: active where there is a child and all are active; the least version, or 0; consistent where all are and have one version
pub record IsJoined (children : List Plane) (p : Plane) : Type 0 where
  pub active : IsTrue p.active ↔ ((0 < length children) × AllPass is_active children)
  pub version : IsLeast (versions children) p.version ⊎ ((length children ≡ 0) × (p.version ≡ 0))
  pub consistent : IsTrue p.consistent ↔ (AllPass is_consistent children × AreOne (versions children))

-- active differs, or both are active and the rest differs
abbrev pub IsTold : Plane → Plane → Type 0
IsTold before after =
    (before.active ≢ after.active) ⊎
    (IsTrue before.active × IsTrue after.active × ((before.version ≢ after.version) ⊎ (before.consistent ≢ after.consistent)))
