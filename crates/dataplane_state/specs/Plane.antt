-- The status of a connection's data plane: whether traffic can flow, and under which version of the criteria.
use Rattle.std.specs.Prelude.{ℕ, min, Bool, true, false, not, ◌&&◌, ◌||◌, ◌==◌, List, map, length, Option, Some, None, unwrap_or}
use Rattle.std.specs.Bool.{beq}
use Rattle.std.specs.List.{reduce, list_all}
use Rattle.nsi_base.specs.Range.{is_covered}
use Rattle.nsi_primitive.specs.declared.message.Criteria.{Criteria}
use Rattle.nsi_primitive.specs.declared.plane.Plane.{Plane}
use Rattle.nsi_primitive.specs.declared.state.Psm.{Psm}
use Rattle.nsi_primitive.specs.declared.state.Lsm.{Lsm}

---- One network

abbrev pub is_up : Psm → Lsm → Bool
is_up Psm.Provisioned Lsm.Created = true
is_up _ _ = false

abbrev pub is_scheduled : Option Criteria → ℕ → Bool
is_scheduled None now = false
is_scheduled (Some c) now = is_covered c.interval now

abbrev pub version_or_zero : Option Criteria → ℕ
version_or_zero None = 0
version_or_zero (Some c) = c.version

-- active, the version that was committed last, and consistent
unfoldable pub status : Psm → Lsm → Option Criteria → ℕ → Plane
status psm lsm last now = record { active = is_up psm lsm && is_scheduled last now; version = version_or_zero last; consistent = true }

---- Several networks

abbrev pub is_active : Plane → Bool
is_active p = p.active

abbrev pub version_of : Plane → ℕ
version_of p = p.version

abbrev pub versions : List Plane → List ℕ
versions children = map version_of children

abbrev pub least_version : List Plane → ℕ
least_version children = unwrap_or (reduce min (versions children)) 0

abbrev pub is_consistent_at : ℕ → Plane → Bool
is_consistent_at version p = p.consistent && (p.version == version)

-- the status that is joined of the children's, as a value
unfoldable pub joined : List Plane → Plane
joined children =
    record {
      active = not (length children == 0) && list_all is_active children;
      version = least_version children;
      consistent = list_all (is_consistent_at (least_version children)) children;
    }

---- Changes

-- the same as a test
unfoldable pub announces : Plane → Plane → Bool
announces before after =
    not (beq before.active after.active) ||
    (before.active && after.active && (not (before.version == after.version) || not (beq before.consistent after.consistent)))
