-- What records claim of the points that they book.
use Rattle.std.specs.Prelude.{ℕ, ◌-◌, Bool, true, false, not, ◌&&◌, ◌==◌, if◌then◌else◌, max, sum_by, List, length, slice_get, Option, Some, None}
use Rattle.nsi_base.specs.Range.{is_covered}
use Rattle.nsi_base.specs.Flows.{books}
use Rattle.nsi_base.specs.declared.flow.Flow.{Flow}
use Rattle.nsi_primitive.specs.Kinds.{is_both_ways}
use Rattle.nsi_primitive.specs.declared.state.Rsm.{Rsm}
use Rattle.nsi_primitive.specs.declared.state.Lsm.{Lsm}
use Rattle.nsi_primitive.specs.declared.message.Criteria.{Criteria}
use Rattle.connection_record.specs.declared.record.Record.{Record}

-- the last of the committed criteria
abbrev pub last : List Criteria → Option Criteria
last committed = slice_get committed (length committed - 1)

-- the capacity of criteria at a second: within their schedule, and nothing outside
abbrev pub claim : Option Criteria → ℕ → ℕ
claim None t = 0
claim (Some c) t = if is_covered c.interval t then c.capacity else 0

-- pending criteria count while they are held, and while they are being committed
abbrev pub holds_pending : Rsm → Bool
holds_pending Rsm.ReserveHeld = true
holds_pending Rsm.ReserveCommitting = true
holds_pending _ = false

abbrev pub is_terminated : Lsm → Bool
is_terminated Lsm.Terminated = true
is_terminated _ = false

-- the criteria that are held
abbrev pub held : Record → Option Criteria
held r = if holds_pending r.rsm then r.pending else None

-- the larger of what is committed and what is held
abbrev pub claims : Record → ℕ → ℕ
claims r t = max (claim (last r.committed) t) (claim (held r) t)

-- whether the record books that flow of that point
abbrev pub is_booked : Flow → ℕ → Record → Bool
is_booked flow stp r = books flow (is_both_ways r.service.directionality) (r.source == stp) (r.dest == stp)

-- what a record claims of a flow of a point at a second: a terminated one claims nothing
unfoldable pub demand : Flow → ℕ → ℕ → Record → ℕ
demand flow stp t r = if is_booked flow stp r && not (is_terminated r.lsm) then claims r t else 0

-- the plain sum over all records
abbrev pub load : Flow → ℕ → ℕ → List Record → ℕ
load flow stp t records = sum_by (demand flow stp t) records
