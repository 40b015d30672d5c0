-- What a record has at hand, and when it is in order.
use Rattle.std.specs.Prelude.{ℕ, ◌≡◌, Bool, true, false, List, Option, Some, is_some}
use Rattle.nsi_primitive.specs.declared.state.Rsm.{Rsm}
use Rattle.connection_record.specs.declared.record.Record.{Record}
use Rattle.connection_record.specs.Moves.{is_working}
use Rattle.connection_record.specs.Applied.{is_provisioning, is_terminating}

-- whether something is asked that is checked, held or being committed
unfoldable pub is_pending : Rsm → Bool
is_pending Rsm.ReserveChecking = true
is_pending Rsm.ReserveHeld = true
is_pending Rsm.ReserveCommitting = true
is_pending _ = false

-- a request is kept as unanswered exactly while its machine works on it, and criteria are pending exactly while something is asked, by a reserve that is known
pub record IsInOrder (r : Record) : Type 0 where
  pub reserve_request : is_some r.reserve_request ≡ is_working r.rsm
  pub provision_request : is_some r.provision_request ≡ is_provisioning r.psm
  pub lifecycle_request : is_some r.lifecycle_request ≡ is_terminating r.lsm
  pub pending : is_some r.pending ≡ is_pending r.rsm
  pub attempt : is_pending r.rsm ≡ true → is_some r.attempt ≡ true

-- the source and the destination are the points of the names in the service
pub record HasPoints (stp_of : List ℕ → Option ℕ) (r : Record) : Type 0 where
  pub source : stp_of r.service.source ≡ Some r.source
  pub dest : stp_of r.service.dest ≡ Some r.dest
