-- Which requests a connection's record works on.
use Rattle.std.specs.Prelude.{ℕ, ◌≡◌, Bool, true, false, not, ◌&&◌, List, Some, is_some, slice_get}
use Rattle.nsi_primitive.specs.Messages.{kind_of}
use Rattle.nsi_primitive.specs.declared.kind.Kind.{Kind}
use Rattle.nsi_primitive.specs.declared.message.Message.{Message}
use Rattle.nsi_primitive.specs.declared.state.Rsm.{Rsm}
use Rattle.nsi_primitive.specs.declared.state.Psm.{Psm}
use Rattle.connection_record.specs.declared.record.Record.{Record}
use Rattle.connection_record.specs.Applied.{is_terminating}
use Rattle.connection_record.specs.Demand.{is_terminated}
use Rattle.connection_record.specs.Ids.{is_id}

abbrev pub is_checking : Rsm → Bool
is_checking Rsm.ReserveChecking = true
is_checking _ = false

abbrev pub is_committing : Rsm → Bool
is_committing Rsm.ReserveCommitting = true
is_committing _ = false

abbrev pub is_aborting : Rsm → Bool
is_aborting Rsm.ReserveAborting = true
is_aborting _ = false

abbrev pub is_starting : Psm → Bool
is_starting Psm.Provisioning = true
is_starting _ = false

abbrev pub is_releasing : Psm → Bool
is_releasing Psm.Releasing = true
is_releasing _ = false

-- the machine of a request of that kind is in the state in which it works on one, and that is the one with the correlation; a reserve's criteria
-- are pending then
unfoldable pub works_on : Kind → ℕ → Record → Bool
works_on Kind.Reserve c r = is_checking r.rsm && (is_some r.pending && is_id r.reserve_request c)
works_on Kind.ReserveCommit c r = is_committing r.rsm && is_id r.reserve_request c
works_on Kind.ReserveAbort c r = is_aborting r.rsm && is_id r.reserve_request c
works_on Kind.Provision c r = is_starting r.psm && is_id r.provision_request c
works_on Kind.Release c r = is_releasing r.psm && is_id r.provision_request c
works_on Kind.Terminate c r = is_terminating r.lsm && is_id r.lifecycle_request c
works_on _ c r = false

-- a request that a record works on, whose connection hasn't ended
abbrev pub is_open : Kind → ℕ → Record → Bool
is_open k c r = works_on k c r && not (is_terminated r.lsm)

---- At an agent

-- one of an agent's records works on a request that was addressed to it, for the agent that asks
pub record IsWorkedOn (name : List ℕ) (records : List Record) (request : Message) : Type 0 where
  pub place : ℕ
  pub own : Record
  pub there : slice_get records place ≡ Some own
  pub owner : own.owner ≡ request.header.requester
  pub agent : request.header.provider ≡ name
  pub opens : is_open (kind_of request.body) request.header.correlation own ≡ true
