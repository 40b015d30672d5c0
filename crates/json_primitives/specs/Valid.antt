-- What the types of a parcel say of it.
use Rattle.std.specs.Prelude.{IfSome}
use Rattle.nsi_primitive.specs.declared.message.Cause.{Cause}
use Rattle.nsi_primitive.specs.declared.message.Exception.{Exception}
use Rattle.nsi_primitive.specs.declared.message.Header.{Header}
use Rattle.nsi_primitive.specs.declared.message.Identity.{Identity}
use Rattle.nsi_primitive.specs.declared.message.ReserveRequest.{ReserveRequest}
use Rattle.nsi_primitive.specs.declared.message.ReserveConfirmation.{ReserveConfirmation}
use Rattle.nsi_primitive.specs.declared.message.HoldTimeout.{HoldTimeout}
use Rattle.nsi_primitive.specs.declared.message.FaultNotice.{FaultNotice}
use Rattle.nsi_primitive.specs.declared.message.PlaneNotice.{PlaneNotice}
use Rattle.nsi_primitive.specs.declared.message.DeliveryTimeout.{DeliveryTimeout}
use Rattle.nsi_primitive.specs.declared.message.Body.{Body}
use Rattle.nsi_primitive.specs.declared.message.Message.{Message}
use Rattle.json_fields.specs.Fields.{id_from, name_from, capacity_from, second_from, version_from, hold_from}
use Rattle.json_fields.specs.Objects.{IsReadBack, IsReadInEachForm, digits, words, id_scalar}

-- ids and names that read again
pub record IsValidHeader (h : Header) : Type 0 where
  pub correlation : IsReadBack id_from (id_scalar h.correlation) h.correlation
  pub provider : IsReadBack name_from (words h.provider) h.provider
  pub requester : IsReadBack name_from (words h.requester) h.requester

pub record IsValidIdentity (i : Identity) : Type 0 where
  pub correlation : IsReadBack id_from (id_scalar i.correlation) i.correlation
  pub provider : IsReadBack name_from (words i.provider) i.provider
  pub requester : IsReadBack name_from (words i.requester) i.requester

-- numbers, ids and names that read again
pub record IsValidReserve (r : ReserveRequest) : Type 0 where
  pub capacity : IsReadBack capacity_from (digits r.capacity) r.capacity
  pub connection : IfSome r.connection (λ n. IsReadBack id_from (id_scalar n) n)
  pub dest : IfSome r.dest (λ n. IsReadBack name_from (words n) n)
  pub end : IsReadInEachForm r.end
  pub source : IfSome r.source (λ n. IsReadBack name_from (words n) n)
  pub start : IfSome r.start IsReadInEachForm
  pub version : IfSome r.version (λ n. IsReadBack version_from (digits n) n)

pub record IsValidConfirmation (r : ReserveConfirmation) : Type 0 where
  pub capacity : IsReadBack capacity_from (digits r.capacity) r.capacity
  pub connection : IsReadBack id_from (id_scalar r.connection) r.connection
  pub dest : IsReadBack name_from (words r.dest) r.dest
  pub end : IsReadInEachForm r.end
  pub source : IsReadBack name_from (words r.source) r.source
  pub start : IsReadInEachForm r.start
  pub version : IsReadBack version_from (digits r.version) r.version

abbrev pub IsValidCause : Cause → Type 0
IsValidCause (Cause.Plain error) = Unit {0}
IsValidCause (Cause.Bandwidth stp flow second load capacity) =
    IsReadBack name_from (words stp) stp × IsReadBack second_from (digits second) second × IsReadBack capacity_from (digits capacity) capacity
IsValidCause (Cause.Child child error) = IsReadBack name_from (words child) child

pub record IsValidException (e : Exception) : Type 0 where
  pub nsa : IsReadBack name_from (words e.nsa) e.nsa
  pub cause : IsValidCause e.cause

pub record IsValidTimeout (t : HoldTimeout) : Type 0 where
  pub connection : IsReadBack id_from (id_scalar t.connection) t.connection
  pub originating_connection : IsReadBack id_from (id_scalar t.originating_connection) t.originating_connection
  pub originating_nsa : IsReadBack name_from (words t.originating_nsa) t.originating_nsa
  pub time : IsReadBack second_from (digits t.time) t.time
  pub value : IsReadBack hold_from (digits t.value) t.value

pub record IsValidFault (n : FaultNotice) : Type 0 where
  pub connection : IsReadBack id_from (id_scalar n.connection) n.connection
  pub originating_connection : IsReadBack id_from (id_scalar n.originating_connection) n.originating_connection
  pub originating_nsa : IsReadBack name_from (words n.originating_nsa) n.originating_nsa
  pub time : IsReadBack second_from (digits n.time) n.time

pub record IsValidPlane (n : PlaneNotice) : Type 0 where
  pub connection : IsReadBack id_from (id_scalar n.connection) n.connection
  pub time : IsReadBack second_from (digits n.time) n.time
  pub version : IsReadBack version_from (digits n.version) n.version

pub record IsValidDelivery (t : DeliveryTimeout) : Type 0 where
  pub connection : IsReadBack id_from (id_scalar t.connection) t.connection
  pub delivery : IsReadBack id_from (id_scalar t.delivery) t.delivery
  pub time : IsReadBack second_from (digits t.time) t.time

-- what is read again of each answer and notification, rows aside
abbrev pub IsValidTold : Body → Type 0
IsValidTold (Body.ReserveConfirmed r) = IsValidConfirmation r
IsValidTold (Body.ReserveFailed connection e) = IsReadBack id_from (id_scalar connection) connection × IsValidException e
IsValidTold (Body.ReserveCommitFailed connection e) = IsReadBack id_from (id_scalar connection) connection × IsValidException e
IsValidTold (Body.Error connection e) = IfSome connection (λ n. IsReadBack id_from (id_scalar n) n) × IsValidException e
IsValidTold (Body.ReserveTimeout t) = IsValidTimeout t
IsValidTold (Body.ErrorEvent n) = IsValidFault n
IsValidTold (Body.DataPlaneStateChange n) = IsValidPlane n
IsValidTold (Body.MessageDeliveryTimeout t) = IsValidDelivery t
IsValidTold (Body.QueryNotificationConfirmed connection more rows) = IsReadBack id_from (id_scalar connection) connection
IsValidTold (Body.QueryResultConfirmed connection more rows) = IsReadBack id_from (id_scalar connection) connection
IsValidTold (Body.QueryRecursiveConfirmed connection more rows) = IsReadBack id_from (id_scalar connection) connection
IsValidTold _ = Unit {0}

-- what is read again of each kind, rows aside
abbrev pub IsValidBody : Body → Type 0
IsValidBody (Body.Reserve r) = IsValidReserve r
IsValidBody (Body.ReserveResponse connection) = IsReadBack id_from (id_scalar connection) connection
IsValidBody (Body.ReserveCommit connection) = IsReadBack id_from (id_scalar connection) connection
IsValidBody (Body.ReserveCommitConfirmed connection) = IsReadBack id_from (id_scalar connection) connection
IsValidBody (Body.ReserveAbort connection) = IsReadBack id_from (id_scalar connection) connection
IsValidBody (Body.ReserveAbortConfirmed connection) = IsReadBack id_from (id_scalar connection) connection
IsValidBody (Body.Provision connection) = IsReadBack id_from (id_scalar connection) connection
IsValidBody (Body.ProvisionConfirmed connection) = IsReadBack id_from (id_scalar connection) connection
IsValidBody (Body.Release connection) = IsReadBack id_from (id_scalar connection) connection
IsValidBody (Body.ReleaseConfirmed connection) = IsReadBack id_from (id_scalar connection) connection
IsValidBody (Body.Terminate connection) = IsReadBack id_from (id_scalar connection) connection
IsValidBody (Body.TerminateConfirmed connection) = IsReadBack id_from (id_scalar connection) connection
IsValidBody (Body.QuerySummary connection) = IfSome connection (λ n. IsReadBack id_from (id_scalar n) n)
IsValidBody (Body.QueryNotification range) = IsReadBack id_from (id_scalar range.connection) range.connection
IsValidBody (Body.QueryResult range) = IsReadBack id_from (id_scalar range.connection) range.connection
IsValidBody (Body.QueryRecursive connection) = IsReadBack id_from (id_scalar connection) connection
IsValidBody body = IsValidTold body

abbrev pub IsValid : Message → Type 0
IsValid m = IsValidHeader m.header × IsValidBody m.body
