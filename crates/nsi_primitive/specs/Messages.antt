-- Messages: their kinds and identities, and who sends them to whom.
use Rattle.std.specs.Prelude.{ℕ, List, Bool, true, false, Option, Some, None, unwrap_or, if◌then◌else◌}
use Rattle.nsi_primitive.specs.Kinds.{is_request_kind, is_query_kind}
use Rattle.nsi_primitive.specs.declared.kind.Kind.{Kind}
use Rattle.nsi_primitive.specs.declared.kind.ErrorName.{ErrorName}
use Rattle.nsi_primitive.specs.declared.message.Body.{Body}
use Rattle.nsi_primitive.specs.declared.message.Cause.{Cause}
use Rattle.nsi_primitive.specs.declared.message.Identity.{Identity}
use Rattle.nsi_primitive.specs.declared.message.Message.{Message}
use Rattle.nsi_primitive.specs.declared.message.ReserveRequest.{ReserveRequest}

-- the primitive that a body is of
abbrev pub kind_of : Body → Kind
kind_of (Body.Reserve _) = Kind.Reserve
kind_of (Body.ReserveResponse _) = Kind.ReserveResponse
kind_of (Body.ReserveConfirmed _) = Kind.ReserveConfirmed
kind_of (Body.ReserveFailed _ _) = Kind.ReserveFailed
kind_of (Body.ReserveCommit _) = Kind.ReserveCommit
kind_of (Body.ReserveCommitConfirmed _) = Kind.ReserveCommitConfirmed
kind_of (Body.ReserveCommitFailed _ _) = Kind.ReserveCommitFailed
kind_of (Body.ReserveAbort _) = Kind.ReserveAbort
kind_of (Body.ReserveAbortConfirmed _) = Kind.ReserveAbortConfirmed
kind_of (Body.Provision _) = Kind.Provision
kind_of (Body.ProvisionConfirmed _) = Kind.ProvisionConfirmed
kind_of (Body.Release _) = Kind.Release
kind_of (Body.ReleaseConfirmed _) = Kind.ReleaseConfirmed
kind_of (Body.Terminate _) = Kind.Terminate
kind_of (Body.TerminateConfirmed _) = Kind.TerminateConfirmed
kind_of (Body.Error _ _) = Kind.Error
kind_of (Body.ReserveTimeout _) = Kind.ReserveTimeout
kind_of (Body.ErrorEvent _) = Kind.ErrorEvent
kind_of (Body.DataPlaneStateChange _) = Kind.DataPlaneStateChange
kind_of (Body.MessageDeliveryTimeout _) = Kind.MessageDeliveryTimeout
kind_of (Body.QuerySummary _) = Kind.QuerySummary
kind_of (Body.QueryNotification _) = Kind.QueryNotification
kind_of (Body.QueryResult _) = Kind.QueryResult
kind_of (Body.QueryRecursive _) = Kind.QueryRecursive
kind_of (Body.QuerySummaryConfirmed _ _) = Kind.QuerySummaryConfirmed
kind_of (Body.QueryNotificationConfirmed _ _ _) = Kind.QueryNotificationConfirmed
kind_of (Body.QueryResultConfirmed _ _ _) = Kind.QueryResultConfirmed
kind_of (Body.QueryRecursiveConfirmed _ _ _) = Kind.QueryRecursiveConfirmed

-- whether it asks for something
abbrev pub is_request : Body → Bool
is_request body = is_request_kind (kind_of body)

-- whether it asks what an agent knows
abbrev pub is_query : Body → Bool
is_query body = is_query_kind (kind_of body)

-- whether it is the rows that a query asked for
abbrev pub has_rows : Body → Bool
has_rows (Body.QuerySummaryConfirmed _ _) = true
has_rows (Body.QueryNotificationConfirmed _ _ _) = true
has_rows (Body.QueryResultConfirmed _ _ _) = true
has_rows (Body.QueryRecursiveConfirmed _ _ _) = true
has_rows _ = false

-- when a reserve that is taken at that second starts
abbrev pub start_at : (now : ℕ) → ReserveRequest → ℕ
start_at now r = unwrap_or r.start now

-- the connection that a request is about, where it names one
unfoldable pub connection_of : Body → Option ℕ
connection_of (Body.Reserve r) = r.connection
connection_of (Body.ReserveCommit connection) = Some connection
connection_of (Body.ReserveAbort connection) = Some connection
connection_of (Body.Provision connection) = Some connection
connection_of (Body.Release connection) = Some connection
connection_of (Body.Terminate connection) = Some connection
connection_of (Body.QuerySummary connection) = connection
connection_of (Body.QueryNotification range) = Some range.connection
connection_of (Body.QueryResult range) = Some range.connection
connection_of (Body.QueryRecursive connection) = Some connection
connection_of _ = None

-- the connection that a body of any kind is about, where it names one
unfoldable pub named_connection : Body → Option ℕ
named_connection (Body.ReserveResponse connection) = Some connection
named_connection (Body.ReserveConfirmed confirmation) = Some confirmation.connection
named_connection (Body.ReserveFailed connection exception) = Some connection
named_connection (Body.ReserveCommitConfirmed connection) = Some connection
named_connection (Body.ReserveCommitFailed connection exception) = Some connection
named_connection (Body.ReserveAbortConfirmed connection) = Some connection
named_connection (Body.ProvisionConfirmed connection) = Some connection
named_connection (Body.ReleaseConfirmed connection) = Some connection
named_connection (Body.TerminateConfirmed connection) = Some connection
named_connection (Body.Error connection exception) = connection
named_connection (Body.ReserveTimeout timeout) = Some timeout.connection
named_connection (Body.ErrorEvent notice) = Some notice.connection
named_connection (Body.DataPlaneStateChange notice) = Some notice.connection
named_connection (Body.MessageDeliveryTimeout timeout) = Some timeout.connection
named_connection (Body.QuerySummaryConfirmed more rows) = None
named_connection (Body.QueryNotificationConfirmed connection more rows) = Some connection
named_connection (Body.QueryResultConfirmed connection more rows) = Some connection
named_connection (Body.QueryRecursiveConfirmed connection more rows) = Some connection
named_connection request = connection_of request

-- the name of the error that a cause is
abbrev pub error_of : Cause → ErrorName
error_of (Cause.Plain error) = error
error_of (Cause.Bandwidth stp flow second load capacity) = ErrorName.Bandwidth
error_of (Cause.Child child error) = ErrorName.Child

-- the two agents, the correlation and the kind
abbrev pub identity : Message → Identity
identity m = record { requester = m.header.requester; provider = m.header.provider; correlation = m.header.correlation; kind = kind_of m.body }

-- A request goes from its requester to its provider, every other kind the other way.
abbrev pub sender : Identity → List ℕ
sender i = if is_request_kind i.kind then i.requester else i.provider

abbrev pub addressee : Identity → List ℕ
addressee i = if is_request_kind i.kind then i.provider else i.requester
