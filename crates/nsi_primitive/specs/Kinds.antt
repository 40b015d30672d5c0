-- The names of kinds, errors and directions.
use Rattle.std.specs.Prelude.{ℕ, List, [], ◌∷◌, Bool, true, false, codes, if◌then◌else◌, Option, Some, None}
use Rattle.std.specs.Str.{bytes_eq}
use Rattle.nsi_primitive.specs.declared.kind.Kind.{Kind}
use Rattle.nsi_primitive.specs.declared.kind.ErrorName.{ErrorName}
use Rattle.nsi_primitive.specs.declared.kind.Directionality.{Directionality}
use Rattle.nsi_primitive.specs.declared.kind.FaultEvent.{FaultEvent}

-- the standard's name of a primitive
unfoldable pub kind_name : Kind → List ℕ
kind_name Kind.Reserve = codes "reserve"
kind_name Kind.ReserveResponse = codes "reserveResponse"
kind_name Kind.ReserveConfirmed = codes "reserveConfirmed"
kind_name Kind.ReserveFailed = codes "reserveFailed"
kind_name Kind.ReserveCommit = codes "reserveCommit"
kind_name Kind.ReserveCommitConfirmed = codes "reserveCommitConfirmed"
kind_name Kind.ReserveCommitFailed = codes "reserveCommitFailed"
kind_name Kind.ReserveAbort = codes "reserveAbort"
kind_name Kind.ReserveAbortConfirmed = codes "reserveAbortConfirmed"
kind_name Kind.Provision = codes "provision"
kind_name Kind.ProvisionConfirmed = codes "provisionConfirmed"
kind_name Kind.Release = codes "release"
kind_name Kind.ReleaseConfirmed = codes "releaseConfirmed"
kind_name Kind.Terminate = codes "terminate"
kind_name Kind.TerminateConfirmed = codes "terminateConfirmed"
kind_name Kind.Error = codes "error"
kind_name Kind.ReserveTimeout = codes "reserveTimeout"
kind_name Kind.ErrorEvent = codes "errorEvent"
kind_name Kind.DataPlaneStateChange = codes "dataPlaneStateChange"
kind_name Kind.MessageDeliveryTimeout = codes "messageDeliveryTimeout"
kind_name Kind.QuerySummary = codes "querySummary"
kind_name Kind.QuerySummaryConfirmed = codes "querySummaryConfirmed"
kind_name Kind.QueryNotification = codes "queryNotification"
kind_name Kind.QueryNotificationConfirmed = codes "queryNotificationConfirmed"
kind_name Kind.QueryResult = codes "queryResult"
kind_name Kind.QueryResultConfirmed = codes "queryResultConfirmed"
kind_name Kind.QueryRecursive = codes "queryRecursive"
kind_name Kind.QueryRecursiveConfirmed = codes "queryRecursiveConfirmed"

-- every kind
abbrev pub kinds : List Kind
kinds =
    Kind.Reserve ∷ Kind.ReserveResponse ∷ Kind.ReserveConfirmed ∷ Kind.ReserveFailed ∷ Kind.ReserveCommit ∷ Kind.ReserveCommitConfirmed ∷ Kind.ReserveCommitFailed ∷
    Kind.ReserveAbort ∷ Kind.ReserveAbortConfirmed ∷ Kind.Provision ∷ Kind.ProvisionConfirmed ∷ Kind.Release ∷ Kind.ReleaseConfirmed ∷ Kind.Terminate ∷
    Kind.TerminateConfirmed ∷ Kind.Error ∷ Kind.ReserveTimeout ∷ Kind.ErrorEvent ∷ Kind.DataPlaneStateChange ∷ Kind.MessageDeliveryTimeout ∷ Kind.QuerySummary ∷
    Kind.QuerySummaryConfirmed ∷ Kind.QueryNotification ∷ Kind.QueryNotificationConfirmed ∷ Kind.QueryResult ∷ Kind.QueryResultConfirmed ∷ Kind.QueryRecursive ∷ Kind.QueryRecursiveConfirmed ∷ []

-- the first of the kinds that has the name
unfoldable pub first_named : List ℕ → List Kind → Option Kind
first_named name [] = None
first_named name (kind ∷ others) = if bytes_eq name (kind_name kind) then Some kind else first_named name others

-- the kind that has the name
unfoldable pub kind_named : List ℕ → Option Kind
kind_named name = first_named name kinds

-- the requests of the standard
abbrev pub is_request_kind : Kind → Bool
is_request_kind Kind.Reserve = true
is_request_kind Kind.ReserveCommit = true
is_request_kind Kind.ReserveAbort = true
is_request_kind Kind.Provision = true
is_request_kind Kind.Release = true
is_request_kind Kind.Terminate = true
is_request_kind Kind.QuerySummary = true
is_request_kind Kind.QueryNotification = true
is_request_kind Kind.QueryResult = true
is_request_kind Kind.QueryRecursive = true
is_request_kind _ = false

-- the requests that ask what an agent knows
abbrev pub is_query_kind : Kind → Bool
is_query_kind Kind.QuerySummary = true
is_query_kind Kind.QueryNotification = true
is_query_kind Kind.QueryResult = true
is_query_kind Kind.QueryRecursive = true
is_query_kind _ = false

-- an error's name in a line
unfoldable pub error_text : ErrorName → List ℕ
error_text ErrorName.Payload = codes "PAYLOAD"
error_text ErrorName.Version = codes "VERSION"
error_text ErrorName.WrongProvider = codes "WRONG_PROVIDER"
error_text ErrorName.Nonexistent = codes "NONEXISTENT"
error_text ErrorName.Gone = codes "GONE"
error_text ErrorName.InvalidTransition = codes "INVALID_TRANSITION"
error_text ErrorName.VersionLow = codes "VERSION_LOW"
error_text ErrorName.UnknownStp = codes "UNKNOWN_STP"
error_text ErrorName.Schedule = codes "SCHEDULE"
error_text ErrorName.Bandwidth = codes "BANDWIDTH"
error_text ErrorName.Passed = codes "PASSED"
error_text ErrorName.NoPath = codes "NO_PATH"
error_text ErrorName.Child = codes "CHILD"
error_text ErrorName.Timeout = codes "TIMEOUT"

-- every error
abbrev pub errors : List ErrorName
errors =
    ErrorName.Payload ∷ ErrorName.Version ∷ ErrorName.WrongProvider ∷ ErrorName.Nonexistent ∷ ErrorName.Gone ∷ ErrorName.InvalidTransition ∷ ErrorName.VersionLow ∷
    ErrorName.UnknownStp ∷ ErrorName.Schedule ∷ ErrorName.Bandwidth ∷ ErrorName.Passed ∷ ErrorName.NoPath ∷ ErrorName.Child ∷ ErrorName.Timeout ∷ []

-- the first of the errors that has the name
unfoldable pub first_error_named : List ℕ → List ErrorName → Option ErrorName
first_error_named name [] = None
first_error_named name (error ∷ others) = if bytes_eq name (error_text error) then Some error else first_error_named name others

-- the error that has the name
unfoldable pub error_named : List ℕ → Option ErrorName
error_named name = first_error_named name errors

-- an event's name in a line
unfoldable pub event_text : FaultEvent → List ℕ
event_text FaultEvent.ForcedEnd = codes "forcedEnd"

-- the event that has the name
abbrev pub event_named : List ℕ → Option FaultEvent
event_named name = if bytes_eq name (event_text FaultEvent.ForcedEnd) then Some FaultEvent.ForcedEnd else None

-- a directionality's name in a line
unfoldable pub direction_text : Directionality → List ℕ
direction_text Directionality.Bidirectional = codes "Bidirectional"
direction_text Directionality.Unidirectional = codes "Unidirectional"

-- the directionality that has the name
abbrev pub direction_named : List ℕ → Option Directionality
direction_named name =
    if bytes_eq name (direction_text Directionality.Bidirectional) then Some Directionality.Bidirectional
    else if bytes_eq name (direction_text Directionality.Unidirectional) then Some Directionality.Unidirectional
    else None

abbrev pub is_both_ways : Directionality → Bool
is_both_ways Directionality.Bidirectional = true
is_both_ways Directionality.Unidirectional = false

-- each kind has a number of its own
unfoldable pub kind_number : Kind → ℕ
kind_number Kind.Reserve = 0
kind_number Kind.ReserveResponse = 1
kind_number Kind.ReserveConfirmed = 2
kind_number Kind.ReserveFailed = 3
kind_number Kind.ReserveCommit = 4
kind_number Kind.ReserveCommitConfirmed = 5
kind_number Kind.ReserveCommitFailed = 6
kind_number Kind.ReserveAbort = 7
kind_number Kind.ReserveAbortConfirmed = 8
kind_number Kind.Provision = 9
kind_number Kind.ProvisionConfirmed = 10
kind_number Kind.Release = 11
kind_number Kind.ReleaseConfirmed = 12
kind_number Kind.Terminate = 13
kind_number Kind.TerminateConfirmed = 14
kind_number Kind.Error = 15
kind_number Kind.ReserveTimeout = 16
kind_number Kind.ErrorEvent = 17
kind_number Kind.DataPlaneStateChange = 18
kind_number Kind.MessageDeliveryTimeout = 19
kind_number Kind.QuerySummary = 20
kind_number Kind.QuerySummaryConfirmed = 21
kind_number Kind.QueryNotification = 22
kind_number Kind.QueryNotificationConfirmed = 23
kind_number Kind.QueryResult = 24
kind_number Kind.QueryResultConfirmed = 25
kind_number Kind.QueryRecursive = 26
kind_number Kind.QueryRecursiveConfirmed = 27
