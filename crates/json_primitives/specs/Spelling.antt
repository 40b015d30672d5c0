-- The printed spelling of a parcel.
use Rattle.std.specs.Prelude.{ℕ, Bool, List, [], ◌∷◌, ◌++◌, codes, Option, Some, None, option_map}
use Rattle.serde_json.specs.Data.{Data, Members, no_members, object}
use Rattle.serde_json.specs.Written.{compact_text}
use Rattle.nsi_base.specs.declared.flow.Flow.{Flow}
use Rattle.nsi_primitive.specs.Kinds.{kind_name, error_text, event_text}
use Rattle.nsi_primitive.specs.Messages.{kind_of}
use Rattle.nsi_primitive.specs.declared.kind.Kind.{Kind}
use Rattle.nsi_primitive.specs.declared.kind.ErrorName.{ErrorName}
use Rattle.nsi_primitive.specs.declared.message.Header.{Header}
use Rattle.nsi_primitive.specs.declared.message.ReserveRequest.{ReserveRequest}
use Rattle.nsi_primitive.specs.declared.message.ReserveConfirmation.{ReserveConfirmation}
use Rattle.nsi_primitive.specs.declared.message.HoldTimeout.{HoldTimeout}
use Rattle.nsi_primitive.specs.declared.message.FaultNotice.{FaultNotice}
use Rattle.nsi_primitive.specs.declared.message.PlaneNotice.{PlaneNotice}
use Rattle.nsi_primitive.specs.declared.message.DeliveryTimeout.{DeliveryTimeout}
use Rattle.nsi_primitive.specs.declared.message.NumberRange.{NumberRange}
use Rattle.nsi_primitive.specs.declared.message.Cause.{Cause}
use Rattle.nsi_primitive.specs.declared.message.Exception.{Exception}
use Rattle.nsi_primitive.specs.declared.message.Body.{Body}
use Rattle.nsi_primitive.specs.declared.message.Identity.{Identity}
use Rattle.nsi_primitive.specs.declared.message.Message.{Message}
use Rattle.nsi_primitive.specs.declared.message.Parcel.{Parcel}
use Rattle.json_fields.specs.Objects.{Field, digits, words, flag, id_scalar, time_value, directionality_scalar, with_fields}
use Rattle.json_fields.specs.Written.{with_rows}
use Rattle.json_fields.specs.declared.key.Key.{Key}
use Rattle.json_fields.specs.declared.time_form.TimeForm.{TimeForm}
use Rattle.json_primitives.specs.Rows.{rows_in}

-- what every line has
abbrev pub header_fields : Kind → Header → List Field
header_fields kind h =
    (Key.CorrelationId, Some (id_scalar h.correlation))
    ∷ (Key.Kind, Some (words (kind_name kind)))
    ∷ (Key.ProviderNsa, Some (words h.provider))
    ∷ (Key.RequesterNsa, Some (words h.requester))
    ∷ []

-- what a reserve has besides
abbrev pub reserve_fields : TimeForm → ReserveRequest → List Field
reserve_fields form r =
    (Key.Capacity, Some (digits r.capacity))
    ∷ (Key.ConnectionId, option_map id_scalar r.connection)
    ∷ (Key.Description, option_map words r.description)
    ∷ (Key.DestStp, option_map words r.dest)
    ∷ (Key.Directionality, option_map directionality_scalar r.directionality)
    ∷ (Key.EndTime, Some (time_value form r.end))
    ∷ (Key.GlobalReservationId, option_map words r.global)
    ∷ (Key.SourceStp, option_map words r.source)
    ∷ (Key.StartTime, option_map (time_value form) r.start)
    ∷ (Key.SymmetricPath, option_map flag r.symmetric)
    ∷ (Key.Version, option_map digits r.version)
    ∷ []

abbrev pub connection_fields : ℕ → List Field
connection_fields connection = (Key.ConnectionId, Some (id_scalar connection)) ∷ []

-- what a reserveConfirmed has besides
abbrev pub confirmation_fields : TimeForm → ReserveConfirmation → List Field
confirmation_fields form r =
    (Key.Capacity, Some (digits r.capacity))
    ∷ (Key.ConnectionId, Some (id_scalar r.connection))
    ∷ (Key.Description, option_map words r.description)
    ∷ (Key.DestStp, Some (words r.dest))
    ∷ (Key.Directionality, Some (directionality_scalar r.directionality))
    ∷ (Key.EndTime, Some (time_value form r.end))
    ∷ (Key.GlobalReservationId, option_map words r.global)
    ∷ (Key.SourceStp, Some (words r.source))
    ∷ (Key.StartTime, Some (time_value form r.start))
    ∷ (Key.SymmetricPath, option_map flag r.symmetric)
    ∷ (Key.Version, Some (digits r.version))
    ∷ []

-- the direction that lacks bandwidth, where a point has one capacity for each
abbrev pub flow_text : Flow → Option (List ℕ)
flow_text Flow.Both = None
flow_text Flow.In = Some (codes "in")
flow_text Flow.Out = Some (codes "out")

-- why, which says more of a lack of bandwidth and of a child's refusal
abbrev pub cause_fields : Cause → List Field
cause_fields (Cause.Plain error) = (Key.ErrorId, Some (words (error_text error))) ∷ []
cause_fields (Cause.Bandwidth stp flow second load capacity) =
    (Key.Capacity, Some (digits capacity))
    ∷ (Key.Direction, option_map words (flow_text flow))
    ∷ (Key.ErrorId, Some (words (error_text ErrorName.Bandwidth)))
    ∷ (Key.Load, Some (digits load))
    ∷ (Key.Second, Some (digits second))
    ∷ (Key.Stp, Some (words stp))
    ∷ []
cause_fields (Cause.Child child error) =
    (Key.Child, Some (words child))
    ∷ (Key.ChildErrorId, Some (words (error_text error)))
    ∷ (Key.ErrorId, Some (words (error_text ErrorName.Child)))
    ∷ []

-- who refused, and why
abbrev pub exception_fields : Exception → List Field
exception_fields e = (Key.NsaId, Some (words e.nsa)) ∷ cause_fields e.cause

-- the connection, where one is named, and why its request was refused
abbrev pub refusal_fields : Option ℕ → Exception → List Field
refusal_fields connection e = (Key.ConnectionId, option_map id_scalar connection) ∷ exception_fields e

-- what a reserveTimeout has besides
abbrev pub timeout_fields : HoldTimeout → List Field
timeout_fields t =
    (Key.ConnectionId, Some (id_scalar t.connection))
    ∷ (Key.NotificationId, Some (digits t.notification))
    ∷ (Key.OriginatingConnectionId, Some (id_scalar t.originating_connection))
    ∷ (Key.OriginatingNsa, Some (words t.originating_nsa))
    ∷ (Key.TimeStamp, Some (digits t.time))
    ∷ (Key.TimeoutValue, Some (digits t.value))
    ∷ []

-- what an errorEvent has besides
abbrev pub fault_fields : FaultNotice → List Field
fault_fields n =
    (Key.ConnectionId, Some (id_scalar n.connection))
    ∷ (Key.Event, Some (words (event_text n.event)))
    ∷ (Key.NotificationId, Some (digits n.notification))
    ∷ (Key.OriginatingConnectionId, Some (id_scalar n.originating_connection))
    ∷ (Key.OriginatingNsa, Some (words n.originating_nsa))
    ∷ (Key.TimeStamp, Some (digits n.time))
    ∷ []

-- what a dataPlaneStateChange has besides
abbrev pub plane_fields : PlaneNotice → List Field
plane_fields n =
    (Key.Active, Some (flag n.active))
    ∷ (Key.ConnectionId, Some (id_scalar n.connection))
    ∷ (Key.NotificationId, Some (digits n.notification))
    ∷ (Key.TimeStamp, Some (digits n.time))
    ∷ (Key.Version, Some (digits n.version))
    ∷ (Key.VersionConsistent, Some (flag n.consistent))
    ∷ []

-- what a messageDeliveryTimeout has besides
abbrev pub delivery_fields : DeliveryTimeout → List Field
delivery_fields t =
    (Key.ConnectionId, Some (id_scalar t.connection))
    ∷ (Key.DeliveryCorrelationId, Some (id_scalar t.delivery))
    ∷ (Key.NotificationId, Some (digits t.notification))
    ∷ (Key.TimeStamp, Some (digits t.time))
    ∷ []

-- what a query of notifications or results has besides, by the keys of its end and start
abbrev pub range_fields : Key → Key → NumberRange → List Field
range_fields end_key start_key r =
    (Key.ConnectionId, Some (id_scalar r.connection))
    ∷ (end_key, option_map digits r.end)
    ∷ (start_key, option_map digits r.start)
    ∷ []

-- what the answer to a query of one connection has besides its rows
abbrev pub listed_fields : ℕ → Bool → List Field
listed_fields connection more = (Key.ConnectionId, Some (id_scalar connection)) ∷ (Key.More, Some (flag more)) ∷ []

-- what an answer or a notification has besides the header, rows aside
abbrev pub told_fields : TimeForm → Body → List Field
told_fields form (Body.ReserveConfirmed r) = confirmation_fields form r
told_fields form (Body.ReserveFailed connection e) = refusal_fields (Some connection) e
told_fields form (Body.ReserveCommitFailed connection e) = refusal_fields (Some connection) e
told_fields form (Body.Error connection e) = refusal_fields connection e
told_fields form (Body.ReserveTimeout t) = timeout_fields t
told_fields form (Body.ErrorEvent n) = fault_fields n
told_fields form (Body.DataPlaneStateChange n) = plane_fields n
told_fields form (Body.MessageDeliveryTimeout t) = delivery_fields t
told_fields form (Body.QuerySummaryConfirmed more rows) = (Key.More, Some (flag more)) ∷ []
told_fields form (Body.QueryNotificationConfirmed connection more rows) = listed_fields connection more
told_fields form (Body.QueryResultConfirmed connection more rows) = listed_fields connection more
told_fields form (Body.QueryRecursiveConfirmed connection more rows) = listed_fields connection more
told_fields form _ = []

-- what a line of its kind has besides the header, rows aside
abbrev pub body_fields : TimeForm → Body → List Field
body_fields form (Body.Reserve r) = reserve_fields form r
body_fields form (Body.ReserveResponse connection) = connection_fields connection
body_fields form (Body.ReserveCommit connection) = connection_fields connection
body_fields form (Body.ReserveCommitConfirmed connection) = connection_fields connection
body_fields form (Body.ReserveAbort connection) = connection_fields connection
body_fields form (Body.ReserveAbortConfirmed connection) = connection_fields connection
body_fields form (Body.Provision connection) = connection_fields connection
body_fields form (Body.ProvisionConfirmed connection) = connection_fields connection
body_fields form (Body.Release connection) = connection_fields connection
body_fields form (Body.ReleaseConfirmed connection) = connection_fields connection
body_fields form (Body.Terminate connection) = connection_fields connection
body_fields form (Body.TerminateConfirmed connection) = connection_fields connection
body_fields form (Body.QuerySummary connection) = (Key.ConnectionId, option_map id_scalar connection) ∷ []
body_fields form (Body.QueryNotification r) = range_fields Key.EndNotificationId Key.StartNotificationId r
body_fields form (Body.QueryResult r) = range_fields Key.EndResultId Key.StartResultId r
body_fields form (Body.QueryRecursive connection) = connection_fields connection
body_fields form body = told_fields form body

-- all keys of a message's line, each with what stands there, if anything
abbrev pub fields_of : TimeForm → Message → List Field
fields_of form m = header_fields (kind_of m.body) m.header ++ body_fields form m.body

-- the members with the rows of a message, where it has some
abbrev pub with_rows_in : Option (Key × List Data) → Members → Members
with_rows_in None ms = ms
with_rows_in (Some rows) ms = with_rows rows.0 rows.1 ms

-- the object that a message is written as; its keys stand in byte order
unfoldable pub data_of : TimeForm → Message → Data
data_of form m = object (with_rows_in (rows_in form m.body) (with_fields no_members (fields_of form m)))

-- the bytes of a message's line, without the end of a line, with its times in this form
abbrev pub spelling_in : TimeForm → Message → List ℕ
spelling_in form m = compact_text (data_of form m)

-- and as it is written
abbrev pub spelling : Message → List ℕ
spelling m = spelling_in TimeForm.DateTime m

-- what an acknowledgement has
abbrev pub ack_fields : Identity → List Field
ack_fields i =
    (Key.CorrelationId, Some (id_scalar i.correlation))
    ∷ (Key.Kind, Some (words (codes "ack")))
    ∷ (Key.Of, Some (words (kind_name i.kind)))
    ∷ (Key.ProviderNsa, Some (words i.provider))
    ∷ (Key.RequesterNsa, Some (words i.requester))
    ∷ []

-- the object that an acknowledgement is written as
unfoldable pub ack_data : Identity → Data
ack_data i = object (with_fields no_members (ack_fields i))

-- the bytes of a parcel's line, without the end of a line, with its times in this form
abbrev pub parcel_spelling_in : TimeForm → Parcel → List ℕ
parcel_spelling_in form (Parcel.Message m) = spelling_in form m
parcel_spelling_in form (Parcel.Ack i) = compact_text (ack_data i)

-- and as it is written
abbrev pub parcel_spelling : Parcel → List ℕ
parcel_spelling p = parcel_spelling_in TimeForm.DateTime p
