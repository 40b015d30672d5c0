-- The lines of messages read as their objects.
use Rattle.std.proofs.Common.{◌≡◌, ◌≤◌, ℕ, List, [], ◌∷◌, ◌++◌, Bool, true, codes, Option, Some, None, IfSome, option_map, map, refl, inl, arith}
use Rattle.std.specs.List.{AllByRecursion}
use Rattle.std.specs.Str.{IsUtf8}
use Rattle.std.proofs.lemmas.Str.{IsUtf8-from_ascii}
use Rattle.json.proofs.Printed.Utf8.{are_ascii, IsUtf8-are_ascii}
use Rattle.serde_json.specs.Data.{Members}
use Rattle.serde_json.specs.Written.{compact_text}
use Rattle.uuid.specs.Text.{lower}
use Rattle.uuid.proofs.TextLemmas.{urn_ascii}
use Rattle.nsi_base.specs.declared.flow.Flow.{Flow}
use Rattle.nsi_base.proofs.Ascii.{IsUtf8-from_name}
use Rattle.nsi_primitive.specs.Ids.{bytes_of, id_text}
use Rattle.nsi_primitive.specs.Kinds.{kind_name, error_text, event_text, direction_text}
use Rattle.nsi_primitive.specs.Messages.{kind_of}
use Rattle.nsi_primitive.specs.Ranges.{IsCount, IsSecond, IsMbps, IsVersion, IsHoldTime, IsName, IsRangedHeader, IsRangedIdentity, IsRangedReserve, IsRangedConfirmation, IsRangedCause, IsRangedException, IsRangedTimeout, IsRangedFault, IsRangedPlane, IsRangedDelivery, IsRangedNumbers, IsRangedSummary, IsRangedRecursive, IsRangedNotice, IsRangedOutcome, IsRangedBody, IsRanged}
use Rattle.nsi_primitive.specs.States.{rsm_text, psm_text, lsm_text}
use Rattle.nsi_primitive.specs.declared.kind.Directionality.{Directionality}
use Rattle.nsi_primitive.specs.declared.kind.ErrorName.{ErrorName}
use Rattle.nsi_primitive.specs.declared.kind.FaultEvent.{FaultEvent}
use Rattle.nsi_primitive.specs.declared.kind.Kind.{Kind}
use Rattle.nsi_primitive.specs.declared.message.Body.{Body}
use Rattle.nsi_primitive.specs.declared.message.Cause.{Cause}
use Rattle.nsi_primitive.specs.declared.message.DeliveryTimeout.{DeliveryTimeout}
use Rattle.nsi_primitive.specs.declared.message.Exception.{Exception}
use Rattle.nsi_primitive.specs.declared.message.FaultNotice.{FaultNotice}
use Rattle.nsi_primitive.specs.declared.message.Header.{Header}
use Rattle.nsi_primitive.specs.declared.message.HoldTimeout.{HoldTimeout}
use Rattle.nsi_primitive.specs.declared.message.Identity.{Identity}
use Rattle.nsi_primitive.specs.declared.message.Message.{Message}
use Rattle.nsi_primitive.specs.declared.message.Notice.{Notice}
use Rattle.nsi_primitive.specs.declared.message.NumberRange.{NumberRange}
use Rattle.nsi_primitive.specs.declared.message.Outcome.{Outcome}
use Rattle.nsi_primitive.specs.declared.message.PlaneNotice.{PlaneNotice}
use Rattle.nsi_primitive.specs.declared.message.RecursiveRow.{RecursiveRow}
use Rattle.nsi_primitive.specs.declared.message.ReserveConfirmation.{ReserveConfirmation}
use Rattle.nsi_primitive.specs.declared.message.ReserveRequest.{ReserveRequest}
use Rattle.nsi_primitive.specs.declared.message.SummaryRow.{SummaryRow}
use Rattle.nsi_primitive.specs.declared.state.Rsm.{Rsm}
use Rattle.nsi_primitive.specs.declared.state.Psm.{Psm}
use Rattle.nsi_primitive.specs.declared.state.Lsm.{Lsm}
use Rattle.json_fields.specs.Fields.{json_of}
use Rattle.json_fields.specs.Objects.{Scalar, digits, words, flag, id_scalar, time_value, directionality_scalar, Field}
use Rattle.json_fields.specs.declared.key.Key.{Key}
use Rattle.json_fields.specs.declared.time_form.TimeForm.{TimeForm}
use Rattle.json_fields.proofs.Times.{time_plain}
use Rattle.json_fields.proofs.PlainFields.{IsPlainScalar, IsPlainField, IsPlainRow, ArePlainWithin, plain_fields, plain_row, plain_rows, wider, object_spelled}
use Rattle.json_primitives.specs.Rows.{summary_fields, recursive_fields, notice_fields, outcome_fields, row_data, rows_in}
use Rattle.json_primitives.specs.Spelling.{header_fields, reserve_fields, connection_fields, confirmation_fields, flow_text, cause_fields, refusal_fields, timeout_fields, fault_fields, plane_fields, delivery_fields, range_fields, body_fields, fields_of, with_rows_in, data_of, ack_fields, ack_data}

---- Scalars

id_plain : (id : ℕ) → IsPlainScalar (id_scalar id)
unfolding id_text
id_plain id = IsUtf8-from_ascii _ (urn_ascii lower (bytes_of id) (inl refl))

name_plain : (name : List ℕ) → IsName name → IsPlainScalar (words name)
name_plain name h = IsUtf8-from_name name h

second_plain : (n : ℕ) → IsSecond n → IsPlainScalar (digits n)
second_plain n h = omega (arith, h)

mbps_plain : (n : ℕ) → IsMbps n → IsPlainScalar (digits n)
mbps_plain n h = let most = h.1 in omega (arith, most)

version_plain : (n : ℕ) → IsVersion n → IsPlainScalar (digits n)
version_plain n h = omega (arith, h)

hold_plain : (n : ℕ) → IsHoldTime n → IsPlainScalar (digits n)
hold_plain n h = let most = h.1 in omega (arith, most)

depth_plain : (n : ℕ) → n ≤ 255 → IsPlainScalar (digits n)
depth_plain n h = omega (arith, h)

if_given : {A : Type 0} (P : A → Type 0) (wrap : A → Scalar) → ((x : A) → P x → IsPlainScalar (wrap x)) → (o : Option A) → IfSome o P → IfSome (option_map wrap o) IsPlainScalar
if_given P wrap f None h = tt
if_given P wrap f (Some x) h = f x h

ids_plain : (o : Option ℕ) → IfSome (option_map id_scalar o) IsPlainScalar
ids_plain None = tt
ids_plain (Some id) = id_plain id

names_plain : (o : Option (List ℕ)) → IfSome o IsName → IfSome (option_map words o) IsPlainScalar
names_plain o h = if_given IsName words name_plain o h

texts_plain : (o : Option (List ℕ)) → IfSome o IsUtf8 → IfSome (option_map words o) IsPlainScalar
texts_plain o h = if_given IsUtf8 words (λ t u. u) o h

versions_plain : (o : Option ℕ) → IfSome o IsVersion → IfSome (option_map digits o) IsPlainScalar
versions_plain o h = if_given IsVersion digits version_plain o h

counts_plain : (o : Option ℕ) → IfSome o IsCount → IfSome (option_map digits o) IsPlainScalar
counts_plain o h = if_given IsCount digits (λ n c. c) o h

times_plain : (form : TimeForm) (o : Option ℕ) → IfSome o IsSecond → IfSome (option_map (time_value form) o) IsPlainScalar
times_plain form o h = if_given IsSecond (time_value form) (time_plain form) o h

flags_plain : (o : Option Bool) → IfSome (option_map flag o) IsPlainScalar
flags_plain None = tt
flags_plain (Some b) = tt

ascii_kind : (k : Kind) → are_ascii (kind_name k) ≡ true
unfolding kind_name
ascii_kind Kind.Reserve = refl
ascii_kind Kind.ReserveResponse = refl
ascii_kind Kind.ReserveConfirmed = refl
ascii_kind Kind.ReserveFailed = refl
ascii_kind Kind.ReserveCommit = refl
ascii_kind Kind.ReserveCommitConfirmed = refl
ascii_kind Kind.ReserveCommitFailed = refl
ascii_kind Kind.ReserveAbort = refl
ascii_kind Kind.ReserveAbortConfirmed = refl
ascii_kind Kind.Provision = refl
ascii_kind Kind.ProvisionConfirmed = refl
ascii_kind Kind.Release = refl
ascii_kind Kind.ReleaseConfirmed = refl
ascii_kind Kind.Terminate = refl
ascii_kind Kind.TerminateConfirmed = refl
ascii_kind Kind.Error = refl
ascii_kind Kind.ReserveTimeout = refl
ascii_kind Kind.ErrorEvent = refl
ascii_kind Kind.DataPlaneStateChange = refl
ascii_kind Kind.MessageDeliveryTimeout = refl
ascii_kind Kind.QuerySummary = refl
ascii_kind Kind.QuerySummaryConfirmed = refl
ascii_kind Kind.QueryNotification = refl
ascii_kind Kind.QueryNotificationConfirmed = refl
ascii_kind Kind.QueryResult = refl
ascii_kind Kind.QueryResultConfirmed = refl
ascii_kind Kind.QueryRecursive = refl
ascii_kind Kind.QueryRecursiveConfirmed = refl

kind_plain : (k : Kind) → IsPlainScalar (words (kind_name k))
kind_plain k = IsUtf8-are_ascii (kind_name k) (ascii_kind k)

ascii_error : (e : ErrorName) → are_ascii (error_text e) ≡ true
unfolding error_text
ascii_error ErrorName.Payload = refl
ascii_error ErrorName.Version = refl
ascii_error ErrorName.WrongProvider = refl
ascii_error ErrorName.Nonexistent = refl
ascii_error ErrorName.Gone = refl
ascii_error ErrorName.InvalidTransition = refl
ascii_error ErrorName.VersionLow = refl
ascii_error ErrorName.UnknownStp = refl
ascii_error ErrorName.Schedule = refl
ascii_error ErrorName.Bandwidth = refl
ascii_error ErrorName.Passed = refl
ascii_error ErrorName.NoPath = refl
ascii_error ErrorName.Child = refl
ascii_error ErrorName.Timeout = refl

error_plain : (e : ErrorName) → IsPlainScalar (words (error_text e))
error_plain e = IsUtf8-are_ascii (error_text e) (ascii_error e)

ascii_event : (e : FaultEvent) → are_ascii (event_text e) ≡ true
unfolding event_text
ascii_event FaultEvent.ForcedEnd = refl

event_plain : (e : FaultEvent) → IsPlainScalar (words (event_text e))
event_plain e = IsUtf8-are_ascii (event_text e) (ascii_event e)

ascii_direction : (d : Directionality) → are_ascii (direction_text d) ≡ true
unfolding direction_text
ascii_direction Directionality.Bidirectional = refl
ascii_direction Directionality.Unidirectional = refl

direction_plain : (d : Directionality) → IsPlainScalar (directionality_scalar d)
direction_plain d = IsUtf8-are_ascii (direction_text d) (ascii_direction d)

directions_plain : (o : Option Directionality) → IfSome (option_map directionality_scalar o) IsPlainScalar
directions_plain None = tt
directions_plain (Some d) = direction_plain d

ascii_rsm : (s : Rsm) → are_ascii (rsm_text s) ≡ true
unfolding rsm_text
ascii_rsm Rsm.ReserveStart = refl
ascii_rsm Rsm.ReserveChecking = refl
ascii_rsm Rsm.ReserveFailed = refl
ascii_rsm Rsm.ReserveHeld = refl
ascii_rsm Rsm.ReserveCommitting = refl
ascii_rsm Rsm.ReserveTimeout = refl
ascii_rsm Rsm.ReserveAborting = refl

ascii_psm : (s : Psm) → are_ascii (psm_text s) ≡ true
unfolding psm_text
ascii_psm Psm.Released = refl
ascii_psm Psm.Provisioning = refl
ascii_psm Psm.Provisioned = refl
ascii_psm Psm.Releasing = refl

ascii_lsm : (s : Lsm) → are_ascii (lsm_text s) ≡ true
unfolding lsm_text
ascii_lsm Lsm.Created = refl
ascii_lsm Lsm.Failed = refl
ascii_lsm Lsm.PassedEndTime = refl
ascii_lsm Lsm.Terminating = refl
ascii_lsm Lsm.Terminated = refl

rsm_plain : (s : Rsm) → IsPlainScalar (words (rsm_text s))
rsm_plain s = IsUtf8-are_ascii (rsm_text s) (ascii_rsm s)

psm_plain : (s : Psm) → IsPlainScalar (words (psm_text s))
psm_plain s = IsUtf8-are_ascii (psm_text s) (ascii_psm s)

lsm_plain : (s : Lsm) → IsPlainScalar (words (lsm_text s))
lsm_plain s = IsUtf8-are_ascii (lsm_text s) (ascii_lsm s)

flow_plain : (f : Flow) → IfSome (option_map words (flow_text f)) IsPlainScalar
flow_plain Flow.Both = tt
flow_plain Flow.In = IsUtf8-are_ascii (codes "in") refl
flow_plain Flow.Out = IsUtf8-are_ascii (codes "out") refl

---- The fields of each kind

header_plain : (kind : Kind) (h : Header) → IsRangedHeader h → AllByRecursion IsPlainField (header_fields kind h)
header_plain kind h r = (id_plain h.correlation, (kind_plain kind, (name_plain h.provider r.provider, (name_plain h.requester r.requester, tt))))

reserve_plain : (form : TimeForm) (x : ReserveRequest) → IsRangedReserve x → AllByRecursion IsPlainField (reserve_fields form x)
reserve_plain form x r = (mbps_plain x.capacity r.capacity, (ids_plain x.connection, (texts_plain x.description r.description, (names_plain x.dest r.dest, (directions_plain x.directionality, (time_plain form x.end r.end, (texts_plain x.global r.global, (names_plain x.source r.source, (times_plain form x.start r.start, (flags_plain x.symmetric, (versions_plain x.version r.version, tt)))))))))))

confirmation_plain : (form : TimeForm) (x : ReserveConfirmation) → IsRangedConfirmation x → AllByRecursion IsPlainField (confirmation_fields form x)
confirmation_plain form x r = (mbps_plain x.capacity r.capacity, (id_plain x.connection, (texts_plain x.description r.description, (name_plain x.dest r.dest, (direction_plain x.directionality, (time_plain form x.end r.end, (texts_plain x.global r.global, (name_plain x.source r.source, (time_plain form x.start r.start, (flags_plain x.symmetric, (version_plain x.version r.version, tt)))))))))))

connection_plain : (id : ℕ) → AllByRecursion IsPlainField (connection_fields id)
connection_plain id = (id_plain id, tt)

cause_plain : (c : Cause) → IsRangedCause c → AllByRecursion IsPlainField (cause_fields c)
cause_plain (Cause.Plain error) r = (error_plain error, tt)
cause_plain (Cause.Bandwidth stp flow second load capacity) r = (mbps_plain capacity r.3, (flow_plain flow, (error_plain ErrorName.Bandwidth, (r.2, (second_plain second r.1, (name_plain stp r.0, tt))))))
cause_plain (Cause.Child child error) r = (name_plain child r, (error_plain error, (error_plain ErrorName.Child, tt)))

refusal_plain : (connection : Option ℕ) (e : Exception) → IsRangedException e → AllByRecursion IsPlainField (refusal_fields connection e)
refusal_plain connection e r = (ids_plain connection, (name_plain e.nsa r.nsa, cause_plain e.cause r.cause))

timeout_plain : (t : HoldTimeout) → IsRangedTimeout t → AllByRecursion IsPlainField (timeout_fields t)
timeout_plain t r = (id_plain t.connection, (r.notification, (id_plain t.originating_connection, (name_plain t.originating_nsa r.originating_nsa, (second_plain t.time r.time, (hold_plain t.value r.value, tt))))))

fault_plain : (n : FaultNotice) → IsRangedFault n → AllByRecursion IsPlainField (fault_fields n)
fault_plain n r = (id_plain n.connection, (event_plain n.event, (r.notification, (id_plain n.originating_connection, (name_plain n.originating_nsa r.originating_nsa, (second_plain n.time r.time, tt))))))

plane_plain : (n : PlaneNotice) → IsRangedPlane n → AllByRecursion IsPlainField (plane_fields n)
plane_plain n r = (tt, (id_plain n.connection, (r.notification, (second_plain n.time r.time, (version_plain n.version r.version, (tt, tt))))))

delivery_plain : (t : DeliveryTimeout) → IsRangedDelivery t → AllByRecursion IsPlainField (delivery_fields t)
delivery_plain t r = (id_plain t.connection, (id_plain t.delivery, (r.notification, (second_plain t.time r.time, tt))))

range_plain : (end_key start_key : Key) (x : NumberRange) → IsRangedNumbers x → AllByRecursion IsPlainField (range_fields end_key start_key x)
range_plain end_key start_key x r = (id_plain x.connection, (counts_plain x.end r.end, (counts_plain x.start r.start, tt)))

body_plain : (form : TimeForm) (b : Body) → IsRangedBody b → AllByRecursion IsPlainField (body_fields form b)
body_plain form (Body.Reserve x) r = reserve_plain form x r
body_plain form (Body.ReserveResponse connection) r = connection_plain connection
body_plain form (Body.ReserveCommit connection) r = connection_plain connection
body_plain form (Body.ReserveCommitConfirmed connection) r = connection_plain connection
body_plain form (Body.ReserveAbort connection) r = connection_plain connection
body_plain form (Body.ReserveAbortConfirmed connection) r = connection_plain connection
body_plain form (Body.Provision connection) r = connection_plain connection
body_plain form (Body.ProvisionConfirmed connection) r = connection_plain connection
body_plain form (Body.Release connection) r = connection_plain connection
body_plain form (Body.ReleaseConfirmed connection) r = connection_plain connection
body_plain form (Body.Terminate connection) r = connection_plain connection
body_plain form (Body.TerminateConfirmed connection) r = connection_plain connection
body_plain form (Body.QueryRecursive connection) r = connection_plain connection
body_plain form (Body.ReserveConfirmed x) r = confirmation_plain form x r
body_plain form (Body.ReserveFailed connection e) r = refusal_plain (Some connection) e r.1
body_plain form (Body.ReserveCommitFailed connection e) r = refusal_plain (Some connection) e r.1
body_plain form (Body.Error connection e) r = refusal_plain connection e r.1
body_plain form (Body.ReserveTimeout t) r = timeout_plain t r
body_plain form (Body.ErrorEvent n) r = fault_plain n r
body_plain form (Body.DataPlaneStateChange n) r = plane_plain n r
body_plain form (Body.MessageDeliveryTimeout t) r = delivery_plain t r
body_plain form (Body.QuerySummary connection) r = (ids_plain connection, tt)
body_plain form (Body.QueryNotification x) r = range_plain Key.EndNotificationId Key.StartNotificationId x r
body_plain form (Body.QueryResult x) r = range_plain Key.EndResultId Key.StartResultId x r
body_plain form (Body.QuerySummaryConfirmed more rows) r = (tt, tt)
body_plain form (Body.QueryNotificationConfirmed connection more rows) r = (id_plain connection, (tt, tt))
body_plain form (Body.QueryResultConfirmed connection more rows) r = (id_plain connection, (tt, tt))
body_plain form (Body.QueryRecursiveConfirmed connection more rows) r = (id_plain connection, (tt, tt))

both_plain : (fs gs : List Field) → AllByRecursion IsPlainField fs → AllByRecursion IsPlainField gs → AllByRecursion IsPlainField (fs ++ gs)
both_plain [] gs p q = q
both_plain (f ∷ fs) gs p q = (p.0, both_plain fs gs p.1 q)

---- Rows

summary_plain : (form : TimeForm) (x : SummaryRow) → IsRangedSummary x → AllByRecursion IsPlainField (summary_fields form x)
summary_plain form x r = (tt, (if_given IsMbps digits mbps_plain x.capacity r.capacity, (id_plain x.connection, (texts_plain x.description r.description, (name_plain x.dest r.dest, (direction_plain x.directionality, (times_plain form x.end r.end, (texts_plain x.global r.global, (lsm_plain x.lifecycle, (psm_plain x.provision, (rsm_plain x.reservation, (name_plain x.source r.source, (times_plain form x.start r.start, (versions_plain x.version r.version, tt))))))))))))))

recursive_plain : (x : RecursiveRow) → IsRangedRecursive x → AllByRecursion IsPlainField (recursive_fields x)
recursive_plain x r = (id_plain x.connection, (depth_plain x.depth r.depth, (lsm_plain x.lifecycle, (name_plain x.provider r.provider, (psm_plain x.provision, (rsm_plain x.reservation, (versions_plain x.version r.version, tt)))))))

notice_plain : (n : Notice) → IsRangedNotice n → AllByRecursion IsPlainField (notice_fields n)
notice_plain n r = (id_plain n.correlation, (kind_plain n.kind, (r.number, (second_plain n.second r.second, tt))))

outcome_plain : (o : Outcome) → IsRangedOutcome o → AllByRecursion IsPlainField (outcome_fields o)
outcome_plain o r = (id_plain o.correlation, (kind_plain o.kind, (r.number, (second_plain o.second r.second, tt))))

row_plain : (fs : List Field) → AllByRecursion IsPlainField fs → IsPlainRow (row_data fs)
unfolding row_data
row_plain fs h = plain_row fs h

each_plain : {A : Type 0} (P : A → Type 0) (fields : A → List Field) → ((x : A) → P x → AllByRecursion IsPlainField (fields x)) → (rows : List A) → AllByRecursion P rows → AllByRecursion IsPlainRow (map (λ r. row_data (fields r)) rows)
each_plain P fields f [] h = tt
each_plain P fields f (x ∷ xs) h = (row_plain (fields x) (f x h.0), each_plain P fields f xs h.1)

with_rows_plain : (form : TimeForm) (b : Body) → IsRangedBody b → (ms : Members) → ArePlainWithin 0 ms → ArePlainWithin 2 (with_rows_in (rows_in form b) ms)
unfolding rows_in
with_rows_plain form (Body.QuerySummaryConfirmed more rows) r ms p = plain_rows Key.Reservations _ ms (each_plain IsRangedSummary (summary_fields form) (summary_plain form) rows r) p
with_rows_plain form (Body.QueryNotificationConfirmed connection more rows) r ms p = plain_rows Key.Notifications _ ms (each_plain IsRangedNotice notice_fields notice_plain rows r.1) p
with_rows_plain form (Body.QueryResultConfirmed connection more rows) r ms p = plain_rows Key.Results _ ms (each_plain IsRangedOutcome outcome_fields outcome_plain rows r.1) p
with_rows_plain form (Body.QueryRecursiveConfirmed connection more rows) r ms p = plain_rows Key.Reservations _ ms (each_plain IsRangedRecursive recursive_fields recursive_plain rows r.1) p
with_rows_plain form _ r ms p = wider ms p

---- Lines

-- the line of a message reads as its object
pub message_spelled : (form : TimeForm) (m : Message) → IsRanged m → json_of (compact_text (data_of form m)) ≡ Some (data_of form m)
unfolding data_of
message_spelled form m r = object_spelled _ (with_rows_plain form m.body r.body _ (plain_fields (fields_of form m) (both_plain (header_fields (kind_of m.body) m.header) (body_fields form m.body) (header_plain (kind_of m.body) m.header r.header) (body_plain form m.body r.body))))

ack_plain : (i : Identity) → IsRangedIdentity i → AllByRecursion IsPlainField (ack_fields i)
ack_plain i r = (id_plain i.correlation, (IsUtf8-are_ascii (codes "ack") refl, (kind_plain i.kind, (name_plain i.provider r.provider, (name_plain i.requester r.requester, tt)))))

pub ack_spelled : (i : Identity) → IsRangedIdentity i → json_of (compact_text (ack_data i)) ≡ Some (ack_data i)
unfolding ack_data
ack_spelled i r = object_spelled _ (wider _ (plain_fields (ack_fields i) (ack_plain i r)))
