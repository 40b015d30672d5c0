-- A parcel that is written reads as itself.
use Rattle.std.proofs.Common.{◌≡◌, ◌++◌, List, [], ◌∷◌, ℕ, Option, Some, None, option_map, IfSome, IfNone, IsSome, Ok, true, false, refl, ap, ◌∙◌}
use Rattle.std.proofs.lemmas.Bool.{false≢true}
use Rattle.serde_json.specs.Data.{Data, no_members, object}
use Rattle.serde_json.specs.Find.{get}
use Rattle.nsi_primitive.specs.Kinds.{kind_name, kind_named, first_named}
use Rattle.nsi_primitive.specs.Printable.{AreApart, IsPrintableReserve, IsPrintableBody, IsPrintable}
use Rattle.nsi_primitive.specs.declared.kind.Kind.{Kind}
use Rattle.nsi_primitive.specs.declared.message.Header.{Header}
use Rattle.nsi_primitive.specs.declared.message.ReserveRequest.{ReserveRequest}
use Rattle.nsi_primitive.specs.declared.message.NumberRange.{NumberRange}
use Rattle.nsi_primitive.specs.declared.message.Body.{Body}
use Rattle.nsi_primitive.specs.declared.message.Identity.{Identity}
use Rattle.nsi_primitive.specs.declared.message.Message.{Message}
use Rattle.nsi_primitive.specs.declared.message.Parcel.{Parcel}
use Rattle.json_fields.specs.Keys.{name_of}
use Rattle.json_fields.specs.Fields.{wrapped, id_from, name_from, text_from, capacity_from, time_from, version_from, count_from, flag_from, directionality_from, empty_list_from, kind_from}
use Rattle.json_fields.specs.Objects.{Field, digits, words, flag, id_scalar, time_value, directionality_scalar, scalar_data, with_fields, IsReadBack}
use Rattle.json_fields.specs.declared.key.Key.{Key}
use Rattle.json_fields.specs.declared.time_form.TimeForm.{TimeForm}
use Rattle.json_fields.proofs.Members.{field_at, is_absent, are_apart, get_member-with_fields}
use Rattle.json_fields.proofs.Again.{required_again, optional_again, absent_again, text_again, count_again, flag_again, directionality_again, kind_again}
use Rattle.json_fields.proofs.Times.{in_form, in_form_if}
use Rattle.json_primitives.specs.Headers.{header_from}
use Rattle.json_primitives.specs.Requests.{point_from, is_one_point, reserve_from}
use Rattle.json_primitives.specs.Connected.{connected_from, about}
use Rattle.json_primitives.specs.Queries.{summary_from, ranged_from, notifications_from, results_from}
use Rattle.json_primitives.specs.Answers.{failed_from, commit_failed_from, error_message_from}
use Rattle.json_primitives.specs.Lines.{parcel_from, with_kind, as_parcel, ack_from}
use Rattle.json_primitives.specs.Rows.{rows_in}
use Rattle.json_primitives.specs.Spelling.{header_fields, connection_fields, range_fields, fields_of, data_of, ack_fields, ack_data}
use Rattle.json_primitives.specs.Valid.{IsValidHeader, IsValidIdentity, IsValidReserve, IsValidBody, IsValid}
use Rattle.json_primitives.specs.ValidRows.{IsValidRows}
use Rattle.json_primitives.proofs.FoundAt.{found_with, found_at}
use Rattle.json_primitives.proofs.AgainAnswers.{confirmation_at, confirmation_again, refusal_data, refused_again, kind_at}
use Rattle.json_primitives.proofs.AgainRows.{summary_kind, summary_rows_again, notice_kind, notice_rows_again, outcome_kind, outcome_rows_again, recursive_kind, recursive_rows_again}
use Rattle.json_primitives.proofs.AgainNotifications.{timeout_at, timeout_again, fault_at, fault_again, plane_at, plane_again, delivery_at, delivery_again}

abbrev reserve_of : Header → ReserveRequest → Message
reserve_of h r = record { header = h; body = Body.Reserve r }

-- a point that is given, or needn't be, reads again
point_again : (connection : Option ℕ) (key : Key) (d : Data) (o : Option (List ℕ)) → get (name_of key) d ≡ option_map scalar_data (option_map words o) → IfSome o (λ n. IsReadBack name_from (words n) n) → IfNone connection (IsSome o) → point_from connection key d ≡ Ok o
point_again None key d None found form given = absurd (false≢true given)
point_again None key d (Some x) found form given = ap wrapped (required_again name_from key d (words x) x found form)
point_again (Some c) key d o found form given = optional_again name_from key d words o found form

apart_again : (source dest : Option (List ℕ)) → AreApart source dest → is_one_point source dest ≡ false
apart_again None dest apart = refl
apart_again (Some a) None apart = refl
apart_again (Some a) (Some b) apart = apart

-- each point is given where there is no connection
source_given : (o : Option ℕ) (source dest : Option (List ℕ)) → IfNone o (IsSome source × IsSome dest) → IfNone o (IsSome source)
source_given None source dest both = both.0
source_given (Some n) source dest both = tt

dest_given : (o : Option ℕ) (source dest : Option (List ℕ)) → IfNone o (IsSome source × IsSome dest) → IfNone o (IsSome dest)
dest_given None source dest both = both.1
dest_given (Some n) source dest both = tt

-- what stands at a key of a written reserve
at : (form : TimeForm) (h : Header) (r : ReserveRequest) (key : Key) → get (name_of key) (data_of form (reserve_of h r)) ≡ option_map scalar_data (field_at (name_of key) (fields_of form (reserve_of h r)))
unfolding rows_in name_of field_at is_absent are_apart
at form h r key = found_at form (reserve_of h r) key refl refl

reserve_again : (form : TimeForm) (h : Header) (r : ReserveRequest) → IsValidHeader h → IsValidReserve r → IsPrintableReserve r → reserve_from (data_of form (reserve_of h r)) ≡ Ok (reserve_of h r)
unfolding reserve_from name_of field_at header_from
reserve_again form h r vh v p =
    let d = data_of form (reserve_of h r) in
    let capacity = required_again capacity_from Key.Capacity d (digits r.capacity) r.capacity (at form h r Key.Capacity) v.capacity in
    let connection = optional_again id_from Key.ConnectionId d id_scalar r.connection (at form h r Key.ConnectionId) v.connection in
    let correlation = required_again id_from Key.CorrelationId d (id_scalar h.correlation) h.correlation (at form h r Key.CorrelationId) vh.correlation in
    let description = optional_again (text_from 256) Key.Description d words r.description (at form h r Key.Description) (text_again 256 r.description p.description) in
    let dest = point_again r.connection Key.DestStp d r.dest (at form h r Key.DestStp) v.dest (dest_given r.connection r.source r.dest p.complete) in
    let directionality = optional_again directionality_from Key.Directionality d directionality_scalar r.directionality (at form h r Key.Directionality) (directionality_again r.directionality) in
    let end = required_again time_from Key.EndTime d (time_value form r.end) r.end (at form h r Key.EndTime) (in_form form r.end v.end) in
    let ero = absent_again empty_list_from Key.Ero d (at form h r Key.Ero) in
    let global = optional_again (text_from 128) Key.GlobalReservationId d words r.global (at form h r Key.GlobalReservationId) (text_again 128 r.global p.global) in
    let provider = required_again name_from Key.ProviderNsa d (words h.provider) h.provider (at form h r Key.ProviderNsa) vh.provider in
    let requester = required_again name_from Key.RequesterNsa d (words h.requester) h.requester (at form h r Key.RequesterNsa) vh.requester in
    let source = point_again r.connection Key.SourceStp d r.source (at form h r Key.SourceStp) v.source (source_given r.connection r.source r.dest p.complete) in
    let start = optional_again time_from Key.StartTime d (time_value form) r.start (at form h r Key.StartTime) (in_form_if form r.start v.start) in
    let symmetric = optional_again flag_from Key.SymmetricPath d flag r.symmetric (at form h r Key.SymmetricPath) (flag_again r.symmetric) in
    let version = optional_again version_from Key.Version d digits r.version (at form h r Key.Version) v.version in
    let apart = apart_again r.source r.dest p.apart in
    rw (capacity, connection, correlation, description, dest, directionality, end, ero, global, provider, requester, source, start, symmetric, version, apart) refl

-- what says a connection and nothing else is written as
abbrev connected_data : Kind → Header → ℕ → Data
connected_data kind h connection = object (with_fields no_members (header_fields kind h ++ connection_fields connection))

-- what stands at a key of it
connected_at : (kind : Kind) (h : Header) (connection : ℕ) (key : Key) → get (name_of key) (connected_data kind h connection) ≡ option_map scalar_data (field_at (name_of key) (header_fields kind h ++ connection_fields connection))
unfolding name_of field_at is_absent are_apart
connected_at kind h connection key = get_member-with_fields (name_of key) (header_fields kind h ++ connection_fields connection) no_members refl refl

connected_again : (kind : Kind) (h : Header) (connection : ℕ) → IsValidHeader h → IsReadBack id_from (id_scalar connection) connection → connected_from (connected_data kind h connection) ≡ Ok (connection, h)
unfolding connected_from name_of field_at header_from
connected_again kind h connection vh v =
    let d = connected_data kind h connection in
    let about = required_again id_from Key.ConnectionId d (id_scalar connection) connection (connected_at kind h connection Key.ConnectionId) v in
    let correlation = required_again id_from Key.CorrelationId d (id_scalar h.correlation) h.correlation (connected_at kind h connection Key.CorrelationId) vh.correlation in
    let provider = required_again name_from Key.ProviderNsa d (words h.provider) h.provider (connected_at kind h connection Key.ProviderNsa) vh.provider in
    let requester = required_again name_from Key.RequesterNsa d (words h.requester) h.requester (connected_at kind h connection Key.RequesterNsa) vh.requester in
    rw (about, correlation, provider, requester) refl

-- what a query of all connections or of one is written as
abbrev summary_data : Header → Option ℕ → Data
summary_data h connection = object (with_fields no_members (header_fields Kind.QuerySummary h ++ ((Key.ConnectionId, option_map id_scalar connection) ∷ [])))

summary_at : (h : Header) (connection : Option ℕ) (key : Key)
    → get (name_of key) (summary_data h connection) ≡ option_map scalar_data (field_at (name_of key) (header_fields Kind.QuerySummary h ++ ((Key.ConnectionId, option_map id_scalar connection) ∷ [])))
unfolding name_of field_at is_absent are_apart
summary_at h connection key = get_member-with_fields (name_of key) (header_fields Kind.QuerySummary h ++ ((Key.ConnectionId, option_map id_scalar connection) ∷ [])) no_members refl refl

summary_again : (h : Header) (connection : Option ℕ) → IsValidHeader h → IfSome connection (λ n. IsReadBack id_from (id_scalar n) n) → summary_from (summary_data h connection) ≡ Ok (record { header = h; body = Body.QuerySummary connection })
unfolding summary_from name_of field_at header_from
summary_again h connection vh v =
    let d = summary_data h connection in
    let about = optional_again id_from Key.ConnectionId d id_scalar connection (summary_at h connection Key.ConnectionId) v in
    let correlation = required_again id_from Key.CorrelationId d (id_scalar h.correlation) h.correlation (summary_at h connection Key.CorrelationId) vh.correlation in
    let provider = required_again name_from Key.ProviderNsa d (words h.provider) h.provider (summary_at h connection Key.ProviderNsa) vh.provider in
    let requester = required_again name_from Key.RequesterNsa d (words h.requester) h.requester (summary_at h connection Key.RequesterNsa) vh.requester in
    rw (about, correlation, provider, requester) refl

-- what a query of numbers is written as, by the keys of its end and start
abbrev ranged_fields : Kind → Key → Key → Header → NumberRange → List Field
ranged_fields kind end_key start_key h r = header_fields kind h ++ range_fields end_key start_key r

abbrev ranged_data : Kind → Key → Key → Header → NumberRange → Data
ranged_data kind end_key start_key h r = object (with_fields no_members (ranged_fields kind end_key start_key h r))

-- what stands at its keys
record IsRanged (d : Data) (end_key start_key : Key) (h : Header) (r : NumberRange) : Type 0 where
  connection : get (name_of Key.ConnectionId) d ≡ Some (scalar_data (id_scalar r.connection))
  correlation : get (name_of Key.CorrelationId) d ≡ Some (scalar_data (id_scalar h.correlation))
  end : get (name_of end_key) d ≡ option_map scalar_data (option_map digits r.end)
  provider : get (name_of Key.ProviderNsa) d ≡ Some (scalar_data (words h.provider))
  requester : get (name_of Key.RequesterNsa) d ≡ Some (scalar_data (words h.requester))
  start : get (name_of start_key) d ≡ option_map scalar_data (option_map digits r.start)

ranged_again : (d : Data) (end_key start_key : Key) (h : Header) (r : NumberRange) → IsRanged d end_key start_key h r → IsValidHeader h → IsReadBack id_from (id_scalar r.connection) r.connection → ranged_from end_key start_key d ≡ Ok (r, h)
unfolding ranged_from header_from
ranged_again d end_key start_key h r has vh v =
    let about = required_again id_from Key.ConnectionId d (id_scalar r.connection) r.connection has.connection v in
    let correlation = required_again id_from Key.CorrelationId d (id_scalar h.correlation) h.correlation has.correlation vh.correlation in
    let end = optional_again count_from end_key d digits r.end has.end (count_again r.end) in
    let provider = required_again name_from Key.ProviderNsa d (words h.provider) h.provider has.provider vh.provider in
    let requester = required_again name_from Key.RequesterNsa d (words h.requester) h.requester has.requester vh.requester in
    let start = optional_again count_from start_key d digits r.start has.start (count_again r.start) in
    rw (about, correlation, end, provider, requester, start) refl

notifications_at : (h : Header) (r : NumberRange) (key : Key) → get (name_of key) (ranged_data Kind.QueryNotification Key.EndNotificationId Key.StartNotificationId h r) ≡ option_map scalar_data (field_at (name_of key) (ranged_fields Kind.QueryNotification Key.EndNotificationId Key.StartNotificationId h r))
unfolding name_of field_at is_absent are_apart
notifications_at h r key = get_member-with_fields (name_of key) (ranged_fields Kind.QueryNotification Key.EndNotificationId Key.StartNotificationId h r) no_members refl refl

notifications_again : (h : Header) (r : NumberRange) → IsValidHeader h → IsReadBack id_from (id_scalar r.connection) r.connection → ranged_from Key.EndNotificationId Key.StartNotificationId (ranged_data Kind.QueryNotification Key.EndNotificationId Key.StartNotificationId h r) ≡ Ok (r, h)
unfolding name_of field_at
notifications_again h r vh v = ranged_again (ranged_data Kind.QueryNotification Key.EndNotificationId Key.StartNotificationId h r) Key.EndNotificationId Key.StartNotificationId h r (record {
  connection = notifications_at h r Key.ConnectionId;
  correlation = notifications_at h r Key.CorrelationId;
  end = notifications_at h r Key.EndNotificationId;
  provider = notifications_at h r Key.ProviderNsa;
  requester = notifications_at h r Key.RequesterNsa;
  start = notifications_at h r Key.StartNotificationId;
}) vh v

results_at : (h : Header) (r : NumberRange) (key : Key) → get (name_of key) (ranged_data Kind.QueryResult Key.EndResultId Key.StartResultId h r) ≡ option_map scalar_data (field_at (name_of key) (ranged_fields Kind.QueryResult Key.EndResultId Key.StartResultId h r))
unfolding name_of field_at is_absent are_apart
results_at h r key = get_member-with_fields (name_of key) (ranged_fields Kind.QueryResult Key.EndResultId Key.StartResultId h r) no_members refl refl

results_again : (h : Header) (r : NumberRange) → IsValidHeader h → IsReadBack id_from (id_scalar r.connection) r.connection → ranged_from Key.EndResultId Key.StartResultId (ranged_data Kind.QueryResult Key.EndResultId Key.StartResultId h r) ≡ Ok (r, h)
unfolding name_of field_at
results_again h r vh v = ranged_again (ranged_data Kind.QueryResult Key.EndResultId Key.StartResultId h r) Key.EndResultId Key.StartResultId h r (record {
  connection = results_at h r Key.ConnectionId;
  correlation = results_at h r Key.CorrelationId;
  end = results_at h r Key.EndResultId;
  provider = results_at h r Key.ProviderNsa;
  requester = results_at h r Key.RequesterNsa;
  start = results_at h r Key.StartResultId;
}) vh v

about_again : (kind : Kind) (body : ℕ → Body) (h : Header) (connection : ℕ) → IsValidHeader h → IsReadBack id_from (id_scalar connection) connection → about body (connected_data kind h connection) ≡ Ok (record { header = h; body = body connection })
unfolding about
about_again kind body h connection vh v = rw (connected_again kind h connection vh v) refl

-- the parcel of a message
abbrev parcel_of : Header → Body → Parcel
parcel_of h b = Parcel.Message (record { header = h; body = b })

body_again : (form : TimeForm) (h : Header) (b : Body) → IsValidHeader h → IsValidBody b → IsValidRows b → IsPrintableBody b → parcel_from (data_of form (record { header = h; body = b })) ≡ Ok (parcel_of h b)
unfolding data_of rows_in name_of field_at kind_name kind_named first_named notifications_from results_from failed_from commit_failed_from error_message_from
body_again form h (Body.Reserve r) vh v rows_valid p = ap (with_kind (data_of form (reserve_of h r))) (at form h r Key.Kind) ∙ ap as_parcel (reserve_again form h r vh v p)
body_again form h (Body.ReserveResponse c) vh v rows_valid p =
    ap (with_kind (connected_data Kind.ReserveResponse h c)) (connected_at Kind.ReserveResponse h c Key.Kind) ∙ ap as_parcel (about_again Kind.ReserveResponse Body.ReserveResponse h c vh v)
body_again form h (Body.ReserveCommit c) vh v rows_valid p =
    ap (with_kind (connected_data Kind.ReserveCommit h c)) (connected_at Kind.ReserveCommit h c Key.Kind) ∙ ap as_parcel (about_again Kind.ReserveCommit Body.ReserveCommit h c vh v)
body_again form h (Body.ReserveCommitConfirmed c) vh v rows_valid p =
    ap (with_kind (connected_data Kind.ReserveCommitConfirmed h c)) (connected_at Kind.ReserveCommitConfirmed h c Key.Kind) ∙ ap as_parcel (about_again Kind.ReserveCommitConfirmed Body.ReserveCommitConfirmed h c vh v)
body_again form h (Body.ReserveAbort c) vh v rows_valid p =
    ap (with_kind (connected_data Kind.ReserveAbort h c)) (connected_at Kind.ReserveAbort h c Key.Kind) ∙ ap as_parcel (about_again Kind.ReserveAbort Body.ReserveAbort h c vh v)
body_again form h (Body.ReserveAbortConfirmed c) vh v rows_valid p =
    ap (with_kind (connected_data Kind.ReserveAbortConfirmed h c)) (connected_at Kind.ReserveAbortConfirmed h c Key.Kind) ∙ ap as_parcel (about_again Kind.ReserveAbortConfirmed Body.ReserveAbortConfirmed h c vh v)
body_again form h (Body.Provision c) vh v rows_valid p =
    ap (with_kind (connected_data Kind.Provision h c)) (connected_at Kind.Provision h c Key.Kind) ∙ ap as_parcel (about_again Kind.Provision Body.Provision h c vh v)
body_again form h (Body.ProvisionConfirmed c) vh v rows_valid p =
    ap (with_kind (connected_data Kind.ProvisionConfirmed h c)) (connected_at Kind.ProvisionConfirmed h c Key.Kind) ∙ ap as_parcel (about_again Kind.ProvisionConfirmed Body.ProvisionConfirmed h c vh v)
body_again form h (Body.Release c) vh v rows_valid p =
    ap (with_kind (connected_data Kind.Release h c)) (connected_at Kind.Release h c Key.Kind) ∙ ap as_parcel (about_again Kind.Release Body.Release h c vh v)
body_again form h (Body.ReleaseConfirmed c) vh v rows_valid p =
    ap (with_kind (connected_data Kind.ReleaseConfirmed h c)) (connected_at Kind.ReleaseConfirmed h c Key.Kind) ∙ ap as_parcel (about_again Kind.ReleaseConfirmed Body.ReleaseConfirmed h c vh v)
body_again form h (Body.Terminate c) vh v rows_valid p =
    ap (with_kind (connected_data Kind.Terminate h c)) (connected_at Kind.Terminate h c Key.Kind) ∙ ap as_parcel (about_again Kind.Terminate Body.Terminate h c vh v)
body_again form h (Body.TerminateConfirmed c) vh v rows_valid p =
    ap (with_kind (connected_data Kind.TerminateConfirmed h c)) (connected_at Kind.TerminateConfirmed h c Key.Kind) ∙ ap as_parcel (about_again Kind.TerminateConfirmed Body.TerminateConfirmed h c vh v)
body_again form h (Body.QueryRecursive c) vh v rows_valid p =
    ap (with_kind (connected_data Kind.QueryRecursive h c)) (connected_at Kind.QueryRecursive h c Key.Kind) ∙ ap as_parcel (about_again Kind.QueryRecursive Body.QueryRecursive h c vh v)
body_again form h (Body.ReserveConfirmed r) vh v rows_valid p = ap (with_kind (data_of form (record { header = h; body = Body.ReserveConfirmed r }))) (confirmation_at form h r Key.Kind) ∙ ap as_parcel (confirmation_again form h r vh v p.0 p.1)
body_again form h (Body.ReserveFailed c e) vh v rows_valid p =
    let d = refusal_data Kind.ReserveFailed h (Some c) e.nsa e.cause in
    ap (with_kind d) (kind_at Kind.ReserveFailed h (Some c) e.nsa e.cause) ∙ rw (refused_again true Kind.ReserveFailed h (Some c) e vh v.0 refl v.1 p) refl
body_again form h (Body.ReserveCommitFailed c e) vh v rows_valid p =
    let d = refusal_data Kind.ReserveCommitFailed h (Some c) e.nsa e.cause in
    ap (with_kind d) (kind_at Kind.ReserveCommitFailed h (Some c) e.nsa e.cause) ∙ rw (refused_again true Kind.ReserveCommitFailed h (Some c) e vh v.0 refl v.1 p) refl
body_again form h (Body.Error c e) vh v rows_valid p =
    let d = refusal_data Kind.Error h c e.nsa e.cause in
    ap (with_kind d) (kind_at Kind.Error h c e.nsa e.cause) ∙ rw (refused_again false Kind.Error h c e vh v.0 tt v.1 p) refl
body_again form h (Body.ReserveTimeout t) vh v rows_valid p = ap (with_kind (data_of form (record { header = h; body = Body.ReserveTimeout t }))) (timeout_at form h t Key.Kind) ∙ ap as_parcel (timeout_again form h t vh v)
body_again form h (Body.ErrorEvent n) vh v rows_valid p = ap (with_kind (data_of form (record { header = h; body = Body.ErrorEvent n }))) (fault_at form h n Key.Kind) ∙ ap as_parcel (fault_again form h n vh v)
body_again form h (Body.DataPlaneStateChange n) vh v rows_valid p = ap (with_kind (data_of form (record { header = h; body = Body.DataPlaneStateChange n }))) (plane_at form h n Key.Kind) ∙ ap as_parcel (plane_again form h n vh v)
body_again form h (Body.MessageDeliveryTimeout t) vh v rows_valid p = ap (with_kind (data_of form (record { header = h; body = Body.MessageDeliveryTimeout t }))) (delivery_at form h t Key.Kind) ∙ ap as_parcel (delivery_again form h t vh v)
body_again form h (Body.QuerySummary c) vh v rows_valid p = ap (with_kind (summary_data h c)) (summary_at h c Key.Kind) ∙ ap as_parcel (summary_again h c vh v)
body_again form h (Body.QueryNotification r) vh v rows_valid p =
    let d = ranged_data Kind.QueryNotification Key.EndNotificationId Key.StartNotificationId h r in
    ap (with_kind d) (notifications_at h r Key.Kind) ∙ rw (notifications_again h r vh v) refl
body_again form h (Body.QueryResult r) vh v rows_valid p =
    let d = ranged_data Kind.QueryResult Key.EndResultId Key.StartResultId h r in
    ap (with_kind d) (results_at h r Key.Kind) ∙ rw (results_again h r vh v) refl
body_again form h (Body.QuerySummaryConfirmed more rows) vh v rows_valid p =
    ap (with_kind (data_of form (record { header = h; body = Body.QuerySummaryConfirmed more rows }))) (summary_kind form h more rows) ∙ ap as_parcel (summary_rows_again form h more rows vh rows_valid p)
body_again form h (Body.QueryNotificationConfirmed c more rows) vh v rows_valid p =
    ap (with_kind (data_of form (record { header = h; body = Body.QueryNotificationConfirmed c more rows }))) (notice_kind form h c more rows) ∙ ap as_parcel (notice_rows_again form h c more rows vh v rows_valid)
body_again form h (Body.QueryResultConfirmed c more rows) vh v rows_valid p =
    ap (with_kind (data_of form (record { header = h; body = Body.QueryResultConfirmed c more rows }))) (outcome_kind form h c more rows) ∙ ap as_parcel (outcome_rows_again form h c more rows vh v rows_valid)
body_again form h (Body.QueryRecursiveConfirmed c more rows) vh v rows_valid p =
    ap (with_kind (data_of form (record { header = h; body = Body.QueryRecursiveConfirmed c more rows }))) (recursive_kind form h c more rows) ∙ ap as_parcel (recursive_rows_again form h c more rows vh v rows_valid)

pub message_again : (form : TimeForm) (m : Message) → IsValid m → IsValidRows m.body → IsPrintable m → parcel_from (data_of form m) ≡ Ok (Parcel.Message m)
message_again form m v rows_valid p = body_again form m.header m.body v.0 v.1 rows_valid p

---- Acknowledgements

ack_at : (i : Identity) (key : Key) → get (name_of key) (ack_data i) ≡ option_map scalar_data (field_at (name_of key) (ack_fields i))
unfolding ack_data name_of field_at is_absent are_apart
ack_at i key = found_with (ack_fields i) key refl

ack_read_again : (i : Identity) → IsValidIdentity i → ack_from (ack_data i) ≡ Ok (Parcel.Ack i)
unfolding ack_from name_of field_at
ack_read_again i v =
    let d = ack_data i in
    let correlation = required_again id_from Key.CorrelationId d (id_scalar i.correlation) i.correlation (ack_at i Key.CorrelationId) v.correlation in
    let kind = required_again kind_from Key.Of d (words (kind_name i.kind)) i.kind (ack_at i Key.Of) (kind_again i.kind) in
    let provider = required_again name_from Key.ProviderNsa d (words i.provider) i.provider (ack_at i Key.ProviderNsa) v.provider in
    let requester = required_again name_from Key.RequesterNsa d (words i.requester) i.requester (ack_at i Key.RequesterNsa) v.requester in
    rw (correlation, kind, provider, requester) refl

pub ack_again : (i : Identity) → IsValidIdentity i → parcel_from (ack_data i) ≡ Ok (Parcel.Ack i)
unfolding ack_data name_of field_at kind_name kind_named first_named
ack_again i v = ap (with_kind (ack_data i)) (ack_at i Key.Kind) ∙ ack_read_again i v
