-- What is read from a line has a spelling.
use Rattle.std.proofs.Common.{◌≡◌, ◌≤◌, ℕ, Bool, true, false, nat_le, nat_lt, if◌then◌else◌, List, ◌∷◌, length, Option, Some, None, option_map, option_and_then, IfSome, IfNone, IsSome, is_some, Result, Ok, Err, IfOk, arith, refl, subst}
use Rattle.std.proofs.lemmas.Bool.Decides.{nat_tests}
use Rattle.std.proofs.lemmas.List.Elements.{All-nil, All-cons}
use Rattle.std.specs.List.{All}
use Rattle.serde_json.specs.Data.{Data, Items, no_items, item}
use Rattle.serde_json.specs.Find.{get, as_str, as_object, as_array}
use Rattle.std.specs.Str.{bytes_eq}
use Rattle.std.specs.Prelude.{codes}
use Rattle.nsi_primitive.specs.Kinds.{kind_named}
use Rattle.nsi_primitive.specs.Printable.{IsPrintableParcel, AreApart, IsShort, IsPrintableCause, IsPrintableBody, IsPrintable, has_further_keys}
use Rattle.nsi_primitive.specs.declared.kind.Kind.{Kind}
use Rattle.nsi_primitive.specs.declared.kind.ErrorName.{ErrorName}
use Rattle.nsi_primitive.specs.declared.message.SummaryRow.{SummaryRow}
use Rattle.nsi_primitive.specs.declared.message.Body.{Body}
use Rattle.nsi_primitive.specs.declared.message.Message.{Message}
use Rattle.nsi_primitive.specs.declared.message.Parcel.{Parcel}
use Rattle.json_fields.specs.Keys.{name_of}
use Rattle.json_fields.specs.Faults.{◌>>=◌}
use Rattle.json_fields.specs.Fields.{json_of, required, optional, needed, allowed, wrapped, formed, kept_if, kept_if_plain, id_from, name_from, text_from, capacity_from, second_from, time_from, version_from, hold_from, count_from, flag_from, kind_from, error_from, plain_error_from, event_from, flow_from, directionality_from, empty_list_from}
use Rattle.json_fields.specs.RowFields.{rsm_from, psm_from, lsm_from, row_of, each_from}
use Rattle.json_fields.specs.declared.key.Key.{Key}
use Rattle.json_fields.specs.declared.fault.LineFault.{LineFault}
use Rattle.json_primitives.specs.Headers.{header_from}
use Rattle.json_primitives.specs.Requests.{point_from, is_one_point, reserve_from}
use Rattle.json_primitives.specs.Connected.{connected_from, about}
use Rattle.json_primitives.specs.Queries.{summary_from, ranged_from, notifications_from, results_from}
use Rattle.json_primitives.specs.Answers.{confirmation_from, connection_from, plain_from, lack_from, child_from, error_in, refused_by, refused_from, named, failed_from, commit_failed_from, error_message_from}
use Rattle.json_primitives.specs.Notifications.{timeout_from, fault_from, plane_from, delivery_from}
use Rattle.json_primitives.specs.RowLines.{summary_row_from, recursive_row_from, notice_from, outcome_from, summary_rows_from, recursive_rows_from, notice_rows_from, outcome_rows_from}
use Rattle.json_primitives.specs.Lines.{of_kind, ack_from, as_parcel, of_named, of_text, with_kind, parcel_from, parcel_of_json, object_of, line_of}
use Rattle.json_primitives.specs.declared.reading.answers.Refusal.{Refusal}

---- One step after another

-- what holds of what comes next, for all that the step gives, holds of both
then_any : {A B : Type 0} (P : B → Type 0) (r : Result A LineFault) (next : A → Result B LineFault) → ((x : A) → IfOk (next x) P) → IfOk (r >>= next) P
then_any P (Ok x) next h = h x
then_any P (Err fault) next h = tt

-- the same, where something is true of what the step gives
then_with : {A B : Type 0} (P : B → Type 0) (Q : A → Type 0) (r : Result A LineFault) (next : A → Result B LineFault) → IfOk r Q → ((x : A) → Q x → IfOk (next x) P) → IfOk (r >>= next) P
then_with P Q (Ok x) next q h = h x q
then_with P Q (Err fault) next q h = tt

-- a fault in one case
or_fault : {B : Type 0} (P : B → Type 0) (b : Bool) (fault : LineFault) (r : Result B LineFault) → (b ≡ false → IfOk r P) → IfOk (if b then Err fault else r) P
or_fault P true fault r h = tt
or_fault P false fault r h = h refl

if_found : {B : Type 0} (P : B → Type 0) (b : Bool) (fault : LineFault) (r : Result B LineFault) → IfOk r P → IfOk (if b then r else Err fault) P
if_found P true fault r h = h
if_found P false fault r h = tt

---- Fields

-- a text that is read is short
text_short : (most : ℕ) (key : Key) (d : Data) → IfOk (optional (text_from most) key d) (IsShort most)
unfolding optional
text_short most key d = by_found (get (name_of key) d)
  where
    by_length : (bytes : List ℕ) (b : Bool) → nat_le (length bytes) most ≡ b → IfSome (if b then Some bytes else None) (λ t. length t ≤ most)
    by_length bytes true e = grind (arith, nat_tests)
    by_length bytes false e = tt

    by_text : (o : Option (List ℕ)) → IfSome (option_and_then (kept_if (λ bytes. nat_le (length bytes) most)) o) (λ t. length t ≤ most)
    by_text None = tt
    by_text (Some bytes) = by_length bytes (nat_le (length bytes) most) refl

    by_kept : (o : Option (List ℕ)) → IfSome o (λ t. length t ≤ most) → IfOk (wrapped (formed key o)) (IsShort most)
    by_kept None short = tt
    by_kept (Some t) short = short

    by_found : (o : Option Data) → IfOk (allowed (text_from most) key o) (IsShort most)
    by_found None = tt
    by_found (Some x) = by_kept (text_from most x) (by_text (as_str x))

-- a point is given where there is no connection
point_given : (connection : Option ℕ) (key : Key) (d : Data) → IfOk (point_from connection key d) (λ o. IfNone connection (IsSome o))
point_given None key d = by_result (required name_from key d)
  where
    by_result : (r : Result (List ℕ) LineFault) → IfOk (wrapped r) (λ o. IsSome o)
    by_result (Ok name) = refl
    by_result (Err fault) = tt
point_given (Some c) key d = by_result (optional name_from key d)
  where
    by_result : (r : Result (Option (List ℕ)) LineFault) → IfOk r (λ o. IfNone (Some c) (IsSome o))
    by_result (Ok o) = tt
    by_result (Err fault) = tt

both_given : (connection : Option ℕ) (source dest : Option (List ℕ)) → IfNone connection (IsSome source) → IfNone connection (IsSome dest) → IfNone connection (IsSome source × IsSome dest)
both_given None source dest a b = (a, b)
both_given (Some c) source dest a b = tt

are_apart : (source dest : Option (List ℕ)) → is_one_point source dest ≡ false → AreApart source dest
are_apart None dest e = tt
are_apart (Some a) None e = tt
are_apart (Some a) (Some b) e = e

-- an error that is given by its name alone
plain_named : (key : Key) (d : Data) → IfOk (required plain_error_from key d) (λ error. has_further_keys error ≡ false)
unfolding required
plain_named key d = by_found (get (name_of key) d)
  where
    by_test : (error : ErrorName) (b : Bool) → has_further_keys error ≡ b → IfOk (formed key (if b then None else Some error)) (λ error. has_further_keys error ≡ false)
    by_test error true e = tt
    by_test error false e = e

    by_error : (o : Option ErrorName) → IfOk (formed key (option_and_then kept_if_plain o)) (λ error. has_further_keys error ≡ false)
    by_error None = tt
    by_error (Some error) = by_test error (has_further_keys error) refl

    by_found : (o : Option Data) → IfOk (needed plain_error_from key o) (λ error. has_further_keys error ≡ false)
    by_found None = tt
    by_found (Some x) = by_error (error_from x)

---- Kinds

reserve_read : (d : Data) → IfOk (reserve_from d) IsPrintable
unfolding reserve_from
reserve_read d =
    then_any IsPrintable (required capacity_from Key.Capacity d) _ (λ capacity.
    then_any IsPrintable (optional id_from Key.ConnectionId d) _ (λ connection.
    then_any IsPrintable (required id_from Key.CorrelationId d) _ (λ correlation.
    then_with IsPrintable (IsShort 256) (optional (text_from 256) Key.Description d) _ (text_short 256 Key.Description d) (λ description short.
    then_with IsPrintable (λ o. IfNone connection (IsSome o)) (point_from connection Key.DestStp d) _ (point_given connection Key.DestStp d) (λ dest dest_given.
    then_any IsPrintable (optional directionality_from Key.Directionality d) _ (λ directionality.
    then_any IsPrintable (required time_from Key.EndTime d) _ (λ end.
    then_any IsPrintable (optional empty_list_from Key.Ero d) _ (λ ero.
    then_with IsPrintable (IsShort 128) (optional (text_from 128) Key.GlobalReservationId d) _ (text_short 128 Key.GlobalReservationId d) (λ global global_short.
    then_any IsPrintable (header_from correlation d) _ (λ header.
    then_with IsPrintable (λ o. IfNone connection (IsSome o)) (point_from connection Key.SourceStp d) _ (point_given connection Key.SourceStp d) (λ source source_given.
    then_any IsPrintable (optional time_from Key.StartTime d) _ (λ start.
    then_any IsPrintable (optional flag_from Key.SymmetricPath d) _ (λ symmetric.
    then_any IsPrintable (optional version_from Key.Version d) _ (λ version.
    or_fault IsPrintable (is_one_point source dest) (LineFault.Bad Key.DestStp) _ (λ e.
    record { description = short; global = global_short; apart = are_apart source dest e; complete = both_given connection source dest source_given dest_given })))))))))))))))

about_read : (body : ℕ → Body) → ((connection : ℕ) → IsPrintableBody (body connection)) → (d : Data) → IfOk (about body d) IsPrintable
unfolding about
about_read body each d = then_any IsPrintable (connected_from d) _ (λ said. each said.0)

summary_read : (d : Data) → IfOk (summary_from d) IsPrintable
unfolding summary_from
summary_read d =
    then_any IsPrintable (optional id_from Key.ConnectionId d) _ (λ connection.
    then_any IsPrintable (required id_from Key.CorrelationId d) _ (λ correlation.
    then_any IsPrintable (header_from correlation d) _ (λ header.
    tt)))

confirmation_read : (d : Data) → IfOk (confirmation_from d) IsPrintable
unfolding confirmation_from
confirmation_read d =
    then_any IsPrintable (required capacity_from Key.Capacity d) _ (λ capacity.
    then_any IsPrintable (required id_from Key.ConnectionId d) _ (λ connection.
    then_any IsPrintable (required id_from Key.CorrelationId d) _ (λ correlation.
    then_with IsPrintable (IsShort 256) (optional (text_from 256) Key.Description d) _ (text_short 256 Key.Description d) (λ description short.
    then_any IsPrintable (required name_from Key.DestStp d) _ (λ dest.
    then_any IsPrintable (required directionality_from Key.Directionality d) _ (λ directionality.
    then_any IsPrintable (required time_from Key.EndTime d) _ (λ end.
    then_with IsPrintable (IsShort 128) (optional (text_from 128) Key.GlobalReservationId d) _ (text_short 128 Key.GlobalReservationId d) (λ global global_short.
    then_any IsPrintable (header_from correlation d) _ (λ header.
    then_any IsPrintable (required name_from Key.SourceStp d) _ (λ source.
    then_any IsPrintable (required time_from Key.StartTime d) _ (λ start.
    then_any IsPrintable (optional flag_from Key.SymmetricPath d) _ (λ symmetric.
    then_any IsPrintable (required version_from Key.Version d) _ (λ version.
    (short, global_short))))))))))))))

-- its cause has a spelling
abbrev IsPrintableRefusal : Refusal → Type 0
IsPrintableRefusal r = IsPrintableCause r.exception.cause

plain_read : (is_needed : Bool) (d : Data) → IfOk (plain_from is_needed d) IsPrintableRefusal
unfolding plain_from
plain_read is_needed d =
    then_any IsPrintableRefusal (connection_from is_needed d) _ (λ connection.
    then_any IsPrintableRefusal (required id_from Key.CorrelationId d) _ (λ correlation.
    then_with IsPrintableRefusal (λ e. has_further_keys e ≡ false) (required plain_error_from Key.ErrorId d) _ (plain_named Key.ErrorId d) (λ error plain.
    then_any IsPrintableRefusal (required name_from Key.NsaId d) _ (λ nsa.
    then_any IsPrintableRefusal (header_from correlation d) _ (λ header.
    plain)))))

lack_read : (is_needed : Bool) (d : Data) → IfOk (lack_from is_needed d) IsPrintableRefusal
unfolding lack_from
lack_read is_needed d =
    then_any IsPrintableRefusal (required capacity_from Key.Capacity d) _ (λ capacity.
    then_any IsPrintableRefusal (connection_from is_needed d) _ (λ connection.
    then_any IsPrintableRefusal (required id_from Key.CorrelationId d) _ (λ correlation.
    then_any IsPrintableRefusal (optional flow_from Key.Direction d) _ (λ flow.
    then_any IsPrintableRefusal (required error_from Key.ErrorId d) _ (λ error.
    then_any IsPrintableRefusal (required count_from Key.Load d) _ (λ load.
    then_any IsPrintableRefusal (required name_from Key.NsaId d) _ (λ nsa.
    then_any IsPrintableRefusal (header_from correlation d) _ (λ header.
    then_any IsPrintableRefusal (required second_from Key.Second d) _ (λ second.
    then_any IsPrintableRefusal (required name_from Key.Stp d) _ (λ stp.
    tt))))))))))

child_read : (is_needed : Bool) (d : Data) → IfOk (child_from is_needed d) IsPrintableRefusal
unfolding child_from
child_read is_needed d =
    then_any IsPrintableRefusal (required name_from Key.Child d) _ (λ child.
    then_any IsPrintableRefusal (required error_from Key.ChildErrorId d) _ (λ child_error.
    then_any IsPrintableRefusal (connection_from is_needed d) _ (λ connection.
    then_any IsPrintableRefusal (required id_from Key.CorrelationId d) _ (λ correlation.
    then_any IsPrintableRefusal (required error_from Key.ErrorId d) _ (λ error.
    then_any IsPrintableRefusal (required name_from Key.NsaId d) _ (λ nsa.
    then_any IsPrintableRefusal (header_from correlation d) _ (λ header.
    tt)))))))

refused_read : (is_needed : Bool) (d : Data) → IfOk (refused_from is_needed d) IsPrintableRefusal
unfolding refused_from
refused_read is_needed d = by_error (error_in d)
  where
    by_error : (o : Option ErrorName) → IfOk (refused_by o is_needed d) IsPrintableRefusal
    by_error None = plain_read is_needed d
    by_error (Some ErrorName.Payload) = plain_read is_needed d
    by_error (Some ErrorName.Version) = plain_read is_needed d
    by_error (Some ErrorName.WrongProvider) = plain_read is_needed d
    by_error (Some ErrorName.Nonexistent) = plain_read is_needed d
    by_error (Some ErrorName.Gone) = plain_read is_needed d
    by_error (Some ErrorName.InvalidTransition) = plain_read is_needed d
    by_error (Some ErrorName.VersionLow) = plain_read is_needed d
    by_error (Some ErrorName.UnknownStp) = plain_read is_needed d
    by_error (Some ErrorName.Schedule) = plain_read is_needed d
    by_error (Some ErrorName.Bandwidth) = lack_read is_needed d
    by_error (Some ErrorName.Passed) = plain_read is_needed d
    by_error (Some ErrorName.NoPath) = plain_read is_needed d
    by_error (Some ErrorName.Child) = child_read is_needed d
    by_error (Some ErrorName.Timeout) = plain_read is_needed d

failed_read : (d : Data) → IfOk (failed_from d) IsPrintable
unfolding failed_from
failed_read d = then_with IsPrintable IsPrintableRefusal (refused_from true d) _ (refused_read true d) (λ r p. then_any IsPrintable (named r.connection) _ (λ connection. p))

commit_failed_read : (d : Data) → IfOk (commit_failed_from d) IsPrintable
unfolding commit_failed_from
commit_failed_read d = then_with IsPrintable IsPrintableRefusal (refused_from true d) _ (refused_read true d) (λ r p. then_any IsPrintable (named r.connection) _ (λ connection. p))

error_read : (d : Data) → IfOk (error_message_from d) IsPrintable
unfolding error_message_from
error_read d = then_with IsPrintable IsPrintableRefusal (refused_from false d) _ (refused_read false d) (λ r p. p)

timeout_read : (d : Data) → IfOk (timeout_from d) IsPrintable
unfolding timeout_from
timeout_read d =
    then_any IsPrintable (required id_from Key.ConnectionId d) _ (λ connection.
    then_any IsPrintable (required id_from Key.CorrelationId d) _ (λ correlation.
    then_any IsPrintable (required count_from Key.NotificationId d) _ (λ notification.
    then_any IsPrintable (required id_from Key.OriginatingConnectionId d) _ (λ originating_connection.
    then_any IsPrintable (required name_from Key.OriginatingNsa d) _ (λ originating_nsa.
    then_any IsPrintable (header_from correlation d) _ (λ header.
    then_any IsPrintable (required second_from Key.TimeStamp d) _ (λ time.
    then_any IsPrintable (required hold_from Key.TimeoutValue d) _ (λ value.
    tt))))))))

fault_read : (d : Data) → IfOk (fault_from d) IsPrintable
unfolding fault_from
fault_read d =
    then_any IsPrintable (required id_from Key.ConnectionId d) _ (λ connection.
    then_any IsPrintable (required id_from Key.CorrelationId d) _ (λ correlation.
    then_any IsPrintable (required event_from Key.Event d) _ (λ event.
    then_any IsPrintable (required count_from Key.NotificationId d) _ (λ notification.
    then_any IsPrintable (required id_from Key.OriginatingConnectionId d) _ (λ originating_connection.
    then_any IsPrintable (required name_from Key.OriginatingNsa d) _ (λ originating_nsa.
    then_any IsPrintable (header_from correlation d) _ (λ header.
    then_any IsPrintable (required second_from Key.TimeStamp d) _ (λ time.
    tt))))))))

plane_read : (d : Data) → IfOk (plane_from d) IsPrintable
unfolding plane_from
plane_read d =
    then_any IsPrintable (required flag_from Key.Active d) _ (λ active.
    then_any IsPrintable (required id_from Key.ConnectionId d) _ (λ connection.
    then_any IsPrintable (required id_from Key.CorrelationId d) _ (λ correlation.
    then_any IsPrintable (required count_from Key.NotificationId d) _ (λ notification.
    then_any IsPrintable (header_from correlation d) _ (λ header.
    then_any IsPrintable (required second_from Key.TimeStamp d) _ (λ time.
    then_any IsPrintable (required version_from Key.Version d) _ (λ version.
    then_any IsPrintable (required flag_from Key.VersionConsistent d) _ (λ consistent.
    tt))))))))

delivery_read : (d : Data) → IfOk (delivery_from d) IsPrintable
unfolding delivery_from
delivery_read d =
    then_any IsPrintable (required id_from Key.ConnectionId d) _ (λ connection.
    then_any IsPrintable (required id_from Key.CorrelationId d) _ (λ correlation.
    then_any IsPrintable (required id_from Key.DeliveryCorrelationId d) _ (λ delivery.
    then_any IsPrintable (required count_from Key.NotificationId d) _ (λ notification.
    then_any IsPrintable (header_from correlation d) _ (λ header.
    then_any IsPrintable (required second_from Key.TimeStamp d) _ (λ time.
    tt))))))

---- Rows

-- its texts are short
abbrev IsShortRow : SummaryRow → Type 0
IsShortRow r = IsShort 256 r.description × IsShort 128 r.global

row_read : (d : Data) → IfOk (summary_row_from d) IsShortRow
unfolding summary_row_from
row_read d =
    then_any IsShortRow (required flag_from Key.Active d) _ (λ active.
    then_any IsShortRow (optional capacity_from Key.Capacity d) _ (λ capacity.
    then_any IsShortRow (required id_from Key.ConnectionId d) _ (λ connection.
    then_with IsShortRow (IsShort 256) (optional (text_from 256) Key.Description d) _ (text_short 256 Key.Description d) (λ description short.
    then_any IsShortRow (required name_from Key.DestStp d) _ (λ dest.
    then_any IsShortRow (required directionality_from Key.Directionality d) _ (λ directionality.
    then_any IsShortRow (optional time_from Key.EndTime d) _ (λ end.
    then_with IsShortRow (IsShort 128) (optional (text_from 128) Key.GlobalReservationId d) _ (text_short 128 Key.GlobalReservationId d) (λ global global_short.
    then_any IsShortRow (required lsm_from Key.LifecycleState d) _ (λ lifecycle.
    then_any IsShortRow (required psm_from Key.ProvisionState d) _ (λ provision.
    then_any IsShortRow (required rsm_from Key.ReservationState d) _ (λ reservation.
    then_any IsShortRow (required name_from Key.SourceStp d) _ (λ source.
    then_any IsShortRow (optional time_from Key.StartTime d) _ (λ start.
    then_any IsShortRow (optional version_from Key.Version d) _ (λ version.
    (short, global_short)))))))))))))))

each_short : (items : Items) → IfSome (each_from summary_row_from items) (All IsShortRow)
unfolding each_from
each_short no_items = All-nil IsShortRow
each_short (item d ds) = by_row (summary_row_from d) (row_read d) (each_from summary_row_from ds) (each_short ds)
  where
    by_rest : (row : SummaryRow) → IsShortRow row → (o : Option (List SummaryRow)) → IfSome o (All IsShortRow) → IfSome (option_map (λ rows. row ∷ rows) o) (All IsShortRow)
    by_rest row p None h = tt
    by_rest row p (Some rows) h = All-cons IsShortRow row rows p h

    by_row : (r : Result SummaryRow LineFault) → IfOk r IsShortRow → (o : Option (List SummaryRow)) → IfSome o (All IsShortRow) → IfSome (option_and_then (λ row. option_map (λ rows. row ∷ rows) o) (row_of r)) (All IsShortRow)
    by_row (Ok row) p o h = by_rest row p o h
    by_row (Err fault) p o h = tt

list_short : (o : Option (List SummaryRow)) → IfSome o (All IsShortRow) → IfOk (formed Key.Reservations o) (All IsShortRow)
list_short None h = tt
list_short (Some rows) h = h

summary_rows_read : (d : Data) → IfOk (summary_rows_from d) IsPrintable
unfolding summary_rows_from
summary_rows_read d =
    then_any IsPrintable (required id_from Key.CorrelationId d) _ (λ correlation.
    then_any IsPrintable (required flag_from Key.More d) _ (λ more.
    then_any IsPrintable (header_from correlation d) _ (λ header.
    then_any IsPrintable (required as_array Key.Reservations d) _ (λ items.
    then_with IsPrintable (All IsShortRow) (formed Key.Reservations (each_from summary_row_from items)) _ (list_short _ (each_short items)) (λ rows p.
    p)))))

recursive_rows_read : (d : Data) → IfOk (recursive_rows_from d) IsPrintable
unfolding recursive_rows_from
recursive_rows_read d =
    then_any IsPrintable (required id_from Key.ConnectionId d) _ (λ connection.
    then_any IsPrintable (required id_from Key.CorrelationId d) _ (λ correlation.
    then_any IsPrintable (required flag_from Key.More d) _ (λ more.
    then_any IsPrintable (header_from correlation d) _ (λ header.
    then_any IsPrintable (required as_array Key.Reservations d) _ (λ items.
    then_any IsPrintable (formed Key.Reservations (each_from recursive_row_from items)) _ (λ rows.
    tt))))))

notice_rows_read : (d : Data) → IfOk (notice_rows_from d) IsPrintable
unfolding notice_rows_from
notice_rows_read d =
    then_any IsPrintable (required id_from Key.ConnectionId d) _ (λ connection.
    then_any IsPrintable (required id_from Key.CorrelationId d) _ (λ correlation.
    then_any IsPrintable (required flag_from Key.More d) _ (λ more.
    then_any IsPrintable (required as_array Key.Notifications d) _ (λ items.
    then_any IsPrintable (formed Key.Notifications (each_from notice_from items)) _ (λ rows.
    then_any IsPrintable (header_from correlation d) _ (λ header.
    tt))))))

outcome_rows_read : (d : Data) → IfOk (outcome_rows_from d) IsPrintable
unfolding outcome_rows_from
outcome_rows_read d =
    then_any IsPrintable (required id_from Key.ConnectionId d) _ (λ connection.
    then_any IsPrintable (required id_from Key.CorrelationId d) _ (λ correlation.
    then_any IsPrintable (required flag_from Key.More d) _ (λ more.
    then_any IsPrintable (header_from correlation d) _ (λ header.
    then_any IsPrintable (required as_array Key.Results d) _ (λ items.
    then_any IsPrintable (formed Key.Results (each_from outcome_from items)) _ (λ rows.
    tt))))))

---- Parcels

ack_read : (d : Data) → IfOk (ack_from d) IsPrintableParcel
unfolding ack_from
ack_read d =
    then_any IsPrintableParcel (required id_from Key.CorrelationId d) _ (λ correlation.
    then_any IsPrintableParcel (required kind_from Key.Of d) _ (λ kind.
    then_any IsPrintableParcel (required name_from Key.ProviderNsa d) _ (λ provider.
    then_any IsPrintableParcel (required name_from Key.RequesterNsa d) _ (λ requester.
    tt))))

kind_read : (d : Data) (kind : Kind) → IfOk (of_kind d kind) IsPrintable
unfolding notifications_from results_from
kind_read d Kind.Reserve = reserve_read d
kind_read d Kind.ReserveResponse = about_read Body.ReserveResponse (λ connection. tt) d
kind_read d Kind.ReserveCommit = about_read Body.ReserveCommit (λ connection. tt) d
kind_read d Kind.ReserveCommitConfirmed = about_read Body.ReserveCommitConfirmed (λ connection. tt) d
kind_read d Kind.ReserveAbort = about_read Body.ReserveAbort (λ connection. tt) d
kind_read d Kind.ReserveAbortConfirmed = about_read Body.ReserveAbortConfirmed (λ connection. tt) d
kind_read d Kind.Provision = about_read Body.Provision (λ connection. tt) d
kind_read d Kind.ProvisionConfirmed = about_read Body.ProvisionConfirmed (λ connection. tt) d
kind_read d Kind.Release = about_read Body.Release (λ connection. tt) d
kind_read d Kind.ReleaseConfirmed = about_read Body.ReleaseConfirmed (λ connection. tt) d
kind_read d Kind.Terminate = about_read Body.Terminate (λ connection. tt) d
kind_read d Kind.TerminateConfirmed = about_read Body.TerminateConfirmed (λ connection. tt) d
kind_read d Kind.QueryRecursive = about_read Body.QueryRecursive (λ connection. tt) d
kind_read d Kind.ReserveConfirmed = confirmation_read d
kind_read d Kind.ReserveFailed = failed_read d
kind_read d Kind.ReserveCommitFailed = commit_failed_read d
kind_read d Kind.Error = error_read d
kind_read d Kind.ReserveTimeout = timeout_read d
kind_read d Kind.ErrorEvent = fault_read d
kind_read d Kind.DataPlaneStateChange = plane_read d
kind_read d Kind.MessageDeliveryTimeout = delivery_read d
kind_read d Kind.QuerySummary = summary_read d
kind_read d Kind.QueryNotification = then_any IsPrintable (ranged_from Key.EndNotificationId Key.StartNotificationId d) _ (λ asked. tt)
kind_read d Kind.QueryResult = then_any IsPrintable (ranged_from Key.EndResultId Key.StartResultId d) _ (λ asked. tt)
kind_read d Kind.QuerySummaryConfirmed = summary_rows_read d
kind_read d Kind.QueryNotificationConfirmed = notice_rows_read d
kind_read d Kind.QueryResultConfirmed = outcome_rows_read d
kind_read d Kind.QueryRecursiveConfirmed = recursive_rows_read d

parcel_read : (d : Data) → IfOk (parcel_from d) IsPrintableParcel
parcel_read d = if_found IsPrintableParcel (is_some (as_object d)) LineFault.NotObject (with_kind d (get (name_of Key.Kind) d)) (by_member (get (name_of Key.Kind) d))
  where
    by_message : (r : Result Message LineFault) → IfOk r IsPrintable → IfOk (as_parcel r) IsPrintableParcel
    by_message (Ok m) p = p
    by_message (Err fault) p = tt

    by_other : (b : Bool) → IfOk (if b then ack_from d else Err (LineFault.Bad Key.Kind)) IsPrintableParcel
    by_other true = ack_read d
    by_other false = tt

    by_named : (name : List ℕ) (o : Option Kind) → IfOk (of_named d name o) IsPrintableParcel
    by_named name (Some kind) = by_message (of_kind d kind) (kind_read d kind)
    by_named name None = by_other (bytes_eq name (codes "ack"))

    by_text : (o : Option (List ℕ)) → IfOk (of_text d o) IsPrintableParcel
    by_text None = tt
    by_text (Some name) = by_named name (kind_named name)

    by_member : (o : Option Data) → IfOk (with_kind d o) IsPrintableParcel
    by_member None = tt
    by_member (Some kind) = by_text (as_str kind)

line_read : (bytes : List ℕ) → IfOk (line_of bytes) IsPrintableParcel
unfolding object_of
line_read bytes = or_fault IsPrintableParcel (nat_lt 65536 (length bytes)) LineFault.TooLong _ (λ e. by_json (json_of bytes))
  where
    by_json : (o : Option Data) → IfOk (parcel_of_json o) IsPrintableParcel
    by_json None = tt
    by_json (Some d) = parcel_read d

-- What is read from a line has a spelling.
pub line_printable : (bytes : List ℕ) (p : Parcel) → line_of bytes ≡ Ok p → IsPrintableParcel p
line_printable bytes p e = subst (λ r. IfOk r IsPrintableParcel) e (line_read bytes)
