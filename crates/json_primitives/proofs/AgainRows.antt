-- An answer with rows that is written reads as itself.
use Rattle.std.proofs.Common.{◌≡◌, List, [], ◌∷◌, ℕ, suc, Bool, true, false, map, cond, bytes_eq, Some, option_map, option_and_then, Result, Ok, refl, ap, ◌∙◌, arith}
use Rattle.std.specs.List.{All, AllByRecursion}
use Rattle.serde_json.specs.Data.{Data, no_members, array}
use Rattle.serde_json.specs.Find.{get, get_member, as_array}
use Rattle.serde_json.specs.View.{items_of}
use Rattle.serde_json.proofs.Views.{get_member-put}
use Rattle.nsi_primitive.specs.Kinds.{kind_name}
use Rattle.nsi_primitive.specs.Printable.{IsShort}
use Rattle.nsi_primitive.specs.States.{rsm_text, psm_text, lsm_text}
use Rattle.nsi_primitive.specs.declared.kind.Kind.{Kind}
use Rattle.nsi_primitive.specs.declared.message.Header.{Header}
use Rattle.nsi_primitive.specs.declared.message.Notice.{Notice}
use Rattle.nsi_primitive.specs.declared.message.Outcome.{Outcome}
use Rattle.nsi_primitive.specs.declared.message.SummaryRow.{SummaryRow}
use Rattle.nsi_primitive.specs.declared.message.RecursiveRow.{RecursiveRow}
use Rattle.nsi_primitive.specs.declared.message.Body.{Body}
use Rattle.nsi_primitive.specs.declared.message.Message.{Message}
use Rattle.json_fields.specs.Keys.{name_of}
use Rattle.json_fields.specs.Fields.{needed, required, id_from, name_from, text_from, capacity_from, second_from, time_from, version_from, count_from, flag_from, kind_from, directionality_from}
use Rattle.json_fields.specs.RowFields.{rsm_from, psm_from, lsm_from, depth_from, row_of, each_from}
use Rattle.json_fields.specs.Objects.{Field, digits, words, flag, id_scalar, time_value, directionality_scalar, scalar_data, with_fields, IsReadBack}
use Rattle.json_fields.specs.Written.{with_rows}
use Rattle.json_fields.specs.declared.key.Key.{Key}
use Rattle.json_fields.specs.declared.time_form.TimeForm.{TimeForm}
use Rattle.json_fields.specs.declared.fault.LineFault.{LineFault}
use Rattle.json_fields.proofs.Members.{field_at, is_absent, are_apart, get_member-put_at, get_member-with_fields}
use Rattle.json_fields.proofs.Again.{required_again, optional_again, text_again, kind_again, one_direction_again}
use Rattle.json_fields.proofs.AgainRows.{rsm_again, psm_again, lsm_again, depth_again}
use Rattle.json_fields.proofs.Times.{in_form_if}
use Rattle.json_primitives.specs.Headers.{header_from}
use Rattle.json_primitives.specs.Rows.{summary_fields, recursive_fields, notice_fields, outcome_fields, row_data, rows_in}
use Rattle.json_primitives.specs.RowLines.{summary_row_from, recursive_row_from, notice_from, outcome_from, summary_rows_from, recursive_rows_from, notice_rows_from, outcome_rows_from}
use Rattle.json_primitives.specs.Spelling.{fields_of, data_of}
use Rattle.json_primitives.specs.Valid.{IsValidHeader}
use Rattle.json_primitives.specs.ValidRows.{IsValidSummaryRow, IsValidRecursiveRow, IsValidNotice, IsValidOutcome}

---- Rows

-- what stands at a key of a written row
summary_at : (form : TimeForm) (r : SummaryRow) (key : Key) → get (name_of key) (row_data (summary_fields form r)) ≡ option_map scalar_data (field_at (name_of key) (summary_fields form r))
unfolding row_data name_of field_at is_absent are_apart
summary_at form r key = get_member-with_fields (name_of key) (summary_fields form r) no_members refl refl

-- what is true of a row that is written
record IsWrittenRow (r : SummaryRow) : Type 0 where
  valid : IsValidSummaryRow r
  short : IsShort 256 r.description × IsShort 128 r.global

summary_row_again : (form : TimeForm) (r : SummaryRow) → IsWrittenRow r → summary_row_from (row_data (summary_fields form r)) ≡ Ok r
unfolding summary_row_from name_of field_at
summary_row_again form r w =
    let d = row_data (summary_fields form r) in
    let v = w.valid in
    let active = required_again flag_from Key.Active d (flag r.active) r.active (summary_at form r Key.Active) refl in
    let capacity = optional_again capacity_from Key.Capacity d digits r.capacity (summary_at form r Key.Capacity) v.capacity in
    let connection = required_again id_from Key.ConnectionId d (id_scalar r.connection) r.connection (summary_at form r Key.ConnectionId) v.connection in
    let description = optional_again (text_from 256) Key.Description d words r.description (summary_at form r Key.Description) (text_again 256 r.description w.short.0) in
    let dest = required_again name_from Key.DestStp d (words r.dest) r.dest (summary_at form r Key.DestStp) v.dest in
    let directionality = required_again directionality_from Key.Directionality d (directionality_scalar r.directionality) r.directionality (summary_at form r Key.Directionality) (one_direction_again r.directionality) in
    let end = optional_again time_from Key.EndTime d (time_value form) r.end (summary_at form r Key.EndTime) (in_form_if form r.end v.end) in
    let global = optional_again (text_from 128) Key.GlobalReservationId d words r.global (summary_at form r Key.GlobalReservationId) (text_again 128 r.global w.short.1) in
    let lifecycle = required_again lsm_from Key.LifecycleState d (words (lsm_text r.lifecycle)) r.lifecycle (summary_at form r Key.LifecycleState) (lsm_again r.lifecycle) in
    let provision = required_again psm_from Key.ProvisionState d (words (psm_text r.provision)) r.provision (summary_at form r Key.ProvisionState) (psm_again r.provision) in
    let reservation = required_again rsm_from Key.ReservationState d (words (rsm_text r.reservation)) r.reservation (summary_at form r Key.ReservationState) (rsm_again r.reservation) in
    let source = required_again name_from Key.SourceStp d (words r.source) r.source (summary_at form r Key.SourceStp) v.source in
    let start = optional_again time_from Key.StartTime d (time_value form) r.start (summary_at form r Key.StartTime) (in_form_if form r.start v.start) in
    let version = optional_again version_from Key.Version d digits r.version (summary_at form r Key.Version) v.version in
    rw (active, capacity, connection, description, dest, directionality, end, global, lifecycle, provision, reservation, source, start, version) refl

recursive_at : (r : RecursiveRow) (key : Key) → get (name_of key) (row_data (recursive_fields r)) ≡ option_map scalar_data (field_at (name_of key) (recursive_fields r))
unfolding row_data name_of field_at is_absent are_apart
recursive_at r key = get_member-with_fields (name_of key) (recursive_fields r) no_members refl refl

recursive_row_again : (r : RecursiveRow) → IsValidRecursiveRow r → recursive_row_from (row_data (recursive_fields r)) ≡ Ok r
unfolding recursive_row_from name_of field_at
recursive_row_again r v =
    let d = row_data (recursive_fields r) in
    let connection = required_again id_from Key.ConnectionId d (id_scalar r.connection) r.connection (recursive_at r Key.ConnectionId) v.connection in
    let depth = required_again depth_from Key.Depth d (digits r.depth) r.depth (recursive_at r Key.Depth) (depth_again r.depth v.depth) in
    let lifecycle = required_again lsm_from Key.LifecycleState d (words (lsm_text r.lifecycle)) r.lifecycle (recursive_at r Key.LifecycleState) (lsm_again r.lifecycle) in
    let provider = required_again name_from Key.ProviderNsa d (words r.provider) r.provider (recursive_at r Key.ProviderNsa) v.provider in
    let provision = required_again psm_from Key.ProvisionState d (words (psm_text r.provision)) r.provision (recursive_at r Key.ProvisionState) (psm_again r.provision) in
    let reservation = required_again rsm_from Key.ReservationState d (words (rsm_text r.reservation)) r.reservation (recursive_at r Key.ReservationState) (rsm_again r.reservation) in
    let version = optional_again version_from Key.Version d digits r.version (recursive_at r Key.Version) v.version in
    rw (connection, depth, lifecycle, provider, provision, reservation, version) refl

notice_at : (n : Notice) (key : Key) → get (name_of key) (row_data (notice_fields n)) ≡ option_map scalar_data (field_at (name_of key) (notice_fields n))
unfolding row_data name_of field_at is_absent are_apart
notice_at n key = get_member-with_fields (name_of key) (notice_fields n) no_members refl refl

notice_again : (n : Notice) → IsValidNotice n → notice_from (row_data (notice_fields n)) ≡ Ok n
unfolding notice_from name_of field_at
notice_again n v =
    let d = row_data (notice_fields n) in
    let correlation = required_again id_from Key.CorrelationId d (id_scalar n.correlation) n.correlation (notice_at n Key.CorrelationId) v.correlation in
    let kind = required_again kind_from Key.Kind d (words (kind_name n.kind)) n.kind (notice_at n Key.Kind) (kind_again n.kind) in
    let number = required_again count_from Key.NotificationId d (digits n.number) n.number (notice_at n Key.NotificationId) refl in
    let second = required_again second_from Key.TimeStamp d (digits n.second) n.second (notice_at n Key.TimeStamp) v.second in
    rw (correlation, kind, number, second) refl

outcome_at : (o : Outcome) (key : Key) → get (name_of key) (row_data (outcome_fields o)) ≡ option_map scalar_data (field_at (name_of key) (outcome_fields o))
unfolding row_data name_of field_at is_absent are_apart
outcome_at o key = get_member-with_fields (name_of key) (outcome_fields o) no_members refl refl

outcome_again : (o : Outcome) → IsValidOutcome o → outcome_from (row_data (outcome_fields o)) ≡ Ok o
unfolding outcome_from name_of field_at
outcome_again o v =
    let d = row_data (outcome_fields o) in
    let correlation = required_again id_from Key.CorrelationId d (id_scalar o.correlation) o.correlation (outcome_at o Key.CorrelationId) v.correlation in
    let kind = required_again kind_from Key.Kind d (words (kind_name o.kind)) o.kind (outcome_at o Key.Kind) (kind_again o.kind) in
    let number = required_again count_from Key.ResultId d (digits o.number) o.number (outcome_at o Key.ResultId) refl in
    let second = required_again second_from Key.TimeStamp d (digits o.second) o.second (outcome_at o Key.TimeStamp) v.second in
    rw (correlation, kind, number, second) refl

---- Lists of rows

-- rows that each read again are a list that does
each_again : {A : Type 0} (form : Data → Result A LineFault) (shown : A → Data) (P : A → Type 0) → ((x : A) → P x → form (shown x) ≡ Ok x) → (xs : List A) → AllByRecursion P xs → each_from form (items_of (map shown xs)) ≡ Some xs
unfolding each_from
each_again form shown P again [] h = refl
each_again form shown P again (x ∷ xs) h =
    ap (λ r. option_and_then (λ row. option_map (λ rows. row ∷ rows) (each_from form (items_of (map shown xs)))) (row_of r)) (again x h.0)
    ∙ ap (option_map (λ rows. x ∷ rows)) (each_again form shown P again xs h.1)

-- short texts, and all else that is true of each row
each_written : (rows : List SummaryRow) → AllByRecursion IsValidSummaryRow rows → All (λ r. IsShort 256 r.description × IsShort 128 r.global) rows → AllByRecursion IsWrittenRow rows
each_written [] valid short = tt
each_written (r ∷ rows) valid short = (record { valid = valid.0; short = short 0 r (omega arith) }, each_written rows valid.1 (λ k d low. short (suc k) d (omega (arith, low))))

-- the items of a list that is there
items_again : (key : Key) (d : Data) (rows : List Data) → get (name_of key) d ≡ Some (array (items_of rows)) → required as_array key d ≡ Ok (items_of rows)
unfolding required
items_again key d rows found = ap (needed as_array key) found

-- what stands beside the rows
beside : (k : List ℕ) (key : Key) (rows : List Data) (fs : List Field) → bytes_eq k (name_of key) ≡ false → are_apart fs ≡ true → get_member k (with_rows key rows (with_fields no_members fs)) ≡ option_map scalar_data (field_at k fs)
beside k key rows fs other apart =
    get_member-put_at k (name_of key) (array (items_of rows)) (with_fields no_members fs)
    ∙ (ap (λ b. cond b (Some (array (items_of rows))) (get_member k (with_fields no_members fs))) other
    ∙ get_member-with_fields k fs no_members apart refl)

---- Answers

abbrev summary_message : Header → Bool → List SummaryRow → Message
summary_message h more rows = record { header = h; body = Body.QuerySummaryConfirmed more rows }

summary_beside : (form : TimeForm) (h : Header) (more : Bool) (rows : List SummaryRow) (key : Key) → bytes_eq (name_of key) (name_of Key.Reservations) ≡ false → get (name_of key) (data_of form (summary_message h more rows)) ≡ option_map scalar_data (field_at (name_of key) (fields_of form (summary_message h more rows)))
unfolding data_of rows_in name_of field_at is_absent are_apart
summary_beside form h more rows key other = beside (name_of key) Key.Reservations (map (λ r. row_data (summary_fields form r)) rows) (fields_of form (summary_message h more rows)) other refl

summary_inside : (form : TimeForm) (h : Header) (more : Bool) (rows : List SummaryRow) → get (name_of Key.Reservations) (data_of form (summary_message h more rows)) ≡ Some (array (items_of (map (λ r. row_data (summary_fields form r)) rows)))
unfolding data_of rows_in
summary_inside form h more rows = get_member-put (name_of Key.Reservations) (array (items_of (map (λ r. row_data (summary_fields form r)) rows))) (with_fields no_members (fields_of form (summary_message h more rows)))

pub summary_kind : (form : TimeForm) (h : Header) (more : Bool) (rows : List SummaryRow) → get (name_of Key.Kind) (data_of form (summary_message h more rows)) ≡ Some (scalar_data (words (kind_name Kind.QuerySummaryConfirmed)))
unfolding name_of field_at
summary_kind form h more rows = summary_beside form h more rows Key.Kind refl

pub summary_rows_again : (form : TimeForm) (h : Header) (more : Bool) (rows : List SummaryRow) → IsValidHeader h → AllByRecursion IsValidSummaryRow rows → All (λ r. IsShort 256 r.description × IsShort 128 r.global) rows
    → summary_rows_from (data_of form (summary_message h more rows)) ≡ Ok (summary_message h more rows)
unfolding summary_rows_from name_of field_at header_from
summary_rows_again form h more rows vh v p =
    let d = data_of form (summary_message h more rows) in
    let at = summary_beside form h more rows in
    let correlation = required_again id_from Key.CorrelationId d (id_scalar h.correlation) h.correlation (at Key.CorrelationId refl) vh.correlation in
    let more_is = required_again flag_from Key.More d (flag more) more (at Key.More refl) refl in
    let provider = required_again name_from Key.ProviderNsa d (words h.provider) h.provider (at Key.ProviderNsa refl) vh.provider in
    let requester = required_again name_from Key.RequesterNsa d (words h.requester) h.requester (at Key.RequesterNsa refl) vh.requester in
    let items = items_again Key.Reservations d (map (λ r. row_data (summary_fields form r)) rows) (summary_inside form h more rows) in
    let each = each_again summary_row_from (λ r. row_data (summary_fields form r)) IsWrittenRow (summary_row_again form) rows (each_written rows v p) in
    rw (correlation, more_is, provider, requester, items, each) refl

abbrev recursive_message : Header → ℕ → Bool → List RecursiveRow → Message
recursive_message h c more rows = record { header = h; body = Body.QueryRecursiveConfirmed c more rows }

recursive_beside : (form : TimeForm) (h : Header) (c : ℕ) (more : Bool) (rows : List RecursiveRow) (key : Key) → bytes_eq (name_of key) (name_of Key.Reservations) ≡ false → get (name_of key) (data_of form (recursive_message h c more rows)) ≡ option_map scalar_data (field_at (name_of key) (fields_of form (recursive_message h c more rows)))
unfolding data_of rows_in name_of field_at is_absent are_apart
recursive_beside form h c more rows key other = beside (name_of key) Key.Reservations (map (λ r. row_data (recursive_fields r)) rows) (fields_of form (recursive_message h c more rows)) other refl

recursive_inside : (form : TimeForm) (h : Header) (c : ℕ) (more : Bool) (rows : List RecursiveRow) → get (name_of Key.Reservations) (data_of form (recursive_message h c more rows)) ≡ Some (array (items_of (map (λ r. row_data (recursive_fields r)) rows)))
unfolding data_of rows_in
recursive_inside form h c more rows = get_member-put (name_of Key.Reservations) (array (items_of (map (λ r. row_data (recursive_fields r)) rows))) (with_fields no_members (fields_of form (recursive_message h c more rows)))

pub recursive_kind : (form : TimeForm) (h : Header) (c : ℕ) (more : Bool) (rows : List RecursiveRow) → get (name_of Key.Kind) (data_of form (recursive_message h c more rows)) ≡ Some (scalar_data (words (kind_name Kind.QueryRecursiveConfirmed)))
unfolding name_of field_at
recursive_kind form h c more rows = recursive_beside form h c more rows Key.Kind refl

pub recursive_rows_again : (form : TimeForm) (h : Header) (c : ℕ) (more : Bool) (rows : List RecursiveRow) → IsValidHeader h → IsReadBack id_from (id_scalar c) c → AllByRecursion IsValidRecursiveRow rows → recursive_rows_from (data_of form (recursive_message h c more rows)) ≡ Ok (recursive_message h c more rows)
unfolding recursive_rows_from name_of field_at header_from
recursive_rows_again form h c more rows vh vc v =
    let d = data_of form (recursive_message h c more rows) in
    let at = recursive_beside form h c more rows in
    let connection = required_again id_from Key.ConnectionId d (id_scalar c) c (at Key.ConnectionId refl) vc in
    let correlation = required_again id_from Key.CorrelationId d (id_scalar h.correlation) h.correlation (at Key.CorrelationId refl) vh.correlation in
    let more_is = required_again flag_from Key.More d (flag more) more (at Key.More refl) refl in
    let provider = required_again name_from Key.ProviderNsa d (words h.provider) h.provider (at Key.ProviderNsa refl) vh.provider in
    let requester = required_again name_from Key.RequesterNsa d (words h.requester) h.requester (at Key.RequesterNsa refl) vh.requester in
    let items = items_again Key.Reservations d (map (λ r. row_data (recursive_fields r)) rows) (recursive_inside form h c more rows) in
    let each = each_again recursive_row_from (λ r. row_data (recursive_fields r)) IsValidRecursiveRow recursive_row_again rows v in
    rw (connection, correlation, more_is, provider, requester, items, each) refl

abbrev notice_message : Header → ℕ → Bool → List Notice → Message
notice_message h c more rows = record { header = h; body = Body.QueryNotificationConfirmed c more rows }

notice_beside : (form : TimeForm) (h : Header) (c : ℕ) (more : Bool) (rows : List Notice) (key : Key) → bytes_eq (name_of key) (name_of Key.Notifications) ≡ false → get (name_of key) (data_of form (notice_message h c more rows)) ≡ option_map scalar_data (field_at (name_of key) (fields_of form (notice_message h c more rows)))
unfolding data_of rows_in name_of field_at is_absent are_apart
notice_beside form h c more rows key other = beside (name_of key) Key.Notifications (map (λ r. row_data (notice_fields r)) rows) (fields_of form (notice_message h c more rows)) other refl

notice_inside : (form : TimeForm) (h : Header) (c : ℕ) (more : Bool) (rows : List Notice) → get (name_of Key.Notifications) (data_of form (notice_message h c more rows)) ≡ Some (array (items_of (map (λ r. row_data (notice_fields r)) rows)))
unfolding data_of rows_in
notice_inside form h c more rows = get_member-put (name_of Key.Notifications) (array (items_of (map (λ r. row_data (notice_fields r)) rows))) (with_fields no_members (fields_of form (notice_message h c more rows)))

pub notice_kind : (form : TimeForm) (h : Header) (c : ℕ) (more : Bool) (rows : List Notice) → get (name_of Key.Kind) (data_of form (notice_message h c more rows)) ≡ Some (scalar_data (words (kind_name Kind.QueryNotificationConfirmed)))
unfolding name_of field_at
notice_kind form h c more rows = notice_beside form h c more rows Key.Kind refl

pub notice_rows_again : (form : TimeForm) (h : Header) (c : ℕ) (more : Bool) (rows : List Notice) → IsValidHeader h → IsReadBack id_from (id_scalar c) c → AllByRecursion IsValidNotice rows → notice_rows_from (data_of form (notice_message h c more rows)) ≡ Ok (notice_message h c more rows)
unfolding notice_rows_from name_of field_at header_from
notice_rows_again form h c more rows vh vc v =
    let d = data_of form (notice_message h c more rows) in
    let at = notice_beside form h c more rows in
    let connection = required_again id_from Key.ConnectionId d (id_scalar c) c (at Key.ConnectionId refl) vc in
    let correlation = required_again id_from Key.CorrelationId d (id_scalar h.correlation) h.correlation (at Key.CorrelationId refl) vh.correlation in
    let more_is = required_again flag_from Key.More d (flag more) more (at Key.More refl) refl in
    let provider = required_again name_from Key.ProviderNsa d (words h.provider) h.provider (at Key.ProviderNsa refl) vh.provider in
    let requester = required_again name_from Key.RequesterNsa d (words h.requester) h.requester (at Key.RequesterNsa refl) vh.requester in
    let items = items_again Key.Notifications d (map (λ r. row_data (notice_fields r)) rows) (notice_inside form h c more rows) in
    let each = each_again notice_from (λ r. row_data (notice_fields r)) IsValidNotice notice_again rows v in
    rw (connection, correlation, more_is, items, each, provider, requester) refl

abbrev outcome_message : Header → ℕ → Bool → List Outcome → Message
outcome_message h c more rows = record { header = h; body = Body.QueryResultConfirmed c more rows }

outcome_beside : (form : TimeForm) (h : Header) (c : ℕ) (more : Bool) (rows : List Outcome) (key : Key) → bytes_eq (name_of key) (name_of Key.Results) ≡ false → get (name_of key) (data_of form (outcome_message h c more rows)) ≡ option_map scalar_data (field_at (name_of key) (fields_of form (outcome_message h c more rows)))
unfolding data_of rows_in name_of field_at is_absent are_apart
outcome_beside form h c more rows key other = beside (name_of key) Key.Results (map (λ r. row_data (outcome_fields r)) rows) (fields_of form (outcome_message h c more rows)) other refl

outcome_inside : (form : TimeForm) (h : Header) (c : ℕ) (more : Bool) (rows : List Outcome) → get (name_of Key.Results) (data_of form (outcome_message h c more rows)) ≡ Some (array (items_of (map (λ r. row_data (outcome_fields r)) rows)))
unfolding data_of rows_in
outcome_inside form h c more rows = get_member-put (name_of Key.Results) (array (items_of (map (λ r. row_data (outcome_fields r)) rows))) (with_fields no_members (fields_of form (outcome_message h c more rows)))

pub outcome_kind : (form : TimeForm) (h : Header) (c : ℕ) (more : Bool) (rows : List Outcome) → get (name_of Key.Kind) (data_of form (outcome_message h c more rows)) ≡ Some (scalar_data (words (kind_name Kind.QueryResultConfirmed)))
unfolding name_of field_at
outcome_kind form h c more rows = outcome_beside form h c more rows Key.Kind refl

pub outcome_rows_again : (form : TimeForm) (h : Header) (c : ℕ) (more : Bool) (rows : List Outcome) → IsValidHeader h → IsReadBack id_from (id_scalar c) c → AllByRecursion IsValidOutcome rows → outcome_rows_from (data_of form (outcome_message h c more rows)) ≡ Ok (outcome_message h c more rows)
unfolding outcome_rows_from name_of field_at header_from
outcome_rows_again form h c more rows vh vc v =
    let d = data_of form (outcome_message h c more rows) in
    let at = outcome_beside form h c more rows in
    let connection = required_again id_from Key.ConnectionId d (id_scalar c) c (at Key.ConnectionId refl) vc in
    let correlation = required_again id_from Key.CorrelationId d (id_scalar h.correlation) h.correlation (at Key.CorrelationId refl) vh.correlation in
    let more_is = required_again flag_from Key.More d (flag more) more (at Key.More refl) refl in
    let provider = required_again name_from Key.ProviderNsa d (words h.provider) h.provider (at Key.ProviderNsa refl) vh.provider in
    let requester = required_again name_from Key.RequesterNsa d (words h.requester) h.requester (at Key.RequesterNsa refl) vh.requester in
    let items = items_again Key.Results d (map (λ r. row_data (outcome_fields r)) rows) (outcome_inside form h c more rows) in
    let each = each_again outcome_from (λ r. row_data (outcome_fields r)) IsValidOutcome outcome_again rows v in
    rw (connection, correlation, more_is, provider, requester, items, each) refl
