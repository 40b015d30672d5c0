-- An answer that is written reads as itself.
use Rattle.std.proofs.Common.{◌≡◌, ◌++◌, List, ℕ, Bool, Option, Some, None, option_map, option_and_then, IfSome, IsSome, Ok, true, false, refl, sym, codes, ap, ◌∙◌}
use Rattle.std.proofs.lemmas.Bool.{false≢true}
use Rattle.serde_json.specs.Data.{Data}
use Rattle.serde_json.specs.Find.{get}
use Rattle.nsi_primitive.specs.declared.kind.Kind.{Kind}
use Rattle.nsi_primitive.specs.declared.message.Header.{Header}
use Rattle.nsi_base.specs.declared.flow.Flow.{Flow}
use Rattle.nsi_primitive.specs.Kinds.{error_text, kind_name}
use Rattle.nsi_primitive.specs.Printable.{IsShort, IsPrintableCause, has_further_keys}
use Rattle.nsi_primitive.specs.declared.kind.ErrorName.{ErrorName}
use Rattle.nsi_primitive.specs.declared.message.Cause.{Cause}
use Rattle.nsi_primitive.specs.declared.message.Exception.{Exception}
use Rattle.nsi_primitive.specs.declared.message.ReserveConfirmation.{ReserveConfirmation}
use Rattle.nsi_primitive.specs.declared.message.Body.{Body}
use Rattle.nsi_primitive.specs.declared.message.Message.{Message}
use Rattle.json_fields.specs.Keys.{name_of}
use Rattle.json_fields.specs.Fields.{wrapped, optional, id_from, name_from, text_from, capacity_from, second_from, time_from, version_from, count_from, flag_from, directionality_from, error_from, plain_error_from, flow_from}
use Rattle.json_fields.specs.Objects.{Field, digits, words, flag, id_scalar, time_value, directionality_scalar, scalar_data, IsReadBack}
use Rattle.json_fields.specs.declared.key.Key.{Key}
use Rattle.json_fields.specs.declared.time_form.TimeForm.{TimeForm}
use Rattle.json_fields.proofs.Members.{field_at, is_absent, are_apart}
use Rattle.json_fields.proofs.Again.{required_again, optional_again, absent_again, text_again, flag_again, one_direction_again, error_again, plain_error_again}
use Rattle.json_fields.proofs.Times.{in_form}
use Rattle.json_primitives.specs.Headers.{header_from}
use Rattle.json_primitives.specs.Answers.{confirmation_from, connection_from, plain_from, lack_from, child_from, flow_or_both, refused_by, refused_from}
use Rattle.json_primitives.specs.Rows.{rows_in}
use Rattle.json_primitives.specs.Spelling.{header_fields, refusal_fields, flow_text, fields_of, data_of}
use Rattle.json_primitives.specs.Valid.{IsValidHeader, IsValidConfirmation, IsValidCause, IsValidException}
use Rattle.json_primitives.specs.declared.reading.answers.Refusal.{Refusal}
use Rattle.json_primitives.proofs.FoundAt.{data_with, found_with, found_at}

abbrev confirmation_of : Header → ReserveConfirmation → Message
confirmation_of h r = record { header = h; body = Body.ReserveConfirmed r }

pub confirmation_at : (form : TimeForm) (h : Header) (r : ReserveConfirmation) (key : Key) → get (name_of key) (data_of form (confirmation_of h r)) ≡ option_map scalar_data (field_at (name_of key) (fields_of form (confirmation_of h r)))
unfolding rows_in name_of field_at is_absent are_apart
confirmation_at form h r key = found_at form (confirmation_of h r) key refl refl

pub confirmation_again : (form : TimeForm) (h : Header) (r : ReserveConfirmation) → IsValidHeader h → IsValidConfirmation r → IsShort 256 r.description → IsShort 128 r.global → confirmation_from (data_of form (confirmation_of h r)) ≡ Ok (confirmation_of h r)
unfolding confirmation_from name_of field_at header_from
confirmation_again form h r vh v description_short global_short =
    let d = data_of form (confirmation_of h r) in
    let capacity = required_again capacity_from Key.Capacity d (digits r.capacity) r.capacity (confirmation_at form h r Key.Capacity) (v.capacity) in
    let connection = required_again id_from Key.ConnectionId d (id_scalar r.connection) r.connection (confirmation_at form h r Key.ConnectionId) (v.connection) in
    let correlation = required_again id_from Key.CorrelationId d (id_scalar h.correlation) h.correlation (confirmation_at form h r Key.CorrelationId) (vh.correlation) in
    let description = optional_again (text_from 256) Key.Description d words r.description (confirmation_at form h r Key.Description) (text_again 256 r.description description_short) in
    let dest = required_again name_from Key.DestStp d (words r.dest) r.dest (confirmation_at form h r Key.DestStp) (v.dest) in
    let directionality = required_again directionality_from Key.Directionality d (directionality_scalar r.directionality) r.directionality (confirmation_at form h r Key.Directionality) (one_direction_again r.directionality) in
    let end = required_again time_from Key.EndTime d (time_value form r.end) r.end (confirmation_at form h r Key.EndTime) (in_form form r.end v.end) in
    let global = optional_again (text_from 128) Key.GlobalReservationId d words r.global (confirmation_at form h r Key.GlobalReservationId) (text_again 128 r.global global_short) in
    let provider = required_again name_from Key.ProviderNsa d (words h.provider) h.provider (confirmation_at form h r Key.ProviderNsa) (vh.provider) in
    let requester = required_again name_from Key.RequesterNsa d (words h.requester) h.requester (confirmation_at form h r Key.RequesterNsa) (vh.requester) in
    let source = required_again name_from Key.SourceStp d (words r.source) r.source (confirmation_at form h r Key.SourceStp) (v.source) in
    let start = required_again time_from Key.StartTime d (time_value form r.start) r.start (confirmation_at form h r Key.StartTime) (in_form form r.start v.start) in
    let symmetric = optional_again flag_from Key.SymmetricPath d flag r.symmetric (confirmation_at form h r Key.SymmetricPath) (flag_again r.symmetric) in
    let version = required_again version_from Key.Version d (digits r.version) r.version (confirmation_at form h r Key.Version) (v.version) in
    rw (capacity, connection, correlation, description, dest, directionality, end, global, provider, requester, source, start, symmetric, version) refl

---- Refusals

-- it is there where it is needed
abbrev pub IsGiven : Bool → Option ℕ → Type 0
IsGiven true o = IsSome o
IsGiven false o = Unit {0}

connection_again : (is_needed : Bool) (d : Data) (o : Option ℕ) → get (name_of Key.ConnectionId) d ≡ option_map scalar_data (option_map id_scalar o) → IfSome o (λ n. IsReadBack id_from (id_scalar n) n) → IsGiven is_needed o → connection_from is_needed d ≡ Ok o
connection_again true d None found form given = absurd (false≢true given)
connection_again true d (Some c) found form given = ap wrapped (required_again id_from Key.ConnectionId d (id_scalar c) c found form)
connection_again false d o found form given = optional_again id_from Key.ConnectionId d id_scalar o found form

-- a direction that is named
abbrev flow_name : Flow → Option Flow
flow_name Flow.Both = None
flow_name Flow.In = Some Flow.In
flow_name Flow.Out = Some Flow.Out

flow_back : (flow : Flow) → flow_or_both (flow_name flow) ≡ flow
flow_back Flow.Both = refl
flow_back Flow.In = refl
flow_back Flow.Out = refl

flow_again : (flow : Flow) (d : Data) → get (name_of Key.Direction) d ≡ option_map scalar_data (option_map words (flow_text flow)) → optional flow_from Key.Direction d ≡ Ok (flow_name flow)
flow_again Flow.Both d found = absent_again flow_from Key.Direction d found
flow_again Flow.In d found = optional_again flow_from Key.Direction d (λ f. words (codes "in")) (Some Flow.In) found refl
flow_again Flow.Out d found = optional_again flow_from Key.Direction d (λ f. words (codes "out")) (Some Flow.Out) found refl

abbrev refusal_list : Kind → Header → Option ℕ → List ℕ → Cause → List Field
refusal_list kind h connection nsa cause = header_fields kind h ++ refusal_fields connection (record { nsa = nsa; cause = cause })

-- what a refusal is written as
abbrev pub refusal_data : Kind → Header → Option ℕ → List ℕ → Cause → Data
refusal_data kind h connection nsa cause = data_with (refusal_list kind h connection nsa cause)

abbrev refusal_of : Header → Option ℕ → List ℕ → Cause → Refusal
refusal_of h connection nsa cause = record { header = h; connection = connection; exception = record { nsa = nsa; cause = cause } }

-- what is true of all that is written of a refusal but its cause
record IsGood (is_needed : Bool) (h : Header) (connection : Option ℕ) (nsa : List ℕ) : Type 0 where
  header : IsValidHeader h
  connection_valid : IfSome connection (λ n. IsReadBack id_from (id_scalar n) n)
  given : IsGiven is_needed connection
  nsa_valid : IsReadBack name_from (words nsa) nsa

plain_at : (kind : Kind) (h : Header) (connection : Option ℕ) (nsa : List ℕ) (error : ErrorName) (key : Key)
    → get (name_of key) (refusal_data kind h connection nsa (Cause.Plain error)) ≡ option_map scalar_data (field_at (name_of key) (refusal_list kind h connection nsa (Cause.Plain error)))
unfolding name_of field_at is_absent are_apart
plain_at kind h connection nsa error key = found_with (refusal_list kind h connection nsa (Cause.Plain error)) key refl

plain_again : (is_needed : Bool) (kind : Kind) (h : Header) (connection : Option ℕ) (nsa : List ℕ) (error : ErrorName) → IsGood is_needed h connection nsa → has_further_keys error ≡ false → plain_from is_needed (refusal_data kind h connection nsa (Cause.Plain error)) ≡ Ok (refusal_of h connection nsa (Cause.Plain error))
unfolding plain_from name_of field_at header_from
plain_again is_needed kind h connection nsa error good plain =
    let d = refusal_data kind h connection nsa (Cause.Plain error) in
    let vh = good.header in
    let named = connection_again is_needed d connection (plain_at kind h connection nsa error Key.ConnectionId) good.connection_valid good.given in
    let correlation = required_again id_from Key.CorrelationId d (id_scalar h.correlation) h.correlation (plain_at kind h connection nsa error Key.CorrelationId) (vh.correlation) in
    let error_is = required_again plain_error_from Key.ErrorId d (words (error_text error)) error (plain_at kind h connection nsa error Key.ErrorId) (plain_error_again error plain) in
    let by = required_again name_from Key.NsaId d (words nsa) nsa (plain_at kind h connection nsa error Key.NsaId) (good.nsa_valid) in
    let provider = required_again name_from Key.ProviderNsa d (words h.provider) h.provider (plain_at kind h connection nsa error Key.ProviderNsa) (vh.provider) in
    let requester = required_again name_from Key.RequesterNsa d (words h.requester) h.requester (plain_at kind h connection nsa error Key.RequesterNsa) (vh.requester) in
    rw (named, correlation, error_is, by, provider, requester) refl

lack_at : (kind : Kind) (h : Header) (connection : Option ℕ) (nsa : List ℕ) (stp : List ℕ) (flow : Flow) (second load capacity : ℕ) (key : Key)
    → get (name_of key) (refusal_data kind h connection nsa (Cause.Bandwidth stp flow second load capacity)) ≡ option_map scalar_data (field_at (name_of key) (refusal_list kind h connection nsa (Cause.Bandwidth stp flow second load capacity)))
unfolding name_of field_at is_absent are_apart
lack_at kind h connection nsa stp flow second load capacity key = found_with (refusal_list kind h connection nsa (Cause.Bandwidth stp flow second load capacity)) key refl

lack_again : (is_needed : Bool) (kind : Kind) (h : Header) (connection : Option ℕ) (nsa : List ℕ) (stp : List ℕ) (flow : Flow) (second load capacity : ℕ) → IsGood is_needed h connection nsa → IsValidCause (Cause.Bandwidth stp flow second load capacity) → lack_from is_needed (refusal_data kind h connection nsa (Cause.Bandwidth stp flow second load capacity)) ≡ Ok (refusal_of h connection nsa (Cause.Bandwidth stp flow second load capacity))
unfolding lack_from name_of field_at header_from
lack_again is_needed kind h connection nsa stp flow second load capacity good v =
    let d = refusal_data kind h connection nsa (Cause.Bandwidth stp flow second load capacity) in
    let vh = good.header in
    let capacity_is = required_again capacity_from Key.Capacity d (digits capacity) capacity (lack_at kind h connection nsa stp flow second load capacity Key.Capacity) v.2 in
    let named = connection_again is_needed d connection (lack_at kind h connection nsa stp flow second load capacity Key.ConnectionId) good.connection_valid good.given in
    let correlation = required_again id_from Key.CorrelationId d (id_scalar h.correlation) h.correlation (lack_at kind h connection nsa stp flow second load capacity Key.CorrelationId) (vh.correlation) in
    let flow_is = flow_again flow d (lack_at kind h connection nsa stp flow second load capacity Key.Direction) in
    let error_is = required_again error_from Key.ErrorId d (words (error_text ErrorName.Bandwidth)) ErrorName.Bandwidth (lack_at kind h connection nsa stp flow second load capacity Key.ErrorId) (error_again ErrorName.Bandwidth) in
    let load_is = required_again count_from Key.Load d (digits load) load (lack_at kind h connection nsa stp flow second load capacity Key.Load) (refl) in
    let by = required_again name_from Key.NsaId d (words nsa) nsa (lack_at kind h connection nsa stp flow second load capacity Key.NsaId) (good.nsa_valid) in
    let provider = required_again name_from Key.ProviderNsa d (words h.provider) h.provider (lack_at kind h connection nsa stp flow second load capacity Key.ProviderNsa) (vh.provider) in
    let requester = required_again name_from Key.RequesterNsa d (words h.requester) h.requester (lack_at kind h connection nsa stp flow second load capacity Key.RequesterNsa) (vh.requester) in
    let second_is = required_again second_from Key.Second d (digits second) second (lack_at kind h connection nsa stp flow second load capacity Key.Second) v.1 in
    let stp_is = required_again name_from Key.Stp d (words stp) stp (lack_at kind h connection nsa stp flow second load capacity Key.Stp) (v.0) in
    rw (capacity_is, named, correlation, flow_is, error_is, load_is, by, provider, requester, second_is, stp_is, flow_back flow) refl

child_at : (kind : Kind) (h : Header) (connection : Option ℕ) (nsa : List ℕ) (child : List ℕ) (why : ErrorName) (key : Key)
    → get (name_of key) (refusal_data kind h connection nsa (Cause.Child child why)) ≡ option_map scalar_data (field_at (name_of key) (refusal_list kind h connection nsa (Cause.Child child why)))
unfolding name_of field_at is_absent are_apart
child_at kind h connection nsa child why key = found_with (refusal_list kind h connection nsa (Cause.Child child why)) key refl

child_again : (is_needed : Bool) (kind : Kind) (h : Header) (connection : Option ℕ) (nsa : List ℕ) (child : List ℕ) (why : ErrorName) → IsGood is_needed h connection nsa → IsValidCause (Cause.Child child why) → child_from is_needed (refusal_data kind h connection nsa (Cause.Child child why)) ≡ Ok (refusal_of h connection nsa (Cause.Child child why))
unfolding child_from name_of field_at header_from
child_again is_needed kind h connection nsa child why good v =
    let d = refusal_data kind h connection nsa (Cause.Child child why) in
    let vh = good.header in
    let child_is = required_again name_from Key.Child d (words child) child (child_at kind h connection nsa child why Key.Child) (v) in
    let why_is = required_again error_from Key.ChildErrorId d (words (error_text why)) why (child_at kind h connection nsa child why Key.ChildErrorId) (error_again why) in
    let named = connection_again is_needed d connection (child_at kind h connection nsa child why Key.ConnectionId) good.connection_valid good.given in
    let correlation = required_again id_from Key.CorrelationId d (id_scalar h.correlation) h.correlation (child_at kind h connection nsa child why Key.CorrelationId) (vh.correlation) in
    let error_is = required_again error_from Key.ErrorId d (words (error_text ErrorName.Child)) ErrorName.Child (child_at kind h connection nsa child why Key.ErrorId) (error_again ErrorName.Child) in
    let by = required_again name_from Key.NsaId d (words nsa) nsa (child_at kind h connection nsa child why Key.NsaId) (good.nsa_valid) in
    let provider = required_again name_from Key.ProviderNsa d (words h.provider) h.provider (child_at kind h connection nsa child why Key.ProviderNsa) (vh.provider) in
    let requester = required_again name_from Key.RequesterNsa d (words h.requester) h.requester (child_at kind h connection nsa child why Key.RequesterNsa) (vh.requester) in
    rw (child_is, why_is, named, correlation, error_is, by, provider, requester) refl

by_plain : (error : ErrorName) (is_needed : Bool) (d : Data) → has_further_keys error ≡ false → refused_by (Some error) is_needed d ≡ plain_from is_needed d
by_plain ErrorName.Payload is_needed d plain = refl
by_plain ErrorName.Version is_needed d plain = refl
by_plain ErrorName.WrongProvider is_needed d plain = refl
by_plain ErrorName.Nonexistent is_needed d plain = refl
by_plain ErrorName.Gone is_needed d plain = refl
by_plain ErrorName.InvalidTransition is_needed d plain = refl
by_plain ErrorName.VersionLow is_needed d plain = refl
by_plain ErrorName.UnknownStp is_needed d plain = refl
by_plain ErrorName.Schedule is_needed d plain = refl
by_plain ErrorName.Bandwidth is_needed d plain = absurd (false≢true (sym plain))
by_plain ErrorName.Passed is_needed d plain = refl
by_plain ErrorName.NoPath is_needed d plain = refl
by_plain ErrorName.Child is_needed d plain = absurd (false≢true (sym plain))
by_plain ErrorName.Timeout is_needed d plain = refl

cause_again : (is_needed : Bool) (kind : Kind) (h : Header) (connection : Option ℕ) (nsa : List ℕ) (cause : Cause) → IsGood is_needed h connection nsa → IsValidCause cause → IsPrintableCause cause
    → refused_from is_needed (refusal_data kind h connection nsa cause) ≡ Ok (refusal_of h connection nsa cause)
unfolding refused_from name_of field_at
cause_again is_needed kind h connection nsa (Cause.Plain error) good v p =
    let d = refusal_data kind h connection nsa (Cause.Plain error) in
    ap (λ o. refused_by o is_needed d) (ap (option_and_then error_from) (plain_at kind h connection nsa error Key.ErrorId) ∙ error_again error)
    ∙ (by_plain error is_needed d p ∙ plain_again is_needed kind h connection nsa error good p)
cause_again is_needed kind h connection nsa (Cause.Bandwidth stp flow second load capacity) good v p =
    let d = refusal_data kind h connection nsa (Cause.Bandwidth stp flow second load capacity) in
    ap (λ o. refused_by o is_needed d) (ap (option_and_then error_from) (lack_at kind h connection nsa stp flow second load capacity Key.ErrorId) ∙ error_again ErrorName.Bandwidth)
    ∙ lack_again is_needed kind h connection nsa stp flow second load capacity good v
cause_again is_needed kind h connection nsa (Cause.Child child why) good v p =
    let d = refusal_data kind h connection nsa (Cause.Child child why) in
    ap (λ o. refused_by o is_needed d) (ap (option_and_then error_from) (child_at kind h connection nsa child why Key.ErrorId) ∙ error_again ErrorName.Child)
    ∙ child_again is_needed kind h connection nsa child why good v

-- a refusal is read again, with its connection where it is needed
pub refused_again : (is_needed : Bool) (kind : Kind) (h : Header) (connection : Option ℕ) (e : Exception) → IsValidHeader h → IfSome connection (λ n. IsReadBack id_from (id_scalar n) n) → IsGiven is_needed connection → IsValidException e → IsPrintableCause e.cause
    → refused_from is_needed (refusal_data kind h connection e.nsa e.cause) ≡ Ok (record { header = h; connection = connection; exception = e })
refused_again is_needed kind h connection e vh vc given v p =
    cause_again is_needed kind h connection e.nsa e.cause (record { header = vh; connection_valid = vc; given = given; nsa_valid = v.nsa }) v.cause p

-- its kind
pub kind_at : (kind : Kind) (h : Header) (connection : Option ℕ) (nsa : List ℕ) (cause : Cause) → get (name_of Key.Kind) (refusal_data kind h connection nsa cause) ≡ Some (scalar_data (words (kind_name kind)))
unfolding name_of field_at
kind_at kind h connection nsa (Cause.Plain error) = plain_at kind h connection nsa error Key.Kind
kind_at kind h connection nsa (Cause.Bandwidth stp flow second load capacity) = lack_at kind h connection nsa stp flow second load capacity Key.Kind
kind_at kind h connection nsa (Cause.Child child why) = child_at kind h connection nsa child why Key.Kind
