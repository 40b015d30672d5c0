-- A notification that is written reads as itself.
use Rattle.std.proofs.Common.{◌≡◌, option_map, Ok, refl}
use Rattle.serde_json.specs.Find.{get}
use Rattle.nsi_primitive.specs.declared.message.Header.{Header}
use Rattle.nsi_primitive.specs.Kinds.{event_text}
use Rattle.nsi_primitive.specs.declared.message.HoldTimeout.{HoldTimeout}
use Rattle.nsi_primitive.specs.declared.message.FaultNotice.{FaultNotice}
use Rattle.nsi_primitive.specs.declared.message.PlaneNotice.{PlaneNotice}
use Rattle.nsi_primitive.specs.declared.message.DeliveryTimeout.{DeliveryTimeout}
use Rattle.nsi_primitive.specs.declared.message.Body.{Body}
use Rattle.nsi_primitive.specs.declared.message.Message.{Message}
use Rattle.json_fields.specs.Keys.{name_of}
use Rattle.json_fields.specs.Fields.{id_from, name_from, second_from, version_from, hold_from, count_from, flag_from, event_from}
use Rattle.json_fields.specs.Objects.{digits, words, flag, id_scalar, scalar_data}
use Rattle.json_fields.specs.declared.key.Key.{Key}
use Rattle.json_fields.specs.declared.time_form.TimeForm.{TimeForm}
use Rattle.json_fields.proofs.Members.{field_at, is_absent, are_apart}
use Rattle.json_fields.proofs.Again.{required_again, one_flag_again, event_again}
use Rattle.json_primitives.specs.Headers.{header_from}
use Rattle.json_primitives.specs.Notifications.{timeout_from, fault_from, plane_from, delivery_from}
use Rattle.json_primitives.specs.Rows.{rows_in}
use Rattle.json_primitives.specs.Spelling.{fields_of, data_of}
use Rattle.json_primitives.specs.Valid.{IsValidHeader, IsValidTimeout, IsValidFault, IsValidPlane, IsValidDelivery}
use Rattle.json_primitives.proofs.FoundAt.{found_at}

abbrev timeout_of : Header → HoldTimeout → Message
timeout_of h t = record { header = h; body = Body.ReserveTimeout t }

abbrev fault_of : Header → FaultNotice → Message
fault_of h n = record { header = h; body = Body.ErrorEvent n }

abbrev plane_of : Header → PlaneNotice → Message
plane_of h n = record { header = h; body = Body.DataPlaneStateChange n }

abbrev delivery_of : Header → DeliveryTimeout → Message
delivery_of h t = record { header = h; body = Body.MessageDeliveryTimeout t }

pub timeout_at : (form : TimeForm) (h : Header) (t : HoldTimeout) (key : Key) → get (name_of key) (data_of form (timeout_of h t)) ≡ option_map scalar_data (field_at (name_of key) (fields_of form (timeout_of h t)))
unfolding rows_in name_of field_at is_absent are_apart
timeout_at form h t key = found_at form (timeout_of h t) key refl refl

pub timeout_again : (form : TimeForm) (h : Header) (t : HoldTimeout) → IsValidHeader h → IsValidTimeout t → timeout_from (data_of form (timeout_of h t)) ≡ Ok (timeout_of h t)
unfolding timeout_from name_of field_at header_from
timeout_again form h t vh v =
    let d = data_of form (timeout_of h t) in
    let connection = required_again id_from Key.ConnectionId d (id_scalar t.connection) t.connection (timeout_at form h t Key.ConnectionId) (v.connection) in
    let correlation = required_again id_from Key.CorrelationId d (id_scalar h.correlation) h.correlation (timeout_at form h t Key.CorrelationId) (vh.correlation) in
    let notification = required_again count_from Key.NotificationId d (digits t.notification) t.notification (timeout_at form h t Key.NotificationId) (refl) in
    let originating_connection = required_again id_from Key.OriginatingConnectionId d (id_scalar t.originating_connection) t.originating_connection (timeout_at form h t Key.OriginatingConnectionId) (v.originating_connection) in
    let originating_nsa = required_again name_from Key.OriginatingNsa d (words t.originating_nsa) t.originating_nsa (timeout_at form h t Key.OriginatingNsa) (v.originating_nsa) in
    let provider = required_again name_from Key.ProviderNsa d (words h.provider) h.provider (timeout_at form h t Key.ProviderNsa) (vh.provider) in
    let requester = required_again name_from Key.RequesterNsa d (words h.requester) h.requester (timeout_at form h t Key.RequesterNsa) (vh.requester) in
    let time = required_again second_from Key.TimeStamp d (digits t.time) t.time (timeout_at form h t Key.TimeStamp) (v.time) in
    let value = required_again hold_from Key.TimeoutValue d (digits t.value) t.value (timeout_at form h t Key.TimeoutValue) (v.value) in
    rw (connection, correlation, notification, originating_connection, originating_nsa, provider, requester, time, value) refl

pub fault_at : (form : TimeForm) (h : Header) (n : FaultNotice) (key : Key) → get (name_of key) (data_of form (fault_of h n)) ≡ option_map scalar_data (field_at (name_of key) (fields_of form (fault_of h n)))
unfolding rows_in name_of field_at is_absent are_apart
fault_at form h n key = found_at form (fault_of h n) key refl refl

pub fault_again : (form : TimeForm) (h : Header) (n : FaultNotice) → IsValidHeader h → IsValidFault n → fault_from (data_of form (fault_of h n)) ≡ Ok (fault_of h n)
unfolding fault_from name_of field_at header_from
fault_again form h n vh v =
    let d = data_of form (fault_of h n) in
    let connection = required_again id_from Key.ConnectionId d (id_scalar n.connection) n.connection (fault_at form h n Key.ConnectionId) (v.connection) in
    let correlation = required_again id_from Key.CorrelationId d (id_scalar h.correlation) h.correlation (fault_at form h n Key.CorrelationId) (vh.correlation) in
    let event = required_again event_from Key.Event d (words (event_text n.event)) n.event (fault_at form h n Key.Event) (event_again n.event) in
    let notification = required_again count_from Key.NotificationId d (digits n.notification) n.notification (fault_at form h n Key.NotificationId) (refl) in
    let originating_connection = required_again id_from Key.OriginatingConnectionId d (id_scalar n.originating_connection) n.originating_connection (fault_at form h n Key.OriginatingConnectionId) (v.originating_connection) in
    let originating_nsa = required_again name_from Key.OriginatingNsa d (words n.originating_nsa) n.originating_nsa (fault_at form h n Key.OriginatingNsa) (v.originating_nsa) in
    let provider = required_again name_from Key.ProviderNsa d (words h.provider) h.provider (fault_at form h n Key.ProviderNsa) (vh.provider) in
    let requester = required_again name_from Key.RequesterNsa d (words h.requester) h.requester (fault_at form h n Key.RequesterNsa) (vh.requester) in
    let time = required_again second_from Key.TimeStamp d (digits n.time) n.time (fault_at form h n Key.TimeStamp) (v.time) in
    rw (connection, correlation, event, notification, originating_connection, originating_nsa, provider, requester, time) refl

pub plane_at : (form : TimeForm) (h : Header) (n : PlaneNotice) (key : Key) → get (name_of key) (data_of form (plane_of h n)) ≡ option_map scalar_data (field_at (name_of key) (fields_of form (plane_of h n)))
unfolding rows_in name_of field_at is_absent are_apart
plane_at form h n key = found_at form (plane_of h n) key refl refl

pub plane_again : (form : TimeForm) (h : Header) (n : PlaneNotice) → IsValidHeader h → IsValidPlane n → plane_from (data_of form (plane_of h n)) ≡ Ok (plane_of h n)
unfolding plane_from name_of field_at header_from
plane_again form h n vh v =
    let d = data_of form (plane_of h n) in
    let active = required_again flag_from Key.Active d (flag n.active) n.active (plane_at form h n Key.Active) (one_flag_again n.active) in
    let connection = required_again id_from Key.ConnectionId d (id_scalar n.connection) n.connection (plane_at form h n Key.ConnectionId) (v.connection) in
    let correlation = required_again id_from Key.CorrelationId d (id_scalar h.correlation) h.correlation (plane_at form h n Key.CorrelationId) (vh.correlation) in
    let notification = required_again count_from Key.NotificationId d (digits n.notification) n.notification (plane_at form h n Key.NotificationId) (refl) in
    let provider = required_again name_from Key.ProviderNsa d (words h.provider) h.provider (plane_at form h n Key.ProviderNsa) (vh.provider) in
    let requester = required_again name_from Key.RequesterNsa d (words h.requester) h.requester (plane_at form h n Key.RequesterNsa) (vh.requester) in
    let time = required_again second_from Key.TimeStamp d (digits n.time) n.time (plane_at form h n Key.TimeStamp) (v.time) in
    let version = required_again version_from Key.Version d (digits n.version) n.version (plane_at form h n Key.Version) (v.version) in
    let consistent = required_again flag_from Key.VersionConsistent d (flag n.consistent) n.consistent (plane_at form h n Key.VersionConsistent) (one_flag_again n.consistent) in
    rw (active, connection, correlation, notification, provider, requester, time, version, consistent) refl

pub delivery_at : (form : TimeForm) (h : Header) (t : DeliveryTimeout) (key : Key) → get (name_of key) (data_of form (delivery_of h t)) ≡ option_map scalar_data (field_at (name_of key) (fields_of form (delivery_of h t)))
unfolding rows_in name_of field_at is_absent are_apart
delivery_at form h t key = found_at form (delivery_of h t) key refl refl

pub delivery_again : (form : TimeForm) (h : Header) (t : DeliveryTimeout) → IsValidHeader h → IsValidDelivery t → delivery_from (data_of form (delivery_of h t)) ≡ Ok (delivery_of h t)
unfolding delivery_from name_of field_at header_from
delivery_again form h t vh v =
    let d = data_of form (delivery_of h t) in
    let connection = required_again id_from Key.ConnectionId d (id_scalar t.connection) t.connection (delivery_at form h t Key.ConnectionId) (v.connection) in
    let correlation = required_again id_from Key.CorrelationId d (id_scalar h.correlation) h.correlation (delivery_at form h t Key.CorrelationId) (vh.correlation) in
    let delivery = required_again id_from Key.DeliveryCorrelationId d (id_scalar t.delivery) t.delivery (delivery_at form h t Key.DeliveryCorrelationId) (v.delivery) in
    let notification = required_again count_from Key.NotificationId d (digits t.notification) t.notification (delivery_at form h t Key.NotificationId) (refl) in
    let provider = required_again name_from Key.ProviderNsa d (words h.provider) h.provider (delivery_at form h t Key.ProviderNsa) (vh.provider) in
    let requester = required_again name_from Key.RequesterNsa d (words h.requester) h.requester (delivery_at form h t Key.RequesterNsa) (vh.requester) in
    let time = required_again second_from Key.TimeStamp d (digits t.time) t.time (delivery_at form h t Key.TimeStamp) (v.time) in
    rw (connection, correlation, delivery, notification, provider, requester, time) refl
