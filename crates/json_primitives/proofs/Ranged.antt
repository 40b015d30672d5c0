-- What the ranges and forms of a message say is all that its line needs to be read again.
use Rattle.std.proofs.Common.{◌≡◌, ◌≤◌, ℕ, List, [], ◌∷◌, ◌&&◌, true, nat_le, cond, Option, Some, None, IfSome, ap, arith}
use Rattle.std.proofs.lemmas.Bool.Decides.{nat_tests}
use Rattle.std.specs.List.{AllByRecursion}
use Rattle.nsi_primitive.specs.Ranges.{IsId, IsSecond, IsMbps, IsVersion, IsHoldTime, IsName, IsRangedHeader, IsRangedIdentity, IsRangedReserve, IsRangedConfirmation, IsRangedCause, IsRangedException, IsRangedTimeout, IsRangedFault, IsRangedPlane, IsRangedDelivery, IsRangedSummary, IsRangedRecursive, IsRangedNotice, IsRangedOutcome, IsRangedBody, IsRanged}
use Rattle.nsi_primitive.specs.declared.message.Body.{Body}
use Rattle.nsi_primitive.specs.declared.message.Cause.{Cause}
use Rattle.nsi_primitive.specs.declared.message.DeliveryTimeout.{DeliveryTimeout}
use Rattle.nsi_primitive.specs.declared.message.Exception.{Exception}
use Rattle.nsi_primitive.specs.declared.message.FaultNotice.{FaultNotice}
use Rattle.nsi_primitive.specs.declared.message.Header.{Header}
use Rattle.nsi_primitive.specs.declared.message.HoldTimeout.{HoldTimeout}
use Rattle.nsi_primitive.specs.declared.message.Identity.{Identity}
use Rattle.nsi_primitive.specs.declared.message.Message.{Message}
use Rattle.nsi_primitive.specs.declared.message.Notice.{Notice}
use Rattle.nsi_primitive.specs.declared.message.Outcome.{Outcome}
use Rattle.nsi_primitive.specs.declared.message.PlaneNotice.{PlaneNotice}
use Rattle.nsi_primitive.specs.declared.message.RecursiveRow.{RecursiveRow}
use Rattle.nsi_primitive.specs.declared.message.ReserveConfirmation.{ReserveConfirmation}
use Rattle.nsi_primitive.specs.declared.message.ReserveRequest.{ReserveRequest}
use Rattle.nsi_primitive.specs.declared.message.SummaryRow.{SummaryRow}
use Rattle.nsi_primitive.proofs.IdTexts.{id_text_again}
use Rattle.json_fields.specs.Fields.{id_from, name_from, capacity_from, second_from, version_from, hold_from}
use Rattle.json_fields.specs.Objects.{IsReadBack, IsReadInEachForm, digits, words, id_scalar}
use Rattle.json_fields.proofs.Times.{in_each_form}
use Rattle.json_primitives.specs.Valid.{IsValidHeader, IsValidIdentity, IsValidReserve, IsValidConfirmation, IsValidCause, IsValidException, IsValidTimeout, IsValidFault, IsValidPlane, IsValidDelivery, IsValidBody, IsValid}
use Rattle.json_primitives.specs.ValidRows.{IsValidSummaryRow, IsValidRecursiveRow, IsValidNotice, IsValidOutcome, IsValidRows}

in_range : (low high n : ℕ) → low ≤ n → n ≤ high → (nat_le low n && nat_le n high) ≡ true
in_range low high n least most = grind (arith, nat_tests)

id_back : (n : ℕ) → IsId n → IsReadBack id_from (id_scalar n) n
id_back n h = id_text_again n h

name_back : (name : List ℕ) → IsName name → IsReadBack name_from (words name) name
name_back name h = ap (λ b. cond b (Some name) None) h

mbps_back : (n : ℕ) → IsMbps n → IsReadBack capacity_from (digits n) n
mbps_back n h = ap (λ b. cond b (Some n) None) (in_range 1 1099511627776 n h.0 h.1)

second_back : (n : ℕ) → IsSecond n → IsReadBack second_from (digits n) n
second_back n h = ap (λ b. cond b (Some n) None) (in_range 0 253370764799 n (omega arith) h)

version_back : (n : ℕ) → IsVersion n → IsReadBack version_from (digits n) n
version_back n h = ap (λ b. cond b (Some n) None) (in_range 0 2147483647 n (omega arith) h)

hold_back : (n : ℕ) → IsHoldTime n → IsReadBack hold_from (digits n) n
hold_back n h = ap (λ b. cond b (Some n) None) (in_range 1 86400 n h.0 h.1)

if_some : {A : Type 0} (P Q : A → Type 0) → ((x : A) → P x → Q x) → (o : Option A) → IfSome o P → IfSome o Q
if_some P Q f None h = tt
if_some P Q f (Some x) h = f x h

each : {A : Type 0} (P Q : A → Type 0) → ((x : A) → P x → Q x) → (xs : List A) → AllByRecursion P xs → AllByRecursion Q xs
each P Q f [] h = tt
each P Q f (x ∷ xs) h = (f x h.0, each P Q f xs h.1)

id_if : (o : Option ℕ) → IfSome o IsId → IfSome o (λ n. IsReadBack id_from (id_scalar n) n)
id_if o h = if_some IsId _ id_back o h

name_if : (o : Option (List ℕ)) → IfSome o IsName → IfSome o (λ n. IsReadBack name_from (words n) n)
name_if o h = if_some IsName _ name_back o h

version_if : (o : Option ℕ) → IfSome o IsVersion → IfSome o (λ n. IsReadBack version_from (digits n) n)
version_if o h = if_some IsVersion _ version_back o h

time_if : (o : Option ℕ) → IfSome o IsSecond → IfSome o IsReadInEachForm
time_if o h = if_some IsSecond _ in_each_form o h

header_back : (h : Header) → IsRangedHeader h → IsValidHeader h
header_back h r = record { correlation = id_back h.correlation r.correlation; provider = name_back h.provider r.provider; requester = name_back h.requester r.requester }

pub identity_back : (i : Identity) → IsRangedIdentity i → IsValidIdentity i
identity_back i r = record { correlation = id_back i.correlation r.correlation; provider = name_back i.provider r.provider; requester = name_back i.requester r.requester }

reserve_back : (x : ReserveRequest) → IsRangedReserve x → IsValidReserve x
reserve_back x r = record {
  capacity = mbps_back x.capacity r.capacity;
  connection = id_if x.connection r.connection;
  dest = name_if x.dest r.dest;
  end = in_each_form x.end r.end;
  source = name_if x.source r.source;
  start = time_if x.start r.start;
  version = version_if x.version r.version;
}

confirmation_back : (x : ReserveConfirmation) → IsRangedConfirmation x → IsValidConfirmation x
confirmation_back x r = record {
  capacity = mbps_back x.capacity r.capacity;
  connection = id_back x.connection r.connection;
  dest = name_back x.dest r.dest;
  end = in_each_form x.end r.end;
  source = name_back x.source r.source;
  start = in_each_form x.start r.start;
  version = version_back x.version r.version;
}

cause_back : (c : Cause) → IsRangedCause c → IsValidCause c
cause_back (Cause.Plain error) r = tt
cause_back (Cause.Bandwidth stp flow second load capacity) r = (name_back stp r.0, second_back second r.1, mbps_back capacity r.3)
cause_back (Cause.Child child error) r = name_back child r

exception_back : (e : Exception) → IsRangedException e → IsValidException e
exception_back e r = record { nsa = name_back e.nsa r.nsa; cause = cause_back e.cause r.cause }

timeout_back : (t : HoldTimeout) → IsRangedTimeout t → IsValidTimeout t
timeout_back t r = record {
  connection = id_back t.connection r.connection;
  originating_connection = id_back t.originating_connection r.originating_connection;
  originating_nsa = name_back t.originating_nsa r.originating_nsa;
  time = second_back t.time r.time;
  value = hold_back t.value r.value;
}

fault_back : (n : FaultNotice) → IsRangedFault n → IsValidFault n
fault_back n r = record {
  connection = id_back n.connection r.connection;
  originating_connection = id_back n.originating_connection r.originating_connection;
  originating_nsa = name_back n.originating_nsa r.originating_nsa;
  time = second_back n.time r.time;
}

plane_back : (n : PlaneNotice) → IsRangedPlane n → IsValidPlane n
plane_back n r = record { connection = id_back n.connection r.connection; time = second_back n.time r.time; version = version_back n.version r.version }

delivery_back : (t : DeliveryTimeout) → IsRangedDelivery t → IsValidDelivery t
delivery_back t r = record { connection = id_back t.connection r.connection; delivery = id_back t.delivery r.delivery; time = second_back t.time r.time }

summary_back : (x : SummaryRow) → IsRangedSummary x → IsValidSummaryRow x
summary_back x r = record {
  capacity = if_some IsMbps _ mbps_back x.capacity r.capacity;
  connection = id_back x.connection r.connection;
  dest = name_back x.dest r.dest;
  end = time_if x.end r.end;
  source = name_back x.source r.source;
  start = time_if x.start r.start;
  version = version_if x.version r.version;
}

recursive_back : (x : RecursiveRow) → IsRangedRecursive x → IsValidRecursiveRow x
recursive_back x r = record { connection = id_back x.connection r.connection; depth = r.depth; provider = name_back x.provider r.provider; version = version_if x.version r.version }

notice_back : (n : Notice) → IsRangedNotice n → IsValidNotice n
notice_back n r = record { correlation = id_back n.correlation r.correlation; second = second_back n.second r.second }

outcome_back : (o : Outcome) → IsRangedOutcome o → IsValidOutcome o
outcome_back o r = record { correlation = id_back o.correlation r.correlation; second = second_back o.second r.second }

body_back : (b : Body) → IsRangedBody b → IsValidBody b
body_back (Body.Reserve x) r = reserve_back x r
body_back (Body.ReserveResponse connection) r = id_back connection r
body_back (Body.ReserveConfirmed x) r = confirmation_back x r
body_back (Body.ReserveFailed connection e) r = (id_back connection r.0, exception_back e r.1)
body_back (Body.ReserveCommit connection) r = id_back connection r
body_back (Body.ReserveCommitConfirmed connection) r = id_back connection r
body_back (Body.ReserveCommitFailed connection e) r = (id_back connection r.0, exception_back e r.1)
body_back (Body.ReserveAbort connection) r = id_back connection r
body_back (Body.ReserveAbortConfirmed connection) r = id_back connection r
body_back (Body.Provision connection) r = id_back connection r
body_back (Body.ProvisionConfirmed connection) r = id_back connection r
body_back (Body.Release connection) r = id_back connection r
body_back (Body.ReleaseConfirmed connection) r = id_back connection r
body_back (Body.Terminate connection) r = id_back connection r
body_back (Body.TerminateConfirmed connection) r = id_back connection r
body_back (Body.Error connection e) r = (id_if connection r.0, exception_back e r.1)
body_back (Body.ReserveTimeout t) r = timeout_back t r
body_back (Body.ErrorEvent n) r = fault_back n r
body_back (Body.DataPlaneStateChange n) r = plane_back n r
body_back (Body.MessageDeliveryTimeout t) r = delivery_back t r
body_back (Body.QuerySummary connection) r = id_if connection r
body_back (Body.QueryNotification range) r = id_back range.connection r.connection
body_back (Body.QueryResult range) r = id_back range.connection r.connection
body_back (Body.QueryRecursive connection) r = id_back connection r
body_back (Body.QuerySummaryConfirmed more rows) r = tt
body_back (Body.QueryNotificationConfirmed connection more rows) r = id_back connection r.0
body_back (Body.QueryResultConfirmed connection more rows) r = id_back connection r.0
body_back (Body.QueryRecursiveConfirmed connection more rows) r = id_back connection r.0

pub rows_back : (b : Body) → IsRangedBody b → IsValidRows b
rows_back (Body.QuerySummaryConfirmed more rows) r = each IsRangedSummary IsValidSummaryRow summary_back rows r
rows_back (Body.QueryNotificationConfirmed connection more rows) r = each IsRangedNotice IsValidNotice notice_back rows r.1
rows_back (Body.QueryResultConfirmed connection more rows) r = each IsRangedOutcome IsValidOutcome outcome_back rows r.1
rows_back (Body.QueryRecursiveConfirmed connection more rows) r = each IsRangedRecursive IsValidRecursiveRow recursive_back rows r.1
rows_back _ r = tt

pub message_back : (m : Message) → IsRanged m → IsValid m
message_back m r = (header_back m.header r.header, body_back m.body r.body)
