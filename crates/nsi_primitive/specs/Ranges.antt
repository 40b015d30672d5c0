-- What the types of messages, asks and entries say: numbers are in their ranges, names are names, texts are UTF-8.
use Rattle.std.specs.Prelude.{◌≡◌, ◌≤◌, ◌<◌, ◌^◌, ℕ, List, true, IfSome}
use Rattle.std.specs.List.{AllByRecursion}
use Rattle.std.specs.Str.{IsUtf8}
use Rattle.nsi_base.specs.Bytes.{is_name}
use Rattle.nsi_base.specs.Range.{greatest_second, least_mbps, greatest_mbps, greatest_version, greatest_agent, greatest_record, least_hold, greatest_hold}
use Rattle.nsi_primitive.specs.Printable.{IsPrintable, IsPrintableParcel, IsPrintableAsk, IsPrintableEntry, IsPrintableEvent}
use Rattle.nsi_primitive.specs.declared.ask.Ask.{Ask}
use Rattle.nsi_primitive.specs.declared.ask.AskAnswer.{AskAnswer}
use Rattle.nsi_primitive.specs.declared.ask.NumbersAsked.{NumbersAsked}
use Rattle.nsi_primitive.specs.declared.ask.ReserveAsk.{ReserveAsk}
use Rattle.nsi_primitive.specs.declared.ask.What.{What}
use Rattle.nsi_primitive.specs.declared.entry.Entry.{Entry}
use Rattle.nsi_primitive.specs.declared.entry.Event.{Event}
use Rattle.nsi_primitive.specs.declared.entry.Happening.{Happening}
use Rattle.nsi_primitive.specs.declared.entry.Input.{Input}
use Rattle.nsi_primitive.specs.declared.message.Body.{Body}
use Rattle.nsi_primitive.specs.declared.message.Cause.{Cause}
use Rattle.nsi_primitive.specs.declared.message.DeliveryTimeout.{DeliveryTimeout}
use Rattle.nsi_primitive.specs.declared.message.Exception.{Exception}
use Rattle.nsi_primitive.specs.declared.message.FaultNotice.{FaultNotice}
use Rattle.nsi_primitive.specs.declared.message.Header.{Header}
use Rattle.nsi_primitive.specs.declared.message.HoldTimeout.{HoldTimeout}
use Rattle.nsi_primitive.specs.declared.message.Identity.{Identity}
use Rattle.nsi_primitive.specs.declared.message.Message.{Message}
use Rattle.nsi_primitive.specs.declared.message.Notice.{Notice}
use Rattle.nsi_primitive.specs.declared.message.NumberRange.{NumberRange}
use Rattle.nsi_primitive.specs.declared.message.Outcome.{Outcome}
use Rattle.nsi_primitive.specs.declared.message.Parcel.{Parcel}
use Rattle.nsi_primitive.specs.declared.message.PlaneNotice.{PlaneNotice}
use Rattle.nsi_primitive.specs.declared.message.RecursiveRow.{RecursiveRow}
use Rattle.nsi_primitive.specs.declared.message.ReserveConfirmation.{ReserveConfirmation}
use Rattle.nsi_primitive.specs.declared.message.ReserveRequest.{ReserveRequest}
use Rattle.nsi_primitive.specs.declared.message.SummaryRow.{SummaryRow}

---- Numbers and texts

abbrev pub IsId : ℕ → Type 0
IsId n = n < 2 ^ 128

abbrev pub IsCount : ℕ → Type 0
IsCount n = n < 2 ^ 64

abbrev pub IsSecond : ℕ → Type 0
IsSecond n = n ≤ greatest_second

abbrev pub IsMbps : ℕ → Type 0
IsMbps n = (least_mbps ≤ n) × (n ≤ greatest_mbps)

abbrev pub IsVersion : ℕ → Type 0
IsVersion n = n ≤ greatest_version

abbrev pub IsHoldTime : ℕ → Type 0
IsHoldTime n = (least_hold ≤ n) × (n ≤ greatest_hold)

abbrev pub IsName : List ℕ → Type 0
IsName name = is_name name ≡ true

---- Messages

pub record IsRangedHeader (h : Header) : Type 0 where
  pub correlation : IsId h.correlation
  pub requester : IsName h.requester
  pub provider : IsName h.provider

pub record IsRangedIdentity (i : Identity) : Type 0 where
  pub correlation : IsId i.correlation
  pub requester : IsName i.requester
  pub provider : IsName i.provider

pub record IsRangedReserve (r : ReserveRequest) : Type 0 where
  pub capacity : IsMbps r.capacity
  pub connection : IfSome r.connection IsId
  pub description : IfSome r.description IsUtf8
  pub dest : IfSome r.dest IsName
  pub end : IsSecond r.end
  pub global : IfSome r.global IsUtf8
  pub source : IfSome r.source IsName
  pub start : IfSome r.start IsSecond
  pub version : IfSome r.version IsVersion

pub record IsRangedConfirmation (r : ReserveConfirmation) : Type 0 where
  pub capacity : IsMbps r.capacity
  pub connection : IsId r.connection
  pub description : IfSome r.description IsUtf8
  pub dest : IsName r.dest
  pub end : IsSecond r.end
  pub global : IfSome r.global IsUtf8
  pub source : IsName r.source
  pub start : IsSecond r.start
  pub version : IsVersion r.version

abbrev pub IsRangedCause : Cause → Type 0
IsRangedCause (Cause.Plain error) = Unit {0}
IsRangedCause (Cause.Bandwidth stp flow second load capacity) = IsName stp × IsSecond second × IsCount load × IsMbps capacity
IsRangedCause (Cause.Child child error) = IsName child

pub record IsRangedException (e : Exception) : Type 0 where
  pub nsa : IsName e.nsa
  pub cause : IsRangedCause e.cause

pub record IsRangedTimeout (t : HoldTimeout) : Type 0 where
  pub connection : IsId t.connection
  pub notification : IsCount t.notification
  pub originating_connection : IsId t.originating_connection
  pub originating_nsa : IsName t.originating_nsa
  pub time : IsSecond t.time
  pub value : IsHoldTime t.value

pub record IsRangedFault (n : FaultNotice) : Type 0 where
  pub connection : IsId n.connection
  pub notification : IsCount n.notification
  pub originating_connection : IsId n.originating_connection
  pub originating_nsa : IsName n.originating_nsa
  pub time : IsSecond n.time

pub record IsRangedPlane (n : PlaneNotice) : Type 0 where
  pub connection : IsId n.connection
  pub notification : IsCount n.notification
  pub time : IsSecond n.time
  pub version : IsVersion n.version

pub record IsRangedDelivery (t : DeliveryTimeout) : Type 0 where
  pub connection : IsId t.connection
  pub delivery : IsId t.delivery
  pub notification : IsCount t.notification
  pub time : IsSecond t.time

pub record IsRangedNumbers (r : NumberRange) : Type 0 where
  pub connection : IsId r.connection
  pub end : IfSome r.end IsCount
  pub start : IfSome r.start IsCount

pub record IsRangedSummary (r : SummaryRow) : Type 0 where
  pub capacity : IfSome r.capacity IsMbps
  pub connection : IsId r.connection
  pub description : IfSome r.description IsUtf8
  pub dest : IsName r.dest
  pub end : IfSome r.end IsSecond
  pub global : IfSome r.global IsUtf8
  pub source : IsName r.source
  pub start : IfSome r.start IsSecond
  pub version : IfSome r.version IsVersion

pub record IsRangedRecursive (r : RecursiveRow) : Type 0 where
  pub connection : IsId r.connection
  pub depth : r.depth ≤ 255
  pub provider : IsName r.provider
  pub version : IfSome r.version IsVersion

pub record IsRangedNotice (n : Notice) : Type 0 where
  pub number : IsCount n.number
  pub correlation : IsId n.correlation
  pub second : IsSecond n.second

pub record IsRangedOutcome (o : Outcome) : Type 0 where
  pub number : IsCount o.number
  pub correlation : IsId o.correlation
  pub second : IsSecond o.second

-- what a body of each kind says, its rows among it
abbrev pub IsRangedBody : Body → Type 0
IsRangedBody (Body.Reserve r) = IsRangedReserve r
IsRangedBody (Body.ReserveResponse connection) = IsId connection
IsRangedBody (Body.ReserveConfirmed r) = IsRangedConfirmation r
IsRangedBody (Body.ReserveFailed connection e) = IsId connection × IsRangedException e
IsRangedBody (Body.ReserveCommit connection) = IsId connection
IsRangedBody (Body.ReserveCommitConfirmed connection) = IsId connection
IsRangedBody (Body.ReserveCommitFailed connection e) = IsId connection × IsRangedException e
IsRangedBody (Body.ReserveAbort connection) = IsId connection
IsRangedBody (Body.ReserveAbortConfirmed connection) = IsId connection
IsRangedBody (Body.Provision connection) = IsId connection
IsRangedBody (Body.ProvisionConfirmed connection) = IsId connection
IsRangedBody (Body.Release connection) = IsId connection
IsRangedBody (Body.ReleaseConfirmed connection) = IsId connection
IsRangedBody (Body.Terminate connection) = IsId connection
IsRangedBody (Body.TerminateConfirmed connection) = IsId connection
IsRangedBody (Body.Error connection e) = IfSome connection IsId × IsRangedException e
IsRangedBody (Body.ReserveTimeout t) = IsRangedTimeout t
IsRangedBody (Body.ErrorEvent n) = IsRangedFault n
IsRangedBody (Body.DataPlaneStateChange n) = IsRangedPlane n
IsRangedBody (Body.MessageDeliveryTimeout t) = IsRangedDelivery t
IsRangedBody (Body.QuerySummary connection) = IfSome connection IsId
IsRangedBody (Body.QueryNotification range) = IsRangedNumbers range
IsRangedBody (Body.QueryResult range) = IsRangedNumbers range
IsRangedBody (Body.QueryRecursive connection) = IsId connection
IsRangedBody (Body.QuerySummaryConfirmed more rows) = AllByRecursion IsRangedSummary rows
IsRangedBody (Body.QueryNotificationConfirmed connection more rows) = IsId connection × AllByRecursion IsRangedNotice rows
IsRangedBody (Body.QueryResultConfirmed connection more rows) = IsId connection × AllByRecursion IsRangedOutcome rows
IsRangedBody (Body.QueryRecursiveConfirmed connection more rows) = IsId connection × AllByRecursion IsRangedRecursive rows

pub record IsRanged (m : Message) : Type 0 where
  pub header : IsRangedHeader m.header
  pub body : IsRangedBody m.body

abbrev pub IsRangedParcel : Parcel → Type 0
IsRangedParcel (Parcel.Message m) = IsRanged m
IsRangedParcel (Parcel.Ack identity) = IsRangedIdentity identity

---- Asks, entries and events

pub record IsRangedReserveAsk (r : ReserveAsk) : Type 0 where
  pub source : IsName r.source
  pub dest : IsName r.dest
  pub capacity : IsMbps r.capacity
  pub start : IsSecond r.start
  pub end : IsSecond r.end
  pub version : IfSome r.version IsVersion

pub record AreCounts (n : NumbersAsked) : Type 0 where
  pub from : IsCount n.from
  pub to : IsCount n.to

abbrev pub IsRangedWhat : What → Type 0
IsRangedWhat (What.Reserve r) = IsRangedReserveAsk r
IsRangedWhat (What.Notifications numbers) = IfSome numbers AreCounts
IsRangedWhat (What.Results numbers) = IfSome numbers AreCounts
IsRangedWhat _ = Unit {0}

pub record IsRangedAsk (a : Ask) : Type 0 where
  pub label : IfSome a.label IsName
  pub what : IsRangedWhat a.what

abbrev pub IsRangedInput : Input → Type 0
IsRangedInput (Input.Ask number ask) = (number < 2 ^ 32) × IsRangedAsk ask
IsRangedInput (Input.Got m) = IsRanged m
IsRangedInput (Input.Work number machine) = number ≤ greatest_record
IsRangedInput Input.Tick = Unit {0}
IsRangedInput (Input.Force number) = number ≤ greatest_record
IsRangedInput (Input.Acked identity) = IsRangedIdentity identity

pub record IsRangedEntry (e : Entry) : Type 0 where
  pub second : IsSecond e.second
  pub input : IsRangedInput e.input

abbrev pub IsRangedAnswer : AskAnswer → Type 0
IsRangedAnswer (AskAnswer.Outstanding id) = IsId id
IsRangedAnswer _ = Unit {0}

abbrev pub IsRangedHappening : Happening → Type 0
IsRangedHappening (Happening.Entry entry answer) = IsRangedEntry entry × IfSome answer IsRangedAnswer
IsRangedHappening (Happening.Sync count) = IsCount count
IsRangedHappening (Happening.Restart count) = IsCount count

pub record IsRangedEvent (e : Event) : Type 0 where
  pub agent : e.agent ≤ greatest_agent
  pub what : IsRangedHappening e.what

---- What has a spelling that reads again, whatever type holds it

pub record IsSpellable (m : Message) : Type 0 where
  pub ranged : IsRanged m
  pub printable : IsPrintable m

pub record IsSpellableParcel (p : Parcel) : Type 0 where
  pub ranged : IsRangedParcel p
  pub printable : IsPrintableParcel p

pub record IsSpellableAsk (a : Ask) : Type 0 where
  pub ranged : IsRangedAsk a
  pub printable : IsPrintableAsk a

pub record IsSpellableEntry (e : Entry) : Type 0 where
  pub ranged : IsRangedEntry e
  pub printable : IsPrintableEntry e

pub record IsSpellableEvent (e : Event) : Type 0 where
  pub ranged : IsRangedEvent e
  pub printable : IsPrintableEvent e
