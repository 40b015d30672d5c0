-- Which messages, asks and entries have a spelling.
use Rattle.std.specs.Prelude.{◌≡◌, ◌≤◌, ◌↔◌, ℕ, List, Bool, true, false, length, Option, None, IfSome, IfNone, IsSome, IsTrue}
use Rattle.std.specs.List.{All}
use Rattle.std.specs.Str.{bytes_eq}
use Rattle.nsi_primitive.specs.Messages.{is_request}
use Rattle.nsi_primitive.specs.declared.ask.Ask.{Ask}
use Rattle.nsi_primitive.specs.declared.ask.AskAnswer.{AskAnswer}
use Rattle.nsi_primitive.specs.declared.ask.What.{What}
use Rattle.nsi_primitive.specs.declared.entry.Entry.{Entry}
use Rattle.nsi_primitive.specs.declared.entry.Event.{Event}
use Rattle.nsi_primitive.specs.declared.entry.Happening.{Happening}
use Rattle.nsi_primitive.specs.declared.entry.Input.{Input}
use Rattle.nsi_primitive.specs.declared.kind.ErrorName.{ErrorName}
use Rattle.nsi_primitive.specs.declared.message.Cause.{Cause}
use Rattle.nsi_primitive.specs.declared.message.ReserveRequest.{ReserveRequest}
use Rattle.nsi_primitive.specs.declared.message.Body.{Body}
use Rattle.nsi_primitive.specs.declared.message.Message.{Message}
use Rattle.nsi_primitive.specs.declared.message.Parcel.{Parcel}

-- a text of at most so many bytes, where it is given
abbrev pub IsShort : ℕ → Option (List ℕ) → Type 0
IsShort most text = IfSome text (λ t. length t ≤ most)

-- two points that differ, where both are given
abbrev pub AreApart : Option (List ℕ) → Option (List ℕ) → Type 0
AreApart source dest = IfSome source (λ a. IfSome dest (λ b. bytes_eq a b ≡ false))

-- short texts, points that differ, and both points where no connection is named
pub record IsPrintableReserve (r : ReserveRequest) : Type 0 where
  pub description : IsShort 256 r.description
  pub global : IsShort 128 r.global
  pub apart : AreApart r.source r.dest
  pub complete : IfNone r.connection (IsSome r.source × IsSome r.dest)

-- an error that says more than its name
abbrev pub has_further_keys : ErrorName → Bool
has_further_keys ErrorName.Bandwidth = true
has_further_keys ErrorName.Child = true
has_further_keys _ = false

-- an error that is given by its name alone has nothing else to say
abbrev pub IsPrintableCause : Cause → Type 0
IsPrintableCause (Cause.Plain error) = has_further_keys error ≡ false
IsPrintableCause (Cause.Bandwidth stp flow second load capacity) = Unit {0}
IsPrintableCause (Cause.Child child error) = Unit {0}

abbrev pub IsPrintableBody : Body → Type 0
IsPrintableBody (Body.Reserve r) = IsPrintableReserve r
IsPrintableBody (Body.ReserveResponse connection) = Unit {0}
IsPrintableBody (Body.ReserveConfirmed r) = IsShort 256 r.description × IsShort 128 r.global
IsPrintableBody (Body.ReserveFailed connection exception) = IsPrintableCause exception.cause
IsPrintableBody (Body.ReserveCommit connection) = Unit {0}
IsPrintableBody (Body.ReserveCommitConfirmed connection) = Unit {0}
IsPrintableBody (Body.ReserveCommitFailed connection exception) = IsPrintableCause exception.cause
IsPrintableBody (Body.ReserveAbort connection) = Unit {0}
IsPrintableBody (Body.ReserveAbortConfirmed connection) = Unit {0}
IsPrintableBody (Body.Provision connection) = Unit {0}
IsPrintableBody (Body.ProvisionConfirmed connection) = Unit {0}
IsPrintableBody (Body.Release connection) = Unit {0}
IsPrintableBody (Body.ReleaseConfirmed connection) = Unit {0}
IsPrintableBody (Body.Terminate connection) = Unit {0}
IsPrintableBody (Body.TerminateConfirmed connection) = Unit {0}
IsPrintableBody (Body.Error connection exception) = IsPrintableCause exception.cause
IsPrintableBody (Body.ReserveTimeout t) = Unit {0}
IsPrintableBody (Body.ErrorEvent notice) = Unit {0}
IsPrintableBody (Body.DataPlaneStateChange notice) = Unit {0}
IsPrintableBody (Body.MessageDeliveryTimeout timeout) = Unit {0}
IsPrintableBody (Body.QuerySummary connection) = Unit {0}
IsPrintableBody (Body.QueryNotification range) = Unit {0}
IsPrintableBody (Body.QueryResult range) = Unit {0}
IsPrintableBody (Body.QueryRecursive connection) = Unit {0}
IsPrintableBody (Body.QuerySummaryConfirmed more rows) = All (λ r. IsShort 256 r.description × IsShort 128 r.global) rows
IsPrintableBody (Body.QueryNotificationConfirmed connection more rows) = Unit {0}
IsPrintableBody (Body.QueryResultConfirmed connection more rows) = Unit {0}
IsPrintableBody (Body.QueryRecursiveConfirmed connection more rows) = Unit {0}

-- what the types of a message leave open, so that it can be written and read again
abbrev pub IsPrintable : Message → Type 0
IsPrintable m = IsPrintableBody m.body

-- an acknowledgement has a spelling whatever its types let it say
abbrev pub IsPrintableParcel : Parcel → Type 0
IsPrintableParcel (Parcel.Message m) = IsPrintable m
IsPrintableParcel (Parcel.Ack identity) = Unit {0}

-- only a summary may be asked for without a label
abbrev pub needs_label : What → Bool
needs_label What.Summary = false
needs_label _ = true

-- the points of a reserve differ
abbrev pub ArePointsApart : What → Type 0
ArePointsApart (What.Reserve r) = bytes_eq r.source r.dest ≡ false
ArePointsApart _ = Unit {0}

-- what the types of an ask leave open
pub record IsPrintableAsk (a : Ask) : Type 0 where
  pub label : IsTrue (needs_label a.what) → IsSome a.label
  pub apart : ArePointsApart a.what

-- what the types of an entry leave open
abbrev pub IsPrintableInput : Input → Type 0
IsPrintableInput (Input.Ask number ask) = IsPrintableAsk ask
IsPrintableInput (Input.Got m) = IsPrintable m
IsPrintableInput _ = Unit {0}

abbrev pub IsPrintableEntry : Entry → Type 0
IsPrintableEntry e = IsPrintableInput e.input

abbrev pub is_ask : Input → Bool
is_ask (Input.Ask number ask) = true
is_ask _ = false

-- an ask is answered, and nothing else is
pub record IsPrintableTaken (e : Entry) (answer : Option AskAnswer) : Type 0 where
  pub entry : IsPrintableEntry e
  pub answered : IsTrue (is_ask e.input) ↔ IsSome answer

-- what the types of an event leave open
abbrev pub IsPrintableHappening : Happening → Type 0
IsPrintableHappening (Happening.Entry entry answer) = IsPrintableTaken entry answer
IsPrintableHappening _ = Unit {0}

abbrev pub IsPrintableEvent : Event → Type 0
IsPrintableEvent e = IsPrintableHappening e.what

-- a request that is read from a line
abbrev pub IsRequest : Message → Type 0
IsRequest m = is_request m.body ≡ true

-- a reserve that names both points and no connection
abbrev pub IsFirstRequest : ReserveRequest → Type 0
IsFirstRequest r = (r.connection ≡ None) × IsSome r.source × IsSome r.dest

abbrev pub IsFirstReserveBody : Body → Type 0
IsFirstReserveBody (Body.Reserve r) = IsFirstRequest r
IsFirstReserveBody _ = ⊥

-- a request for a new connection
abbrev pub IsFirstReserve : Message → Type 0
IsFirstReserve m = IsFirstReserveBody m.body
