-- The laws of a view.
use Rattle.std.specs.Prelude.{ℕ, ◌≡◌, ◌⊎◌, true, false, List, Option, Some, None, ◌==◌, ◌&&◌}
use Rattle.std.specs.Str.{bytes_eq}
use Rattle.nsi_primitive.specs.Messages.{kind_of, connection_of}
use Rattle.nsi_primitive.specs.Printable.{IsShort, IsPrintable}
use Rattle.nsi_primitive.specs.declared.kind.Kind.{Kind}
use Rattle.nsi_primitive.specs.declared.message.Body.{Body}
use Rattle.nsi_primitive.specs.declared.message.Exception.{Exception}
use Rattle.nsi_primitive.specs.declared.message.HoldTimeout.{HoldTimeout}
use Rattle.nsi_primitive.specs.declared.message.Message.{Message}
use Rattle.nsi_primitive.specs.declared.message.ReserveConfirmation.{ReserveConfirmation}
use Rattle.nsi_primitive.specs.declared.message.Service.{Service}
use Rattle.nsi_primitive.specs.declared.state.Rsm.{Rsm}
use Rattle.child_connection.specs.declared.state.Phase.{Phase}
use Rattle.child_connection.specs.declared.state.Taken.{Taken}
use Rattle.child_connection.specs.Views.{ChildConnection, new_view, sent, open_request}
use Rattle.child_connection.specs.Asks.{asks, request_about, reserve_for, to_child}
use Rattle.child_connection.specs.Refusals.{is_about}
use Rattle.child_connection.specs.Hearing.{hears, hear, push_version}
use Rattle.child_connection.specs.Holding.{is_reservation, phase_of, holds, fits, settles, is_response, teaches, IsSameReservation, IsAlike, IsApart, Learns, Commits}
use Rattle.child_connection.specs.Standing.{Standing, IsQuiet, back}
use Rattle.child_connection.specs.Later.{IsReady, IsLater}
use Rattle.child_connection.specs.Places.{IsSamePlace}

---- Messages

-- what is ignored leaves the view
abbrev pub IgnoredLeaves : Type 0
IgnoredLeaves = (m : Message) (x : ChildConnection) → (hear m x).taken ≡ Taken.Ignored → (hear m x).view ≡ x

-- a view that asked nothing hears nothing
abbrev pub NewHearsNothing : Type 0
NewHearsNothing = (m : Message) (child source dest : List ℕ) → IsAlike (new_view child source dest) (hear m (new_view child source dest)).view

abbrev pub AsksKeepThePlace : Type 0
AsksKeepThePlace = (k : Kind) (c : ℕ) (x : ChildConnection) → IsSamePlace x (asks k c x)

abbrev pub MessagesKeepThePlace : Type 0
MessagesKeepThePlace = (m : Message) (x : ChildConnection) → IsSamePlace x (hear m x).view

---- What can be taken back

-- a view is a later form of itself, and a later form of a later form is one
abbrev pub SameIsLater : Type 0
SameIsLater = (x : ChildConnection) → IsReady x → IsLater x x

abbrev pub LaterIsLater : Type 0
LaterIsLater = (x y z : ChildConnection) → IsLater x y → IsLater y z → IsLater x z

abbrev pub AsksAreLater : Type 0
AsksAreLater = (k : Kind) (c : ℕ) (x : ChildConnection) → IsReady x → IsLater x (asks k c x)

abbrev pub MessagesAreLater : Type 0
MessagesAreLater = (m : Message) (x : ChildConnection) → IsReady x → IsLater x (hear m x).view

---- What an ask says

-- a request about a connection is of the kind that was asked, and names the connection
abbrev pub AsksNameTheConnection : Type 0
AsksNameTheConnection = (k : Kind) (id : ℕ) → is_about k ≡ true → (kind_of (request_about k id) ≡ k) × (connection_of (request_about k id) ≡ Some id)

abbrev pub FirstNamesNone : Type 0
FirstNamesNone = (s : Service) (version : Option ℕ) (start end capacity : ℕ) (x : ChildConnection) → connection_of (Body.Reserve (reserve_for (Some s) version start end capacity x)) ≡ None

abbrev pub ModificationNamesTheConnection : Type 0
ModificationNamesTheConnection =
    (version : Option ℕ) (start end capacity : ℕ) (x : ChildConnection) → connection_of (Body.Reserve (reserve_for None version start end capacity x)) ≡ x.connection

-- what is asked can be written
abbrev pub AsksArePrintable : Type 0
AsksArePrintable = (parent : List ℕ) (c id : ℕ) (k : Kind) (x : ChildConnection) → IsPrintable (to_child parent c x (request_about k id))

abbrev pub FirstIsPrintable : Type 0
FirstIsPrintable =
    (parent : List ℕ) (c : ℕ) (s : Service) (version : Option ℕ) (start end capacity : ℕ) (x : ChildConnection) → IsShort 256 s.description → IsShort 128 s.global →
    bytes_eq x.source x.dest ≡ false → IsPrintable (to_child parent c x (Body.Reserve (reserve_for (Some s) version start end capacity x)))

abbrev pub ModificationIsPrintable : Type 0
ModificationIsPrintable =
    (parent : List ℕ) (c id : ℕ) (version : Option ℕ) (start end capacity : ℕ) (x : ChildConnection) → x.connection ≡ Some id →
    IsPrintable (to_child parent c x (Body.Reserve (reserve_for None version start end capacity x)))

---- One request at a time

-- what is asked of the reservation machine is held as unanswered, and no other request was
abbrev pub AskedStands : Type 0
AskedStands =
    (k : Kind) (c : ℕ) (x : ChildConnection) → is_reservation k ≡ true →
    ((asks k c x).reserve_request ≡ Some (sent c k)) × ((asks k c x).phase ≡ phase_of k) × (k ≡ Kind.Reserve → (asks k c x).attempt ≡ Some c)

abbrev pub AskedIsHeld : Type 0
AskedIsHeld = (k : Kind) (c : ℕ) (x : ChildConnection) → is_reservation k ≡ true → holds x.child c (asks k c x) ≡ true

abbrev pub NoneWasHeld : Type 0
NoneWasHeld = (k : Kind) (x : ChildConnection) (child : List ℕ) (c : ℕ) → is_reservation k ≡ true → open_request k x ≡ None → holds child c x ≡ false

abbrev pub OthersHoldTheSame : Type 0
OthersHoldTheSame = (k : Kind) (d : ℕ) (x : ChildConnection) (child : List ℕ) (c : ℕ) → is_reservation k ≡ false → holds child c (asks k d x) ≡ holds child c x

-- it is held until a message of its child, under its correlation, ends it
abbrev pub HeldUntilAnswered : Type 0
HeldUntilAnswered =
    (m : Message) (x : ChildConnection) (child : List ℕ) (c : ℕ) → fits x ≡ true → (settles m.body && (bytes_eq child m.header.provider && (c == m.header.correlation))) ≡ false →
    holds child c x ≡ true → holds child c (hear m x).view ≡ true

abbrev pub NewFits : Type 0
NewFits = (child source dest : List ℕ) → fits (new_view child source dest) ≡ true

abbrev pub AsksKeepTheFit : Type 0
AsksKeepTheFit = (k : Kind) (c : ℕ) (x : ChildConnection) → open_request k x ≡ None → fits x ≡ true → fits (asks k c x) ≡ true

abbrev pub MessagesKeepTheFit : Type 0
MessagesKeepTheFit = (m : Message) (x : ChildConnection) → fits x ≡ true → fits (hear m x).view ≡ true

---- What concerns the reservation

abbrev pub ApartIsTheSame : Type 0
ApartIsTheSame = (b : Body) (d : ℕ) (x : ChildConnection) → IsApart b d x → IsSameReservation x (hears b d x).view

-- what doesn't end a request of the reservation machine leaves the reservation
abbrev pub OnlySettlingChanges : Type 0
OnlySettlingChanges = (b : Body) (d : ℕ) (x : ChildConnection) → settles b ≡ false → IsSameReservation x (hears b d x).view

-- and but for the response it teaches no connection
abbrev pub OthersAreAlike : Type 0
OthersAreAlike = (b : Body) (d : ℕ) (x : ChildConnection) → settles b ≡ false → is_response b ≡ false → IsAlike x (hears b d x).view

abbrev pub SameHearTheSame : Type 0
SameHearTheSame = (b : Body) (d : ℕ) (x y : ChildConnection) → IsSameReservation x y → IsSameReservation (hears b d x).view (hears b d y).view

-- a request stays until it is answered, and none comes by a message; nor does an attempt
abbrev pub RequestStaysOrEnds : Type 0
RequestStaysOrEnds = (b : Body) (d : ℕ) (x : ChildConnection) → ((hears b d x).view.reserve_request ≡ x.reserve_request) ⊎ ((hears b d x).view.reserve_request ≡ None)

abbrev pub AttemptIsAsked : Type 0
AttemptIsAsked = (b : Body) (d : ℕ) (x : ChildConnection) (c : ℕ) → (hears b d x).view.attempt ≡ Some c → x.attempt ≡ Some c

-- what is held after a message is held under the attempt that it was asked under
abbrev pub HeldKeepsTheAttempt : Type 0
HeldKeepsTheAttempt = (b : Body) (d : ℕ) (x : ChildConnection) → (hears b d x).view.phase ≡ Phase.Held → (hears b d x).view.attempt ≡ x.attempt

---- Connections and versions

abbrev pub AsksKeepWhatIsKnown : Type 0
AsksKeepWhatIsKnown = (k : Kind) (c : ℕ) (x : ChildConnection) → ((asks k c x).connection ≡ x.connection) × ((asks k c x).committed ≡ x.committed) × ((asks k c x).pending ≡ x.pending)

abbrev pub MessagesTeach : Type 0
MessagesTeach = (b : Body) (d : ℕ) (x : ChildConnection) → Learns b d x (hears b d x).view

-- the answer to a first reserve teaches the connection
abbrev pub FirstAnswerTeaches : Type 0
FirstAnswerTeaches =
    (b : Body) (c id : ℕ) (x : ChildConnection) → x.reserve_request ≡ Some (sent c Kind.Reserve) → x.attempt ≡ Some c → x.phase ≡ Phase.Reserving → x.connection ≡ None → teaches b ≡ Some id →
    (hears b c x).view.connection ≡ Some id

-- a message adds one version at most: the one that was pending when the commit was asked
abbrev pub MessagesCommit : Type 0
MessagesCommit = (b : Body) (d : ℕ) (x : ChildConnection) → Commits b d x (hears b d x).view

---- The table of phases

-- a request that is asked at rest leaves the view at rest if it is refused, and its error does
abbrev pub AskedMayGoBack : Type 0
AskedMayGoBack = (k : Kind) (c : ℕ) (x : ChildConnection) (s : Standing) → is_reservation k ≡ true → IsQuiet x s → IsQuiet (back (asks k c x)) s

abbrev pub RefusedGoesBack : Type 0
RefusedGoesBack =
    (k : Kind) (c : ℕ) (x : ChildConnection) (s : Standing) (id : Option ℕ) (e : Exception) → IsQuiet (back x) s → x.reserve_request ≡ Some (sent c k) →
    IsQuiet (hears (Body.Error id e) c x).view s

abbrev pub SameIsQuiet : Type 0
SameIsQuiet = (x y : ChildConnection) (s : Standing) → IsSameReservation x y → IsQuiet x s → IsQuiet y s

-- each answer to the unanswered request leaves the view at rest against the record that gave it
abbrev pub ConfirmedRests : Type 0
ConfirmedRests =
    (f : ReserveConfirmation) (c : ℕ) (x : ChildConnection) (s : Standing) → x.reserve_request ≡ Some (sent c Kind.Reserve) → s.rsm ≡ Rsm.ReserveHeld → s.pending ≡ Some f.version →
    x.committed ≡ s.committed → IsQuiet (hears (Body.ReserveConfirmed f) c x).view s

abbrev pub FailedRests : Type 0
FailedRests =
    (id : ℕ) (e : Exception) (c : ℕ) (x : ChildConnection) (s : Standing) → x.reserve_request ≡ Some (sent c Kind.Reserve) → s.rsm ≡ Rsm.ReserveFailed → x.committed ≡ s.committed →
    IsQuiet (hears (Body.ReserveFailed id e) c x).view s

-- a hold that ended is heard of by a view that has it, or that still waits for it
abbrev pub TimedOutRests : Type 0
TimedOutRests =
    (t : HoldTimeout) (c : ℕ) (x : ChildConnection) (s : Standing) → x.attempt ≡ Some c → (x.phase ≡ Phase.Held) ⊎ (x.phase ≡ Phase.Reserving) → s.rsm ≡ Rsm.ReserveTimeout →
    x.committed ≡ s.committed → IsQuiet (hears (Body.ReserveTimeout t) c x).view s

abbrev pub CommitRests : Type 0
CommitRests =
    (id c : ℕ) (x : ChildConnection) (s : Standing) → x.reserve_request ≡ Some (sent c Kind.ReserveCommit) → s.rsm ≡ Rsm.ReserveStart → s.committed ≡ push_version x.committed x.pending →
    IsQuiet (hears (Body.ReserveCommitConfirmed id) c x).view s

abbrev pub FailedCommitRests : Type 0
FailedCommitRests =
    (id : ℕ) (e : Exception) (c : ℕ) (x : ChildConnection) (s : Standing) → x.reserve_request ≡ Some (sent c Kind.ReserveCommit) → s.rsm ≡ Rsm.ReserveStart → x.committed ≡ s.committed →
    IsQuiet (hears (Body.ReserveCommitFailed id e) c x).view s

abbrev pub AbortRests : Type 0
AbortRests =
    (id c : ℕ) (x : ChildConnection) (s : Standing) → x.reserve_request ≡ Some (sent c Kind.ReserveAbort) → s.rsm ≡ Rsm.ReserveStart → x.committed ≡ s.committed →
    IsQuiet (hears (Body.ReserveAbortConfirmed id) c x).view s
