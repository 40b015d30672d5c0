-- What an entry does at an agent that is asked, whatever its kind, as far as the views of its connections are concerned.
use Rattle.std.specs.Prelude.{ℕ, ◌≡◌, ◌<◌, true, false, List, [], ◌∷◌, ◌++◌, length, slice_set, Contains, Option, Some, None, option_map, ◌⊎◌}
use Rattle.nsi_primitive.specs.Messages.{kind_of, connection_of, is_request}
use Rattle.nsi_primitive.specs.declared.entry.Input.{Input}
use Rattle.nsi_primitive.specs.declared.kind.ErrorName.{ErrorName}
use Rattle.nsi_primitive.specs.declared.kind.Kind.{Kind}
use Rattle.nsi_primitive.specs.declared.message.Body.{Body}
use Rattle.nsi_primitive.specs.declared.message.Header.{Header}
use Rattle.nsi_primitive.specs.declared.message.Message.{Message}
use Rattle.nsi_primitive.specs.declared.message.ReserveConfirmation.{ReserveConfirmation}
use Rattle.nsi_primitive.specs.declared.message.ReserveRequest.{ReserveRequest}
use Rattle.nsi_primitive.specs.declared.message.Service.{Service}
use Rattle.nsi_primitive.specs.declared.state.Rsm.{Rsm}
use Rattle.nsi_primitive.specs.declared.state.Side.{Side}
use Rattle.message_retry.specs.Taken.{is_taken, with_taken}
use Rattle.child_connection.specs.Views.{ChildConnection, sent}
use Rattle.child_connection.specs.Holding.{is_reservation, IsHeeded}
use Rattle.connection_record.specs.declared.record.Record.{Record}
use Rattle.connection_record.specs.declared.moves.Reply.{Reply}
use Rattle.connection_record.specs.Applied.{moves_if, requested}
use Rattle.connection_record.specs.Courses.{answering, Course}
use Rattle.connection_record.specs.Moves.{fresh, asked_criteria, is_live}
use Rattle.connection_record.specs.Refusal.{record_refusal, place_of}
use Rattle.connection_record.specs.Replies.{Moved, id_or, addressed}
use Rattle.agent_state.specs.Entries.{error_reply}
use Rattle.agent_state.specs.State.{State, record_at}
use Rattle.circuit_link.specs.Children.{Child, about, TellsNothing}
use Rattle.circuit_link.specs.Headers.{header_of}
use Rattle.circuit_link.specs.Sides.{version_of}

-- What a record does by itself: it lives on; it checks nothing that it didn't check before; and what it confirms is what it was checking, under the
-- reserve that asked for it.
pub record IsByItself (r q : Record) (out : List Reply) : Type 0 where
  pub lives : is_live r.lsm ≡ true → is_live q.lsm ≡ true
  pub checks : q.rsm ≡ Rsm.ReserveChecking → (r.rsm ≡ Rsm.ReserveChecking) × (q.pending ≡ r.pending) × (q.reserve_request ≡ r.reserve_request)
  pub confirms : (y : Reply) (f : ReserveConfirmation) → Contains out y → y.body ≡ Body.ReserveConfirmed f →
      (r.rsm ≡ Rsm.ReserveChecking) × (y.correlation ≡ id_or r.reserve_request) × (option_map version_of r.pending ≡ Some f.version)

---- What is said

-- the answers in what is said are those of one record's replies to its owner
pub record Tells (name owner : List ℕ) (replies : List Reply) (out : List Message) : Type 0 where
  pub only : (parent : List ℕ) (c : ℕ) (b : Body) → Contains (about (header_of parent name c) out) b → (owner ≡ parent) × Contains (answering c replies) b
  pub all : (c : ℕ) (b : Body) → Contains (answering c replies) b → Contains (about (header_of owner name c) out) b

-- each record does something by itself, or nothing, and the answers in what is said are theirs
pub record TakeCourses (name : List ℕ) (old new : List Record) (out : List Message) : Type 0 where
  pub long : length new ≡ length old
  pub said : ℕ → List Reply
  pub each : (n : ℕ) → Course (record_at n old) (record_at n new) (said n)
  pub itself : (n : ℕ) → IsByItself (record_at n old) (record_at n new) (said n)
  pub all : (n c : ℕ) (b : Body) → n < length old → Contains (answering c (said n)) b → Contains (about (header_of (record_at n old).owner name c) out) b
  pub only : (parent : List ℕ) (c : ℕ) (b : Body) → Contains (about (header_of parent name c) out) b → (n : ℕ) × ((record_at n old).owner ≡ parent) × Contains (answering c (said n)) b

-- what a request is to a record
abbrev pub taken_by : Side → ℕ → Message → Record → Moved
taken_by side now m r = moves_if side (requested now m.body m.header.correlation r) now r

-- the record at a place takes a request, and then does something by itself
pub record IsTurn (side : Side) (name : List ℕ) (now : ℕ) (m : Message) (n : ℕ) (old new : List Record) (out : List Message) : Type 0 where
  pub after : Record
  pub said : List Reply
  pub more : List Message
  pub course : Course (taken_by side now m (record_at n old)).rec after said
  pub itself : IsByItself (taken_by side now m (record_at n old)).rec after said
  pub records : new ≡ slice_set old n after
  pub spoken : out ≡ addressed name (taken_by side now m (record_at n old)).rec.owner (taken_by side now m (record_at n old)).out ++ more
  pub tells : Tells name after.owner said more

---- An entry

-- an agent as its parents' views see it, once it has said this
abbrev pub child_of : State → List Message → Child
child_of s said = record { records = s.records; seen = s.seen; said = said }

-- a request comes that wasn't taken before, and is taken
pub record IsNew (input : Input) (m : Message) (d : Child) (seen : List Header) : Type 0 where
  pub got : input ≡ Input.Got m
  pub request : is_request m.body ≡ true
  pub untaken : is_taken m.header d.seen ≡ false
  pub counted : seen ≡ with_taken m.header d.seen

-- a request names a record of its sender, which doesn't refuse it
pub record IsAbout (now : ℕ) (name : List ℕ) (m : Message) (n : ℕ) (d : Child) : Type 0 where
  pub within : n < length d.records
  pub provider : m.header.provider ≡ name
  pub owner : (record_at n d.records).owner ≡ m.header.requester
  pub id : ℕ
  pub names : connection_of m.body ≡ Some id
  pub its_id : (record_at n d.records).id ≡ id
  pub unrefused : record_refusal now m.body (record_at n d.records) ≡ None

-- a request is a first reserve that may be asked
pub record IsFirst (now : ℕ) (name : List ℕ) (m : Message) : Type 0 where
  pub provider : m.header.provider ≡ name
  pub reserve : ReserveRequest
  pub body : m.body ≡ Body.Reserve reserve
  pub unnamed : reserve.connection ≡ None
  pub asks : asked_criteria now reserve [] ≡ None → ⊥

-- a request is refused: one about a record of its sender, for the reason that this record has
abbrev pub IsRefused : (now : ℕ) (name : List ℕ) → Message → ErrorName → Child → Type 0
IsRefused now name m error d =
    (n id : ℕ) → m.header.provider ≡ name → connection_of m.body ≡ Some id → place_of id m.header.requester d.records ≡ Some n →
    record_refusal now m.body (record_at n d.records) ≡ Some error

-- An entry: no request is taken, and records do something by themselves; or one is taken that isn't the reservation's, as a query is, and what is
-- said then concerns no view; or it is refused; or a record takes it; or a record is opened for it.
pub data Serves (name : List ℕ) (input : Input) (d : Child) (records : List Record) (seen : List Header) (out : List Message) : Type 0 where
  acts : seen ≡ d.seen → TakeCourses name d.records records out → Serves name input d records seen out
  leaves : (m : Message) → IsNew input m d seen → is_reservation (kind_of m.body) ≡ false → records ≡ d.records → TellsNothing out → Serves name input d records seen out
  refuses : (m : Message) (error : ErrorName) (now : ℕ) → IsNew input m d seen → IsRefused now name m error d → records ≡ d.records → out ≡ error_reply name m error ∷ [] → Serves name input d records seen out
  takes : (m : Message) (n : ℕ) (side : Side) (now : ℕ) → IsNew input m d seen → IsAbout now name m n d → IsTurn side name now m n d.records records out → Serves name input d records seen out
  opens : (m : Message) (id : ℕ) (service : Service) (source dest : ℕ) (side : Side) (now : ℕ) → IsNew input m d seen → IsFirst now name m →
      IsTurn side name now m (length d.records) (d.records ++ fresh id m.header.requester service source dest ∷ []) records out → Serves name input d records seen out

---- A request and a view

-- it isn't under a correlation that the view listens to
abbrev pub IsForeign : (parent name : List ℕ) → ChildConnection → Message → Type 0
IsForeign parent name x m = (c : ℕ) → IsHeeded x c → m.header ≡ header_of parent name c → ⊥

-- it is the view's own, of the reservation machine, and isn't answered
pub record IsOwn (parent name : List ℕ) (x : ChildConnection) (m : Message) : Type 0 where
  pub c : ℕ
  pub kind : Kind
  pub header : m.header ≡ header_of parent name c
  pub asked : x.reserve_request ≡ Some (sent c kind)
  pub its_kind : kind_of m.body ≡ kind
  pub reservation : is_reservation kind ≡ true
  pub connection : connection_of m.body ≡ x.connection

-- a request about the view's record that isn't the view's own is one of another machine
abbrev pub LeavesAlone : (name : List ℕ) → Option ℕ → Message → Child → Type 0
LeavesAlone name place m d =
    (n id : ℕ) → place ≡ Some n → m.header.provider ≡ name → connection_of m.body ≡ Some id → (record_at n d.records).id ≡ id → (record_at n d.records).owner ≡ m.header.requester →
    is_reservation (kind_of m.body) ≡ false

-- where the view's record is behind its own request: where it was, or, where it was nowhere, at the place of the record that was opened
abbrev pub IsPlaceAfter : (old new : Option ℕ) → (before after : List Record) → Type 0
IsPlaceAfter old new before after = (new ≡ old) ⊎ ((old ≡ None) × (new ≡ Some (length before)) × (length before < length after))
