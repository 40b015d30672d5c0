-- All views that a parent has of one child, against that child.
use Rattle.std.specs.Prelude.{ℕ, ◌≡◌, ◌≤◌, ◌<◌, length, get_or, true, false, List, Contains, Option, Some, option_map}
use Rattle.nsi_primitive.specs.Ids.{id_of}
use Rattle.nsi_primitive.specs.Messages.{kind_of, connection_of, is_request}
use Rattle.nsi_primitive.specs.declared.kind.Kind.{Kind}
use Rattle.nsi_primitive.specs.declared.message.Body.{Body}
use Rattle.nsi_primitive.specs.declared.message.Exception.{Exception}
use Rattle.nsi_primitive.specs.declared.message.Message.{Message}
use Rattle.nsi_primitive.specs.declared.message.ReserveConfirmation.{ReserveConfirmation}
use Rattle.nsi_primitive.specs.declared.message.ReserveRequest.{ReserveRequest}
use Rattle.nsi_primitive.specs.declared.state.Rsm.{Rsm}
use Rattle.connection_record.specs.Moves.{is_live}
use Rattle.connection_record.specs.Replies.{id_or}
use Rattle.agent_state.specs.State.{record_at}
use Rattle.aggregator_agent.specs.Asking.{may_abort}
use Rattle.message_retry.specs.Taken.{is_taken}
use Rattle.child_connection.specs.Views.{ChildConnection, sent}
use Rattle.child_connection.specs.Holding.{is_reservation, IsHeeded}
use Rattle.circuit_link.specs.Children.{Child, about}
use Rattle.circuit_link.specs.Headers.{header_of}
use Rattle.circuit_link.specs.Mates.{IsMate}
use Rattle.circuit_link.specs.Sides.{version_of}

-- a request that the parent has asked of the child under a correlation, of which P holds
pub record IsAsked (parent child : List ℕ) (c : ℕ) (asked : List Message) (P : Message → Type 0) : Type 0 where
  pub message : Message
  pub there : Contains asked message
  pub header : message.header ≡ header_of parent child c
  pub is : P message

abbrev pub IsOfReservation : Message → Type 0
IsOfReservation m = is_reservation (kind_of m.body) ≡ true

-- it is of that kind, and about that connection
abbrev pub IsSame : Kind → Option ℕ → Message → Type 0
IsSame k connection m = (kind_of m.body ≡ k) × (connection_of m.body ≡ connection)

abbrev pub IsCommitOf : ℕ → Message → Type 0
IsCommitOf connection m = m.body ≡ Body.ReserveCommit connection

-- it is a reserve of that version, where it gives one
abbrev pub IsReserveOf : Option ℕ → Message → Type 0
IsReserveOf version m = (q : ReserveRequest) × (m.body ≡ Body.Reserve q) × ((v : ℕ) → q.version ≡ Some v → version ≡ Some v)

abbrev pub IsTerminateOf : ℕ → Message → Type 0
IsTerminateOf connection m = m.body ≡ Body.Terminate connection

-- it was asked, under some correlation
abbrev pub IsTold : (parent child : List ℕ) → List Message → (Message → Type 0) → Type 0
IsTold parent child asked P = (c : ℕ) × IsAsked parent child c asked P

-- What a child does for a parent it was asked for: what its records check, and each hold that it has confirmed, is of the version that was asked
-- under that correlation; and a record that doesn't live was asked to terminate.
pub record IsAskedFor (parent child : List ℕ) (asked : List Message) (d : Child) : Type 0 where
  pub checks : (n : ℕ) → (record_at n d.records).owner ≡ parent → (record_at n d.records).rsm ≡ Rsm.ReserveChecking →
      IsAsked parent child (id_or (record_at n d.records).reserve_request) asked (IsReserveOf (option_map version_of (record_at n d.records).pending))
  pub confirms : (c : ℕ) (f : ReserveConfirmation) → Contains (about (header_of parent child c) d.said) (Body.ReserveConfirmed f) →
      IsAsked parent child c asked (IsReserveOf (Some f.version))
  pub ended : (n : ℕ) → (record_at n d.records).owner ≡ parent → is_live (record_at n d.records).lsm ≡ false →
      IsTold parent child asked (IsTerminateOf (record_at n d.records).id)

-- an abort of a child that had something to give back is refused only behind a request to terminate its connection
abbrev pub RefusesTheEnded : (parent child : List ℕ) → ChildConnection → List Message → Child → Type 0
RefusesTheEnded parent child x asked d =
    (c : ℕ) (o : Option ℕ) (e : Exception) → x.reserve_request ≡ Some (sent c Kind.ReserveAbort) → may_abort x.before ≡ true →
    Contains (about (header_of parent child c) d.said) (Body.Error o e) → (id : ℕ) × (x.connection ≡ Some id) × IsTold parent child asked (IsTerminateOf id)

-- a version that a view has as committed: its commit was asked of this connection under a correlation, and confirmed
pub record IsBacked (parent child : List ℕ) (x : ChildConnection) (c : ℕ) (asked : List Message) (d : Child) : Type 0 where
  pub connection : ℕ
  pub known : x.connection ≡ Some connection
  pub commit : IsAsked parent child c asked (IsCommitOf connection)
  pub id : ℕ
  pub confirmed : Contains (about (header_of parent child c) d.said) (Body.ReserveCommitConfirmed id)

-- Each version that a view has as committed is backed by a commit of its own: their correlations in the order of the versions, no two the
-- same, and none of a request that isn't answered.
pub record AreBacked (parent child : List ℕ) (x : ChildConnection) (asked : List Message) (d : Child) : Type 0 where
  pub own : List ℕ
  pub long : length own ≡ length x.committed
  pub each : (n : ℕ) → n < length own → IsBacked parent child x (get_or own n 0) asked d
  pub apart : (n k : ℕ) → n < length own → k < length own → get_or own n 0 ≡ get_or own k 0 → n ≡ k
  pub answered : (c : ℕ) (k : Kind) → x.reserve_request ≡ Some (sent c k) → (n : ℕ) → n < length own → get_or own n 0 ≡ c → ⊥

-- The views and the child: each is a mate of the child, no two have one record, and no two listen to one correlation. What a view listens to was asked;
-- a request that isn't taken is some view's unanswered one, as it was asked; so is each commit, and the committed versions are backed. What the
-- child does it was asked for.
pub record IsPair (I : Type 0) (parent child : List ℕ) (xs : I → ChildConnection) (asked : List Message) (d : Child) : Type 0 where
  pub place : I → Option ℕ
  pub mates : (i : I) → IsMate parent child (xs i) (place i) d
  pub apart : (i j : I) (n : ℕ) → place i ≡ Some n → place j ≡ Some n → i ≡ j
  pub children : (i : I) → (xs i).child ≡ child
  pub heeds : (i : I) (c : ℕ) → IsHeeded (xs i) c → IsAsked parent child c asked IsOfReservation
  pub alone : (i j : I) (c : ℕ) → IsHeeded (xs i) c → IsHeeded (xs j) c → i ≡ j
  pub unseen : (i : I) (c : ℕ) (k : Kind) → (xs i).reserve_request ≡ Some (sent c k) → is_taken (header_of parent child c) d.seen ≡ false →
      IsAsked parent child c asked (IsSame k (xs i).connection)
  pub untaken : (m : Message) → Contains asked m → IsOfReservation m → m.header.provider ≡ child → is_taken m.header d.seen ≡ false →
      (i : I) × (k : Kind) × ((xs i).reserve_request ≡ Some (sent m.header.correlation k))
  pub commits : (i : I) (c : ℕ) → (xs i).reserve_request ≡ Some (sent c Kind.ReserveCommit) → (id : ℕ) × ((xs i).connection ≡ Some id) × IsAsked parent child c asked (IsCommitOf id)
  pub backed : (i : I) → AreBacked parent child (xs i) asked d
  pub asked_for : IsAskedFor parent child asked d
  pub refuses : (i : I) → RefusesTheEnded parent child (xs i) asked d

-- what is true of what a parent has said: its requests go in its name, and no two have one correlation
pub record IsOnce (parent : List ℕ) (asked : List Message) : Type 0 where
  pub own : (m : Message) → Contains asked m → is_request m.body ≡ true → m.header.requester ≡ parent
  pub once : (m n : Message) → Contains asked m → Contains asked n → is_request m.body ≡ true → is_request n.body ≡ true → m.header.correlation ≡ n.header.correlation → m ≡ n

-- nobody was asked under a parent's ids from a number on, and none of them is taken
pub record IsFresh (parent child : List ℕ) (number : ℕ) (d : Child) (next : ℕ) (asked : List Message) : Type 0 where
  pub unasked : (k : ℕ) → next ≤ k → (m : Message) → Contains asked m → is_request m.body ≡ true → m.header.correlation ≡ id_of number k → ⊥
  pub untaken : (k : ℕ) → next ≤ k → is_taken (header_of parent child (id_of number k)) d.seen ≡ false
