-- How a view and its child's record are linked, whatever was said and not yet heard.
use Rattle.std.specs.Prelude.{ℕ, ◌≡◌, true, false, List, [], ◌∷◌, ◌++◌, Contains, Some, ◌⊎◌, map}
use Rattle.nsi_primitive.specs.declared.kind.Kind.{Kind}
use Rattle.nsi_primitive.specs.declared.message.Body.{Body}
use Rattle.nsi_primitive.specs.declared.state.Rsm.{Rsm}
use Rattle.child_connection.specs.declared.state.Phase.{Phase}
use Rattle.child_connection.specs.Views.{ChildConnection, sent}
use Rattle.child_connection.specs.Hearing.{hears}
use Rattle.child_connection.specs.Holding.{is_response, is_timeout, phase_of}
use Rattle.child_connection.specs.Standing.{IsQuiet, back}
use Rattle.connection_record.specs.declared.record.Record.{Record}
use Rattle.connection_record.specs.Moves.{is_working}
use Rattle.connection_record.specs.Replies.{id_or}
use Rattle.circuit_link.specs.Sides.{version_of, standing_of, Side}

-- the versions of a view against those of its record: the same, or all but the last
abbrev pub InStep : List ℕ → List ℕ → Type 0
InStep mine theirs = (theirs ≡ mine) ⊎ ((v : ℕ) × (theirs ≡ mine ++ v ∷ []))

abbrev pub SameCommitted : ChildConnection → Record → Type 0
SameCommitted x r = x.committed ≡ map version_of r.committed

-- nothing is unanswered, and the view is at rest; where it holds and the end of the hold was said, the record knows
pub record IsCalm (x : ChildConnection) (s : Side) : Type 0 where
  pub quiet : IsQuiet x (standing_of s.rec)
  pub late : (c : ℕ) (b : Body) → x.phase ≡ Phase.Held → x.attempt ≡ Some c → Contains (s.said c) b → is_timeout b ≡ true → s.rec.rsm ≡ Rsm.ReserveTimeout

---- The record works on the view's request

pub record IsReserving (c : ℕ) (x : ChildConnection) (r : Record) : Type 0 where
  pub asked : x.reserve_request ≡ Some (sent c Kind.Reserve)
  pub phase : x.phase ≡ Phase.Reserving
  pub attempt : x.attempt ≡ Some c
  pub state : r.rsm ≡ Rsm.ReserveChecking
  pub request : r.reserve_request ≡ Some c
  pub its_attempt : r.attempt ≡ Some c
  pub same : SameCommitted x r

pub record IsCommitting (c : ℕ) (x : ChildConnection) (r : Record) : Type 0 where
  pub asked : x.reserve_request ≡ Some (sent c Kind.ReserveCommit)
  pub phase : x.phase ≡ Phase.Committing
  pub state : r.rsm ≡ Rsm.ReserveCommitting
  pub request : r.reserve_request ≡ Some c
  pub pending : x.pending ≡ (standing_of r).pending
  pub same : SameCommitted x r

pub record IsAborting (c : ℕ) (x : ChildConnection) (r : Record) : Type 0 where
  pub asked : x.reserve_request ≡ Some (sent c Kind.ReserveAbort)
  pub phase : x.phase ≡ Phase.Aborting
  pub state : r.rsm ≡ Rsm.ReserveAborting
  pub request : r.reserve_request ≡ Some c
  pub same : SameCommitted x r

pub data WorksOn (c : ℕ) (x : ChildConnection) (r : Record) : Type 0 where
  reserving : IsReserving c x r → WorksOn c x r
  committing : IsCommitting c x r → WorksOn c x r
  aborting : IsAborting c x r → WorksOn c x r

---- What was said

-- a message that was said under the request leaves the view at rest, or tells it its id alone
abbrev pub IsForetold : ℕ → ChildConnection → Side → Body → Type 0
IsForetold c x s b = (is_response b ≡ true) ⊎ IsCalm (hears b c x).view s

-- where the hold that may still end is that of the request, the view waits for its reserve
pub record MayEnd (c : ℕ) (x : ChildConnection) (r : Record) : Type 0 where
  pub waits : r.rsm ≡ Rsm.ReserveHeld → id_or r.attempt ≡ c → (x.phase ≡ Phase.Reserving) × (x.attempt ≡ Some c) × SameCommitted x r

-- a request that isn't answered: it isn't taken, and may still go back; or the record works on it; or an answer was said, and each leaves the view at rest
pub data Pending (c : ℕ) (x : ChildConnection) (s : Side) : Type 0 where
  unseen : s.seen c ≡ false → s.said c ≡ [] → IsCalm (back x) s → Pending c x s
  working : s.seen c ≡ true → WorksOn c x s.rec → ((b : Body) → Contains (s.said c) b → is_response b ≡ true) → Pending c x s
  told : s.seen c ≡ true → ((b : Body) → Contains (s.said c) b → IsForetold c x s b) → is_working s.rec.rsm ≡ false → MayEnd c x s.rec →
      (answer : Body) → Contains (s.said c) answer → is_response answer ≡ false → Pending c x s

-- a reserve that isn't answered is the view's attempt
abbrev pub IsAttempt : Kind → ℕ → ChildConnection → Type 0
IsAttempt Kind.Reserve c x = x.attempt ≡ Some c
IsAttempt Kind.ReserveCommit c x = Unit {0}
IsAttempt Kind.ReserveAbort c x = Unit {0}
IsAttempt _ c x = ⊥

-- the view is at rest, or waits for the answer to one request
pub data Link (x : ChildConnection) (s : Side) : Type 0 where
  calm : IsCalm x s → Link x s
  asked : (c : ℕ) (k : Kind) → x.reserve_request ≡ Some (sent c k) → x.phase ≡ phase_of k → IsAttempt k c x → Pending c x s → Link x s

---- What is read off a link

-- the table: where the child's record stands by the phase of a view that has nothing unanswered
abbrev pub Stands : Phase → Rsm → Type 0
Stands Phase.Idle k = k ≡ Rsm.ReserveStart
Stands Phase.Held k = (k ≡ Rsm.ReserveHeld) ⊎ (k ≡ Rsm.ReserveTimeout)
Stands Phase.Failed k = k ≡ Rsm.ReserveFailed
Stands Phase.TimedOut k = k ≡ Rsm.ReserveTimeout
Stands _ k = ⊥

-- where the record stands while it works on a request
abbrev pub Works : Kind → Rsm → Type 0
Works Kind.Reserve k = k ≡ Rsm.ReserveChecking
Works Kind.ReserveCommit k = k ≡ Rsm.ReserveCommitting
Works Kind.ReserveAbort k = k ≡ Rsm.ReserveAborting
Works _ k = ⊥

-- a request that isn't answered: it isn't taken, and the record stands by the phase before it; or it is taken and worked on; or the child has said an answer
pub data Waits (c : ℕ) (k : Kind) (x : ChildConnection) (s : Side) : Type 0 where
  untaken : s.seen c ≡ false → Stands x.before s.rec.rsm → Waits c k x s
  working : s.seen c ≡ true → Works k s.rec.rsm → Waits c k x s
  answered : s.seen c ≡ true → (b : Body) → Contains (s.said c) b → is_response b ≡ false → is_working s.rec.rsm ≡ false → Waits c k x s
