-- Which request of the reservation machine a view holds as unanswered, and what is true of each view.
use Rattle.std.specs.Prelude.{ℕ, ◌≡◌, ◌⊎◌, Bool, true, false, List, Option, Some, None, ◌==◌, ◌&&◌}
use Rattle.std.specs.Str.{bytes_eq}
use Rattle.nsi_primitive.specs.declared.kind.Kind.{Kind}
use Rattle.nsi_primitive.specs.declared.message.Body.{Body}
use Rattle.child_connection.specs.declared.state.Phase.{Phase}
use Rattle.child_connection.specs.declared.state.Sent.{Sent}
use Rattle.child_connection.specs.Views.{ChildConnection, is_id, is_open, is_open_of}
use Rattle.child_connection.specs.Hearing.{push_version}

unfoldable pub is_reservation : Kind → Bool
is_reservation Kind.Reserve = true
is_reservation Kind.ReserveCommit = true
is_reservation Kind.ReserveAbort = true
is_reservation _ = false

-- whether it is a view of that child which holds that request as unanswered
unfoldable pub holds : List ℕ → ℕ → ChildConnection → Bool
holds child c x = bytes_eq child x.child && is_open x.reserve_request c

-- a reserve that isn't answered is the attempt, and what is held has no unanswered request
unfoldable pub fits_phase : Phase → Option Sent → Option ℕ → Bool
fits_phase Phase.Reserving (Some q) (Some d) = q.correlation == d
fits_phase Phase.Reserving request attempt = false
fits_phase Phase.Held None attempt = true
fits_phase Phase.Held (Some q) attempt = false
fits_phase _ request attempt = true

unfoldable pub isnt_reserving : Phase → Bool
isnt_reserving Phase.Reserving = false
isnt_reserving _ = true

-- where a view stands while its request is unanswered
unfoldable pub phase_of : Kind → Phase
phase_of Kind.Reserve = Phase.Reserving
phase_of Kind.ReserveCommit = Phase.Committing
phase_of Kind.ReserveAbort = Phase.Aborting
phase_of _ = Phase.Idle

-- what is true of each view: its request fits its phase, and no request was asked while a reserve was unanswered
unfoldable pub fits : ChildConnection → Bool
fits x = fits_phase x.phase x.reserve_request x.attempt && isnt_reserving x.before

-- the messages by which a request of the reservation machine ends
unfoldable pub settles : Body → Bool
settles (Body.ReserveConfirmed f) = true
settles (Body.ReserveFailed id exception) = true
settles (Body.ReserveCommitConfirmed id) = true
settles (Body.ReserveCommitFailed id exception) = true
settles (Body.ReserveAbortConfirmed id) = true
settles (Body.Error id exception) = true
settles (Body.ReserveTimeout t) = true
settles _ = false

unfoldable pub is_timeout : Body → Bool
is_timeout (Body.ReserveTimeout t) = true
is_timeout _ = false

unfoldable pub is_response : Body → Bool
is_response (Body.ReserveResponse id) = true
is_response _ = false

-- the connection that a view learns from a message
unfoldable pub teaches : Body → Option ℕ
teaches (Body.ReserveResponse id) = Some id
teaches (Body.ReserveConfirmed f) = Some f.connection
teaches (Body.ReserveFailed id exception) = Some id
teaches (Body.ReserveTimeout t) = Some t.connection
teaches _ = None

-- a correlation that the view listens to for its reservation
abbrev pub IsHeeded : ChildConnection → ℕ → Type 0
IsHeeded x c = (x.attempt ≡ Some c) ⊎ (is_open x.reserve_request c ≡ true)

---- Views that differ in nothing that the reservation has

pub record IsSameReservation (x y : ChildConnection) : Type 0 where
  pub request : y.reserve_request ≡ x.reserve_request
  pub phase : y.phase ≡ x.phase
  pub before : y.before ≡ x.before
  pub attempt : y.attempt ≡ x.attempt
  pub pending : y.pending ≡ x.pending
  pub committed : y.committed ≡ x.committed

-- and in neither the connection nor the child
pub record IsAlike (x y : ChildConnection) : Type 0 where
  pub reservation : IsSameReservation x y
  pub connection : y.connection ≡ x.connection
  pub child : y.child ≡ x.child

-- a message under another correlation than the unanswered request's, and no end of a hold under the attempt's
abbrev pub IsApart : Body → ℕ → ChildConnection → Type 0
IsApart b d x = (is_open x.reserve_request d ≡ false) × ((is_id x.attempt d ≡ false) ⊎ (is_timeout b ≡ false))

---- What a message may change

-- the connection stays, or is learnt from a message that the view listens to
abbrev pub Learns : Body → ℕ → ChildConnection → ChildConnection → Type 0
Learns b d x y = (y.connection ≡ x.connection) ⊎ ((id : ℕ) × (teaches b ≡ Some id) × (y.connection ≡ Some id) × IsHeeded x d)

-- the committed versions stay, or the pending one joins them by the answer to the commit
abbrev pub Commits : Body → ℕ → ChildConnection → ChildConnection → Type 0
Commits b d x y =
    (y.committed ≡ x.committed) ⊎
    ((id : ℕ) × (b ≡ Body.ReserveCommitConfirmed id) × (is_open_of x.reserve_request Kind.ReserveCommit d ≡ true) × (y.committed ≡ push_version x.committed x.pending))
