-- A parent's view of a child's connection.
use Rattle.std.specs.Prelude.{ℕ, Bool, true, false, List, [], Option, Some, None, ◌==◌, ◌&&◌}
use Rattle.nsi_primitive.specs.declared.kind.ErrorName.{ErrorName}
use Rattle.nsi_primitive.specs.declared.kind.Kind.{Kind}
use Rattle.nsi_primitive.specs.declared.plane.Plane.{Plane}
use Rattle.child_connection.specs.declared.state.Phase.{Phase}
use Rattle.child_connection.specs.declared.state.Sent.{Sent}

-- what a parent knows of a child's connection, and for how many committed versions memory is at hand
pub record ChildConnection : Type 0 where
  pub child : List ℕ
  pub source : List ℕ
  pub dest : List ℕ
  pub connection : Option ℕ
  pub phase : Phase
  pub before : Phase
  pub attempt : Option ℕ
  pub pending : Option ℕ
  pub committed : List ℕ
  pub error : Option ErrorName
  pub reserve_request : Option Sent
  pub provision_request : Option Sent
  pub lifecycle_request : Option Sent
  pub provision_error : Option ErrorName
  pub gone : Bool
  pub plane : Plane
  pub plane_notice : ℕ
  pub room : ℕ

abbrev pub no_plane : Plane
no_plane = record { active = false; version = 0; consistent = true }

-- a view of a child that was asked nothing
abbrev pub new_view : (child source dest : List ℕ) → ChildConnection
new_view child source dest =
    record {
      child = child;
      source = source;
      dest = dest;
      connection = None;
      phase = Phase.Idle;
      before = Phase.Idle;
      attempt = None;
      pending = None;
      committed = [];
      error = None;
      reserve_request = None;
      provision_request = None;
      lifecycle_request = None;
      provision_error = None;
      gone = false;
      plane = no_plane;
      plane_notice = 0;
      room = 0;
    }

---- Unanswered requests

abbrev pub sent : ℕ → Kind → Sent
sent c k = record { correlation = c; kind = k }

-- whether both are one kind of those that are asked of a child's machines
unfoldable pub is_kind : Kind → Kind → Bool
is_kind Kind.Reserve Kind.Reserve = true
is_kind Kind.ReserveCommit Kind.ReserveCommit = true
is_kind Kind.ReserveAbort Kind.ReserveAbort = true
is_kind Kind.Provision Kind.Provision = true
is_kind Kind.Release Kind.Release = true
is_kind Kind.Terminate Kind.Terminate = true
is_kind _ _ = false

-- the unanswered request of the machine that a kind of request belongs to
unfoldable pub open_request : Kind → ChildConnection → Option Sent
open_request Kind.Reserve x = x.reserve_request
open_request Kind.ReserveCommit x = x.reserve_request
open_request Kind.ReserveAbort x = x.reserve_request
open_request Kind.Provision x = x.provision_request
open_request Kind.Release x = x.provision_request
open_request Kind.Terminate x = x.lifecycle_request
open_request _ x = None

-- whether there is an id, and it is this
abbrev pub is_id : Option ℕ → ℕ → Bool
is_id None c = false
is_id (Some d) c = c == d

-- whether an unanswered request has this correlation
abbrev pub is_open : Option Sent → ℕ → Bool
is_open None c = false
is_open (Some q) c = c == q.correlation

-- whether an unanswered request has this correlation and kind
abbrev pub is_open_of : Option Sent → Kind → ℕ → Bool
is_open_of None k c = false
is_open_of (Some q) k c = (c == q.correlation) && is_kind k q.kind

-- whether an unanswered request is of this kind
abbrev pub is_asking : Option Sent → Kind → Bool
is_asking None k = false
is_asking (Some q) k = is_kind k q.kind
