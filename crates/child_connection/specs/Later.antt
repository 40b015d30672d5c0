-- What a view was, kept so that what is done to it can be taken back.
use Rattle.std.specs.Prelude.{◌≡◌, ◌≤◌, ◌<◌, true, length, take}
use Rattle.nsi_primitive.specs.declared.kind.Kind.{Kind}
use Rattle.child_connection.specs.declared.savepoint.Savepoint.{Savepoint}
use Rattle.child_connection.specs.Views.{ChildConnection, is_asking}

-- the fields that change, and how many versions are committed
abbrev pub saved_of : ChildConnection → Savepoint
saved_of x =
    record {
      connection = x.connection;
      phase = x.phase;
      before = x.before;
      attempt = x.attempt;
      pending = x.pending;
      committed = length x.committed;
      error = x.error;
      reserve_request = x.reserve_request;
      provision_request = x.provision_request;
      lifecycle_request = x.lifecycle_request;
      provision_error = x.provision_error;
      gone = x.gone;
      plane = x.plane;
      plane_notice = x.plane_notice;
      room = x.room;
    }

-- while a commit is unanswered there is memory for its version
abbrev pub IsReady : ChildConnection → Type 0
IsReady x = is_asking x.reserve_request Kind.ReserveCommit ≡ true → length x.committed < x.room

-- a later form of a view: its place is the same, what was committed stays, and no memory is given back
pub record IsLater (old new : ChildConnection) : Type 0 where
  pub ready : IsReady old
  pub child : new.child ≡ old.child
  pub source : new.source ≡ old.source
  pub dest : new.dest ≡ old.dest
  pub committed : take (length old.committed) new.committed ≡ old.committed
  pub room : old.room ≤ new.room
