-- What an ask sets, what it says, and when it is refused.
use Rattle.std.specs.Prelude.{ℕ, ◌+◌, length, max, List, Option, Some, None}
use Rattle.nsi_primitive.specs.declared.kind.Directionality.{Directionality}
use Rattle.nsi_primitive.specs.declared.kind.Kind.{Kind}
use Rattle.nsi_primitive.specs.declared.message.Body.{Body}
use Rattle.nsi_primitive.specs.declared.message.Header.{Header}
use Rattle.nsi_primitive.specs.declared.message.Message.{Message}
use Rattle.nsi_primitive.specs.declared.message.ReserveRequest.{ReserveRequest}
use Rattle.nsi_primitive.specs.declared.message.Service.{Service}
use Rattle.child_connection.specs.declared.state.Phase.{Phase}
use Rattle.child_connection.specs.Views.{ChildConnection, sent}

---- The view

-- a request is asked: it is kept until it is answered, and a request of the reservation machine keeps the phase before it;
-- for a commit there is memory for its version
unfoldable pub asks : Kind → ℕ → ChildConnection → ChildConnection
asks Kind.Reserve c x =
    record x {
      reserve_request = Some (sent c Kind.Reserve);
      before = x.phase;
      phase = Phase.Reserving;
      attempt = Some c;
      error = None;
    }
asks Kind.ReserveCommit c x =
    record x {
      reserve_request = Some (sent c Kind.ReserveCommit);
      before = x.phase;
      phase = Phase.Committing;
      room = max x.room (length x.committed + 1);
    }
asks Kind.ReserveAbort c x = record x { reserve_request = Some (sent c Kind.ReserveAbort); before = x.phase; phase = Phase.Aborting }
asks Kind.Provision c x = record x { provision_request = Some (sent c Kind.Provision); provision_error = None }
asks Kind.Release c x = record x { provision_request = Some (sent c Kind.Release); provision_error = None }
asks Kind.Terminate c x = record x { lifecycle_request = Some (sent c Kind.Terminate) }
asks _ c x = x

---- The message

-- a request about a connection that is known; each kind that isn't listed is that of a recursive query
unfoldable pub request_about : Kind → ℕ → Body
request_about Kind.ReserveCommit id = Body.ReserveCommit id
request_about Kind.ReserveAbort id = Body.ReserveAbort id
request_about Kind.Provision id = Body.Provision id
request_about Kind.Release id = Body.Release id
request_about Kind.Terminate id = Body.Terminate id
request_about _ id = Body.QueryRecursive id

-- both ways are what is meant where nothing is said
abbrev pub told_direction : Directionality → Option Directionality
told_direction Directionality.Bidirectional = None
told_direction Directionality.Unidirectional = Some Directionality.Unidirectional

-- a first reserve has the view's own points, and the service of the connection above
abbrev pub first_reserve : Service → Option ℕ → (start end capacity : ℕ) → ChildConnection → ReserveRequest
first_reserve s version start end capacity x =
    record {
      capacity = capacity;
      connection = None;
      description = s.description;
      dest = Some x.dest;
      directionality = told_direction s.directionality;
      end = end;
      global = s.global;
      source = Some x.source;
      start = Some start;
      symmetric = s.symmetric;
      version = version;
    }

-- a modification has its capacity and schedule alone (GFD.237, modification of a reservation)
abbrev pub modification : Option ℕ → Option ℕ → (start end capacity : ℕ) → ReserveRequest
modification connection version start end capacity =
    record {
      capacity = capacity;
      connection = connection;
      description = None;
      dest = None;
      directionality = None;
      end = end;
      global = None;
      source = None;
      start = Some start;
      symmetric = None;
      version = version;
    }

-- with a service it is a first reserve, without one a modification
unfoldable pub reserve_for : Option Service → Option ℕ → (start end capacity : ℕ) → ChildConnection → ReserveRequest
reserve_for (Some s) version start end capacity x = first_reserve s version start end capacity x
reserve_for None version start end capacity x = modification x.connection version start end capacity

-- the parent asks the child
abbrev pub header_to : List ℕ → ℕ → ChildConnection → Header
header_to parent c x = record { correlation = c; requester = parent; provider = x.child }

abbrev pub to_child : List ℕ → ℕ → ChildConnection → Body → Message
to_child parent c x body = record { header = header_to parent c x; body = body }
