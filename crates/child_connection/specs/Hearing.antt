-- What a message makes of a view, kind by kind, and what it was to the view.
use Rattle.std.specs.Prelude.{ℕ, Bool, true, false, List, [], ◌∷◌, ◌++◌, Option, Some, None, ◌&&◌, nat_lt, is_none}
use Rattle.std.specs.Str.{bytes_eq}
use Rattle.nsi_primitive.specs.Messages.{error_of}
use Rattle.nsi_primitive.specs.declared.kind.ErrorName.{ErrorName}
use Rattle.nsi_primitive.specs.declared.kind.Kind.{Kind}
use Rattle.nsi_primitive.specs.declared.message.Body.{Body}
use Rattle.nsi_primitive.specs.declared.message.Message.{Message}
use Rattle.nsi_primitive.specs.declared.message.PlaneNotice.{PlaneNotice}
use Rattle.nsi_primitive.specs.declared.plane.Plane.{Plane}
use Rattle.child_connection.specs.declared.state.Phase.{Phase}
use Rattle.child_connection.specs.declared.state.Sent.{Sent}
use Rattle.child_connection.specs.declared.state.Taken.{Taken}
use Rattle.child_connection.specs.Views.{ChildConnection, is_id, is_open, is_open_of}

-- a view after a message, and what the message was to it
pub record Heard : Type 0 where
  pub view : ChildConnection
  pub taken : Taken

abbrev pub ignored : ChildConnection → Heard
ignored x = record { view = x; taken = Taken.Ignored }

-- what matches has its effect; what doesn't is ignored
abbrev pub heard_if : Bool → Taken → ChildConnection → ChildConnection → Heard
heard_if true taken new old = record { view = new; taken = taken }
heard_if false taken new old = ignored old

---- Answers to a reserve, a commit and an abort

-- a child's id is learnt from the response to the first reserve
abbrev pub responded : (id c : ℕ) → ChildConnection → Heard
responded id c x = heard_if (is_id x.attempt c && is_none x.connection) Taken.Learnt (record x { connection = Some id }) x

abbrev pub confirmed : (id version c : ℕ) → ChildConnection → Heard
confirmed id version c x =
    heard_if (is_open_of x.reserve_request Kind.Reserve c) (Taken.Answered Kind.Reserve)
    (record x { connection = Some id; phase = Phase.Held; pending = Some version; reserve_request = None }) x

abbrev pub failed : (id : ℕ) → ErrorName → (c : ℕ) → ChildConnection → Heard
failed id e c x =
    heard_if (is_open_of x.reserve_request Kind.Reserve c) (Taken.Answered Kind.Reserve)
    (record x { connection = Some id; phase = Phase.Failed; error = Some e; reserve_request = None }) x

abbrev pub is_reserving_or_held : Phase → Bool
is_reserving_or_held Phase.Reserving = true
is_reserving_or_held Phase.Held = true
is_reserving_or_held _ = false

-- a hold ends under the attempt, while the view waits for it or has it
abbrev pub timed_out : (id c : ℕ) → ChildConnection → Heard
timed_out id c x =
    heard_if (is_id x.attempt c && is_reserving_or_held x.phase) Taken.TimedOut
    (record x { connection = Some id; phase = Phase.TimedOut; error = Some ErrorName.Timeout; pending = None; reserve_request = None }) x

abbrev pub push_version : List ℕ → Option ℕ → List ℕ
push_version vs None = vs
push_version vs (Some v) = vs ++ v ∷ []

-- nothing is asked any more
abbrev pub idle : Option ErrorName → ChildConnection → ChildConnection
idle e x = record x { phase = Phase.Idle; pending = None; attempt = None; error = e; reserve_request = None }

-- what was held when the commit was asked is committed
abbrev pub commit_confirmed : ℕ → ChildConnection → Heard
commit_confirmed c x =
    heard_if (is_open_of x.reserve_request Kind.ReserveCommit c) (Taken.Answered Kind.ReserveCommit)
    (idle None (record x { committed = push_version x.committed x.pending })) x

abbrev pub commit_failed : ErrorName → ℕ → ChildConnection → Heard
commit_failed e c x = heard_if (is_open_of x.reserve_request Kind.ReserveCommit c) (Taken.Answered Kind.ReserveCommit) (idle (Some e) x) x

abbrev pub abort_confirmed : ℕ → ChildConnection → Heard
abort_confirmed c x = heard_if (is_open_of x.reserve_request Kind.ReserveAbort c) (Taken.Answered Kind.ReserveAbort) (idle None x) x

---- Errors

-- the attempt after an error: a child that holds an earlier reserve keeps it
abbrev pub attempt_after : Phase → Option ℕ → Option ℕ
attempt_after Phase.Held attempt = attempt
attempt_after _ attempt = None

-- the request that is answered
abbrev pub answers : Option Sent → Taken
answers None = Taken.Ignored
answers (Some q) = Taken.Answered q.kind

-- an error that answers a request of one of the machines
abbrev pub refused : (is_reservation is_provision is_lifecycle : Bool) → ErrorName → ChildConnection → Heard
refused true p l e x =
    record {
      view = record x { phase = x.before; error = Some e; reserve_request = None; attempt = attempt_after x.before x.attempt };
      taken = answers x.reserve_request;
    }
refused false true l e x = record { view = record x { provision_error = Some e; provision_request = None }; taken = answers x.provision_request }
refused false false true e x = record { view = record x { error = Some e; lifecycle_request = None }; taken = answers x.lifecycle_request }
refused false false false e x = ignored x

-- it answers the request that has its correlation, of whichever machine
abbrev pub errored : ErrorName → ℕ → ChildConnection → Heard
errored e c x = refused (is_open x.reserve_request c) (is_open x.provision_request c) (is_open x.lifecycle_request c) e x

---- The other machines, and notifications

abbrev pub provision_confirmed : Kind → ℕ → ChildConnection → Heard
provision_confirmed k c x = heard_if (is_open_of x.provision_request k c) (Taken.Answered k) (record x { provision_error = None; provision_request = None }) x

abbrev pub terminate_confirmed : ℕ → ChildConnection → Heard
terminate_confirmed c x = heard_if (is_open_of x.lifecycle_request Kind.Terminate c) (Taken.Answered Kind.Terminate) (record x { gone = true; lifecycle_request = None }) x

abbrev pub ended : ℕ → ChildConnection → Heard
ended id x = heard_if (is_id x.connection id) Taken.Ended x x

abbrev pub told_plane : PlaneNotice → Plane
told_plane n = record { active = n.active; version = n.version; consistent = n.consistent }

-- a notice that comes behind a later one is late
abbrev pub plane_changed : PlaneNotice → ChildConnection → Heard
plane_changed n x =
    heard_if (is_id x.connection n.connection && nat_lt x.plane_notice n.notification) Taken.Plane
    (record x { plane = told_plane n; plane_notice = n.notification }) x

---- Every kind

-- what a message under a correlation makes of a view
unfoldable pub hears : Body → ℕ → ChildConnection → Heard
hears (Body.ReserveResponse id) c x = responded id c x
hears (Body.ReserveConfirmed f) c x = confirmed f.connection f.version c x
hears (Body.ReserveFailed id exception) c x = failed id (error_of exception.cause) c x
hears (Body.ReserveTimeout t) c x = timed_out t.connection c x
hears (Body.ReserveCommitConfirmed _) c x = commit_confirmed c x
hears (Body.ReserveCommitFailed _ exception) c x = commit_failed (error_of exception.cause) c x
hears (Body.ReserveAbortConfirmed _) c x = abort_confirmed c x
hears (Body.Error _ exception) c x = errored (error_of exception.cause) c x
hears (Body.ProvisionConfirmed _) c x = provision_confirmed Kind.Provision c x
hears (Body.ReleaseConfirmed _) c x = provision_confirmed Kind.Release c x
hears (Body.TerminateConfirmed _) c x = terminate_confirmed c x
hears (Body.ErrorEvent f) c x = ended f.connection x
hears (Body.DataPlaneStateChange n) c x = plane_changed n x
hears _ c x = ignored x

-- a message is heard by a view where it comes from the view's child
abbrev pub hear_from : Bool → Message → ChildConnection → Heard
hear_from true m x = hears m.body m.header.correlation x
hear_from false m x = ignored x

abbrev pub hear : Message → ChildConnection → Heard
hear m x = hear_from (bytes_eq m.header.provider x.child) m x
