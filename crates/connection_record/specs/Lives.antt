-- What the rows of the provision machine's and of the lifecycle machine's tables do to a record, and what it then says.
use Rattle.std.specs.Prelude.{ℕ, ◌+◌, [], ◌∷◌, length, Option, Some, None}
use Rattle.nsi_primitive.specs.declared.kind.Kind.{Kind}
use Rattle.nsi_primitive.specs.declared.kind.FaultEvent.{FaultEvent}
use Rattle.nsi_primitive.specs.declared.state.Psm.{Psm}
use Rattle.nsi_primitive.specs.declared.state.Lsm.{Lsm}
use Rattle.nsi_primitive.specs.declared.state.Side.{Side}
use Rattle.nsi_primitive.specs.declared.message.Body.{Body}
use Rattle.nsi_primitive.specs.declared.message.Exception.{Exception}
use Rattle.provision_machine.specs.declared.table.PsmEvent.{PsmEvent}
use Rattle.provision_machine.specs.Table.{step as provision_step}
use Rattle.lifecycle_machine.specs.declared.table.LsmEvent.{LsmEvent}
use Rattle.lifecycle_machine.specs.Table.{step as lifecycle_step}
use Rattle.connection_record.specs.declared.record.Record.{Record}
use Rattle.connection_record.specs.declared.moves.Origin.{Origin}
use Rattle.connection_record.specs.declared.moves.Reply.{Reply}
use Rattle.connection_record.specs.declared.provisioning.ProvisionMove.{ProvisionMove}
use Rattle.connection_record.specs.declared.life.LifecycleMove.{LifecycleMove}
use Rattle.connection_record.specs.Replies.{Moved, stays, by_row, reply, counted, noted, id_or}
use Rattle.connection_record.specs.Moves.{silently}

---- The provision machine

-- the event of the table that a move is
unfoldable pub provision_event : ProvisionMove → PsmEvent
provision_event (ProvisionMove.Provision _) = PsmEvent.Provision
provision_event (ProvisionMove.Release _) = PsmEvent.Release
provision_event ProvisionMove.Done = PsmEvent.Done
provision_event (ProvisionMove.Spoiled _) = PsmEvent.Spoiled

-- a request under this correlation is in the work
abbrev pub provision_asked : ℕ → Psm → Record → Moved
provision_asked c next r = silently (record r { psm = next; provision_request = Some c })

-- the outcome as which a state is confirmed: that it is provisioned, or released
abbrev pub confirmed_kind : Psm → Kind
confirmed_kind Psm.Provisioned = Kind.ProvisionConfirmed
confirmed_kind _ = Kind.ReleaseConfirmed

abbrev pub confirmed_body : Psm → ℕ → Body
confirmed_body Psm.Provisioned id = Body.ProvisionConfirmed id
confirmed_body _ id = Body.ReleaseConfirmed id

-- a state is confirmed, which counts as an outcome
abbrev pub provision_confirmed : ℕ → Psm → ℕ → Record → Moved
provision_confirmed c next now r =
    record {
      rec = record r { psm = next; provision_request = None; results = counted (confirmed_kind next) c now r.results };
      out = reply c (confirmed_body next r.id) ∷ [];
    }

-- a request is confirmed at once where its row says something, and kept until it is answered where the row says nothing yet
abbrev pub provision_taken : ℕ → Psm → Option Kind → ℕ → Record → Moved
provision_taken c next None now r = provision_asked c next r
provision_taken c next (Some said) now r = provision_confirmed c next now r

-- it can't be carried out, which counts as no outcome
abbrev pub provision_spoiled : Exception → Psm → Record → Moved
provision_spoiled exception next r =
    record {
      rec = record r { psm = next; provision_request = None };
      out = reply (id_or r.provision_request) (Body.Error (Some r.id) exception) ∷ [];
    }

-- what a move does to a record, whose machine then has the next state, and the row's message is said, if it has one
abbrev pub provision_does : Psm → Option Kind → ProvisionMove → ℕ → Record → Moved
provision_does next said (ProvisionMove.Provision c) now r = provision_taken c next said now r
provision_does next said (ProvisionMove.Release c) now r = provision_taken c next said now r
provision_does next said ProvisionMove.Done now r = provision_confirmed (id_or r.provision_request) next now r
provision_does next said (ProvisionMove.Spoiled exception) now r = provision_spoiled exception next r

-- the table's row of a side for a state and a move, done to a record
unfoldable pub provisions : Side → Psm → ProvisionMove → ℕ → Record → Moved
provisions side state move now r = by_row (provision_step side state (provision_event move)) (λ next said. provision_does next said move now r) r

abbrev pub provisions_if : Side → Option ProvisionMove → ℕ → Record → Moved
provisions_if side None now r = stays r
provisions_if side (Some move) now r = provisions side r.psm move now r

---- The lifecycle machine

unfoldable pub lifecycle_event : LifecycleMove → LsmEvent
lifecycle_event (LifecycleMove.Force _ _) = LsmEvent.Force
lifecycle_event LifecycleMove.EndTime = LsmEvent.EndTime
lifecycle_event (LifecycleMove.Terminate _) = LsmEvent.Terminate
lifecycle_event LifecycleMove.Done = LsmEvent.Done

abbrev pub terminating : ℕ → Lsm → Record → Moved
terminating c next r = silently (record r { lsm = next; lifecycle_request = Some c })

-- what the owner is told when the connection is ended by force
abbrev pub forced_reply : ℕ → Origin → ℕ → Record → Reply
forced_reply c origin now r =
    reply c
    (Body.ErrorEvent
    (record {
      connection = r.id;
      event = FaultEvent.ForcedEnd;
      notification = length r.notices + 1;
      originating_connection = origin.connection;
      originating_nsa = origin.nsa;
      time = now;
    }))

-- the connection ends by force, of which the owner is notified
abbrev pub forced : ℕ → Origin → Lsm → ℕ → Record → Moved
forced c origin next now r = record { rec = record r { lsm = next; notices = noted Kind.ErrorEvent c now r.notices }; out = forced_reply c origin now r ∷ [] }

abbrev pub passed : Lsm → Record → Record
passed next r = record r { lsm = next }

abbrev pub terminated : Lsm → ℕ → Record → Moved
terminated next now r =
    record {
      rec = record r { lsm = next; lifecycle_request = None; results = counted Kind.TerminateConfirmed (id_or r.lifecycle_request) now r.results };
      out = reply (id_or r.lifecycle_request) (Body.TerminateConfirmed r.id) ∷ [];
    }

-- what a move does to a record, whose machine then has the next state
abbrev pub lifecycle_does : Lsm → LifecycleMove → ℕ → Record → Moved
lifecycle_does next (LifecycleMove.Force c origin) now r = forced c origin next now r
lifecycle_does next LifecycleMove.EndTime now r = silently (passed next r)
lifecycle_does next (LifecycleMove.Terminate c) now r = terminating c next r
lifecycle_does next LifecycleMove.Done now r = terminated next now r

-- the table's row for a state and a move, done to a record
unfoldable pub lives : Lsm → LifecycleMove → ℕ → Record → Moved
lives state move now r = by_row (lifecycle_step state (lifecycle_event move)) (λ next said. lifecycle_does next move now r) r

abbrev pub lives_if : Option LifecycleMove → ℕ → Record → Moved
lives_if None now r = stays r
lives_if (Some move) now r = lives r.lsm move now r
