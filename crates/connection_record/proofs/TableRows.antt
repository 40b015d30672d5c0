-- Each row of a written table, done to a record: the next state by name, what is kept, what is said. There is no other row.
use Rattle.std.proofs.Common.{◌≡◌, ℕ, Bool, true, false, [], ◌∷◌, ◌++◌, Option, Some, None, ◌||◌, option_to_list, refl, arith}
use Rattle.nsi_primitive.specs.declared.kind.Kind.{Kind}
use Rattle.nsi_primitive.specs.declared.state.Rsm.{Rsm}
use Rattle.nsi_primitive.specs.declared.state.Psm.{Psm}
use Rattle.nsi_primitive.specs.declared.state.Lsm.{Lsm}
use Rattle.nsi_primitive.specs.declared.state.Side.{Side}
use Rattle.nsi_primitive.specs.declared.message.Body.{Body}
use Rattle.nsi_primitive.specs.declared.message.Criteria.{Criteria}
use Rattle.nsi_primitive.specs.declared.message.Exception.{Exception}
use Rattle.reserve_machine.specs.declared.table.RsmEvent.{RsmEvent}
use Rattle.reserve_machine.specs.Table.{step as reserve_step}
use Rattle.provision_machine.specs.declared.table.PsmEvent.{PsmEvent}
use Rattle.provision_machine.specs.Table.{step as provision_step}
use Rattle.lifecycle_machine.specs.declared.table.LsmEvent.{LsmEvent}
use Rattle.lifecycle_machine.specs.Table.{step as lifecycle_step}
use Rattle.connection_record.specs.declared.record.Record.{Record}
use Rattle.connection_record.specs.declared.life.LifecycleMove.{LifecycleMove}
use Rattle.connection_record.specs.declared.moves.Origin.{Origin}
use Rattle.connection_record.specs.declared.moves.Reply.{Reply}
use Rattle.connection_record.specs.declared.moves.ReservationMove.{ReservationMove}
use Rattle.connection_record.specs.declared.provisioning.ProvisionMove.{ProvisionMove}
use Rattle.connection_record.specs.Lives.{provision_event, provisions, lifecycle_event, lives, forced_reply}
use Rattle.connection_record.specs.Moves.{event_of, reserves, timeout_reply}
use Rattle.connection_record.specs.Replies.{Moved, stays, reply, counted, noted, confirmation, id_or}

-- a record that says one thing, and one that says nothing
abbrev says : Reply → Record → Moved
says said r = record { rec = r; out = said ∷ [] }

abbrev is_silent : Record → Moved
is_silent r = record { rec = r; out = [] }

---- The reservation machine

-- the request in the work is answered, and counts as an outcome of that kind
abbrev answered_as : Kind → ℕ → Record → Record
answered_as kind now r =
    record r { reserve_request = None; results = counted kind (id_or r.reserve_request) now r.results }

abbrev answer : Record → Body → Reply
answer r body = reply (id_or r.reserve_request) body

-- the states and events that have a row
abbrev has_reservation_row : Rsm → RsmEvent → Bool
has_reservation_row Rsm.ReserveStart RsmEvent.Reserve = true
has_reservation_row Rsm.ReserveChecking RsmEvent.Fit = true
has_reservation_row Rsm.ReserveChecking RsmEvent.Lack = true
has_reservation_row Rsm.ReserveHeld RsmEvent.Commit = true
has_reservation_row Rsm.ReserveHeld RsmEvent.Abort = true
has_reservation_row Rsm.ReserveHeld RsmEvent.HoldEnd = true
has_reservation_row Rsm.ReserveFailed RsmEvent.Abort = true
has_reservation_row Rsm.ReserveTimeout RsmEvent.Abort = true
has_reservation_row Rsm.ReserveCommitting RsmEvent.Done = true
has_reservation_row Rsm.ReserveCommitting RsmEvent.Spoiled = true
has_reservation_row Rsm.ReserveAborting RsmEvent.Freed = true
has_reservation_row _ _ = false

-- an abort is kept, and what was asked is dropped
abbrev aborting : ℕ → Record → Moved
aborting c r = is_silent (record r { rsm = Rsm.ReserveAborting; pending = None; reserve_request = Some c })

pub record AreReservationRows : Type 0 where
  a_reserve_is_checked : (c now : ℕ) (criteria : Criteria) (r : Record) →
      reserves Rsm.ReserveStart (ReservationMove.Reserve c criteria) now r
      ≡ says (reply c (Body.ReserveResponse r.id))
      (record r { rsm = Rsm.ReserveChecking; pending = Some criteria; attempt = Some c; reserve_request = Some c })
  what_fits_is_held : (deadline : Option ℕ) (now : ℕ) (criteria : Criteria) (r : Record) →
      reserves Rsm.ReserveChecking (ReservationMove.Fit deadline) now (record r { pending = Some criteria })
      ≡ says (answer r (Body.ReserveConfirmed (confirmation r.id r.service criteria)))
      (record (answered_as Kind.ReserveConfirmed now r) {
        rsm = Rsm.ReserveHeld;
        pending = Some criteria;
        deadline = deadline;
      })
  nothing_to_hold_stays : (deadline : Option ℕ) (now : ℕ) (r : Record) →
      reserves Rsm.ReserveChecking (ReservationMove.Fit deadline) now (record r { pending = None })
      ≡ stays (record r { pending = None })
  what_lacks_fails : (exception : Exception) (now : ℕ) (r : Record) →
      reserves Rsm.ReserveChecking (ReservationMove.Lack exception) now r
      ≡ says (answer r (Body.ReserveFailed r.id exception))
      (record (answered_as Kind.ReserveFailed now r) { rsm = Rsm.ReserveFailed; pending = None })
  a_commit_is_kept : (c now : ℕ) (r : Record) →
      reserves Rsm.ReserveHeld (ReservationMove.Commit c) now r
      ≡ is_silent (record r { rsm = Rsm.ReserveCommitting; reserve_request = Some c })
  what_is_held_is_aborted : (c now : ℕ) (r : Record) →
      reserves Rsm.ReserveHeld (ReservationMove.Abort c) now r ≡ aborting c r
  what_failed_is_aborted : (c now : ℕ) (r : Record) →
      reserves Rsm.ReserveFailed (ReservationMove.Abort c) now r ≡ aborting c r
  what_timed_out_is_aborted : (c now : ℕ) (r : Record) →
      reserves Rsm.ReserveTimeout (ReservationMove.Abort c) now r ≡ aborting c r
  a_hold_ends : (origin : Origin) (now : ℕ) (r : Record) →
      reserves Rsm.ReserveHeld (ReservationMove.HoldEnd origin) now r
      ≡ says (timeout_reply origin now r)
      (record r {
        rsm = Rsm.ReserveTimeout;
        pending = None;
        notices = noted Kind.ReserveTimeout (id_or r.attempt) now r.notices;
      })
  what_is_pending_is_committed : (now : ℕ) (r : Record) →
      reserves Rsm.ReserveCommitting ReservationMove.Done now r
      ≡ says (answer r (Body.ReserveCommitConfirmed r.id))
      (record (answered_as Kind.ReserveCommitConfirmed now r) {
        rsm = Rsm.ReserveStart;
        pending = None;
        committed = r.committed ++ option_to_list r.pending;
      })
  a_commit_fails : (exception : Exception) (mixed : Bool) (now : ℕ) (r : Record) →
      reserves Rsm.ReserveCommitting (ReservationMove.Spoiled exception mixed) now r
      ≡ says (answer r (Body.ReserveCommitFailed r.id exception))
      (record (answered_as Kind.ReserveCommitFailed now r) {
        rsm = Rsm.ReserveStart;
        pending = None;
        mixed = r.mixed || mixed;
      })
  an_abort_is_confirmed : (now : ℕ) (r : Record) →
      reserves Rsm.ReserveAborting ReservationMove.Freed now r
      ≡ says (answer r (Body.ReserveAbortConfirmed r.id))
      (record (answered_as Kind.ReserveAbortConfirmed now r) { rsm = Rsm.ReserveStart })

are_reservation_rows : AreReservationRows
unfolding reserves reserve_step event_of
are_reservation_rows = record {
  a_reserve_is_checked = λ c now criteria r. refl;
  what_fits_is_held = λ deadline now criteria r. refl;
  nothing_to_hold_stays = λ deadline now r. refl;
  what_lacks_fails = λ exception now r. refl;
  a_commit_is_kept = λ c now r. refl;
  what_is_held_is_aborted = λ c now r. refl;
  what_failed_is_aborted = λ c now r. refl;
  what_timed_out_is_aborted = λ c now r. refl;
  a_hold_ends = λ origin now r. refl;
  what_is_pending_is_committed = λ now r. refl;
  a_commit_fails = λ exception mixed now r. refl;
  an_abort_is_confirmed = λ now r. refl;
}

pub no_other_reservation_row : (k : Rsm) (move : ReservationMove) (now : ℕ) (r : Record) →
    has_reservation_row k (event_of move) ≡ false → reserves k move now r ≡ stays r
unfolding reserves reserve_step event_of
no_other_reservation_row k move now r h = grind arith

---- The provision machine

-- the states and events that have a row
abbrev has_provision_row : Psm → PsmEvent → Bool
has_provision_row Psm.Released PsmEvent.Provision = true
has_provision_row Psm.Released PsmEvent.Release = true
has_provision_row Psm.Provisioned PsmEvent.Provision = true
has_provision_row Psm.Provisioned PsmEvent.Release = true
has_provision_row Psm.Provisioning PsmEvent.Done = true
has_provision_row Psm.Provisioning PsmEvent.Spoiled = true
has_provision_row Psm.Releasing PsmEvent.Done = true
has_provision_row Psm.Releasing PsmEvent.Spoiled = true
has_provision_row _ _ = false

-- a request is kept while it is worked on
abbrev kept_in : Psm → ℕ → Record → Moved
kept_in state c r = is_silent (record r { psm = state; provision_request = Some c })

abbrev provisioned : ℕ → ℕ → Record → Moved
provisioned c now r =
    says (reply c (Body.ProvisionConfirmed r.id))
    (record r {
      psm = Psm.Provisioned;
      provision_request = None;
      results = counted Kind.ProvisionConfirmed c now r.results;
    })

abbrev released : ℕ → ℕ → Record → Moved
released c now r =
    says (reply c (Body.ReleaseConfirmed r.id))
    (record r { psm = Psm.Released; provision_request = None; results = counted Kind.ReleaseConfirmed c now r.results })

-- what couldn't be carried out leads back to Released
abbrev undone : Exception → Record → Moved
undone exception r =
    says (reply (id_or r.provision_request) (Body.Error (Some r.id) exception))
    (record r { psm = Psm.Released; provision_request = None })

pub record AreProvisionRows : Type 0 where
  a_provision_is_kept : (side : Side) (c now : ℕ) (r : Record) →
      provisions side Psm.Released (ProvisionMove.Provision c) now r ≡ kept_in Psm.Provisioning c r
  a_release_is_kept : (side : Side) (c now : ℕ) (r : Record) →
      provisions side Psm.Provisioned (ProvisionMove.Release c) now r ≡ kept_in Psm.Releasing c r
  it_is_provisioned : (side : Side) (now : ℕ) (r : Record) →
      provisions side Psm.Provisioning ProvisionMove.Done now r ≡ provisioned (id_or r.provision_request) now r
  it_is_released : (side : Side) (now : ℕ) (r : Record) →
      provisions side Psm.Releasing ProvisionMove.Done now r ≡ released (id_or r.provision_request) now r
  a_provision_is_spoiled : (side : Side) (exception : Exception) (now : ℕ) (r : Record) →
      provisions side Psm.Provisioning (ProvisionMove.Spoiled exception) now r ≡ undone exception r
  a_release_is_spoiled : (side : Side) (exception : Exception) (now : ℕ) (r : Record) →
      provisions side Psm.Releasing (ProvisionMove.Spoiled exception) now r ≡ undone exception r
  a_provider_confirms_a_provision_again : (c now : ℕ) (r : Record) →
      provisions Side.Provider Psm.Provisioned (ProvisionMove.Provision c) now r ≡ provisioned c now r
  a_provider_confirms_a_release_again : (c now : ℕ) (r : Record) →
      provisions Side.Provider Psm.Released (ProvisionMove.Release c) now r ≡ released c now r
  an_aggregator_provisions_again : (c now : ℕ) (r : Record) →
      provisions Side.Aggregator Psm.Provisioned (ProvisionMove.Provision c) now r ≡ kept_in Psm.Provisioning c r
  an_aggregator_releases_again : (c now : ℕ) (r : Record) →
      provisions Side.Aggregator Psm.Released (ProvisionMove.Release c) now r ≡ kept_in Psm.Releasing c r

are_provision_rows : AreProvisionRows
unfolding provisions provision_step provision_event
are_provision_rows = record {
  a_provision_is_kept = λ side c now r. refl;
  a_release_is_kept = λ side c now r. refl;
  it_is_provisioned = λ side now r. refl;
  it_is_released = λ side now r. refl;
  a_provision_is_spoiled = λ side exception now r. refl;
  a_release_is_spoiled = λ side exception now r. refl;
  a_provider_confirms_a_provision_again = λ c now r. refl;
  a_provider_confirms_a_release_again = λ c now r. refl;
  an_aggregator_provisions_again = λ c now r. refl;
  an_aggregator_releases_again = λ c now r. refl;
}

pub no_other_provision_row : (side : Side) (k : Psm) (move : ProvisionMove) (now : ℕ) (r : Record) →
    has_provision_row k (provision_event move) ≡ false →
    provisions side k move now r ≡ stays r
unfolding provisions provision_step provision_event
no_other_provision_row side k move now r h = grind arith

---- The lifecycle machine

-- the states and events that have a row
abbrev has_lifecycle_row : Lsm → LsmEvent → Bool
has_lifecycle_row Lsm.Created LsmEvent.Force = true
has_lifecycle_row Lsm.Created LsmEvent.EndTime = true
has_lifecycle_row Lsm.Created LsmEvent.Terminate = true
has_lifecycle_row Lsm.Failed LsmEvent.Terminate = true
has_lifecycle_row Lsm.PassedEndTime LsmEvent.Terminate = true
has_lifecycle_row Lsm.Terminating LsmEvent.Done = true
has_lifecycle_row _ _ = false

abbrev ending : ℕ → Record → Moved
ending c r = is_silent (record r { lsm = Lsm.Terminating; lifecycle_request = Some c })

pub record AreLifecycleRows : Type 0 where
  it_is_ended_by_force : (c now : ℕ) (origin : Origin) (r : Record) →
      lives Lsm.Created (LifecycleMove.Force c origin) now r
      ≡ says (forced_reply c origin now r)
      (record r { lsm = Lsm.Failed; notices = noted Kind.ErrorEvent c now r.notices })
  its_schedule_ends : (now : ℕ) (r : Record) →
      lives Lsm.Created LifecycleMove.EndTime now r ≡ is_silent (record r { lsm = Lsm.PassedEndTime })
  what_is_created_is_terminated : (c now : ℕ) (r : Record) →
      lives Lsm.Created (LifecycleMove.Terminate c) now r ≡ ending c r
  what_failed_is_terminated : (c now : ℕ) (r : Record) → lives Lsm.Failed (LifecycleMove.Terminate c) now r ≡ ending c r
  what_passed_its_end_is_terminated : (c now : ℕ) (r : Record) →
      lives Lsm.PassedEndTime (LifecycleMove.Terminate c) now r ≡ ending c r
  it_is_terminated : (now : ℕ) (r : Record) →
      lives Lsm.Terminating LifecycleMove.Done now r
      ≡ says (reply (id_or r.lifecycle_request) (Body.TerminateConfirmed r.id))
      (record r {
        lsm = Lsm.Terminated;
        lifecycle_request = None;
        results = counted Kind.TerminateConfirmed (id_or r.lifecycle_request) now r.results;
      })

are_lifecycle_rows : AreLifecycleRows
unfolding lives lifecycle_step lifecycle_event
are_lifecycle_rows = record {
  it_is_ended_by_force = λ c now origin r. refl;
  its_schedule_ends = λ now r. refl;
  what_is_created_is_terminated = λ c now r. refl;
  what_failed_is_terminated = λ c now r. refl;
  what_passed_its_end_is_terminated = λ c now r. refl;
  it_is_terminated = λ now r. refl;
}

pub no_other_lifecycle_row : (k : Lsm) (move : LifecycleMove) (now : ℕ) (r : Record) →
    has_lifecycle_row k (lifecycle_event move) ≡ false → lives k move now r ≡ stays r
unfolding lives lifecycle_step lifecycle_event
no_other_lifecycle_row k move now r h = grind arith
