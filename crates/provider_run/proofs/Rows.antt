-- What a provider answers, computed: two points of 1000 Mbps, requests of one requester, a line after the other.
use Rattle.std.proofs.Common.{◌≡◌, ℕ, Bool, true, false, List, [], ◌∷◌, length, Option, Some, None, refl}
use Rattle.std.specs.Prelude.{codes}
use Rattle.nsi_base.specs.declared.flow.Flow.{Flow}
use Rattle.nsi_primitive.specs.Ids.{id_of}
use Rattle.nsi_primitive.specs.Kinds.{kind_number}
use Rattle.nsi_primitive.specs.Messages.{connection_of, identity}
use Rattle.nsi_primitive.specs.declared.kind.Directionality.{Directionality}
use Rattle.nsi_primitive.specs.declared.kind.ErrorName.{ErrorName}
use Rattle.nsi_primitive.specs.declared.message.Body.{Body}
use Rattle.nsi_primitive.specs.declared.message.Cause.{Cause}
use Rattle.nsi_primitive.specs.declared.message.Message.{Message}
use Rattle.nsi_primitive.specs.declared.entry.Input.{Input}
use Rattle.nsi_primitive.specs.declared.entry.Entry.{Entry}
use Rattle.nsi_primitive.specs.declared.kind.FaultEvent.{FaultEvent}
use Rattle.nsi_primitive.specs.declared.state.Machine.{Machine}
use Rattle.reserve_machine.specs.Table.{step as row_of}
use Rattle.provision_machine.specs.Table.{step as provision_row_of}
use Rattle.lifecycle_machine.specs.Table.{step as lifecycle_row_of}
use Rattle.dataplane_state.specs.Plane.{status, announces}
use Rattle.message_retry.specs.Taken.{is_taken, with_taken}
use Rattle.message_retry.specs.Retry.{without}
use Rattle.capacity_calendar.specs.Lack.{lack_at, first_from, first_lack_by}
use Rattle.capacity_calendar.specs.Places.{places}
use Rattle.connection_record.specs.declared.record.Record.{Record}
use Rattle.connection_record.specs.Demand.{demand, load}
use Rattle.connection_record.specs.Lives.{provision_event, lifecycle_event, provisions, lives}
use Rattle.connection_record.specs.Moves.{event_of, reserves, hold_end, is_live, is_working, worked}
use Rattle.connection_record.specs.Refusal.{has_row, is_in_place, unnamed_refusal, modification_refusal, refusal}
use Rattle.connection_record.specs.Applied.{moves, closes, reservation_closing, provision_closing, requested, first_machine, waits, work_of, provided, is_provisioning, is_terminating, ticks as record_ticks, tells, tells_plane}
use Rattle.provider_agent.specs.Others.{lacking}
use Rattle.provider_agent.specs.State.{State, Stepped, blank}
use Rattle.provider_agent.specs.Steps.{receives, works, forces, ticks, ticks_all, step, after}
use Rattle.provider_agent.specs.Runs.{after_all}
use Rattle.provider_agent.proofs.EventRows.{setting, stp_of}
use Rattle.provider_run.specs.Works.{now_at, works_of, all_works, with_works}

---- Its requests

-- the n-th request of a requester
abbrev from : List ℕ → ℕ → Body → Message
from requester n body = record { header = record { correlation = id_of 1 n; requester = requester; provider = codes "p1" }; body = body }

abbrev m : ℕ → Body → Message
m n body = from (codes "r1") n body

abbrev reserve : (source : List ℕ) → (connection version : Option ℕ) → (capacity start end : ℕ) → Body
reserve source connection version capacity start end =
    Body.Reserve (record {
      capacity = capacity;
      connection = connection;
      description = None;
      dest = Some (codes "B");
      directionality = None;
      end = end;
      global = None;
      source = Some source;
      start = Some start;
      symmetric = None;
      version = version;
    })

abbrev first : (capacity start end : ℕ) → Body
first capacity start end = reserve (codes "A") None None capacity start end

-- a modification of the first connection
abbrev modify : Option ℕ → (capacity start end : ℕ) → Body
modify version capacity start end = reserve (codes "A") (Some (id_of 0 1)) version capacity start end

abbrev commit : Body
commit = Body.ReserveCommit (id_of 0 1)

abbrev abort : Body
abort = Body.ReserveAbort (id_of 0 1)

abbrev provision : Body
provision = Body.Provision (id_of 0 1)

abbrev release : Body
release = Body.Release (id_of 0 1)

abbrev terminate : Body
terminate = Body.Terminate (id_of 0 1)

---- Answers

abbrev responds : (n id : ℕ) → Message
responds n id = m n (Body.ReserveResponse (id_of 0 id))

abbrev confirms : (n id version capacity start end : ℕ) → Message
confirms n id version capacity start end =
    m n (Body.ReserveConfirmed (record {
      capacity = capacity;
      connection = id_of 0 id;
      description = None;
      dest = codes "B";
      directionality = Directionality.Bidirectional;
      end = end;
      global = None;
      source = codes "A";
      start = start;
      symmetric = None;
      version = version;
    }))

abbrev fails : (n id : ℕ) → Cause → Message
fails n id cause = m n (Body.ReserveFailed (id_of 0 id) (record { nsa = codes "p1"; cause = cause }))

abbrev refuses : ℕ → Option ℕ → ErrorName → Message
refuses n connection error = m n (Body.Error connection (record { nsa = codes "p1"; cause = Cause.Plain error }))

abbrev times_out : ℕ → Message
times_out second =
    m 1 (Body.ReserveTimeout (record { connection = id_of 0 1; notification = 1; originating_connection = id_of 0 1; originating_nsa = codes "p1"; time = second; value = 60 }))

abbrev provisioned : ℕ → Message
provisioned n = m n (Body.ProvisionConfirmed (id_of 0 1))

-- the data plane has changed, told under the agent's n-th id
abbrev plane_changes : (n notification second : ℕ) → Bool → Message
plane_changes n notification second active =
    record {
      header = record { correlation = id_of 0 n; requester = codes "r1"; provider = codes "p1" };
      body = Body.DataPlaneStateChange (record { active = active; connection = id_of 0 1; notification = notification; time = second; version = 0; consistent = true });
    }

-- the connection has ended by force
abbrev ends_by_force : (n notification second : ℕ) → Message
ends_by_force n notification second =
    record {
      header = record { correlation = id_of 0 n; requester = codes "r1"; provider = codes "p1" };
      body =
          Body.ErrorEvent (record { connection = id_of 0 1; event = FaultEvent.ForcedEnd; notification = notification; originating_connection = id_of 0 1; originating_nsa = codes "p1"; time = second });
    }

---- Lines

abbrev entries : List Input → List Entry
entries [] = []
entries (input ∷ inputs) = now_at blank input ∷ entries inputs

-- a message, and all work that waits then
abbrev line : State → Message → Stepped
line s message = after_all setting stp_of s (with_works setting stp_of s (now_at s (Input.Got message)))

abbrev tick : State → ℕ → Stepped
tick s second = after_all setting stp_of s (with_works setting stp_of s (record { second = second; input = Input.Tick }))

abbrev force : State → Stepped
force s = after_all setting stp_of s (with_works setting stp_of s (now_at s (Input.Force 0)))

-- entries of the first second, with no work but what is among them
abbrev at_first : List Input → Stepped
at_first inputs = after_all setting stp_of blank (entries inputs)

abbrev load_at : ℕ → State → ℕ
load_at t s = load Flow.Both 0 t s.records

-- 600 Mbps on [100, 200) are held
abbrev held : State
held = (line blank (m 1 (first 600 100 200))).state

-- and committed
abbrev committed : State
committed = (line held (m 2 commit)).state

-- 300 Mbps on [100, 400) are held in their place
abbrev modified : State
modified = (line committed (m 3 (modify None 300 100 400))).state

-- provisioned at 150, within its schedule
abbrev active : State
active = (line (tick committed 150).state (m 3 provision)).state

pub record AreReserved : Type 0 where
  a_first_reserve_is_held : (line blank (m 1 (first 600 100 200))).out ≡ responds 1 1 ∷ confirms 1 1 0 600 100 200 ∷ []
  the_first_lack_is_named : (line held (m 2 (first 500 150 300))).out ≡ responds 2 2 ∷ fails 2 2 (Cause.Bandwidth (codes "A") Flow.Both 150 600 1000) ∷ []
  what_failed_takes_nothing : (line (line held (m 2 (first 500 150 300))).state (m 3 (first 400 150 300))).out ≡ responds 3 3 ∷ confirms 3 3 0 400 150 300 ∷ []
  both_fill_the_point : load_at 150 (line held (m 2 (first 400 150 300))).state ≡ 1000
  touching_schedules_fit : (line held (m 2 (first 1000 200 300))).out ≡ responds 2 2 ∷ confirms 2 2 0 1000 200 300 ∷ []
  an_empty_schedule_is_refused : (line blank (m 1 (first 600 200 200))).out ≡ refuses 1 None ErrorName.Schedule ∷ []
  an_unknown_point_is_refused : (line blank (m 1 (reserve (codes "Z") None None 600 100 200))).out ≡ refuses 1 None ErrorName.UnknownStp ∷ []
  a_schedule_that_has_passed_fails : (line (tick blank 200).state (m 1 (first 600 100 200))).out ≡ responds 1 1 ∷ fails 1 1 (Cause.Plain ErrorName.Passed) ∷ []
  a_repeated_request_is_silent : (line held (m 1 (first 500 150 300))).out ≡ []

reserved : AreReserved
unfolding after_all after step receives works forces ticks ticks_all works_of lacking first_machine waits work_of worked provided is_provisioning is_terminating moves reserves provisions lives closes reservation_closing provision_closing requested record_ticks hold_end tells tells_plane status announces is_live is_working demand is_in_place has_row row_of provision_row_of lifecycle_row_of unnamed_refusal modification_refusal refusal is_taken with_taken lack_at first_from first_lack_by places connection_of event_of provision_event lifecycle_event
reserved = record {
  a_first_reserve_is_held = refl;
  the_first_lack_is_named = refl;
  what_failed_takes_nothing = refl;
  both_fill_the_point = refl;
  touching_schedules_fit = refl;
  an_empty_schedule_is_refused = refl;
  an_unknown_point_is_refused = refl;
  a_schedule_that_has_passed_fails = refl;
  a_repeated_request_is_silent = refl;
}

pub record AreHeld : Type 0 where
  a_hold_lasts_its_time : (tick held 59).out ≡ []
  a_hold_ends_with_its_time : (tick held 60).out ≡ times_out 60 ∷ []
  a_late_tick_ends_it_too : (tick held 75).out ≡ times_out 75 ∷ []
  nothing_is_held_then : load_at 150 (tick held 60).state ≡ 0
  it_cannot_be_committed_then : (line (tick held 60).state (m 2 commit)).out ≡ refuses 2 (Some (id_of 0 1)) ErrorName.InvalidTransition ∷ []
  it_can_be_aborted_then : (line (tick held 60).state (m 2 abort)).out ≡ m 2 (Body.ReserveAbortConfirmed (id_of 0 1)) ∷ []
  a_commit_is_confirmed : (line (tick held 59).state (m 2 commit)).out ≡ m 2 (Body.ReserveCommitConfirmed (id_of 0 1)) ∷ []
  what_is_committed_stays : (tick committed 60).out ≡ []
  a_repeated_commit_is_silent : (line committed (m 2 commit)).out ≡ []
  another_requester_finds_nothing : (line held (from (codes "r2") 1 commit)).out
      ≡ from (codes "r2") 1 (Body.Error (Some (id_of 0 1)) (record { nsa = codes "p1"; cause = Cause.Plain ErrorName.Nonexistent })) ∷ []

are_held : AreHeld
unfolding after_all after step receives works forces ticks ticks_all works_of lacking first_machine waits work_of worked provided is_provisioning is_terminating moves reserves provisions lives closes reservation_closing provision_closing requested record_ticks hold_end tells tells_plane status announces is_live is_working demand is_in_place has_row row_of provision_row_of lifecycle_row_of unnamed_refusal modification_refusal refusal is_taken with_taken lack_at first_from first_lack_by places connection_of event_of provision_event lifecycle_event
are_held = record {
  a_hold_lasts_its_time = refl;
  a_hold_ends_with_its_time = refl;
  a_late_tick_ends_it_too = refl;
  nothing_is_held_then = refl;
  it_cannot_be_committed_then = refl;
  it_can_be_aborted_then = refl;
  a_commit_is_confirmed = refl;
  what_is_committed_stays = refl;
  a_repeated_commit_is_silent = refl;
  another_requester_finds_nothing = refl;
}

pub record AreModified : Type 0 where
  a_modification_has_the_next_version : (line committed (m 3 (modify None 300 100 400))).out ≡ responds 3 1 ∷ confirms 3 1 1 300 100 400 ∷ []
  the_larger_counts_while_it_is_held : load_at 150 modified ≡ 600
  what_is_held_counts_where_nothing_is_committed : load_at 250 modified ≡ 300
  the_new_version_counts_once_committed : load_at 150 (line modified (m 4 commit)).state ≡ 300
  it_counts_to_its_end : load_at 250 (line modified (m 4 commit)).state ≡ 300
  an_abort_leaves_the_committed : load_at 150 (line modified (m 4 abort)).state ≡ 600
  an_abort_leaves_nothing_else : load_at 250 (line modified (m 4 abort)).state ≡ 0
  an_equal_version_is_too_low : (line committed (m 3 (modify (Some 0) 300 100 400))).out ≡ refuses 3 (Some (id_of 0 1)) ErrorName.VersionLow ∷ []
  behind_the_last_version_is_none : (line (line (line committed (m 3 (modify (Some 2147483647) 300 100 400))).state (m 4 commit)).state (m 5 (modify None 300 100 400))).out
      ≡ refuses 5 (Some (id_of 0 1)) ErrorName.Version ∷ []

are_modified : AreModified
unfolding after_all after step receives works forces ticks ticks_all works_of lacking first_machine waits work_of worked provided is_provisioning is_terminating moves reserves provisions lives closes reservation_closing provision_closing requested record_ticks hold_end tells tells_plane status announces is_live is_working demand is_in_place has_row row_of provision_row_of lifecycle_row_of unnamed_refusal modification_refusal refusal is_taken with_taken lack_at first_from first_lack_by places connection_of event_of provision_event lifecycle_event
are_modified = record {
  a_modification_has_the_next_version = refl;
  the_larger_counts_while_it_is_held = refl;
  what_is_held_counts_where_nothing_is_committed = refl;
  the_new_version_counts_once_committed = refl;
  it_counts_to_its_end = refl;
  an_abort_leaves_the_committed = refl;
  an_abort_leaves_nothing_else = refl;
  an_equal_version_is_too_low = refl;
  behind_the_last_version_is_none = refl;
}

pub record AreProvisioned : Type 0 where
  what_is_held_cannot_be_provisioned : (line held (m 2 provision)).out ≡ refuses 2 (Some (id_of 0 1)) ErrorName.InvalidTransition ∷ []
  what_is_committed_can : (line committed (m 3 provision)).out ≡ provisioned 3 ∷ []
  and_again : (line (line committed (m 3 provision)).state (m 4 provision)).out ≡ provisioned 4 ∷ []
  a_start_tells_the_data_plane : (tick (line committed (m 3 provision)).state 100).out ≡ plane_changes 2 1 100 true ∷ []
  so_does_a_provision_within_the_schedule : (line (tick committed 150).state (m 3 provision)).out ≡ provisioned 3 ∷ plane_changes 2 1 150 true ∷ []
  so_does_a_release_before_its_work : (line active (m 4 release)).out ≡ plane_changes 3 2 150 false ∷ m 4 (Body.ReleaseConfirmed (id_of 0 1)) ∷ []
  so_does_the_end : (tick active 200).out ≡ plane_changes 3 2 200 false ∷ []
  what_has_ended_is_not_modified : (line (tick active 200).state (m 4 (modify None 300 100 400))).out ≡ refuses 4 (Some (id_of 0 1)) ErrorName.InvalidTransition ∷ []
  a_forced_end_is_told_first : (force active).out ≡ ends_by_force 3 2 150 ∷ plane_changes 4 3 150 false ∷ []
  a_second_one_does_nothing : (force (force active).state).out ≡ []

are_provisioned : AreProvisioned
unfolding after_all after step receives works forces ticks ticks_all works_of lacking first_machine waits work_of worked provided is_provisioning is_terminating moves reserves provisions lives closes reservation_closing provision_closing requested record_ticks hold_end tells tells_plane status announces is_live is_working demand is_in_place has_row row_of provision_row_of lifecycle_row_of unnamed_refusal modification_refusal refusal is_taken with_taken lack_at first_from first_lack_by places connection_of event_of provision_event lifecycle_event
are_provisioned = record {
  what_is_held_cannot_be_provisioned = refl;
  what_is_committed_can = refl;
  and_again = refl;
  a_start_tells_the_data_plane = refl;
  so_does_a_provision_within_the_schedule = refl;
  so_does_a_release_before_its_work = refl;
  so_does_the_end = refl;
  what_has_ended_is_not_modified = refl;
  a_forced_end_is_told_first = refl;
  a_second_one_does_nothing = refl;
}

pub record AreEnded : Type 0 where
  a_terminate_is_confirmed : (line committed (m 3 terminate)).out ≡ m 3 (Body.TerminateConfirmed (id_of 0 1)) ∷ []
  it_takes_nothing_then : load_at 150 (line committed (m 3 terminate)).state ≡ 0
  it_is_gone_then : (line (line committed (m 3 terminate)).state (m 4 provision)).out ≡ refuses 4 (Some (id_of 0 1)) ErrorName.Gone ∷ []
  what_is_open_is_answered_first : (at_first (Input.Got (m 1 (first 600 100 200)) ∷ Input.Got (m 2 terminate) ∷ Input.Work 0 Machine.Lifecycle ∷ [])).out
      ≡ responds 1 1 ∷ fails 1 1 (Cause.Plain ErrorName.Gone) ∷ m 2 (Body.TerminateConfirmed (id_of 0 1)) ∷ []
  work_that_no_longer_waits_does_nothing : (at_first (Input.Got (m 1 (first 600 100 200)) ∷ Input.Got (m 2 terminate) ∷ Input.Work 0 Machine.Reserve ∷ [])).out ≡ responds 1 1 ∷ []
  two_machines_may_wait : length (all_works setting stp_of (after_all setting stp_of committed (now_at committed (Input.Got (m 3 (modify None 300 100 400))) ∷ now_at committed (Input.Got (m 4 provision)) ∷ [])).state) ≡ 2

are_ended : AreEnded
unfolding after_all after step receives works forces ticks ticks_all works_of lacking first_machine waits work_of worked provided is_provisioning is_terminating moves reserves provisions lives closes reservation_closing provision_closing requested record_ticks hold_end tells tells_plane status announces is_live is_working demand is_in_place has_row row_of provision_row_of lifecycle_row_of unnamed_refusal modification_refusal refusal is_taken with_taken lack_at first_from first_lack_by places connection_of event_of provision_event lifecycle_event
are_ended = record {
  a_terminate_is_confirmed = refl;
  it_takes_nothing_then = refl;
  it_is_gone_then = refl;
  what_is_open_is_answered_first = refl;
  work_that_no_longer_waits_does_nothing = refl;
  two_machines_may_wait = refl;
}

---- Entries that no line makes

abbrev reserving : Input
reserving = Input.Got (m 1 (first 600 100 200))

abbrev terminating : Input
terminating = Input.Got (m 2 terminate)

abbrev work : Machine → Input
work machine = Input.Work 0 machine

abbrev acknowledged : Message → Input
acknowledged message = Input.Acked (identity message)

-- the records and all that was said
abbrev standing : List Input → List Record × List Message
standing inputs = ((at_first inputs).state.records, (at_first inputs).out)

-- what waits for its acknowledgement
abbrev waiting : List Input → List Message
waiting inputs = (at_first inputs).state.waiting

pub record AreIdle : Type 0 where
  provisions_work_while_a_reserve_is_checked : standing (reserving ∷ work Machine.Provision ∷ []) ≡ standing (reserving ∷ [])
  the_ends_work_while_a_reserve_is_checked : standing (reserving ∷ work Machine.Lifecycle ∷ []) ≡ standing (reserving ∷ [])
  work_of_a_number_that_no_record_has : standing (reserving ∷ Input.Work 1 Machine.Reserve ∷ []) ≡ standing (reserving ∷ [])
  reserves_work_while_a_hold_waits : standing (reserving ∷ work Machine.Reserve ∷ work Machine.Reserve ∷ []) ≡ standing (reserving ∷ work Machine.Reserve ∷ [])
  reserves_work_while_the_end_waits : standing (reserving ∷ terminating ∷ work Machine.Reserve ∷ []) ≡ standing (reserving ∷ terminating ∷ [])
  the_ends_work_once_more : standing (reserving ∷ terminating ∷ work Machine.Lifecycle ∷ work Machine.Lifecycle ∷ []) ≡ standing (reserving ∷ terminating ∷ work Machine.Lifecycle ∷ [])
  reserves_work_while_a_provision_waits : (after_all setting stp_of committed (now_at committed (Input.Got (m 3 provision)) ∷ now_at committed (work Machine.Reserve) ∷ [])).out ≡ []
  a_forced_end_while_the_end_waits : standing (reserving ∷ terminating ∷ Input.Force 0 ∷ []) ≡ standing (reserving ∷ terminating ∷ [])
  a_forced_end_of_a_number_that_no_record_has : standing (reserving ∷ Input.Force 1 ∷ []) ≡ standing (reserving ∷ [])
  an_acknowledgement : standing (reserving ∷ acknowledged (responds 1 1) ∷ []) ≡ standing (reserving ∷ [])

are_idle : AreIdle
unfolding after_all after step receives works forces ticks ticks_all works_of lacking first_machine waits work_of worked provided is_provisioning is_terminating moves reserves provisions lives closes reservation_closing provision_closing requested record_ticks hold_end tells tells_plane status announces is_live is_working demand is_in_place has_row row_of provision_row_of lifecycle_row_of unnamed_refusal modification_refusal refusal is_taken with_taken lack_at first_from first_lack_by places connection_of event_of provision_event lifecycle_event
are_idle = record {
  provisions_work_while_a_reserve_is_checked = refl;
  the_ends_work_while_a_reserve_is_checked = refl;
  work_of_a_number_that_no_record_has = refl;
  reserves_work_while_a_hold_waits = refl;
  reserves_work_while_the_end_waits = refl;
  the_ends_work_once_more = refl;
  reserves_work_while_a_provision_waits = refl;
  a_forced_end_while_the_end_waits = refl;
  a_forced_end_of_a_number_that_no_record_has = refl;
  an_acknowledgement = refl;
}

pub record AreWaiting : Type 0 where
  what_was_said_waits : waiting (reserving ∷ work Machine.Reserve ∷ []) ≡ responds 1 1 ∷ confirms 1 1 0 600 100 200 ∷ []
  until_it_is_acknowledged : waiting (reserving ∷ work Machine.Reserve ∷ acknowledged (responds 1 1) ∷ []) ≡ confirms 1 1 0 600 100 200 ∷ []
  in_either_order : waiting (reserving ∷ work Machine.Reserve ∷ acknowledged (confirms 1 1 0 600 100 200) ∷ []) ≡ responds 1 1 ∷ []
  twice_is_as_once : waiting (reserving ∷ work Machine.Reserve ∷ acknowledged (responds 1 1) ∷ acknowledged (responds 1 1) ∷ []) ≡ confirms 1 1 0 600 100 200 ∷ []
  another_kind_goes_on_waiting : waiting (reserving ∷ acknowledged (confirms 1 1 0 600 100 200) ∷ []) ≡ responds 1 1 ∷ []
  so_where_the_request_itself_is_acknowledged : waiting (reserving ∷ acknowledged (m 1 (first 600 100 200)) ∷ []) ≡ responds 1 1 ∷ []
  what_a_tick_says_waits_behind_both : (tick (at_first (reserving ∷ work Machine.Reserve ∷ [])).state 60).state.waiting ≡ responds 1 1 ∷ confirms 1 1 0 600 100 200 ∷ times_out 60 ∷ []
  a_request_that_comes_again_says_nothing : waiting (reserving ∷ reserving ∷ []) ≡ responds 1 1 ∷ []

are_waiting : AreWaiting
unfolding after_all after step receives works forces ticks ticks_all works_of lacking first_machine waits work_of worked provided is_provisioning is_terminating moves reserves provisions lives closes reservation_closing provision_closing requested record_ticks hold_end tells tells_plane status announces is_live is_working demand is_in_place has_row row_of provision_row_of lifecycle_row_of unnamed_refusal modification_refusal refusal is_taken with_taken lack_at first_from first_lack_by places connection_of event_of provision_event lifecycle_event without kind_number
are_waiting = record {
  what_was_said_waits = refl;
  until_it_is_acknowledged = refl;
  in_either_order = refl;
  twice_is_as_once = refl;
  another_kind_goes_on_waiting = refl;
  so_where_the_request_itself_is_acknowledged = refl;
  what_a_tick_says_waits_behind_both = refl;
  a_request_that_comes_again_says_nothing = refl;
}
