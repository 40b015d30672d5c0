-- What a record says, computed: a connection of the requester r1 at the provider p1, 600 Mbps on [100, 200).
use Rattle.std.proofs.Common.{◌≡◌, ℕ, Bool, true, false, List, [], ◌∷◌, Some, None, refl}
use Rattle.std.specs.Prelude.{codes}
use Rattle.nsi_primitive.specs.declared.kind.Directionality.{Directionality}
use Rattle.nsi_primitive.specs.declared.kind.ErrorName.{ErrorName}
use Rattle.nsi_primitive.specs.declared.kind.FaultEvent.{FaultEvent}
use Rattle.nsi_primitive.specs.declared.state.Rsm.{Rsm}
use Rattle.nsi_primitive.specs.declared.state.Psm.{Psm}
use Rattle.nsi_primitive.specs.declared.state.Lsm.{Lsm}
use Rattle.nsi_primitive.specs.declared.state.Machine.{Machine}
use Rattle.nsi_primitive.specs.declared.state.Side.{Side}
use Rattle.nsi_primitive.specs.declared.message.Body.{Body}
use Rattle.nsi_primitive.specs.declared.message.Cause.{Cause}
use Rattle.nsi_primitive.specs.declared.message.Criteria.{Criteria}
use Rattle.nsi_primitive.specs.declared.message.Exception.{Exception}
use Rattle.reserve_machine.specs.Table.{step as reserve_step}
use Rattle.provision_machine.specs.Table.{step as provision_step}
use Rattle.lifecycle_machine.specs.Table.{step as lifecycle_step}
use Rattle.dataplane_state.specs.Plane.{status, announces}
use Rattle.connection_record.specs.declared.record.Record.{Record}
use Rattle.connection_record.specs.declared.moves.Origin.{Origin}
use Rattle.connection_record.specs.declared.moves.Reply.{Reply}
use Rattle.connection_record.specs.declared.provisioning.ProvisionMove.{ProvisionMove}
use Rattle.connection_record.specs.declared.life.LifecycleMove.{LifecycleMove}
use Rattle.connection_record.specs.declared.apply.Move.{Move}
use Rattle.connection_record.specs.Replies.{Moved, reply}
use Rattle.connection_record.specs.Moves.{event_of, reserves, hold_end, is_live, fresh}
use Rattle.connection_record.specs.Lives.{provision_event, lifecycle_event, provisions, lives}
use Rattle.connection_record.specs.Applied.{reservation_closing, provision_closing, closes, moves, waits, is_provisioning, is_terminating, first_machine, ticks, ticked, tells_plane, tells, status_of}
use Rattle.connection_record.specs.Refusal.{has_row, is_in_place, modification_refusal, record_refusal}

abbrev criteria : Criteria
criteria = record { version = 0; interval = record { start = 100; end = 200 }; capacity = 600 }

-- nothing is asked yet
abbrev made : Record
made =
    fresh 1 (codes "r1")
    (record { source = codes "A"; dest = codes "B"; directionality = Directionality.Bidirectional; symmetric = None; global = None; description = None })
    0 1

abbrev committed : Record
committed = record made { committed = criteria ∷ [] }

abbrev provisioned : Record
provisioned = record committed { psm = Psm.Provisioned }

-- a hold until a second
abbrev held : ℕ → Record → Record
held deadline r = record r { rsm = Rsm.ReserveHeld; pending = Some criteria; attempt = Some 4; deadline = Some deadline }

abbrev origin : Origin
origin = record { connection = 1; nsa = codes "p1"; value = 60 }

abbrev moved : Move → ℕ → Record → Moved
moved move now r = moves Side.Provider move now r

---- The end of a connection

-- the request 4 to the reservation machine, and the request 5 to the provision machine
abbrev unanswered : Rsm → Record
unanswered state = record committed { rsm = state; psm = Psm.Provisioning; pending = Some criteria; reserve_request = Some 4; provision_request = Some 5 }

abbrev terminate : Record → Moved
terminate r = moved (Move.Lifecycle (LifecycleMove.Terminate 6)) 50 r

-- what is said at its end
abbrev last_words : Record → List Reply
last_words r = (moved (Move.Close (codes "p1")) 50 (terminate r).rec).out

abbrev gone : Exception
gone = record { nsa = codes "p1"; cause = Cause.Plain ErrorName.Gone }

-- the provision isn't carried out any more, and the terminate is confirmed
abbrev ends : List Reply
ends = reply 5 (Body.Error (Some 1) gone) ∷ reply 6 (Body.TerminateConfirmed 1) ∷ []

pub record AreTerminated : Type 0 where
  a_terminate_is_silent : (terminate (unanswered Rsm.ReserveChecking)).out ≡ []
  nothing_is_asked : last_words (unanswered Rsm.ReserveStart) ≡ ends
  what_is_checked_fails : last_words (unanswered Rsm.ReserveChecking) ≡ reply 4 (Body.ReserveFailed 1 gone) ∷ ends
  what_is_held_has_its_answer : last_words (unanswered Rsm.ReserveHeld) ≡ ends
  a_commit_fails : last_words (unanswered Rsm.ReserveCommitting) ≡ reply 4 (Body.ReserveCommitFailed 1 gone) ∷ ends
  what_failed_has_its_answer : last_words (unanswered Rsm.ReserveFailed) ≡ ends
  what_timed_out_has_its_answer : last_words (unanswered Rsm.ReserveTimeout) ≡ ends
  an_abort_is_confirmed : last_words (unanswered Rsm.ReserveAborting) ≡ reply 4 (Body.ReserveAbortConfirmed 1) ∷ ends
  nothing_is_open : last_words provisioned ≡ reply 6 (Body.TerminateConfirmed 1) ∷ []
  nothing_is_committed_then : (moved (Move.Close (codes "p1")) 50 (terminate (unanswered Rsm.ReserveCommitting)).rec).rec.committed ≡ criteria ∷ []
  it_is_terminated_then : (moved (Move.Close (codes "p1")) 50 (terminate (unanswered Rsm.ReserveCommitting)).rec).rec.lsm ≡ Lsm.Terminated
  only_its_end_waits : first_machine (terminate (unanswered Rsm.ReserveChecking)).rec ≡ Some Machine.Lifecycle
  nothing_waits_then : first_machine (moved (Move.Close (codes "p1")) 50 (terminate (unanswered Rsm.ReserveChecking)).rec).rec ≡ None
  a_second_terminate_is_refused : record_refusal 0 (Body.Terminate 1) (terminate provisioned).rec ≡ Some ErrorName.Gone

are_terminated : AreTerminated
unfolding reserves reserve_step event_of provisions provision_step provision_event lives lifecycle_step lifecycle_event reservation_closing provision_closing closes moves waits is_live is_provisioning is_terminating first_machine
are_terminated = record {
  a_terminate_is_silent = refl;
  nothing_is_asked = refl;
  what_is_checked_fails = refl;
  what_is_held_has_its_answer = refl;
  a_commit_fails = refl;
  what_failed_has_its_answer = refl;
  what_timed_out_has_its_answer = refl;
  an_abort_is_confirmed = refl;
  nothing_is_open = refl;
  nothing_is_committed_then = refl;
  it_is_terminated_then = refl;
  only_its_end_waits = refl;
  nothing_waits_then = refl;
  a_second_terminate_is_refused = refl;
}

---- A forced end

abbrev fail : Record → Moved
fail r = moved (Move.Lifecycle (LifecycleMove.Force 7 origin)) 50 r

pub record AreForced : Type 0 where
  the_owner_is_told : (fail committed).out
      ≡ reply 7
      (Body.ErrorEvent
      (record { connection = 1; event = FaultEvent.ForcedEnd; notification = 1; originating_connection = 1; originating_nsa = codes "p1"; time = 50 })) ∷ []
  it_is_told_once : (fail (fail committed).rec).out ≡ []
  a_provision_is_refused_then : record_refusal 0 (Body.Provision 1) (fail committed).rec ≡ Some ErrorName.InvalidTransition
  a_release_is_taken_then : record_refusal 0 (Body.Release 1) (fail provisioned).rec ≡ None
  a_terminate_is_taken_then : record_refusal 0 (Body.Terminate 1) (fail committed).rec ≡ None

are_forced : AreForced
unfolding lives lifecycle_step lifecycle_event moves is_live has_row is_in_place modification_refusal provision_step
are_forced = record {
  the_owner_is_told = refl;
  it_is_told_once = refl;
  a_provision_is_refused_then = refl;
  a_release_is_taken_then = refl;
  a_terminate_is_taken_then = refl;
}

---- Provision and release

abbrev provision : Record → Moved
provision r = moved (Move.Provision (ProvisionMove.Provision 5)) 50 r

abbrev release : Record → Moved
release r = moved (Move.Provision (ProvisionMove.Release 5)) 50 r

-- the work on what is asked
abbrev work : Record → Moved
work r = moved (Move.Provision ProvisionMove.Done) 50 r

pub record AreProvisioned : Type 0 where
  a_provision_waits : (provision committed).out ≡ []
  it_is_confirmed : (work (provision committed).rec).out ≡ reply 5 (Body.ProvisionConfirmed 1) ∷ []
  a_release_waits : (release provisioned).out ≡ []
  it_is_confirmed_too : (work (release provisioned).rec).out ≡ reply 5 (Body.ReleaseConfirmed 1) ∷ []
  provisioned_it_is_confirmed_at_once : (provision provisioned).out ≡ reply 5 (Body.ProvisionConfirmed 1) ∷ []
  released_it_is_confirmed_at_once : (release committed).out ≡ reply 5 (Body.ReleaseConfirmed 1) ∷ []
  an_aggregator_asks_again : (moves Side.Aggregator (Move.Provision (ProvisionMove.Provision 5)) 50 provisioned).out ≡ []
  nothing_to_provision_is_refused : record_refusal 0 (Body.Provision 1) made ≡ Some ErrorName.InvalidTransition
  a_provision_in_the_work_is_refused : record_refusal 0 (Body.Provision 1) (provision committed).rec ≡ Some ErrorName.InvalidTransition

are_provisioned : AreProvisioned
unfolding provisions provision_step provision_event moves is_live has_row is_in_place
are_provisioned = record {
  a_provision_waits = refl;
  it_is_confirmed = refl;
  a_release_waits = refl;
  it_is_confirmed_too = refl;
  provisioned_it_is_confirmed_at_once = refl;
  released_it_is_confirmed_at_once = refl;
  an_aggregator_asks_again = refl;
  nothing_to_provision_is_refused = refl;
  a_provision_in_the_work_is_refused = refl;
}

---- Ticks

-- the end of the hold, under the first notificationId
abbrev times_out : ℕ → Reply
times_out now =
    reply 4
    (Body.ReserveTimeout (record { connection = 1; notification = 1; originating_connection = 1; originating_nsa = codes "p1"; time = now; value = 60 }))

-- a change of the data plane
abbrev changes : Bool → (notification now : ℕ) → Reply
changes active notification now =
    reply 9 (Body.DataPlaneStateChange (record { active = active; connection = 1; notification = notification; time = now; version = 0; consistent = true }))

-- a tick at a record, and what is told of its data plane since the second before
abbrev tick : (before now : ℕ) → Record → Moved
tick before now r = tells (status_of before r) 9 now (ticked origin now r)

pub record AreTicked : Type 0 where
  a_schedule_ends_with_its_last_second : (tick 199 200 committed).rec.lsm ≡ Lsm.PassedEndTime
  it_does_not_end_before : (tick 198 199 committed).rec.lsm ≡ Lsm.Created
  what_was_committed_late_ends_at_the_next_tick : (tick 300 301 committed).rec.lsm ≡ Lsm.PassedEndTime
  a_hold_ends_at_its_deadline : (tick 59 60 (held 60 made)).out ≡ times_out 60 ∷ []
  it_lasts_until_then : (tick 58 59 (held 60 made)).out ≡ []
  both_end_in_one_tick : (tick 199 200 (held 200 committed)).out ≡ times_out 200 ∷ []
  the_hold_is_over_then : (tick 199 200 (held 200 committed)).rec.rsm ≡ Rsm.ReserveTimeout
  the_schedule_is_over_then : (tick 199 200 (held 200 committed)).rec.lsm ≡ Lsm.PassedEndTime
  what_ends_is_let_be : (tick 199 200 (record (held 200 committed) { lsm = Lsm.Terminating })).out ≡ []

are_ticked : AreTicked
unfolding reserves reserve_step event_of hold_end is_live lives lifecycle_step lifecycle_event ticks tells_plane tells status announces
are_ticked = record {
  a_schedule_ends_with_its_last_second = refl;
  it_does_not_end_before = refl;
  what_was_committed_late_ends_at_the_next_tick = refl;
  a_hold_ends_at_its_deadline = refl;
  it_lasts_until_then = refl;
  both_end_in_one_tick = refl;
  the_hold_is_over_then = refl;
  the_schedule_is_over_then = refl;
  what_ends_is_let_be = refl;
}

---- The data plane

-- a move, and what is told of the data plane
abbrev applied : Move → ℕ → Record → Moved
applied move now r = tells (status_of now r) 9 now (moved move now r)

pub record AreTold : Type 0 where
  before_the_first_second_nothing_is_told : (tick 98 99 provisioned).out ≡ []
  it_is_active_from_the_first_second : (tick 99 100 provisioned).out ≡ changes true 1 100 ∷ []
  no_change_is_told_twice : (tick 100 101 provisioned).out ≡ []
  it_is_active_to_the_last_second : (tick 198 199 provisioned).out ≡ []
  it_is_not_active_past_it : (tick 199 200 provisioned).out ≡ changes false 1 200 ∷ []
  a_schedule_between_two_ticks_is_not_told : (tick 99 200 provisioned).out ≡ []
  the_hold_is_told_first : (tick 199 200 (held 200 provisioned)).out ≡ times_out 200 ∷ changes false 2 200 ∷ []
  the_answer_is_told_first : (applied (Move.Provision ProvisionMove.Done) 150 (provision committed).rec).out
      ≡ reply 5 (Body.ProvisionConfirmed 1) ∷ changes true 1 150 ∷ []
  asking_for_the_release_ends_it : (applied (Move.Provision (ProvisionMove.Release 5)) 150 provisioned).out ≡ changes false 1 150 ∷ []
  asking_for_the_end_ends_it : (applied (Move.Lifecycle (LifecycleMove.Terminate 6)) 150 provisioned).out ≡ changes false 1 150 ∷ []

are_told : AreTold
unfolding reserves reserve_step event_of hold_end is_live provisions provision_step provision_event lives lifecycle_step lifecycle_event moves ticks tells_plane tells status announces
are_told = record {
  before_the_first_second_nothing_is_told = refl;
  it_is_active_from_the_first_second = refl;
  no_change_is_told_twice = refl;
  it_is_active_to_the_last_second = refl;
  it_is_not_active_past_it = refl;
  a_schedule_between_two_ticks_is_not_told = refl;
  the_hold_is_told_first = refl;
  the_answer_is_told_first = refl;
  asking_for_the_release_ends_it = refl;
  asking_for_the_end_ends_it = refl;
}
