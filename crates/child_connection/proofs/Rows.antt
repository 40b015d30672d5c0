-- The table of a view, cell by cell, computed: what a message of each kind is to a view in each phase, and what it leaves.
use Rattle.std.proofs.Common.{◌≡◌, ℕ, true, false, List, [], ◌∷◌, map, Some, None, refl}
use Rattle.std.specs.Prelude.{codes}
use Rattle.nsi_base.specs.declared.flow.Flow.{Flow}
use Rattle.nsi_primitive.specs.Kinds.{kinds}
use Rattle.nsi_primitive.specs.Messages.{kind_of}
use Rattle.nsi_primitive.specs.declared.kind.Directionality.{Directionality}
use Rattle.nsi_primitive.specs.declared.kind.ErrorName.{ErrorName}
use Rattle.nsi_primitive.specs.declared.kind.FaultEvent.{FaultEvent}
use Rattle.nsi_primitive.specs.declared.kind.Kind.{Kind}
use Rattle.nsi_primitive.specs.declared.message.Body.{Body}
use Rattle.nsi_primitive.specs.declared.message.Cause.{Cause}
use Rattle.nsi_primitive.specs.declared.message.Exception.{Exception}
use Rattle.nsi_primitive.specs.declared.message.Message.{Message}
use Rattle.nsi_primitive.specs.declared.message.NumberRange.{NumberRange}
use Rattle.nsi_primitive.specs.declared.message.ReserveRequest.{ReserveRequest}
use Rattle.nsi_primitive.specs.declared.message.Service.{Service}
use Rattle.child_connection.specs.declared.state.AskFault.{AskFault}
use Rattle.child_connection.specs.declared.state.Phase.{Phase}
use Rattle.child_connection.specs.declared.state.Taken.{Taken}
use Rattle.child_connection.specs.Views.{ChildConnection, new_view, sent, is_kind, open_request}
use Rattle.child_connection.specs.Asks.{asks, request_about, reserve_for, to_child}
use Rattle.child_connection.specs.Refusals.{ask_refusal, reserve_refusal}
use Rattle.child_connection.specs.Hearing.{hears, hear}

---- A view in each phase: the reserve had correlation 5, the commit 6, the abort 7

abbrev blank : ChildConnection
blank = new_view (codes "p1") (codes "A") (codes "B")

abbrev reserving : ChildConnection
reserving = record blank { phase = Phase.Reserving; attempt = Some 5; reserve_request = Some (sent 5 Kind.Reserve) }

abbrev known : ChildConnection
known = record blank { connection = Some 90; committed = 2 ∷ [] }

abbrev held : ChildConnection
held = record known { phase = Phase.Held; attempt = Some 5; pending = Some 3 }

abbrev failed : ChildConnection
failed = record known { phase = Phase.Failed; attempt = Some 5; error = Some ErrorName.Passed }

abbrev timed_out : ChildConnection
timed_out = record known { phase = Phase.TimedOut; attempt = Some 5; error = Some ErrorName.Timeout }

abbrev committing : ChildConnection
committing = record held { phase = Phase.Committing; before = Phase.Held; reserve_request = Some (sent 6 Kind.ReserveCommit); room = 2 }

abbrev aborting : ChildConnection
aborting = record failed { phase = Phase.Aborting; before = Phase.Failed; reserve_request = Some (sent 7 Kind.ReserveAbort) }

-- a reserve that was asked while another is held
abbrev reserving_again : ChildConnection
reserving_again = record held { phase = Phase.Reserving; before = Phase.Held; attempt = Some 8; reserve_request = Some (sent 8 Kind.Reserve) }

abbrev provisioning : ChildConnection
provisioning = record known { provision_request = Some (sent 10 Kind.Provision) }

abbrev releasing : ChildConnection
releasing = record known { provision_request = Some (sent 11 Kind.Release) }

abbrev terminating : ChildConnection
terminating = record known { lifecycle_request = Some (sent 12 Kind.Terminate) }

---- A message of each kind, of the connection 90

abbrev exception : Exception
exception = record { nsa = codes "p1"; cause = Cause.Plain ErrorName.Passed }

abbrev lack : Exception
lack = record { nsa = codes "p1"; cause = Cause.Bandwidth (codes "A") Flow.Both 150 600 1000 }

abbrev request : ReserveRequest
request =
    record {
      capacity = 600;
      connection = None;
      description = None;
      dest = Some (codes "B");
      directionality = None;
      end = 200;
      global = None;
      source = Some (codes "A");
      start = Some 100;
      symmetric = None;
      version = None;
    }

abbrev reserve_confirmed : Body
reserve_confirmed =
    Body.ReserveConfirmed (record {
      capacity = 600;
      connection = 90;
      description = None;
      dest = codes "B";
      directionality = Directionality.Bidirectional;
      end = 200;
      global = None;
      source = codes "A";
      start = 100;
      symmetric = None;
      version = 3;
    })

abbrev reserve_timeout : Body
reserve_timeout = Body.ReserveTimeout (record { connection = 90; notification = 1; originating_connection = 90; originating_nsa = codes "p1"; time = 60; value = 60 })

abbrev error_event : Body
error_event = Body.ErrorEvent (record { connection = 90; event = FaultEvent.ForcedEnd; notification = 2; originating_connection = 90; originating_nsa = codes "p1"; time = 60 })

abbrev plane_change : Body
plane_change = Body.DataPlaneStateChange (record { active = true; connection = 90; notification = 4; time = 100; version = 3; consistent = true })

abbrev range : NumberRange
range = record { connection = 90; end = None; start = None }

abbrev bodies : List Body
bodies =
    Body.Reserve request ∷ Body.ReserveResponse 90 ∷ reserve_confirmed ∷ Body.ReserveFailed 90 lack ∷ Body.ReserveCommit 90 ∷ Body.ReserveCommitConfirmed 90 ∷ Body.ReserveCommitFailed 90 exception ∷
    Body.ReserveAbort 90 ∷ Body.ReserveAbortConfirmed 90 ∷ Body.Provision 90 ∷ Body.ProvisionConfirmed 90 ∷ Body.Release 90 ∷ Body.ReleaseConfirmed 90 ∷ Body.Terminate 90 ∷
    Body.TerminateConfirmed 90 ∷ Body.Error (Some 90) exception ∷ reserve_timeout ∷ error_event ∷ plane_change ∷
    Body.MessageDeliveryTimeout (record { connection = 90; delivery = 5; notification = 3; time = 120 }) ∷ Body.QuerySummary (Some 90) ∷
    Body.QuerySummaryConfirmed false [] ∷ Body.QueryNotification range ∷ Body.QueryNotificationConfirmed 90 false [] ∷ Body.QueryResult range ∷
    Body.QueryResultConfirmed 90 false [] ∷ Body.QueryRecursive 90 ∷ Body.QueryRecursiveConfirmed 90 false [] ∷ []

---- Which kinds a view takes under a correlation, and as what; every other kind is ignored

abbrev taken_if : Taken → Kind → List (Kind × Taken) → List (Kind × Taken)
taken_if Taken.Ignored k rest = rest
taken_if t k rest = (k, t) ∷ rest

abbrev takes_among : ℕ → ChildConnection → List Body → List (Kind × Taken)
takes_among c x [] = []
takes_among c x (b ∷ bs) = taken_if (hears b c x).taken (kind_of b) (takes_among c x bs)

abbrev takes : ℕ → ChildConnection → List (Kind × Taken)
takes c x = takes_among c x bodies

-- what tells of the connection itself is taken under any correlation, once the id is known
abbrev notices : List (Kind × Taken)
notices = (Kind.ErrorEvent, Taken.Ended) ∷ (Kind.DataPlaneStateChange, Taken.Plane) ∷ []

record IsTable : Type 0 where
  every_kind : map kind_of bodies ≡ kinds
  blank_takes_nothing : takes 5 blank ≡ []
  known_takes_notices : takes 5 known ≡ notices
  reserving_takes_its_answers :
      takes 5 reserving ≡
      (Kind.ReserveResponse, Taken.Learnt) ∷ (Kind.ReserveConfirmed, Taken.Answered Kind.Reserve) ∷ (Kind.ReserveFailed, Taken.Answered Kind.Reserve) ∷
      (Kind.Error, Taken.Answered Kind.Reserve) ∷ (Kind.ReserveTimeout, Taken.TimedOut) ∷ []
  reserving_takes_no_other : takes 6 reserving ≡ []
  known_id_isnt_learnt :
      takes 8 reserving_again ≡
      (Kind.ReserveConfirmed, Taken.Answered Kind.Reserve) ∷ (Kind.ReserveFailed, Taken.Answered Kind.Reserve) ∷ (Kind.Error, Taken.Answered Kind.Reserve) ∷
      (Kind.ReserveTimeout, Taken.TimedOut) ∷ notices
  earlier_hold_is_forgotten : takes 5 reserving_again ≡ notices
  held_takes_the_end_of_its_hold : takes 5 held ≡ (Kind.ReserveTimeout, Taken.TimedOut) ∷ notices
  held_takes_no_other : takes 6 held ≡ notices
  failed_takes_notices : takes 5 failed ≡ notices
  timed_out_takes_notices : takes 5 timed_out ≡ notices
  committing_takes_its_answers :
      takes 6 committing ≡
      (Kind.ReserveCommitConfirmed, Taken.Answered Kind.ReserveCommit) ∷ (Kind.ReserveCommitFailed, Taken.Answered Kind.ReserveCommit) ∷
      (Kind.Error, Taken.Answered Kind.ReserveCommit) ∷ notices
  committing_loses_the_end_of_its_hold : takes 5 committing ≡ notices
  aborting_takes_its_answers : takes 7 aborting ≡ (Kind.ReserveAbortConfirmed, Taken.Answered Kind.ReserveAbort) ∷ (Kind.Error, Taken.Answered Kind.ReserveAbort) ∷ notices
  aborting_takes_no_other : takes 5 aborting ≡ notices
  provisioning_takes_its_answers : takes 10 provisioning ≡ (Kind.ProvisionConfirmed, Taken.Answered Kind.Provision) ∷ (Kind.Error, Taken.Answered Kind.Provision) ∷ notices
  provisioning_takes_no_other : takes 11 provisioning ≡ notices
  releasing_takes_its_answers : takes 11 releasing ≡ (Kind.ReleaseConfirmed, Taken.Answered Kind.Release) ∷ (Kind.Error, Taken.Answered Kind.Release) ∷ notices
  releasing_takes_no_other : takes 10 releasing ≡ notices
  terminating_takes_its_answers : takes 12 terminating ≡ (Kind.TerminateConfirmed, Taken.Answered Kind.Terminate) ∷ (Kind.Error, Taken.Answered Kind.Terminate) ∷ notices
  terminating_takes_no_other : takes 5 terminating ≡ notices
  another_connection_is_ignored : takes 5 (record known { connection = Some 91 }) ≡ []
  earlier_notice_is_ignored : takes 5 (record known { plane_notice = 4 }) ≡ (Kind.ErrorEvent, Taken.Ended) ∷ []
  later_notice_is_taken : takes 5 (record known { plane_notice = 3 }) ≡ notices

table : IsTable
unfolding hears is_kind
table =
    record {
      every_kind = refl;
      blank_takes_nothing = refl;
      known_takes_notices = refl;
      reserving_takes_its_answers = refl;
      reserving_takes_no_other = refl;
      known_id_isnt_learnt = refl;
      earlier_hold_is_forgotten = refl;
      held_takes_the_end_of_its_hold = refl;
      held_takes_no_other = refl;
      failed_takes_notices = refl;
      timed_out_takes_notices = refl;
      committing_takes_its_answers = refl;
      committing_loses_the_end_of_its_hold = refl;
      aborting_takes_its_answers = refl;
      aborting_takes_no_other = refl;
      provisioning_takes_its_answers = refl;
      provisioning_takes_no_other = refl;
      releasing_takes_its_answers = refl;
      releasing_takes_no_other = refl;
      terminating_takes_its_answers = refl;
      terminating_takes_no_other = refl;
      another_connection_is_ignored = refl;
      earlier_notice_is_ignored = refl;
      later_notice_is_taken = refl;
    }

---- What a message leaves of a view

abbrev left : Body → ℕ → ChildConnection → ChildConnection
left b c x = (hears b c x).view

record IsEffect : Type 0 where
  response_teaches_the_id : left (Body.ReserveResponse 90) 5 reserving ≡ record reserving { connection = Some 90 }
  confirmed_reserve_is_held : left reserve_confirmed 5 reserving ≡ record reserving { connection = Some 90; phase = Phase.Held; pending = Some 3; reserve_request = None }
  failed_reserve : left (Body.ReserveFailed 90 lack) 5 reserving ≡ record reserving { connection = Some 90; phase = Phase.Failed; error = Some ErrorName.Bandwidth; reserve_request = None }
  hold_ends_before_it_is_heard_of : left reserve_timeout 5 reserving ≡ record reserving { connection = Some 90; phase = Phase.TimedOut; error = Some ErrorName.Timeout; reserve_request = None }
  hold_ends : left reserve_timeout 5 held ≡ record held { phase = Phase.TimedOut; error = Some ErrorName.Timeout; pending = None }
  commit_adds_its_version : left (Body.ReserveCommitConfirmed 90) 6 committing ≡ record known { before = Phase.Held; committed = 2 ∷ 3 ∷ []; room = 2 }
  failed_commit : left (Body.ReserveCommitFailed 90 exception) 6 committing ≡ record known { before = Phase.Held; error = Some ErrorName.Passed; room = 2 }
  abort_clears : left (Body.ReserveAbortConfirmed 90) 7 aborting ≡ record known { before = Phase.Failed }
  refused_reserve : left (Body.Error None exception) 5 reserving ≡ record blank { error = Some ErrorName.Passed }
  refused_while_held : left (Body.Error (Some 90) exception) 8 reserving_again ≡ record held { before = Phase.Held; attempt = Some 8; error = Some ErrorName.Passed }
  refused_commit : left (Body.Error (Some 90) exception) 6 committing ≡ record held { before = Phase.Held; error = Some ErrorName.Passed; room = 2 }
  refused_abort : left (Body.Error (Some 90) exception) 7 aborting ≡ record failed { before = Phase.Failed; attempt = None }
  provisioned : left (Body.ProvisionConfirmed 90) 10 provisioning ≡ known
  released : left (Body.ReleaseConfirmed 90) 11 releasing ≡ known
  refused_provision : left (Body.Error (Some 90) exception) 10 provisioning ≡ record known { provision_error = Some ErrorName.Passed }
  terminated : left (Body.TerminateConfirmed 90) 12 terminating ≡ record known { gone = true }
  refused_terminate : left (Body.Error (Some 90) exception) 12 terminating ≡ record known { error = Some ErrorName.Passed }
  ended : left error_event 5 held ≡ held
  plane_is_told : left plane_change 5 held ≡ record held { plane = record { active = true; version = 3; consistent = true }; plane_notice = 4 }

effect : IsEffect
unfolding hears is_kind
effect =
    record {
      response_teaches_the_id = refl;
      confirmed_reserve_is_held = refl;
      failed_reserve = refl;
      hold_ends_before_it_is_heard_of = refl;
      hold_ends = refl;
      commit_adds_its_version = refl;
      failed_commit = refl;
      abort_clears = refl;
      refused_reserve = refl;
      refused_while_held = refl;
      refused_commit = refl;
      refused_abort = refl;
      provisioned = refl;
      released = refl;
      refused_provision = refl;
      terminated = refl;
      refused_terminate = refl;
      ended = refl;
      plane_is_told = refl;
    }

---- Asking

abbrev service : Service
service =
    record {
      source = codes "S";
      dest = codes "D";
      directionality = Directionality.Unidirectional;
      symmetric = Some true;
      global = Some (codes "g");
      description = Some (codes "d");
    }

abbrev from_p1 : Body → Message
from_p1 body = record { header = record { correlation = 5; requester = codes "r1"; provider = codes "p1" }; body = body }

abbrev from_p2 : Body → Message
from_p2 body = record { header = record { correlation = 5; requester = codes "r1"; provider = codes "p2" }; body = body }

record IsAsking : Type 0 where
  reserve_is_asked : asks Kind.Reserve 5 (record blank { error = Some ErrorName.Passed }) ≡ reserving
  reserve_is_asked_again : asks Kind.Reserve 8 held ≡ reserving_again
  commit_is_asked : asks Kind.ReserveCommit 6 held ≡ committing
  abort_is_asked : asks Kind.ReserveAbort 7 failed ≡ aborting
  provision_is_asked : asks Kind.Provision 10 (record known { provision_error = Some ErrorName.Gone }) ≡ provisioning
  release_is_asked : asks Kind.Release 11 (record known { provision_error = Some ErrorName.Gone }) ≡ releasing
  terminate_is_asked : asks Kind.Terminate 12 known ≡ terminating
  first_reserve_has_both_points :
      reserve_for (Some service) (Some 4) 100 200 600 blank ≡
      record request { description = Some (codes "d"); directionality = Some Directionality.Unidirectional; global = Some (codes "g"); symmetric = Some true; version = Some 4 }
  modification_has_none : reserve_for None None 100 200 600 held ≡ record request { connection = Some 90; source = None; dest = None }
  commit_names_the_connection : to_child (codes "r1") 5 held (request_about Kind.ReserveCommit 90) ≡ from_p1 (Body.ReserveCommit 90)
  id_comes_first : ask_refusal Kind.ReserveCommit reserving ≡ Some AskFault.NoId
  unknown_id : ask_refusal Kind.Terminate blank ≡ Some AskFault.NoId
  unanswered_commit : ask_refusal Kind.ReserveAbort committing ≡ Some (AskFault.Outstanding 6)
  unanswered_release : ask_refusal Kind.Provision releasing ≡ Some (AskFault.Outstanding 11)
  unanswered_terminate : ask_refusal Kind.Terminate terminating ≡ Some (AskFault.Outstanding 12)
  other_machines_are_free : ask_refusal Kind.Terminate committing ≡ None
  nothing_unanswered : ask_refusal Kind.ReserveCommit held ≡ None
  unanswered_reserve : reserve_refusal reserving ≡ Some (AskFault.Outstanding 5)
  reserve_is_free : reserve_refusal held ≡ None
  child_is_heard : hear (from_p1 (Body.ReserveResponse 90)) reserving ≡ record { view = record reserving { connection = Some 90 }; taken = Taken.Learnt }
  stranger_is_ignored : hear (from_p2 (Body.ReserveResponse 90)) reserving ≡ record { view = reserving; taken = Taken.Ignored }

asking : IsAsking
unfolding hears is_kind asks request_about reserve_for ask_refusal reserve_refusal open_request
asking =
    record {
      reserve_is_asked = refl;
      reserve_is_asked_again = refl;
      commit_is_asked = refl;
      abort_is_asked = refl;
      provision_is_asked = refl;
      release_is_asked = refl;
      terminate_is_asked = refl;
      first_reserve_has_both_points = refl;
      modification_has_none = refl;
      commit_names_the_connection = refl;
      id_comes_first = refl;
      unknown_id = refl;
      unanswered_commit = refl;
      unanswered_release = refl;
      unanswered_terminate = refl;
      other_machines_are_free = refl;
      nothing_unanswered = refl;
      unanswered_reserve = refl;
      reserve_is_free = refl;
      child_is_heard = refl;
      stranger_is_ignored = refl;
    }
