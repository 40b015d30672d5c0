-- What an aggregator says, computed: an entry after another, over two or three providers and another aggregator.
use Rattle.std.proofs.Common.{◌≡◌, ℕ, Bool, true, false, List, [], ◌∷◌, ◌++◌, map, Option, Some, None, refl, if◌then◌else◌}
use Rattle.std.specs.Prelude.{bytes_eq, codes}
use Rattle.nsi_base.specs.declared.flow.Flow.{Flow}
use Rattle.nsi_primitive.specs.Ids.{id_of}
use Rattle.nsi_primitive.specs.Kinds.{kind_number}
use Rattle.nsi_primitive.specs.Messages.{connection_of, identity}
use Rattle.nsi_primitive.specs.declared.kind.Directionality.{Directionality}
use Rattle.nsi_primitive.specs.declared.kind.ErrorName.{ErrorName}
use Rattle.nsi_primitive.specs.declared.kind.FaultEvent.{FaultEvent}
use Rattle.nsi_primitive.specs.declared.message.Body.{Body}
use Rattle.nsi_primitive.specs.declared.message.Cause.{Cause}
use Rattle.nsi_primitive.specs.declared.message.Message.{Message}
use Rattle.nsi_primitive.specs.declared.message.RecursiveRow.{RecursiveRow}
use Rattle.nsi_primitive.specs.declared.state.Lsm.{Lsm}
use Rattle.nsi_primitive.specs.declared.state.Psm.{Psm}
use Rattle.nsi_primitive.specs.declared.state.Rsm.{Rsm}
use Rattle.nsi_primitive.specs.declared.entry.Input.{Input}
use Rattle.nsi_primitive.specs.declared.entry.Entry.{Entry}
use Rattle.reserve_machine.specs.Table.{step as row_of}
use Rattle.provision_machine.specs.Table.{step as provision_row_of}
use Rattle.lifecycle_machine.specs.Table.{step as lifecycle_row_of}
use Rattle.dataplane_state.specs.Plane.{announces, joined}
use Rattle.message_retry.specs.Taken.{is_taken, with_taken}
use Rattle.message_retry.specs.Retry.{is_heard, with_heard, is_old, saw, without}
use Rattle.connection_record.specs.Lives.{provision_event, lifecycle_event, provisions, lives}
use Rattle.connection_record.specs.Moves.{event_of, reserves, is_live}
use Rattle.connection_record.specs.Refusal.{has_row, is_in_place, unnamed_refusal, modification_refusal, refusal}
use Rattle.connection_record.specs.Applied.{moves, closes, reservation_closing, provision_closing, requested, is_terminating, tells_plane}
use Rattle.child_connection.specs.declared.state.Phase.{Phase}
use Rattle.child_connection.specs.Views.{is_kind, open_request}
use Rattle.child_connection.specs.Asks.{asks, request_about, reserve_for}
use Rattle.child_connection.specs.Hearing.{hears as child_hears}
use Rattle.agent_state.specs.declared.parent.Leg.{Leg}
use Rattle.agent_state.specs.State.{AgentState, blank_agent, children_at}
use Rattle.aggregator_agent.specs.Setting.{Setting}
use Rattle.aggregator_agent.specs.Asking.{next_after, asked_view, next_behind, each, request_if, may_abort, reserve_if, passed_on, views_of, with_path}
use Rattle.aggregator_agent.specs.Settling.{is_held, checked, reservation_verdict, reservation_due, provision_verdict, provision_due, settles_reservation, settles_provision, closes_unless, settles, settle}
use Rattle.aggregator_agent.specs.Turns.{tell_joined, pass_on, takes, turn_by_request, request_turn, is_timed_out, is_ended, hold_end_by, force_by, hold_ends, force_ends, heard_by, turn_by_answer, answer_turn, spoken}
use Rattle.aggregator_agent.specs.Clock.{due_for, is_late, tells_late, tell_one, tell_all, ends, clocked, clock_then, clock_all}
use Rattle.nsi_query.specs.Nested.{own_row}
use Rattle.aggregator_agent.specs.Below.{seek, part_of, tells_first}
use Rattle.aggregator_agent.specs.Steps.{request_at, answers, pass_then, hear_all, hears, asks_below, receives, ticks, step, after}

---- The aggregator, its children and its requester

abbrev stp_of : List ℕ → Option ℕ
stp_of name =
    if bytes_eq name (codes "A") then Some 0 else if bytes_eq name (codes "D") then Some 3 else if bytes_eq name (codes "F") then Some 5 else None

abbrev over : List Leg → Setting
over legs = record { agent = record { name = codes "a1"; number = 3 }; stp_of = stp_of; route = λ source dest. legs }

abbrev leg_1 : Leg
leg_1 = record { child = codes "p1"; source = codes "A"; dest = codes "B" }

abbrev leg_2 : Leg
leg_2 = record { child = codes "p2"; source = codes "C"; dest = codes "D" }

abbrev leg_3 : Leg
leg_3 = record { child = codes "p3"; source = codes "E"; dest = codes "F" }

abbrev two : Setting
two = over (leg_1 ∷ leg_2 ∷ [])

abbrev three : Setting
three = over (leg_1 ∷ leg_2 ∷ leg_3 ∷ [])

-- what the last of the entries causes, and the state then
unfoldable said : Setting → AgentState → List Message → List Entry → List Message
said setting s out [] = out
said setting s out (e ∷ es) = said setting (after setting s e).state (after setting s e).out es

unfoldable stands : Setting → AgentState → List Entry → AgentState
stands setting s [] = s
stands setting s (e ∷ es) = stands setting (after setting s e).state es

abbrev says : Setting → List Entry → List Message
says setting es = said setting blank_agent [] es

---- Messages

abbrev got : ℕ → Message → Entry
got second m = record { second = second; input = Input.Got m }

abbrev tick : ℕ → Entry
tick second = record { second = second; input = Input.Tick }

abbrev between : (requester provider : List ℕ) → ℕ → Body → Message
between requester provider c body = record { header = record { correlation = c; requester = requester; provider = provider }; body = body }

-- under the requester's n-th id
abbrev r : ℕ → Body → Message
r n body = between (codes "r1") (codes "a1") (id_of 4 n) body

-- under the aggregator's n-th id, to its requester, and between it and a child
abbrev a : ℕ → Body → Message
a n body = between (codes "r1") (codes "a1") (id_of 3 n) body

abbrev with_1 : ℕ → Body → Message
with_1 n body = between (codes "a1") (codes "p1") (id_of 3 n) body

abbrev with_2 : ℕ → Body → Message
with_2 n body = between (codes "a1") (codes "p2") (id_of 3 n) body

abbrev with_3 : ℕ → Body → Message
with_3 n body = between (codes "a1") (codes "p3") (id_of 3 n) body

abbrev reserve : (connection : Option ℕ) → (source dest : Option (List ℕ)) → (version : Option ℕ) → Body
reserve connection source dest version =
    Body.Reserve (record {
      capacity = 100;
      connection = connection;
      description = None;
      dest = dest;
      directionality = None;
      end = 20;
      global = None;
      source = source;
      start = Some 10;
      symmetric = None;
      version = version;
    })

-- the first connection of an agent
abbrev own : ℕ
own = id_of 3 1

abbrev of_1 : ℕ
of_1 = id_of 0 1

abbrev of_2 : ℕ
of_2 = id_of 1 1

abbrev of_3 : ℕ
of_3 = id_of 2 1

abbrev first : List ℕ → Body
first dest = reserve None (Some (codes "A")) (Some dest) None

abbrev asked : (source dest : List ℕ) → Body
asked source dest = reserve None (Some source) (Some dest) (Some 0)

abbrev confirmed : (id version : ℕ) → (source dest : List ℕ) → Body
confirmed id version source dest =
    Body.ReserveConfirmed (record {
      capacity = 100;
      connection = id;
      description = None;
      dest = dest;
      directionality = Directionality.Bidirectional;
      end = 20;
      global = None;
      source = source;
      start = 10;
      symmetric = None;
      version = version;
    })

abbrev bandwidth : Cause
bandwidth = Cause.Bandwidth (codes "D") Flow.Both 10 0 50

abbrev plain : ErrorName → Cause
plain error = Cause.Plain error

abbrev failed : (id : ℕ) → (agent : List ℕ) → Cause → Body
failed id agent cause = Body.ReserveFailed id (record { nsa = agent; cause = cause })

abbrev commit_failed : (id : ℕ) → (agent : List ℕ) → Cause → Body
commit_failed id agent cause = Body.ReserveCommitFailed id (record { nsa = agent; cause = cause })

abbrev refused : (id : ℕ) → (agent : List ℕ) → Cause → Body
refused id agent cause = Body.Error (Some id) (record { nsa = agent; cause = cause })

abbrev timeout : (id notification : ℕ) → (origin : ℕ) → (agent : List ℕ) → (second : ℕ) → Body
timeout id notification origin agent second =
    Body.ReserveTimeout (record { connection = id; notification = notification; originating_connection = origin; originating_nsa = agent; time = second; value = 60 })

abbrev ended : (id notification : ℕ) → (origin : ℕ) → (agent : List ℕ) → (second : ℕ) → Body
ended id notification origin agent second =
    Body.ErrorEvent (record { connection = id; event = FaultEvent.ForcedEnd; notification = notification; originating_connection = origin; originating_nsa = agent; time = second })

abbrev plane : (id notification second : ℕ) → Bool → Body
plane id notification second active =
    Body.DataPlaneStateChange (record { active = active; connection = id; notification = notification; time = second; version = 0; consistent = true })

abbrev late : (delivery notification second : ℕ) → Body
late delivery notification second =
    Body.MessageDeliveryTimeout (record { connection = own; delivery = id_of 3 delivery; notification = notification; time = second })

---- Runs: the record has the first id, the two reserves the second and the third

abbrev reserved : List Entry
reserved = got 0 (r 1 (first (codes "D"))) ∷ []

abbrev holds_1 : Entry
holds_1 = got 0 (with_1 2 (confirmed of_1 0 (codes "A") (codes "B")))

abbrev holds_2 : Entry
holds_2 = got 0 (with_2 3 (confirmed of_2 0 (codes "C") (codes "D")))

abbrev held : List Entry
held = reserved ++ holds_1 ∷ holds_2 ∷ []

abbrev committing : List Entry
committing = held ++ got 0 (r 2 (Body.ReserveCommit own)) ∷ []

abbrev committed : List Entry
committed = committing ++ got 0 (with_1 4 (Body.ReserveCommitConfirmed of_1)) ∷ got 0 (with_2 5 (Body.ReserveCommitConfirmed of_2)) ∷ []

-- the second child refused the commit that the first carried out
abbrev mixed : List Entry
mixed =
    committing ++
    got 0 (with_1 4 (Body.ReserveCommitConfirmed of_1)) ∷ got 0 (with_2 5 (refused of_2 (codes "p2") (plain ErrorName.InvalidTransition))) ∷ []

abbrev provisioned : List Entry
provisioned =
    committed ++
    got 0 (r 3 (Body.Provision own)) ∷ got 0 (with_1 6 (Body.ProvisionConfirmed of_1)) ∷ got 0 (with_2 7 (Body.ProvisionConfirmed of_2)) ∷ []

-- over three children, of which the second lacks bandwidth
abbrev lacking : List Entry
lacking =
    got 0 (r 1 (first (codes "F"))) ∷ got 0 (with_1 2 (confirmed of_1 0 (codes "A") (codes "B")))
    ∷ got 0 (with_2 3 (failed of_2 (codes "p2") bandwidth)) ∷ got 0 (with_3 4 (confirmed of_3 0 (codes "E") (codes "F"))) ∷ []

-- a terminate before any child's id is learnt
abbrev ending : List Entry
ending = reserved ++ got 0 (r 2 (Body.Terminate own)) ∷ []

pub record AreReserved : Type 0 where
  each_child_is_asked : says three (got 0 (r 1 (first (codes "F"))) ∷ []) ≡ r 1 (Body.ReserveResponse own) ∷ with_1 2 (asked (codes "A") (codes "B")) ∷ with_2 3 (asked (codes "C") (codes "D")) ∷ with_3 4 (asked (codes "E") (codes "F")) ∷ []
  nothing_is_said_before_all_have_answered : says two (reserved ++ holds_1 ∷ []) ≡ []
  all_that_hold_are_a_hold : says two held ≡ r 1 (confirmed own 0 (codes "A") (codes "D")) ∷ []
  in_whatever_order_they_answer : says two (reserved ++ holds_2 ∷ holds_1 ∷ []) ≡ r 1 (confirmed own 0 (codes "A") (codes "D")) ∷ []
  a_child_that_fails_is_named : says three lacking ≡ r 1 (failed own (codes "a1") (Cause.Child (codes "p2") ErrorName.Bandwidth)) ∷ []
  an_abort_goes_to_all : says three (lacking ++ got 0 (r 2 (Body.ReserveAbort own)) ∷ []) ≡ with_1 5 (Body.ReserveAbort of_1) ∷ with_2 6 (Body.ReserveAbort of_2) ∷ with_3 7 (Body.ReserveAbort of_3) ∷ []
  and_is_confirmed_by_all : says three (lacking ++ got 0 (r 2 (Body.ReserveAbort own)) ∷ got 0 (with_1 5 (Body.ReserveAbortConfirmed of_1)) ∷ got 0 (with_2 6 (Body.ReserveAbortConfirmed of_2)) ∷ got 0 (with_3 7 (Body.ReserveAbortConfirmed of_3)) ∷ []) ≡ r 2 (Body.ReserveAbortConfirmed own) ∷ []
  without_a_path_it_fails_at_once : says (over []) reserved ≡ r 1 (Body.ReserveResponse own) ∷ r 1 (failed own (codes "a1") (plain ErrorName.NoPath)) ∷ []
  an_abort_is_confirmed_at_once_then : says (over []) (reserved ++ got 0 (r 2 (Body.ReserveAbort own)) ∷ []) ≡ r 2 (Body.ReserveAbortConfirmed own) ∷ []
  a_point_that_is_in_no_topology : says two (got 0 (r 1 (first (codes "Z"))) ∷ []) ≡ r 1 (Body.Error None (record { nsa = codes "a1"; cause = plain ErrorName.UnknownStp })) ∷ []
  two_requesters_may_have_one_correlation : says two (reserved ++ got 0 (between (codes "r2") (codes "a1") (id_of 4 1) (first (codes "D"))) ∷ []) ≡ between (codes "r2") (codes "a1") (id_of 4 1) (Body.ReserveResponse (id_of 3 4)) ∷ with_1 5 (asked (codes "A") (codes "B")) ∷ with_2 6 (asked (codes "C") (codes "D")) ∷ []
  an_entry_at_another_second_is_not_taken : says two (got 1 (r 1 (first (codes "D"))) ∷ []) ≡ []
  what_is_said_waits_for_its_acknowledgement : map (λ m. m.header.correlation) (stands two blank_agent reserved).base.waiting ≡ id_of 4 1 ∷ id_of 3 2 ∷ id_of 3 3 ∷ []
  a_request_is_taken_once : says two (reserved ++ reserved) ≡ []

are_reserved : AreReserved
unfolding said after step receives saw is_old is_heard with_heard is_taken with_taken answers refusal unnamed_refusal modification_refusal has_row is_in_place connection_of row_of provision_row_of lifecycle_row_of request_at request_turn turn_by_request takes pass_on passed_on request_if may_abort reserve_if each asked_view next_behind with_path views_of asks request_about reserve_for open_request is_kind hears hear_all pass_then answer_turn turn_by_answer heard_by is_timed_out is_ended hold_ends hold_end_by force_ends force_by child_hears settle settles settles_reservation settles_provision closes_unless is_held checked reservation_verdict reservation_due provision_verdict provision_due moves requested reserves provisions lives closes reservation_closing provision_closing event_of provision_event lifecycle_event is_live is_terminating tell_joined next_after tells_plane announces joined spoken kind_number due_for is_late tells_late tell_one tell_all ends clocked clock_then clock_all ticks without stands part_of tells_first
are_reserved = record {
  each_child_is_asked = refl;
  nothing_is_said_before_all_have_answered = refl;
  all_that_hold_are_a_hold = refl;
  in_whatever_order_they_answer = refl;
  a_child_that_fails_is_named = refl;
  an_abort_goes_to_all = refl;
  and_is_confirmed_by_all = refl;
  without_a_path_it_fails_at_once = refl;
  an_abort_is_confirmed_at_once_then = refl;
  a_point_that_is_in_no_topology = refl;
  two_requesters_may_have_one_correlation = refl;
  an_entry_at_another_second_is_not_taken = refl;
  what_is_said_waits_for_its_acknowledgement = refl;
  a_request_is_taken_once = refl;
}

pub record AreModified : Type 0 where
  a_modification_names_the_childs_connection : says two (committed ++ got 0 (r 3 (reserve (Some own) None None None)) ∷ []) ≡ r 3 (Body.ReserveResponse own) ∷ with_1 6 (reserve (Some of_1) None None (Some 1)) ∷ with_2 7 (reserve (Some of_2) None None (Some 1)) ∷ []
  a_commit_goes_to_all : says two committing ≡ with_1 4 (Body.ReserveCommit of_1) ∷ with_2 5 (Body.ReserveCommit of_2) ∷ []
  and_is_confirmed_by_all : says two committed ≡ r 2 (Body.ReserveCommitConfirmed own) ∷ []
  a_commit_that_one_refuses_is_mixed : says two mixed ≡ r 2 (commit_failed own (codes "a1") (Cause.Child (codes "p2") ErrorName.InvalidTransition)) ∷ []
  what_is_mixed_is_not_modified : says two (mixed ++ got 0 (r 3 (reserve (Some own) None None None)) ∷ []) ≡ r 3 (refused own (codes "a1") (plain ErrorName.InvalidTransition)) ∷ []
  it_is_terminated : says two (mixed ++ got 0 (r 3 (Body.Terminate own)) ∷ []) ≡ with_1 6 (Body.Terminate of_1) ∷ with_2 7 (Body.Terminate of_2) ∷ []
  and_that_is_confirmed : says two (mixed ++ got 0 (r 3 (Body.Terminate own)) ∷ got 0 (with_1 6 (Body.TerminateConfirmed of_1)) ∷ got 0 (with_2 7 (Body.TerminateConfirmed of_2)) ∷ []) ≡ r 3 (Body.TerminateConfirmed own) ∷ []
  a_failed_commit_is_mixed_too : says two (committing ++ got 0 (with_1 4 (commit_failed of_1 (codes "p1") (plain ErrorName.Gone))) ∷ got 0 (with_2 5 (Body.ReserveCommitConfirmed of_2)) ∷ []) ≡ r 2 (commit_failed own (codes "a1") (Cause.Child (codes "p1") ErrorName.Gone)) ∷ []

are_modified : AreModified
unfolding said after step receives saw is_old is_heard with_heard is_taken with_taken answers refusal unnamed_refusal modification_refusal has_row is_in_place connection_of row_of provision_row_of lifecycle_row_of request_at request_turn turn_by_request takes pass_on passed_on request_if may_abort reserve_if each asked_view next_behind with_path views_of asks request_about reserve_for open_request is_kind hears hear_all pass_then answer_turn turn_by_answer heard_by is_timed_out is_ended hold_ends hold_end_by force_ends force_by child_hears settle settles settles_reservation settles_provision closes_unless is_held checked reservation_verdict reservation_due provision_verdict provision_due moves requested reserves provisions lives closes reservation_closing provision_closing event_of provision_event lifecycle_event is_live is_terminating tell_joined next_after tells_plane announces joined spoken kind_number due_for is_late tells_late tell_one tell_all ends clocked clock_then clock_all ticks without stands part_of tells_first
are_modified = record {
  a_modification_names_the_childs_connection = refl;
  a_commit_goes_to_all = refl;
  and_is_confirmed_by_all = refl;
  a_commit_that_one_refuses_is_mixed = refl;
  what_is_mixed_is_not_modified = refl;
  it_is_terminated = refl;
  and_that_is_confirmed = refl;
  a_failed_commit_is_mixed_too = refl;
}

pub record AreViewed : Type 0 where
  a_confirmation_before_the_response_teaches_the_id : map (λ x. x.connection) (children_at 0 (stands two blank_agent (reserved ++ holds_1 ∷ [])).children) ≡ Some of_1 ∷ None ∷ []
  and_is_a_hold : map (λ x. x.phase) (children_at 0 (stands two blank_agent (reserved ++ holds_1 ∷ [])).children) ≡ Phase.Held ∷ Phase.Reserving ∷ []
  the_response_then_says_nothing : says two (reserved ++ holds_1 ∷ got 0 (with_1 2 (Body.ReserveResponse of_1)) ∷ []) ≡ []
  nor_does_it_change_a_view : map (λ x. x.phase) (children_at 0 (stands two blank_agent (reserved ++ holds_1 ∷ got 0 (with_1 2 (Body.ReserveResponse of_1)) ∷ [])).children) ≡ Phase.Held ∷ Phase.Reserving ∷ []
  a_confirmation_that_comes_again_says_nothing : says two (committed ++ got 0 (r 3 (reserve (Some own) None None None)) ∷ got 0 (with_1 6 (confirmed of_1 1 (codes "A") (codes "B"))) ∷ holds_1 ∷ []) ≡ []
  nor_does_it_change_the_version_that_is_held : map (λ x. x.pending) (children_at 0 (stands two blank_agent (committed ++ got 0 (r 3 (reserve (Some own) None None None)) ∷ got 0 (with_1 6 (confirmed of_1 1 (codes "A") (codes "B"))) ∷ holds_1 ∷ [])).children) ≡ Some 1 ∷ None ∷ []
  an_answer_under_another_correlation_changes_nothing : says two (reserved ++ got 0 (with_1 3 (confirmed of_1 0 (codes "A") (codes "B"))) ∷ holds_2 ∷ []) ≡ []

are_viewed : AreViewed
unfolding said after step receives saw is_old is_heard with_heard is_taken with_taken answers refusal unnamed_refusal modification_refusal has_row is_in_place connection_of row_of provision_row_of lifecycle_row_of request_at request_turn turn_by_request takes pass_on passed_on request_if may_abort reserve_if each asked_view next_behind with_path views_of asks request_about reserve_for open_request is_kind hears hear_all pass_then answer_turn turn_by_answer heard_by is_timed_out is_ended hold_ends hold_end_by force_ends force_by child_hears settle settles settles_reservation settles_provision closes_unless is_held checked reservation_verdict reservation_due provision_verdict provision_due moves requested reserves provisions lives closes reservation_closing provision_closing event_of provision_event lifecycle_event is_live is_terminating tell_joined next_after tells_plane announces joined spoken kind_number due_for is_late tells_late tell_one tell_all ends clocked clock_then clock_all ticks without stands part_of tells_first
are_viewed = record {
  a_confirmation_before_the_response_teaches_the_id = refl;
  and_is_a_hold = refl;
  the_response_then_says_nothing = refl;
  nor_does_it_change_a_view = refl;
  a_confirmation_that_comes_again_says_nothing = refl;
  nor_does_it_change_the_version_that_is_held = refl;
  an_answer_under_another_correlation_changes_nothing = refl;
}

pub record AreRefused : Type 0 where
  a_reserve_that_a_child_refuses_fails : says two (reserved ++ holds_1 ∷ got 0 (with_2 3 (refused of_2 (codes "p2") (plain ErrorName.Schedule))) ∷ []) ≡ r 1 (failed own (codes "a1") (Cause.Child (codes "p2") ErrorName.Schedule)) ∷ []
  an_abort_leaves_that_child_out : says two (reserved ++ holds_1 ∷ got 0 (with_2 3 (Body.Error None (record { nsa = codes "p2"; cause = plain ErrorName.Schedule }))) ∷ got 0 (r 2 (Body.ReserveAbort own)) ∷ []) ≡ with_1 4 (Body.ReserveAbort of_1) ∷ []
  an_abort_that_a_child_refuses_is_confirmed : says two (held ++ got 0 (r 2 (Body.ReserveAbort own)) ∷ got 0 (with_1 4 (refused of_1 (codes "p1") (plain ErrorName.InvalidTransition))) ∷ got 0 (with_2 5 (Body.ReserveAbortConfirmed of_2)) ∷ []) ≡ r 2 (Body.ReserveAbortConfirmed own) ∷ []
  a_provision_that_a_child_refuses_is_refused : says two (committed ++ got 0 (r 3 (Body.Provision own)) ∷ got 0 (with_1 6 (Body.ProvisionConfirmed of_1)) ∷ got 0 (with_2 7 (refused of_2 (codes "p2") (plain ErrorName.InvalidTransition))) ∷ []) ≡ r 3 (refused own (codes "a1") (Cause.Child (codes "p2") ErrorName.InvalidTransition)) ∷ []
  so_is_a_release : says two (provisioned ++ got 0 (r 4 (Body.Release own)) ∷ got 0 (with_1 8 (refused of_1 (codes "p1") (plain ErrorName.Gone))) ∷ got 0 (with_2 9 (Body.ReleaseConfirmed of_2)) ∷ []) ≡ r 4 (refused own (codes "a1") (Cause.Child (codes "p1") ErrorName.Gone)) ∷ []
  a_terminate_that_a_child_refuses_waits : says two (committed ++ got 0 (r 3 (Body.Terminate own)) ∷ got 0 (with_1 6 (refused of_1 (codes "p1") (plain ErrorName.Nonexistent))) ∷ got 0 (with_2 7 (Body.TerminateConfirmed of_2)) ∷ []) ≡ []
  an_abort_while_children_are_asked_is_refused : says two (reserved ++ got 0 (r 2 (Body.ReserveAbort own)) ∷ []) ≡ r 2 (refused own (codes "a1") (plain ErrorName.InvalidTransition)) ∷ []
  so_is_a_commit_before_all_hold : says two (reserved ++ holds_1 ∷ got 0 (r 2 (Body.ReserveCommit own)) ∷ []) ≡ r 2 (refused own (codes "a1") (plain ErrorName.InvalidTransition)) ∷ []
  a_terminate_of_another_requester_finds_nothing : says two (reserved ++ got 0 (between (codes "r2") (codes "a1") (id_of 5 1) (Body.Terminate own)) ∷ []) ≡ between (codes "r2") (codes "a1") (id_of 5 1) (refused own (codes "a1") (plain ErrorName.Nonexistent)) ∷ []

are_refused : AreRefused
unfolding said after step receives saw is_old is_heard with_heard is_taken with_taken answers refusal unnamed_refusal modification_refusal has_row is_in_place connection_of row_of provision_row_of lifecycle_row_of request_at request_turn turn_by_request takes pass_on passed_on request_if may_abort reserve_if each asked_view next_behind with_path views_of asks request_about reserve_for open_request is_kind hears hear_all pass_then answer_turn turn_by_answer heard_by is_timed_out is_ended hold_ends hold_end_by force_ends force_by child_hears settle settles settles_reservation settles_provision closes_unless is_held checked reservation_verdict reservation_due provision_verdict provision_due moves requested reserves provisions lives closes reservation_closing provision_closing event_of provision_event lifecycle_event is_live is_terminating tell_joined next_after tells_plane announces joined spoken kind_number due_for is_late tells_late tell_one tell_all ends clocked clock_then clock_all ticks without stands part_of tells_first
are_refused = record {
  a_reserve_that_a_child_refuses_fails = refl;
  an_abort_leaves_that_child_out = refl;
  an_abort_that_a_child_refuses_is_confirmed = refl;
  a_provision_that_a_child_refuses_is_refused = refl;
  so_is_a_release = refl;
  a_terminate_that_a_child_refuses_waits = refl;
  an_abort_while_children_are_asked_is_refused = refl;
  so_is_a_commit_before_all_hold = refl;
  a_terminate_of_another_requester_finds_nothing = refl;
}

pub record AreNoticed : Type 0 where
  a_hold_that_ends_below_ends_the_own : says two (held ++ tick 5 ∷ got 5 (with_2 3 (timeout of_2 1 of_2 (codes "p2") 4)) ∷ []) ≡ r 1 (timeout own 1 of_2 (codes "p2") 5) ∷ []
  its_origin_is_passed_on_from_below_an_aggregator : says two (held ++ tick 5 ∷ got 5 (with_2 3 (timeout of_2 1 (id_of 9 7) (codes "p9") 4)) ∷ []) ≡ r 1 (timeout own 1 (id_of 9 7) (codes "p9") 5) ∷ []
  a_second_one_says_nothing : says two (held ++ got 0 (with_2 3 (timeout of_2 1 of_2 (codes "p2") 0)) ∷ got 0 (with_1 2 (timeout of_1 1 of_1 (codes "p1") 0)) ∷ []) ≡ []
  while_the_other_is_asked_it_says_nothing : says two (reserved ++ holds_1 ∷ got 0 (with_1 2 (timeout of_1 1 of_1 (codes "p1") 0)) ∷ []) ≡ []
  the_child_is_named_when_the_other_has_answered : says two (reserved ++ holds_1 ∷ got 0 (with_1 2 (timeout of_1 1 of_1 (codes "p1") 0)) ∷ holds_2 ∷ []) ≡ r 1 (failed own (codes "a1") (Cause.Child (codes "p1") ErrorName.Timeout)) ∷ []
  a_forced_end_below_ends_the_own : says two (provisioned ++ tick 5 ∷ got 5 (between (codes "a1") (codes "p1") (id_of 0 2) (ended of_1 1 of_1 (codes "p1") 5)) ∷ []) ≡ a 8 (ended own 1 of_1 (codes "p1") 5) ∷ []
  one_active_child_is_not_told : says two (provisioned ++ tick 10 ∷ got 10 (between (codes "a1") (codes "p1") (id_of 0 2) (plane of_1 1 10 true)) ∷ []) ≡ []
  when_all_are_active_it_is_told : says two (provisioned ++ tick 10 ∷ got 10 (between (codes "a1") (codes "p1") (id_of 0 2) (plane of_1 1 10 true)) ∷ got 10 (between (codes "a1") (codes "p2") (id_of 1 2) (plane of_2 1 10 true)) ∷ []) ≡ a 8 (plane own 1 10 true) ∷ []

are_noticed : AreNoticed
unfolding said after step receives saw is_old is_heard with_heard is_taken with_taken answers refusal unnamed_refusal modification_refusal has_row is_in_place connection_of row_of provision_row_of lifecycle_row_of request_at request_turn turn_by_request takes pass_on passed_on request_if may_abort reserve_if each asked_view next_behind with_path views_of asks request_about reserve_for open_request is_kind hears hear_all pass_then answer_turn turn_by_answer heard_by is_timed_out is_ended hold_ends hold_end_by force_ends force_by child_hears settle settles settles_reservation settles_provision closes_unless is_held checked reservation_verdict reservation_due provision_verdict provision_due moves requested reserves provisions lives closes reservation_closing provision_closing event_of provision_event lifecycle_event is_live is_terminating tell_joined next_after tells_plane announces joined spoken kind_number due_for is_late tells_late tell_one tell_all ends clocked clock_then clock_all ticks without stands part_of tells_first
are_noticed = record {
  a_hold_that_ends_below_ends_the_own = refl;
  its_origin_is_passed_on_from_below_an_aggregator = refl;
  a_second_one_says_nothing = refl;
  while_the_other_is_asked_it_says_nothing = refl;
  the_child_is_named_when_the_other_has_answered = refl;
  a_forced_end_below_ends_the_own = refl;
  one_active_child_is_not_told = refl;
  when_all_are_active_it_is_told = refl;
}

pub record AreEnded : Type 0 where
  a_child_without_an_id_is_not_asked_to_terminate : says two ending ≡ []
  it_is_once_its_id_is_learnt : says two (ending ++ got 0 (with_1 2 (Body.ReserveResponse of_1)) ∷ []) ≡ with_1 4 (Body.Terminate of_1) ∷ []
  also_where_a_confirmation_teaches_it : says two (ending ++ got 0 (with_1 2 (Body.ReserveResponse of_1)) ∷ holds_2 ∷ []) ≡ with_2 5 (Body.Terminate of_2) ∷ []
  but_once : says two (ending ++ got 0 (with_1 2 (Body.ReserveResponse of_1)) ∷ holds_1 ∷ []) ≡ []
  what_is_open_is_answered_first : says two (ending ++ got 0 (with_1 2 (Body.ReserveResponse of_1)) ∷ holds_2 ∷ got 0 (with_1 4 (Body.TerminateConfirmed of_1)) ∷ got 0 (with_2 5 (Body.TerminateConfirmed of_2)) ∷ []) ≡ r 1 (failed own (codes "a1") (plain ErrorName.Gone)) ∷ r 2 (Body.TerminateConfirmed own) ∷ []
  a_child_that_never_had_a_connection_is_left_out : says two (ending ++ got 0 (with_1 2 (Body.ReserveResponse of_1)) ∷ got 0 (with_2 3 (Body.Error None (record { nsa = codes "p2"; cause = plain ErrorName.UnknownStp }))) ∷ got 0 (with_1 4 (Body.TerminateConfirmed of_1)) ∷ []) ≡ r 1 (failed own (codes "a1") (plain ErrorName.Gone)) ∷ r 2 (Body.TerminateConfirmed own) ∷ []
  a_schedule_that_is_over_says_nothing : says two (committed ++ tick 20 ∷ []) ≡ []
  and_it_takes_no_more_reserves : says two (committed ++ tick 20 ∷ got 20 (r 3 (reserve (Some own) None None None)) ∷ []) ≡ r 3 (refused own (codes "a1") (plain ErrorName.InvalidTransition)) ∷ []

are_ended : AreEnded
unfolding said after step receives saw is_old is_heard with_heard is_taken with_taken answers refusal unnamed_refusal modification_refusal has_row is_in_place connection_of row_of provision_row_of lifecycle_row_of request_at request_turn turn_by_request takes pass_on passed_on request_if may_abort reserve_if each asked_view next_behind with_path views_of asks request_about reserve_for open_request is_kind hears hear_all pass_then answer_turn turn_by_answer heard_by is_timed_out is_ended hold_ends hold_end_by force_ends force_by child_hears settle settles settles_reservation settles_provision closes_unless is_held checked reservation_verdict reservation_due provision_verdict provision_due moves requested reserves provisions lives closes reservation_closing provision_closing event_of provision_event lifecycle_event is_live is_terminating tell_joined next_after tells_plane announces joined spoken kind_number due_for is_late tells_late tell_one tell_all ends clocked clock_then clock_all ticks without stands part_of tells_first
are_ended = record {
  a_child_without_an_id_is_not_asked_to_terminate = refl;
  it_is_once_its_id_is_learnt = refl;
  also_where_a_confirmation_teaches_it = refl;
  but_once = refl;
  what_is_open_is_answered_first = refl;
  a_child_that_never_had_a_connection_is_left_out = refl;
  a_schedule_that_is_over_says_nothing = refl;
  and_it_takes_no_more_reserves = refl;
}

pub record AreLate : Type 0 where
  within_time_nothing_is_told : says two (reserved ++ tick 119 ∷ []) ≡ []
  each_late_request_is_told : says two (reserved ++ tick 120 ∷ []) ≡ a 4 (late 2 1 120) ∷ a 5 (late 3 2 120) ∷ []
  but_once : says two (reserved ++ tick 120 ∷ tick 300 ∷ []) ≡ []
  what_is_acknowledged_is_not_late : says two (reserved ++ record { second = 0; input = Input.Acked (identity (with_1 2 (asked (codes "A") (codes "B")))) } ∷ tick 120 ∷ []) ≡ a 4 (late 3 1 120) ∷ []
  an_answer_is_no_acknowledgement : says two (reserved ++ holds_1 ∷ tick 120 ∷ []) ≡ a 4 (late 2 1 120) ∷ a 5 (late 3 2 120) ∷ []
  work_and_a_forced_end_are_a_providers : says two (reserved ++ record { second = 0; input = Input.Force 0 } ∷ []) ≡ []

are_late : AreLate
unfolding said after step receives saw is_old is_heard with_heard is_taken with_taken answers refusal unnamed_refusal modification_refusal has_row is_in_place connection_of row_of provision_row_of lifecycle_row_of request_at request_turn turn_by_request takes pass_on passed_on request_if may_abort reserve_if each asked_view next_behind with_path views_of asks request_about reserve_for open_request is_kind hears hear_all pass_then answer_turn turn_by_answer heard_by is_timed_out is_ended hold_ends hold_end_by force_ends force_by child_hears settle settles settles_reservation settles_provision closes_unless is_held checked reservation_verdict reservation_due provision_verdict provision_due moves requested reserves provisions lives closes reservation_closing provision_closing event_of provision_event lifecycle_event is_live is_terminating tell_joined next_after tells_plane announces joined spoken kind_number due_for is_late tells_late tell_one tell_all ends clocked clock_then clock_all ticks without stands part_of tells_first
are_late = record {
  within_time_nothing_is_told = refl;
  each_late_request_is_told = refl;
  but_once = refl;
  what_is_acknowledged_is_not_late = refl;
  an_answer_is_no_acknowledgement = refl;
  work_and_a_forced_end_are_a_providers = refl;
}

---- Queries about all that is below

abbrev row : (id depth : ℕ) → (agent : List ℕ) → Rsm → RecursiveRow
row id depth agent state =
    record { connection = id; depth = depth; lifecycle = Lsm.Created; provider = agent; provision = Psm.Released; reservation = state; version = None }

abbrev below_of : ℕ → Body
below_of id = Body.QueryRecursive id

abbrev all_of : ℕ → Bool → List RecursiveRow → Body
all_of id more rows = Body.QueryRecursiveConfirmed id more rows

abbrev row_1 : ℕ → RecursiveRow
row_1 depth = row of_1 depth (codes "p1") Rsm.ReserveHeld

abbrev row_2 : ℕ → RecursiveRow
row_2 depth = row of_2 depth (codes "p2") Rsm.ReserveHeld

abbrev own_held : RecursiveRow
own_held = row own 0 (codes "a1") Rsm.ReserveHeld

abbrev asks_all : List Entry
asks_all = held ++ got 0 (r 2 (below_of own)) ∷ []

abbrev tells_1 : Entry
tells_1 = got 0 (with_1 4 (all_of of_1 false (row_1 0 ∷ [])))

abbrev tells_2 : Entry
tells_2 = got 0 (with_2 5 (all_of of_2 false (row_2 0 ∷ [])))

pub record AreNested : Type 0 where
  without_a_known_child_it_is_answered_at_once : says two (reserved ++ got 0 (r 2 (below_of own)) ∷ []) ≡ r 2 (all_of own true (row own 0 (codes "a1") Rsm.ReserveChecking ∷ [])) ∷ []
  without_a_path_nothing_is_missing : says (over []) (reserved ++ got 0 (r 2 (below_of own)) ∷ []) ≡ r 2 (all_of own false (row own 0 (codes "a1") Rsm.ReserveFailed ∷ [])) ∷ []
  each_known_child_is_asked : says two asks_all ≡ with_1 4 (below_of of_1) ∷ with_2 5 (below_of of_2) ∷ []
  one_that_is_known_alone : says two (reserved ++ holds_2 ∷ got 0 (r 2 (below_of own)) ∷ []) ≡ with_2 4 (below_of of_2) ∷ []
  before_all_have_answered_nothing_is_said : says two (asks_all ++ tells_2 ∷ []) ≡ []
  the_rows_stand_in_the_order_of_the_segments : says two (asks_all ++ tells_2 ∷ tells_1 ∷ []) ≡ r 2 (all_of own false (own_held ∷ row_1 1 ∷ row_2 1 ∷ [])) ∷ []
  what_a_child_left_out_is_missing : says two (asks_all ++ tells_1 ∷ got 0 (with_2 5 (all_of of_2 true (row_2 0 ∷ []))) ∷ []) ≡ r 2 (all_of own true (own_held ∷ row_1 1 ∷ row_2 1 ∷ [])) ∷ []
  an_error_has_no_rows : says two (asks_all ++ tells_1 ∷ got 0 (with_2 5 (refused of_2 (codes "p2") (plain ErrorName.Nonexistent))) ∷ []) ≡ r 2 (all_of own true (own_held ∷ row_1 1 ∷ [])) ∷ []
  a_child_that_refused_its_reserve_has_none : says two (reserved ++ holds_1 ∷ got 0 (with_2 3 (Body.Error None (record { nsa = codes "p2"; cause = plain ErrorName.Schedule }))) ∷ got 0 (r 2 (below_of own)) ∷ tells_1 ∷ []) ≡ r 2 (all_of own true (row own 0 (codes "a1") Rsm.ReserveFailed ∷ row_1 1 ∷ [])) ∷ []
  a_child_that_was_not_known_has_none : says two (reserved ++ holds_2 ∷ got 0 (r 2 (below_of own)) ∷ holds_1 ∷ got 0 (with_2 4 (all_of of_2 false (row_2 0 ∷ []))) ∷ []) ≡ r 2 (all_of own true (own_held ∷ row_2 1 ∷ [])) ∷ []
  an_answer_is_taken_once : says two (asks_all ++ tells_1 ∷ tells_2 ∷ tells_2 ∷ []) ≡ []
  another_answer_says_nothing : says two (asks_all ++ tells_1 ∷ tells_2 ∷ got 0 (between (codes "a1") (codes "p9") (id_of 3 5) (all_of of_2 false [])) ∷ []) ≡ []
  two_queries_are_answered_each : says two (asks_all ++ got 0 (r 3 (below_of own)) ∷ got 0 (with_1 6 (all_of of_1 false [])) ∷ got 0 (with_2 7 (all_of of_2 false [])) ∷ []) ≡ r 3 (all_of own false (own_held ∷ [])) ∷ []
  and_the_first_waits : says two (asks_all ++ got 0 (r 3 (below_of own)) ∷ got 0 (with_1 6 (all_of of_1 false [])) ∷ got 0 (with_2 7 (all_of of_2 false [])) ∷ tells_1 ∷ tells_2 ∷ []) ≡ r 2 (all_of own false (own_held ∷ row_1 1 ∷ row_2 1 ∷ [])) ∷ []
  a_query_is_taken_once : says two (asks_all ++ got 0 (r 2 (below_of own)) ∷ []) ≡ []
  a_connection_of_another_requester : says two (held ++ got 0 (between (codes "r2") (codes "a1") (id_of 5 1) (below_of own)) ∷ []) ≡ between (codes "r2") (codes "a1") (id_of 5 1) (refused own (codes "a1") (plain ErrorName.Nonexistent)) ∷ []
  a_query_to_another_provider : says two (held ++ got 0 (between (codes "r1") (codes "a2") (id_of 4 2) (below_of own)) ∷ []) ≡ between (codes "r1") (codes "a2") (id_of 4 2) (refused own (codes "a1") (plain ErrorName.WrongProvider)) ∷ []
  a_query_to_a_child_can_be_late : says two (held ++ record { second = 0; input = Input.Acked (identity (with_1 2 (asked (codes "A") (codes "B")))) } ∷ record { second = 0; input = Input.Acked (identity (with_2 3 (asked (codes "C") (codes "D")))) } ∷ got 0 (r 2 (below_of own)) ∷ tick 120 ∷ []) ≡ a 6 (late 4 1 120) ∷ a 7 (late 5 2 120) ∷ []

are_nested : AreNested
unfolding said after step receives saw is_old is_heard with_heard is_taken with_taken answers refusal unnamed_refusal modification_refusal has_row is_in_place connection_of row_of provision_row_of lifecycle_row_of request_at request_turn turn_by_request takes pass_on passed_on request_if may_abort reserve_if each asked_view next_behind with_path views_of asks request_about reserve_for open_request is_kind hears hear_all pass_then answer_turn turn_by_answer heard_by is_timed_out is_ended hold_ends hold_end_by force_ends force_by child_hears settle settles settles_reservation settles_provision closes_unless is_held checked reservation_verdict reservation_due provision_verdict provision_due moves requested reserves provisions lives closes reservation_closing provision_closing event_of provision_event lifecycle_event is_live is_terminating tell_joined next_after tells_plane announces joined spoken kind_number due_for is_late tells_late tell_one tell_all ends clocked clock_then clock_all ticks without stands part_of tells_first asks_below seek own_row
are_nested = record {
  without_a_known_child_it_is_answered_at_once = refl;
  without_a_path_nothing_is_missing = refl;
  each_known_child_is_asked = refl;
  one_that_is_known_alone = refl;
  before_all_have_answered_nothing_is_said = refl;
  the_rows_stand_in_the_order_of_the_segments = refl;
  what_a_child_left_out_is_missing = refl;
  an_error_has_no_rows = refl;
  a_child_that_refused_its_reserve_has_none = refl;
  a_child_that_was_not_known_has_none = refl;
  an_answer_is_taken_once = refl;
  another_answer_says_nothing = refl;
  two_queries_are_answered_each = refl;
  and_the_first_waits = refl;
  a_query_is_taken_once = refl;
  a_connection_of_another_requester = refl;
  a_query_to_another_provider = refl;
  a_query_to_a_child_can_be_late = refl;
}
