-- Aggregators and requesters refuse nothing for bandwidth, and each reserve that they send says its start.
use Rattle.std.proofs.Common.{ℕ, ◌+◌, ◌≡◌, ◌&&◌, Bool, true, false, is_none, List, [], ◌∷◌, ◌++◌, Option, Some, None, IfSome, refl}
use Rattle.std.specs.Prelude.{option_map, option_to_list, option_and_then}
use Rattle.std.specs.List.{All}
use Rattle.std.proofs.lemmas.List.Elements.{All-nil, All-cons, All-head, All-tail, All-append}
use Rattle.nsi_primitive.specs.Ids.{id_of}
use Rattle.nsi_primitive.specs.declared.entry.Entry.{Entry}
use Rattle.nsi_primitive.specs.declared.entry.Input.{Input}
use Rattle.nsi_primitive.specs.declared.kind.Kind.{Kind}
use Rattle.nsi_primitive.specs.declared.kind.ErrorName.{ErrorName}
use Rattle.nsi_primitive.specs.declared.ask.What.{What}
use Rattle.nsi_primitive.specs.declared.ask.ReserveAsk.{ReserveAsk}
use Rattle.nsi_primitive.specs.declared.message.Body.{Body}
use Rattle.nsi_primitive.specs.declared.message.Criteria.{Criteria}
use Rattle.nsi_primitive.specs.declared.message.Exception.{Exception}
use Rattle.nsi_primitive.specs.declared.message.Message.{Message}
use Rattle.nsi_primitive.specs.declared.message.ReserveRequest.{ReserveRequest}
use Rattle.nsi_primitive.specs.declared.message.Service.{Service}
use Rattle.nsi_primitive.specs.declared.plane.Plane.{Plane}
use Rattle.nsi_primitive.specs.declared.state.Rsm.{Rsm}
use Rattle.nsi_primitive.specs.declared.state.Psm.{Psm}
use Rattle.nsi_primitive.specs.declared.state.Lsm.{Lsm}
use Rattle.nsi_primitive.specs.declared.state.Side.{Side}
use Rattle.reserve_machine.specs.Table.{step as reserve_step}
use Rattle.provision_machine.specs.Table.{step as provision_step}
use Rattle.lifecycle_machine.specs.Table.{step as lifecycle_step}
use Rattle.connection_record.specs.declared.record.Record.{Record}
use Rattle.connection_record.specs.declared.moves.Reply.{Reply}
use Rattle.connection_record.specs.declared.moves.ReservationMove.{ReservationMove}
use Rattle.connection_record.specs.declared.provisioning.ProvisionMove.{ProvisionMove}
use Rattle.connection_record.specs.declared.life.LifecycleMove.{LifecycleMove}
use Rattle.connection_record.specs.declared.apply.Move.{Move}
use Rattle.connection_record.specs.Replies.{Moved, by_row, reply, then_moves, addressed, plain}
use Rattle.connection_record.specs.Moves.{event_of, fits, reservation_does, reserves, reserves_if, asked_criteria}
use Rattle.connection_record.specs.Lives.{provision_event, confirmed_body, provision_taken, provision_does, provisions, provisions_if, lifecycle_event, lifecycle_does, lives, lives_if}
use Rattle.connection_record.specs.Applied.{is_terminating, reservation_closing, provision_closing, closes_reservation, closes_provision, closes, moves, moves_if, reserve_move, requested, tells_plane}
use Rattle.connection_record.specs.Refusal.{place_of, points_of}
use Rattle.child_connection.specs.declared.state.Sent.{Sent}
use Rattle.child_connection.specs.Views.{ChildConnection, open_request}
use Rattle.child_connection.specs.Hearing.{hear}
use Rattle.child_connection.specs.Asks.{request_about, reserve_for, to_child}
use Rattle.agent_state.specs.declared.parent.Due.{Due}
use Rattle.agent_state.specs.declared.parent.OpenQuery.{OpenQuery}
use Rattle.agent_state.specs.declared.parent.Part.{Part}
use Rattle.agent_state.specs.declared.parent.View.{View}
use Rattle.agent_state.specs.Entries.{reply_by}
use Rattle.agent_state.specs.State.{AgentState, children_at}
use Rattle.nsi_query.specs.Summary.{Shown}
use Rattle.nsi_query.specs.Answers.{answer_about}
use Rattle.provider_agent.specs.Safety.{is_bandwidth}
use Rattle.aggregator_agent.specs.declared.agent.Agent.{Agent}
use Rattle.aggregator_agent.specs.Setting.{Setting as AggregatorSetting}
use Rattle.aggregator_agent.specs.Asking.{Turn, Asked, begin, request_of, each, if_free, request_if, if_apart, service_for, reserve_if, passed_on, pass_one}
use Rattle.aggregator_agent.specs.Settling.{fit_or_lack, checked, done_or_mixed, reservation_verdict, reservation_due, settles_reservation, settles_provision, closes_unless, settles, settle}
use Rattle.aggregator_agent.specs.Turns.{takes, hear_one, tell_joined, pass_on, turn_by_request, request_turn, late_terminate, hold_end_by, hold_ends, force_ends, heard_by, turn_by_answer, answer_turn, spoken}
use Rattle.aggregator_agent.specs.Clock.{tells_late, tell_one, tell_all, is_late_of, ends, clocked, clock_then, clock_all}
use Rattle.aggregator_agent.specs.Below.{seek_of, seek, tells_first, tells_query, closes_unless as closes_query_unless, tells_if}
use Rattle.aggregator_agent.specs.Queries.{shown_at, answer_by, answer_to}
use Rattle.aggregator_agent.specs.Steps.{request_at, opens_between, opens, request_to, accepts, answers, pass_then, hear_all, hears, opens_query, asks_below, asks_if_own, queries, serves, receives, ticks, step, after_if, after}
use Rattle.requester_agent.specs.Setting.{Setting as RequesterSetting}
use Rattle.requester_agent.specs.Views.{asks_if_free, asks_if_known}
use Rattle.requester_agent.specs.Queries.{query_about, query_for}
use Rattle.requester_agent.specs.Steps.{answers as requester_answers, asks_at, asks_new, asks_found, reserves as requester_reserves, sends_query, asked_of, asked, hears_if, step as requester_step, after_if as requester_after_if, after as requester_after}

---- What is mild

-- a refusal for bandwidth, or a reserve without a start
unfoldable pub is_rough : Body → Bool
is_rough (Body.Reserve q) = is_none q.start
is_rough (Body.ReserveFailed _ exception) = is_bandwidth exception.cause
is_rough _ = false

abbrev pub IsMild : Body → Type 0
IsMild body = is_rough body ≡ false

abbrev IsMildReply : Reply → Type 0
IsMildReply x = IsMild x.body

abbrev pub IsMildMessage : Message → Type 0
IsMildMessage m = IsMild m.body

abbrev AreMild : List Reply → Type 0
AreMild xs = All IsMildReply xs

abbrev pub AreMildMessages : List Message → Type 0
AreMildMessages ms = All IsMildMessage ms

abbrev IsMildStep : Moved → Type 0
IsMildStep x = AreMild x.out

abbrev IsMildIf : Option Body → Type 0
IsMildIf o = IfSome o IsMild

nothing_said : AreMild []
nothing_said = All-nil IsMildReply

one_said : (c : ℕ) (body : Body) → IsMild body → AreMild (reply c body ∷ [])
one_said c body h = All-cons IsMildReply (reply c body) [] h nothing_said

one_sent : (m : Message) → IsMildMessage m → AreMildMessages (m ∷ [])
one_sent m h = All-cons IsMildMessage m [] h (All-nil IsMildMessage)

addressed_mild : (agent owner : List ℕ) (xs : List Reply) → AreMild xs → AreMildMessages (addressed agent owner xs)
addressed_mild agent owner [] h = All-nil IsMildMessage
addressed_mild agent owner (x ∷ xs) h =
    All-cons IsMildMessage _ (addressed agent owner xs) (All-head IsMildReply x xs h) (addressed_mild agent owner xs (All-tail IsMildReply x xs h))

then_mild : (x : Moved) (f : Record → Moved) → IsMildStep x → ((r : Record) → IsMildStep (f r)) → IsMildStep (then_moves x f)
then_mild x f h g = All-append IsMildReply x.out (f x.rec).out h (g x.rec)

row_mild : {S : Type 0} (o : Option (S × Option Kind)) (f : S → Option Kind → Moved) (r : Record) → ((next : S) (said : Option Kind) → IsMildStep (f next said)) → IsMildStep (by_row o f r)
row_mild None f r h = nothing_said
row_mild (Some row) f r h = h row.0 row.1

---- The machines

-- a move that lacks nothing for want of bandwidth
abbrev IsMildMove : ReservationMove → Type 0
IsMildMove (ReservationMove.Lack e) = is_bandwidth e.cause ≡ false
IsMildMove _ = Unit {0}

fits_mild : (o : Option Criteria) (deadline : Option ℕ) (next : Rsm) (now : ℕ) (r : Record) → IsMildStep (fits o deadline next now r)
unfolding is_rough
fits_mild None deadline next now r = nothing_said
fits_mild (Some criteria) deadline next now r = one_said _ _ refl

does_mild : (next : Rsm) (move : ReservationMove) (now : ℕ) (r : Record) → IsMildMove move → IsMildStep (reservation_does next move now r)
unfolding is_rough
does_mild next (ReservationMove.Reserve c criteria) now r h = one_said _ _ refl
does_mild next (ReservationMove.Fit deadline) now r h = fits_mild r.pending deadline next now r
does_mild next (ReservationMove.Lack e) now r h = one_said _ (Body.ReserveFailed r.id e) h
does_mild next (ReservationMove.Commit c) now r h = nothing_said
does_mild next (ReservationMove.Abort c) now r h = nothing_said
does_mild next (ReservationMove.HoldEnd origin) now r h = one_said _ _ refl
does_mild next ReservationMove.Done now r h = one_said _ _ refl
does_mild next (ReservationMove.Spoiled e mixed) now r h = one_said _ _ refl
does_mild next ReservationMove.Freed now r h = one_said _ _ refl

reserves_mild : (state : Rsm) (move : ReservationMove) (now : ℕ) (r : Record) → IsMildMove move → IsMildStep (reserves state move now r)
unfolding reserves
reserves_mild state move now r h = row_mild (reserve_step state (event_of move)) (λ next said. reservation_does next move now r) r (λ next said. does_mild next move now r h)

reserves_if_mild : (o : Option ReservationMove) (now : ℕ) (r : Record) → IfSome o IsMildMove → IsMildStep (reserves_if o now r)
reserves_if_mild None now r h = nothing_said
reserves_if_mild (Some move) now r h = reserves_mild r.rsm move now r h

confirmed_mild : (next : Psm) (id : ℕ) → IsMild (confirmed_body next id)
unfolding is_rough
confirmed_mild Psm.Provisioned id = refl
confirmed_mild Psm.Released id = refl
confirmed_mild Psm.Provisioning id = refl
confirmed_mild Psm.Releasing id = refl

taken_mild : (c : ℕ) (next : Psm) (said : Option Kind) (now : ℕ) (r : Record) → IsMildStep (provision_taken c next said now r)
taken_mild c next None now r = nothing_said
taken_mild c next (Some said) now r = one_said _ _ (confirmed_mild next r.id)

provision_does_mild : (next : Psm) (said : Option Kind) (move : ProvisionMove) (now : ℕ) (r : Record) → IsMildStep (provision_does next said move now r)
unfolding is_rough
provision_does_mild next said (ProvisionMove.Provision c) now r = taken_mild c next said now r
provision_does_mild next said (ProvisionMove.Release c) now r = taken_mild c next said now r
provision_does_mild next said ProvisionMove.Done now r = one_said _ _ (confirmed_mild next r.id)
provision_does_mild next said (ProvisionMove.Spoiled e) now r = one_said _ _ refl

provisions_mild : (side : Side) (state : Psm) (move : ProvisionMove) (now : ℕ) (r : Record) → IsMildStep (provisions side state move now r)
unfolding provisions
provisions_mild side state move now r =
    row_mild (provision_step side state (provision_event move)) (λ next said. provision_does next said move now r) r (λ next said. provision_does_mild next said move now r)

provisions_if_mild : (side : Side) (o : Option ProvisionMove) (now : ℕ) (r : Record) → IsMildStep (provisions_if side o now r)
provisions_if_mild side None now r = nothing_said
provisions_if_mild side (Some move) now r = provisions_mild side r.psm move now r

lifecycle_does_mild : (next : Lsm) (move : LifecycleMove) (now : ℕ) (r : Record) → IsMildStep (lifecycle_does next move now r)
unfolding is_rough
lifecycle_does_mild next (LifecycleMove.Force c origin) now r = one_said _ _ refl
lifecycle_does_mild next LifecycleMove.EndTime now r = nothing_said
lifecycle_does_mild next (LifecycleMove.Terminate c) now r = nothing_said
lifecycle_does_mild next LifecycleMove.Done now r = one_said _ _ refl

lives_mild : (state : Lsm) (move : LifecycleMove) (now : ℕ) (r : Record) → IsMildStep (lives state move now r)
unfolding lives
lives_mild state move now r = row_mild (lifecycle_step state (lifecycle_event move)) (λ next said. lifecycle_does next move now r) r (λ next said. lifecycle_does_mild next move now r)

lives_if_mild : (o : Option LifecycleMove) (now : ℕ) (r : Record) → IsMildStep (lives_if o now r)
lives_if_mild None now r = nothing_said
lives_if_mild (Some move) now r = lives_mild r.lsm move now r

closing_mild : (state : Rsm) (gone : Exception) → is_bandwidth gone.cause ≡ false → IfSome (reservation_closing state gone) IsMildMove
unfolding reservation_closing
closing_mild Rsm.ReserveChecking gone h = h
closing_mild Rsm.ReserveCommitting gone h = tt
closing_mild Rsm.ReserveAborting gone h = tt
closing_mild _ gone h = tt

closes_mild : (agent : List ℕ) (side : Side) (now : ℕ) (r : Record) → IsMildStep (closes agent side now r)
unfolding closes
closes_mild agent side now r =
    then_mild (then_moves (closes_reservation agent now r) (λ x. closes_provision agent side now x)) (λ x. lives x.lsm LifecycleMove.Done now x)
    (then_mild (closes_reservation agent now r) (λ x. closes_provision agent side now x)
    (reserves_if_mild (reservation_closing r.rsm (plain agent ErrorName.Gone)) now r (closing_mild r.rsm (plain agent ErrorName.Gone) refl))
    (λ x. provisions_if_mild side (provision_closing x.psm (plain agent ErrorName.Gone)) now x))
    (λ x. lives_mild x.lsm LifecycleMove.Done now x)

plane_mild : (b : Bool) (p : Plane) (c now : ℕ) (r : Record) → IsMildStep (tells_plane b p c now r)
unfolding tells_plane is_rough
plane_mild true p c now r = one_said _ _ refl
plane_mild false p c now r = nothing_said

---- What a request is

abbrev IsMildRequest : Move → Type 0
IsMildRequest (Move.Reservation m) = IsMildMove m
IsMildRequest _ = Unit {0}

moves_mild : (side : Side) (move : Move) (now : ℕ) (r : Record) → IsMildRequest move → IsMildStep (moves side move now r)
unfolding moves
moves_mild side (Move.Reservation m) now r h = reserves_mild r.rsm m now r h
moves_mild side (Move.Provision m) now r h = provisions_mild side r.psm m now r
moves_mild side (Move.Lifecycle m) now r h = lives_mild r.lsm m now r
moves_mild side (Move.Close agent) now r h = closes_mild agent side now r

moves_if_mild : (side : Side) (o : Option Move) (now : ℕ) (r : Record) → IfSome o IsMildRequest → IsMildStep (moves_if side o now r)
moves_if_mild side None now r h = nothing_said
moves_if_mild side (Some move) now r h = moves_mild side move now r h

reserve_is_mild : (c : ℕ) (o : Option Criteria) → IfSome (reserve_move c o) IsMildRequest
reserve_is_mild c None = tt
reserve_is_mild c (Some criteria) = tt

request_is_mild : (now : ℕ) (body : Body) (c : ℕ) (r : Record) → IfSome (requested now body c r) IsMildRequest
unfolding requested
request_is_mild now (Body.Reserve q) c r = reserve_is_mild c (asked_criteria now q r.committed)
request_is_mild now (Body.ReserveCommit id) c r = tt
request_is_mild now (Body.ReserveAbort id) c r = tt
request_is_mild now (Body.Provision id) c r = tt
request_is_mild now (Body.Release id) c r = tt
request_is_mild now (Body.Terminate id) c r = tt
request_is_mild now _ c r = tt

---- What children are asked

asked_mild : (o : Option Body) (agent : List ℕ) (c : ℕ) (x : ChildConnection) → IsMildIf o → AreMildMessages (option_to_list (request_of o agent c x))
asked_mild None agent c x h = All-nil IsMildMessage
asked_mild (Some body) agent c x h = one_sent (to_child agent c x body) h

each_mild : (does : ℕ → ChildConnection → Asked) → ((n : ℕ) (x : ChildConnection) → AreMildMessages (does n x).asked) → (next : ℕ) (xs : List ChildConnection) → AreMildMessages (each does next xs).asked
unfolding each
each_mild does h next [] = All-nil IsMildMessage
each_mild does h next (x ∷ xs) = All-append IsMildMessage (does next x).asked (each does (does next x).next xs).asked (h next x) (each_mild does h (does next x).next xs)

about_mild : (k : Kind) (id : ℕ) → IsMild (request_about k id)
unfolding request_about is_rough
about_mild Kind.ReserveCommit id = refl
about_mild Kind.ReserveAbort id = refl
about_mild Kind.Provision id = refl
about_mild Kind.Release id = refl
about_mild Kind.Terminate id = refl
about_mild _ id = refl

about_if_mild : (k : Kind) (o : Option ℕ) → IsMildIf (option_map (λ id. request_about k id) o)
about_if_mild k None = tt
about_if_mild k (Some id) = about_mild k id

free_mild : (o : Option Sent) (body : Option Body) → IsMildIf body → IsMildIf (if_free o body)
free_mild None body h = h
free_mild (Some request) body h = tt

request_if_mild : (b : Bool) (k : Kind) (x : ChildConnection) → IsMildIf (request_if b k x)
unfolding request_if
request_if_mild true k x = free_mild (open_request k x) (option_map (λ id. request_about k id) x.connection) (about_if_mild k x.connection)
request_if_mild false k x = tt

-- a reserve, with a service or without, says its start
reserve_mild : (o : Option Service) (version : Option ℕ) (start end capacity : ℕ) (x : ChildConnection) → IsMild (Body.Reserve (reserve_for o version start end capacity x))
unfolding is_rough reserve_for
reserve_mild (Some service) version start end capacity x = refl
reserve_mild None version start end capacity x = refl

apart_mild : (b : Bool) (body : Body) → IsMild body → IsMildIf (if_apart b (Some body))
apart_mild true body h = tt
apart_mild false body h = h

reserve_if_mild : (o : Option Criteria) (service : Service) (x : ChildConnection) → IsMildIf (reserve_if o service x)
unfolding reserve_if
reserve_if_mild None service x = tt
reserve_if_mild (Some c) service x = free_mild (open_request Kind.Reserve x) _ (apart_mild _ _ (reserve_mild (service_for x.connection service) (Some c.version) c.interval.start c.interval.end c.capacity x))

passed_mild : (body : Body) (own : Record) (x : ChildConnection) → IsMildIf (passed_on body own x)
unfolding passed_on
passed_mild (Body.Reserve q) own x = reserve_if_mild own.pending own.service x
passed_mild (Body.ReserveCommit id) own x = request_if_mild _ Kind.ReserveCommit x
passed_mild (Body.ReserveAbort id) own x = request_if_mild _ Kind.ReserveAbort x
passed_mild (Body.Provision id) own x = request_if_mild _ Kind.Provision x
passed_mild (Body.Release id) own x = request_if_mild _ Kind.Release x
passed_mild (Body.Terminate id) own x = request_if_mild _ Kind.Terminate x
passed_mild _ own x = tt

---- A turn

record IsMildTurn (t : Turn) : Type 0 where
  replies : AreMild t.replies
  asked : AreMildMessages t.asked
  notices : AreMild t.notices

begins_mild : (own : Record) (children : List ChildConnection) (next : ℕ) → IsMildTurn (begin own children next)
begins_mild own children next = record { replies = nothing_said; asked = All-nil IsMildMessage; notices = nothing_said }

spoken_mild : (agent : Agent) (t : Turn) → IsMildTurn t → AreMildMessages (spoken agent t)
unfolding spoken
spoken_mild agent t h =
    All-append IsMildMessage (addressed agent.name t.own.owner t.replies) (t.asked ++ addressed agent.name t.own.owner t.notices) (addressed_mild agent.name t.own.owner t.replies h.replies)
    (All-append IsMildMessage t.asked (addressed agent.name t.own.owner t.notices) h.asked (addressed_mild agent.name t.own.owner t.notices h.notices))

joined_mild : (before : Plane) (agent : Agent) (now : ℕ) (t : Turn) → IsMildTurn t → IsMildTurn (tell_joined before agent now t)
unfolding tell_joined
joined_mild before agent now t h = record { replies = h.replies; asked = h.asked; notices = All-append IsMildReply t.notices _ h.notices (plane_mild _ _ _ now t.own) }

passes_mild : (m : Message) (agent : Agent) (t : Turn) → IsMildTurn t → IsMildTurn (pass_on m agent t)
unfolding pass_on
passes_mild m agent t h =
    record {
      replies = h.replies;
      asked = All-append IsMildMessage t.asked _ h.asked (each_mild (λ n x. pass_one m agent t.own n x) (λ n x. asked_mild (passed_on m.body t.own x) agent.name _ x (passed_mild m.body t.own x)) t.next t.children);
      notices = h.notices;
    }

heard_mild : (m : Message) (agent : Agent) (t : Turn) → IsMildTurn t → IsMildTurn (heard_by m agent t)
unfolding heard_by
heard_mild m agent t h =
    record {
      replies = h.replies;
      asked = All-append IsMildMessage t.asked _ h.asked (each_mild (λ n x. hear_one (is_terminating t.own.lsm) m agent n x) (λ n x. asked_mild (late_terminate (is_terminating t.own.lsm) m x) agent.name (id_of agent.number n) (hear m x).view (request_if_mild (is_terminating t.own.lsm && is_none x.connection) Kind.Terminate (hear m x).view)) t.next t.children);
      notices = h.notices;
    }

lack_mild : (agent : List ℕ) (o : Option ChildConnection) → IsMildMove (fit_or_lack agent o)
lack_mild agent None = tt
lack_mild agent (Some x) = refl

checked_mild : (agent : List ℕ) (children : List ChildConnection) → IsMildMove (checked agent children)
unfolding checked
checked_mild agent [] = refl
checked_mild agent (x ∷ xs) = lack_mild agent _

done_mild : (agent : List ℕ) (o : Option ChildConnection) → IsMildMove (done_or_mixed agent o)
done_mild agent None = tt
done_mild agent (Some x) = tt

verdict_mild : (state : Rsm) (agent : List ℕ) (children : List ChildConnection) → IfSome (reservation_verdict state agent children) IsMildMove
unfolding reservation_verdict
verdict_mild Rsm.ReserveChecking agent children = checked_mild agent children
verdict_mild Rsm.ReserveCommitting agent children = done_mild agent _
verdict_mild Rsm.ReserveAborting agent children = tt
verdict_mild _ agent children = tt

due_mild : (b : Bool) (state : Rsm) (agent : List ℕ) (children : List ChildConnection) → IfSome (reservation_due b state agent children) IsMildMove
unfolding reservation_due
due_mild true state agent children = verdict_mild state agent children
due_mild false state agent children = tt

unless_mild : (b : Bool) (agent : Agent) (now : ℕ) (own : Record) → IsMildStep (closes_unless b agent now own)
unfolding closes_unless
unless_mild true agent now own = nothing_said
unless_mild false agent now own = closes_mild agent.name Side.Aggregator now own

both_mild : (agent : Agent) (now : ℕ) (children : List ChildConnection) (own : Record) → IsMildStep (then_moves (settles_reservation agent now children own) (λ x. settles_provision agent now children x))
unfolding settles_reservation settles_provision
both_mild agent now children own =
    then_mild _ (λ x. settles_provision agent now children x) (reserves_if_mild _ now own (due_mild _ own.rsm agent.name children)) (λ x. provisions_if_mild Side.Aggregator _ now x)

settles_mild : (state : Lsm) (agent : Agent) (now : ℕ) (children : List ChildConnection) (own : Record) → IsMildStep (settles state agent now children own)
unfolding settles
settles_mild Lsm.Terminating agent now children own = unless_mild _ agent now own
settles_mild Lsm.Terminated agent now children own = nothing_said
settles_mild _ agent now children own = both_mild agent now children own

settle_mild : (agent : Agent) (now : ℕ) (t : Turn) → IsMildTurn t → IsMildTurn (settle agent now t)
unfolding settle
settle_mild agent now t h = record { replies = All-append IsMildReply t.replies _ h.replies (settles_mild t.own.lsm agent now t.children t.own); asked = h.asked; notices = h.notices }

request_mild : (agent : Agent) (now : ℕ) (m : Message) (own : Record) (children : List ChildConnection) (next : ℕ) → IsMildTurn (request_turn agent now m own children next)
unfolding request_turn turn_by_request takes
request_mild agent now m own children next =
    let taken : IsMildStep (moves_if Side.Aggregator (requested now m.body m.header.correlation own) now own) = moves_if_mild Side.Aggregator _ now own (request_is_mild now m.body m.header.correlation own) in
    joined_mild _ agent now _ (settle_mild agent now _ (passes_mild m agent _ (record { replies = All-append IsMildReply [] _ nothing_said taken; asked = All-nil IsMildMessage; notices = nothing_said })))

holds_mild : (lost : Bool) (m : Message) (now : ℕ) (t : Turn) → IsMildTurn t → IsMildTurn (hold_ends lost m now t)
unfolding hold_ends hold_end_by
holds_mild lost m now t h = record { replies = h.replies; asked = h.asked; notices = All-append IsMildReply t.notices _ h.notices (reserves_if_mild _ now t.own (ends_by_mild _ m.body)) }
  where
    ends_by_mild : (b : Bool) (body : Body) → IfSome (hold_end_by b body) IsMildMove
    ends_by_mild true (Body.ReserveTimeout t) = tt
    ends_by_mild true _ = tt
    ends_by_mild false body = tt

forces_mild : (broken : Bool) (m : Message) (agent : Agent) (now : ℕ) (t : Turn) → IsMildTurn t → IsMildTurn (force_ends broken m agent now t)
unfolding force_ends
forces_mild broken m agent now t h = record { replies = h.replies; asked = h.asked; notices = All-append IsMildReply t.notices _ h.notices (lives_if_mild _ now t.own) }

answer_mild : (agent : Agent) (now : ℕ) (m : Message) (own : Record) (children : List ChildConnection) (next : ℕ) → IsMildTurn (answer_turn agent now m own children next)
unfolding answer_turn turn_by_answer
answer_mild agent now m own children next =
    joined_mild _ agent now _ (settle_mild agent now _ (forces_mild _ m agent now _ (holds_mild _ m now _ (heard_mild m agent _ (begins_mild own children next)))))

---- A message that came

at_mild : (setting : AggregatorSetting) (s : AgentState) (n : ℕ) (m : Message) → AreMildMessages (request_at setting s n m).out
unfolding request_at
at_mild setting s n m = spoken_mild setting.agent _ (request_mild setting.agent s.base.now m _ _ s.base.next)

between_mild : (o : Option (ℕ × ℕ)) (setting : AggregatorSetting) (s : AgentState) (m : Message) (q : ReserveRequest) → AreMildMessages (opens_between o setting s m q).out
between_mild None setting s m q = All-nil IsMildMessage
between_mild (Some points) setting s m q = at_mild setting _ _ m

opens_mild : (body : Body) (setting : AggregatorSetting) (s : AgentState) (m : Message) → AreMildMessages (opens body setting s m).out
opens_mild (Body.Reserve q) setting s m = between_mild (points_of setting.stp_of q) setting s m q
opens_mild _ setting s m = All-nil IsMildMessage

to_mild : (o : Option ℕ) (setting : AggregatorSetting) (s : AgentState) (m : Message) → AreMildMessages (request_to o setting s m).out
to_mild None setting s m = All-nil IsMildMessage
to_mild (Some n) setting s m = at_mild setting s n m

accepts_mild : (o : Option ℕ) (setting : AggregatorSetting) (s : AgentState) (m : Message) → AreMildMessages (accepts o setting s m).out
accepts_mild None setting s m = opens_mild m.body setting s m
accepts_mild (Some id) setting s m = to_mild _ setting s m

answers_mild : (o : Option ErrorName) (setting : AggregatorSetting) (s : AgentState) (m : Message) → AreMildMessages (answers o setting s m).out
unfolding answers is_rough
answers_mild (Some error) setting s m = one_sent _ refl
answers_mild None setting s m = accepts_mild _ setting s m

---- All else that came

all_mild : (agent : Agent) (now number : ℕ) (m : Message) (next : ℕ) (rs : List Record) (xss : List (List ChildConnection)) → AreMildMessages (hear_all agent now number m next rs xss).out
unfolding hear_all pass_then
all_mild agent now number m next [] xss = All-nil IsMildMessage
all_mild agent now number m next (r ∷ rs) [] = All-nil IsMildMessage
all_mild agent now number m next (r ∷ rs) (xs ∷ xss) = All-append IsMildMessage _ _ (spoken_mild agent _ (answer_mild agent now m r xs next)) (all_mild agent now (number + 1) m _ rs xss)

query_closes_mild : (b : Bool) (agent : List ℕ) (own : Record) (q : OpenQuery) (qs : List OpenQuery) → AreMildMessages (closes_query_unless b agent own q qs).out
unfolding is_rough
query_closes_mild true agent own q qs = All-nil IsMildMessage
query_closes_mild false agent own q qs = one_sent _ refl

first_mild : (agent : List ℕ) (records : List Record) (c : ℕ) (p : Part) (qs : List OpenQuery) → AreMildMessages (tells_first agent records c p qs).out
unfolding tells_first
first_mild agent records c p [] = All-nil IsMildMessage
first_mild agent records c p (q ∷ qs) = by_place _ _ (first_mild agent records c p qs)
  where
    by_place : (o : Option Record) (n : Option ℕ) → AreMildMessages (tells_first agent records c p qs).out → AreMildMessages (tells_query o n agent p q qs (tells_first agent records c p qs)).out
    by_place (Some own) (Some n) h = query_closes_mild _ agent own _ qs
    by_place None n h = h
    by_place (Some own) None h = h

below_mild : (o : Option Part) (agent : List ℕ) (records : List Record) (c : ℕ) (qs : List OpenQuery) → AreMildMessages (tells_if o agent records c qs).out
below_mild None agent records c qs = All-nil IsMildMessage
below_mild (Some p) agent records c qs = first_mild agent records c p qs

hears_mild : (setting : AggregatorSetting) (s : AgentState) (m : Message) → AreMildMessages (hears setting s m).out
unfolding hears
hears_mild setting s m = All-append IsMildMessage _ _ (all_mild setting.agent s.base.now 0 m s.base.next s.base.records s.children) (below_mild _ setting.agent.name s.base.records m.header.correlation s.queries)

---- Queries

seek_of_mild : (o : Option ℕ) (agent : Agent) (next : ℕ) (x : ChildConnection) → AreMildMessages (seek_of o agent next x).asked
unfolding is_rough
seek_of_mild None agent next x = All-nil IsMildMessage
seek_of_mild (Some id) agent next x = one_sent _ refl

seek_mild : (agent : Agent) (next : ℕ) (xs : List ChildConnection) → AreMildMessages (seek agent next xs).asked
unfolding seek
seek_mild agent next [] = All-nil IsMildMessage
seek_mild agent next (x ∷ xs) = All-append IsMildMessage _ _ (seek_of_mild x.connection agent next x) (seek_mild agent (seek_of x.connection agent next x).next xs)

asks_below_mild : (setting : AggregatorSetting) (s : AgentState) (n : ℕ) (m : Message) → AreMildMessages (asks_below setting s n m).out
unfolding asks_below is_rough
asks_below_mild setting s n m = by_test _
  where
    by_test : (b : Bool) → AreMildMessages (opens_query b setting s n m (seek setting.agent s.base.next (children_at n s.children))).out
    by_test true = seek_mild setting.agent s.base.next (children_at n s.children)
    by_test false = one_sent _ refl

own_mild : (b : Bool) (o : Option ℕ) (setting : AggregatorSetting) (s : AgentState) (m : Message) → AreMildMessages (asks_if_own b o setting s m).out
unfolding is_rough
own_mild true (Some n) setting s m = asks_below_mild setting s n m
own_mild true None setting s m = one_sent _ refl
own_mild false o setting s m = one_sent _ refl

about_answer_mild : (agent : List ℕ) (x : Shown) (body : Body) → IsMildIf (answer_about agent x body)
unfolding answer_about is_rough
about_answer_mild agent x (Body.QuerySummary connection) = refl
about_answer_mild agent x (Body.QueryNotification range) = refl
about_answer_mild agent x (Body.QueryResult range) = refl
about_answer_mild agent x (Body.QueryRecursive connection) = refl
about_answer_mild agent x _ = tt

by_answer_mild : (o : Option ℕ) (agent : List ℕ) (s : AgentState) (m : Message) → IsMildIf (answer_by o agent s m)
unfolding is_rough
by_answer_mild None agent s m = refl
by_answer_mild (Some id) agent s m = by_place (place_of id m.header.requester s.base.records)
  where
    by_place : (o : Option ℕ) → IsMildIf (option_and_then (λ n. answer_about agent (shown_at n s) m.body) o)
    by_place None = tt
    by_place (Some n) = about_answer_mild agent (shown_at n s) m.body

reply_mild : (b : Bool) (o : Option Body) (agent : List ℕ) (m : Message) → IsMildIf o → IsMildMessage (reply_by b o agent m)
unfolding is_rough
reply_mild true (Some body) agent m h = h
reply_mild true None agent m h = refl
reply_mild false o agent m h = refl

queries_mild : (b : Bool) (setting : AggregatorSetting) (s : AgentState) (m : Message) → AreMildMessages (queries b setting s m).out
queries_mild true setting s m = own_mild _ _ setting s m
queries_mild false setting s m = one_sent _ (reply_mild _ (answer_to setting.agent.name s m) setting.agent.name m (by_answer_mild _ setting.agent.name s m))

serves_mild : (b : Bool) (setting : AggregatorSetting) (s : AgentState) (m : Message) → AreMildMessages (serves b setting s m).out
serves_mild true setting s m = queries_mild _ setting s m
serves_mild false setting s m = answers_mild _ setting s m

receives_mild : (request old : Bool) (setting : AggregatorSetting) (s : AgentState) (m : Message) → AreMildMessages (receives request old setting s m).out
unfolding receives
receives_mild true false setting s m = serves_mild _ setting _ m
receives_mild false false setting s m = hears_mild setting _ m
receives_mild true true setting s m = All-nil IsMildMessage
receives_mild false true setting s m = All-nil IsMildMessage

---- Time

late_mild : (delivery c now : ℕ) (r : Record) → IsMildStep (tells_late delivery c now r)
unfolding tells_late is_rough
late_mild delivery c now r = one_said _ _ refl

tell_all_mild : (ds : List Due) (agent : Agent) (now number : ℕ) (waiting : List Message) (own : Record) (next : ℕ) → AreMild (tell_all ds agent now number waiting own next).out
unfolding tell_all tell_one
tell_all_mild [] agent now number waiting own next = nothing_said
tell_all_mild (d ∷ ds) agent now number waiting own next = by_late (is_late_of number now waiting d) (λ r n. tell_all_mild ds agent now number waiting r n)
  where
    by_late : (b : Bool) → ((r : Record) (n : ℕ) → AreMild (tell_all ds agent now number waiting r n).out) → AreMild (tell_one b agent now next own d (λ r n. tell_all ds agent now number waiting r n)).out
    by_late true rest = All-append IsMildReply _ _ (late_mild _ _ now own) (rest _ _)
    by_late false rest = rest own next

ends_mild : (b : Bool) (now : ℕ) (r : Record) → IsMildStep (ends b now r)
unfolding ends
ends_mild true now r = lives_if_mild _ now r
ends_mild false now r = nothing_said

clocked_mild : (agent : Agent) (now number : ℕ) (dues : List Due) (waiting : List Message) (own : Record) (next : ℕ) → AreMild (clocked agent now number dues waiting own next).out
unfolding clocked
clocked_mild agent now number dues waiting own next = All-append IsMildReply _ _ (ends_mild _ now own) (tell_all_mild dues agent now number waiting _ next)

clock_mild : (agent : Agent) (now number : ℕ) (dues : List Due) (waiting : List Message) (next : ℕ) (rs : List Record) → AreMildMessages (clock_all agent now number dues waiting next rs).out
unfolding clock_all clock_then
clock_mild agent now number dues waiting next [] = All-nil IsMildMessage
clock_mild agent now number dues waiting next (r ∷ rs) =
    All-append IsMildMessage _ _ (addressed_mild agent.name _ _ (clocked_mild agent now number dues waiting r next)) (clock_mild agent now (number + 1) dues waiting _ rs)

---- One entry

ticks_mild : (setting : AggregatorSetting) (now : ℕ) (s : AgentState) → AreMildMessages (ticks setting now s).out
unfolding ticks
ticks_mild setting now s = clock_mild setting.agent now 0 s.dues s.base.waiting s.base.next s.base.records

step_mild : (i : Input) (second : ℕ) (setting : AggregatorSetting) (s : AgentState) → AreMildMessages (step i second setting s).out
unfolding step
step_mild (Input.Got m) second setting s = receives_mild _ _ setting s m
step_mild Input.Tick second setting s = ticks_mild setting second s
step_mild (Input.Acked i) second setting s = All-nil IsMildMessage
step_mild (Input.Work n machine) second setting s = All-nil IsMildMessage
step_mild (Input.Force n) second setting s = All-nil IsMildMessage
step_mild (Input.Ask n ask) second setting s = All-nil IsMildMessage

pub aggregator_mild : (setting : AggregatorSetting) (s : AgentState) (e : Entry) → AreMildMessages (after setting s e).out
unfolding after
aggregator_mild setting s e = by_test _
  where
    by_test : (b : Bool) → AreMildMessages (after_if b setting s e).out
    by_test true = step_mild e.input e.second setting s
    by_test false = All-nil IsMildMessage

---- Requesters

free_ask_mild : (o : Option Sent) (parent : List ℕ) (c : ℕ) (k : Kind) (body : Body) (x : ChildConnection) → IsMild body → AreMildMessages (asks_if_free o parent c k body x).out
unfolding asks_if_free
free_ask_mild (Some q) parent c k body x h = All-nil IsMildMessage
free_ask_mild None parent c k body x h = one_sent _ h

known_ask_mild : (o : Option ℕ) (parent : List ℕ) (c : ℕ) (k : Kind) (x : ChildConnection) → AreMildMessages (asks_if_known o parent c k x).out
unfolding asks_if_known
known_ask_mild None parent c k x = All-nil IsMildMessage
known_ask_mild (Some id) parent c k x = free_ask_mild _ parent c k (request_about k id) x (about_mild k id)

found_mild : (o : Option (ℕ × View)) (k : Kind) (set : RequesterSetting) (s : AgentState) → AreMildMessages (asks_found o k set s).out
unfolding asks_found asks_at requester_answers
found_mild None k set s = All-nil IsMildMessage
found_mild (Some found) k set s = known_ask_mild _ set.name _ k found.1.child

reserve_ask_mild : (o : Option (ℕ × View)) (q : ReserveAsk) (label : List ℕ) (set : RequesterSetting) (s : AgentState) → AreMildMessages (requester_reserves o q label set s).out
unfolding requester_reserves asks_new asks_at requester_answers
reserve_ask_mild None q label set s = free_ask_mild _ set.name _ Kind.Reserve _ _ (reserve_mild _ q.version q.start q.end q.capacity _)
reserve_ask_mild (Some found) q label set s = free_ask_mild _ set.name _ Kind.Reserve _ _ (reserve_mild _ q.version q.start q.end q.capacity _)

query_mild : (o : Option Body) (set : RequesterSetting) (s : AgentState) → IsMildIf o → AreMildMessages (sends_query o set s).out
unfolding sends_query
query_mild None set s h = All-nil IsMildMessage
query_mild (Some body) set s h = one_sent _ h

query_about_mild : (what : What) (id : ℕ) → IsMildIf (query_about what id)
unfolding query_about is_rough
query_about_mild What.Summary id = refl
query_about_mild (What.Notifications numbers) id = refl
query_about_mild (What.Results numbers) id = refl
query_about_mild What.Recursive id = refl
query_about_mild _ id = tt

query_for_mild : (what : What) (found : Option (ℕ × View)) → IsMildIf (query_for what found)
query_for_mild what found = by_known _
  where
    by_known : (o : Option ℕ) → IsMildIf (option_and_then (query_about what) o)
    by_known None = tt
    by_known (Some id) = query_about_mild what id

asked_of_mild : (what : What) (label : List ℕ) (found : Option (ℕ × View)) (set : RequesterSetting) (s : AgentState) → AreMildMessages (asked_of what label found set s).out
unfolding asked_of
asked_of_mild (What.Reserve q) label found set s = reserve_ask_mild found q label set s
asked_of_mild What.Commit label found set s = found_mild found Kind.ReserveCommit set s
asked_of_mild What.Abort label found set s = found_mild found Kind.ReserveAbort set s
asked_of_mild What.Provision label found set s = found_mild found Kind.Provision set s
asked_of_mild What.Release label found set s = found_mild found Kind.Release set s
asked_of_mild What.Terminate label found set s = found_mild found Kind.Terminate set s
asked_of_mild What.Summary label found set s = query_mild _ set s (query_for_mild What.Summary found)
asked_of_mild (What.Notifications numbers) label found set s = query_mild _ set s (query_for_mild (What.Notifications numbers) found)
asked_of_mild (What.Results numbers) label found set s = query_mild _ set s (query_for_mild (What.Results numbers) found)
asked_of_mild What.Recursive label found set s = query_mild _ set s (query_for_mild What.Recursive found)

asked_ask_mild : (o : Option (List ℕ)) (what : What) (set : RequesterSetting) (s : AgentState) → AreMildMessages (asked o what set s).out
unfolding asked is_rough
asked_ask_mild None What.Summary set s = query_mild _ set s refl
asked_ask_mild None (What.Reserve q) set s = All-nil IsMildMessage
asked_ask_mild None What.Commit set s = All-nil IsMildMessage
asked_ask_mild None What.Abort set s = All-nil IsMildMessage
asked_ask_mild None What.Provision set s = All-nil IsMildMessage
asked_ask_mild None What.Release set s = All-nil IsMildMessage
asked_ask_mild None What.Terminate set s = All-nil IsMildMessage
asked_ask_mild None (What.Notifications numbers) set s = All-nil IsMildMessage
asked_ask_mild None (What.Results numbers) set s = All-nil IsMildMessage
asked_ask_mild None What.Recursive set s = All-nil IsMildMessage
asked_ask_mild (Some label) what set s = asked_of_mild what label _ set s

hears_if_mild : (b : Bool) (m : Message) (s : AgentState) → AreMildMessages (hears_if b m s).out
unfolding hears_if
hears_if_mild true m s = All-nil IsMildMessage
hears_if_mild false m s = All-nil IsMildMessage

requester_step_mild : (i : Input) (second : ℕ) (set : RequesterSetting) (s : AgentState) → AreMildMessages (requester_step i second set s).out
unfolding requester_step Rattle.requester_agent.specs.Steps.ticks Rattle.requester_agent.specs.Steps.acked
requester_step_mild (Input.Ask number ask) second set s = asked_ask_mild ask.label ask.what set s
requester_step_mild (Input.Got m) second set s = hears_if_mild _ m s
requester_step_mild Input.Tick second set s = All-nil IsMildMessage
requester_step_mild (Input.Acked i) second set s = All-nil IsMildMessage
requester_step_mild (Input.Work n machine) second set s = All-nil IsMildMessage
requester_step_mild (Input.Force n) second set s = All-nil IsMildMessage

pub requester_mild : (set : RequesterSetting) (s : AgentState) (e : Entry) → AreMildMessages (requester_after set s e).out
unfolding requester_after
requester_mild set s e = by_test _
  where
    by_test : (b : Bool) → AreMildMessages (requester_after_if b set s e).out
    by_test true = requester_step_mild e.input e.second set s
    by_test false = All-nil IsMildMessage
