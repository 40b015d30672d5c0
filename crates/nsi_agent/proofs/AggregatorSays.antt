-- What an aggregator says goes in its own name: a request to the child of a way, all else to the owner of a record, or to whom
-- a request came from.
use Rattle.std.proofs.Common.{◌≡◌, ◌<◌, ◌+◌, ◌⊎◌, inl, inr, ◌&&◌, ◌∙◌, ℕ, zero, suc, Bool, true, false, List, [], ◌∷◌, ◌++◌, length, Option, Some, None, IfSome, refl, sym, subst, arith, is_none, eqb, bytes_eq}
use Rattle.std.specs.Option.{option_map}
use Rattle.std.specs.List.{All, list_any}
use Rattle.std.proofs.lemmas.List.{length_push}
use Rattle.std.proofs.lemmas.List.Elements.{All-nil, All-cons, All-append, All-head, All-tail, All-set, All-get_or, All-map, All-weaker}
use Rattle.std.proofs.lemmas.List.Quantifiers.{position-Some}
use Rattle.nsi_primitive.specs.Ids.{id_of}
use Rattle.nsi_primitive.specs.Messages.{is_request, kind_of, connection_of, is_query}
use Rattle.nsi_primitive.specs.declared.entry.Input.{Input}
use Rattle.nsi_primitive.specs.declared.kind.ErrorName.{ErrorName}
use Rattle.nsi_primitive.specs.declared.kind.Kind.{Kind}
use Rattle.nsi_primitive.specs.declared.plane.Plane.{Plane}
use Rattle.nsi_primitive.specs.declared.state.Lsm.{Lsm}
use Rattle.nsi_primitive.specs.declared.state.Side.{Side}
use Rattle.nsi_primitive.specs.declared.message.Body.{Body}
use Rattle.nsi_primitive.specs.declared.message.Criteria.{Criteria}
use Rattle.nsi_primitive.specs.declared.message.Message.{Message}
use Rattle.nsi_primitive.specs.declared.message.ReserveRequest.{ReserveRequest}
use Rattle.nsi_primitive.specs.declared.message.Service.{Service}
use Rattle.dataplane_state.specs.Plane.{announces}
use Rattle.connection_record.specs.declared.record.Record.{Record}
use Rattle.connection_record.specs.declared.moves.Reply.{Reply}
use Rattle.connection_record.specs.Demand.{last}
use Rattle.connection_record.specs.Later.{IsLater}
use Rattle.connection_record.specs.Lives.{lives_if, provisions_if}
use Rattle.connection_record.specs.Moves.{is_live, reserves_if}
use Rattle.connection_record.specs.Refusal.{refusal, place_of, points_of}
use Rattle.connection_record.specs.Replies.{Moved, addressed, plain}
use Rattle.connection_record.specs.Applied.{reservation_closing, provision_closing, closes, moves_if, requested, is_terminating, schedule_end, tells_plane}
use Rattle.connection_record.proofs.Growing.{later_refl, later_trans, reserves_if_later, provisions_if_later, lives_if_later, closes_later, moves_if_later, tells_plane_later}
use Rattle.child_connection.specs.declared.state.Sent.{Sent}
use Rattle.child_connection.specs.Views.{ChildConnection, open_request}
use Rattle.child_connection.specs.Asks.{request_about, to_child}
use Rattle.child_connection.specs.Hearing.{hear}
use Rattle.agent_state.specs.declared.parent.Due.{Due}
use Rattle.agent_state.specs.declared.parent.Leg.{Leg}
use Rattle.agent_state.specs.declared.parent.OpenQuery.{OpenQuery}
use Rattle.agent_state.specs.Entries.{error_reply, query_reply, is_recursive}
use Rattle.agent_state.specs.State.{AgentState, AgentStepped, stays, sends, no_record, record_at, children_at}
use Rattle.aggregator_agent.specs.declared.agent.Agent.{Agent}
use Rattle.aggregator_agent.specs.Asking.{Turn, Asked, Asking, begin, replies_by, notices_by, notices_under, asks_by, ask_one, asked_view, each, if_free, if_apart, request_if, may_abort, reserve_if, passed_on, pass_one, pass_each, view_of, views_of, with_path}
use Rattle.aggregator_agent.specs.Settling.{reservation_due, is_quiet, provision_due, settles_reservation, settles_provision, is_there, closes_unless, settles, settle}
use Rattle.aggregator_agent.specs.Turns.{joined_of, tell_joined, pass_on, takes, turn_by_request, request_turn, loses, breaks, late_terminate, hear_one, hear_each, hold_end_by, force_by, hold_ends, force_ends, heard_by, turn_by_answer, answer_turn, spoken}
use Rattle.aggregator_agent.specs.Clock.{Told, tells_late, tell_one, tell_all, is_late_of, ends, clocked, clock_then, clock_all}
use Rattle.aggregator_agent.specs.Setting.{Setting}
use Rattle.aggregator_agent.specs.Steps.{step, receives, answers, accepts, opens, opens_between, with_new, request_to, request_at, children_for, hears, hear_all, pass_then, ticks, sees, is_seen, opens_query, asks_below, asks_if_own, place_named, queries, serves}
use Rattle.provider_agent.proofs.EachSays.{EachReply, both_said, closes_each}
use Rattle.nsi_agent.proofs.ProviderSays.{AsksNothing, reserves_if_answers, provisions_if_answers, lives_if_answers, lives_answers, moves_if_answers, IsHeaded, IsAnswer, IsOwed, addressed_headed, both_answer, addressed_answers, CameFor}
use Rattle.nsi_agent.proofs.RequesterSays.{AreLaws, about_asks}
use Rattle.nsi_agent.proofs.Below.{IsChild, IsRequestTo, IsOpen, sought_asked, below_heard}
use Rattle.aggregator_agent.specs.Queries.{answer_to}
use Rattle.aggregator_agent.specs.Below.{Sought, is_asked, seek, opened, nested_reply, hear_below}
use Rattle.agent_state.proofs.Querying.{reply_header}
use Rattle.aggregator_agent.proofs.Queried.{reply_asks_nothing}
use Rattle.nsi_primitive.specs.declared.message.Header.{Header}

abbrev pub IsMine : List ℕ → (List ℕ → Type 0) → (List ℕ → Type 0) → Message → Type 0
IsMine name to owed m = IsAnswer name owed m ⊎ IsRequestTo name to m

---- Records

closed_later : (b : Bool) (agent : Agent) (now : ℕ) (own : Record) → IsLater own (closes_unless b agent now own).rec
unfolding closes_unless
closed_later true agent now own = later_refl own
closed_later false agent now own = closes_later agent.name Side.Aggregator now own

both_later : (agent : Agent) (now : ℕ) (xs : List ChildConnection) (own : Record) → IsLater own (settles_provision agent now xs (settles_reservation agent now xs own).rec).rec
unfolding settles_reservation settles_provision
both_later agent now xs own =
    let o = reservation_due (is_quiet Kind.Reserve xs) own.rsm agent.name xs in
    let x = reserves_if o now own in
    let p = provision_due (is_quiet Kind.Provision xs) x.rec.psm agent.name xs in
    later_trans own x.rec (provisions_if Side.Aggregator p now x.rec).rec (reserves_if_later o now own) (provisions_if_later Side.Aggregator p now x.rec)

settles_later : (state : Lsm) (agent : Agent) (now : ℕ) (xs : List ChildConnection) (own : Record) → IsLater own (settles state agent now xs own).rec
unfolding settles
settles_later Lsm.Terminating agent now xs own = closed_later (list_any is_there xs) agent now own
settles_later Lsm.Terminated agent now xs own = later_refl own
settles_later Lsm.Created agent now xs own = both_later agent now xs own
settles_later Lsm.Failed agent now xs own = both_later agent now xs own
settles_later Lsm.PassedEndTime agent now xs own = both_later agent now xs own

closes_answers : (agent : List ℕ) (side : Side) (now : ℕ) (r : Record) → EachReply AsksNothing (closes agent side now r).out
closes_answers agent side now r = closes_each AsksNothing agent side now r
    (λ x. reserves_if_answers (reservation_closing x.rsm (plain agent ErrorName.Gone)) now x)
    (λ x. provisions_if_answers side (provision_closing x.psm (plain agent ErrorName.Gone)) now x)
    (λ x. lives_answers x.lsm _ now x)

closed_answers : (b : Bool) (agent : Agent) (now : ℕ) (own : Record) → EachReply AsksNothing (closes_unless b agent now own).out
unfolding closes_unless
closed_answers true agent now own = tt
closed_answers false agent now own = closes_answers agent.name Side.Aggregator now own

both_answers : (agent : Agent) (now : ℕ) (xs : List ChildConnection) (own : Record) → EachReply AsksNothing ((settles_reservation agent now xs own).out ++ (settles_provision agent now xs (settles_reservation agent now xs own).rec).out)
unfolding settles_reservation settles_provision
both_answers agent now xs own =
    let o = reservation_due (is_quiet Kind.Reserve xs) own.rsm agent.name xs in
    let x = reserves_if o now own in
    let p = provision_due (is_quiet Kind.Provision xs) x.rec.psm agent.name xs in
    both_said AsksNothing x.out (provisions_if Side.Aggregator p now x.rec).out (reserves_if_answers o now own) (provisions_if_answers Side.Aggregator p now x.rec)

settles_answers : (state : Lsm) (agent : Agent) (now : ℕ) (xs : List ChildConnection) (own : Record) → EachReply AsksNothing (settles state agent now xs own).out
unfolding settles
settles_answers Lsm.Terminating agent now xs own = closed_answers (list_any is_there xs) agent now own
settles_answers Lsm.Terminated agent now xs own = tt
settles_answers Lsm.Created agent now xs own = both_answers agent now xs own
settles_answers Lsm.Failed agent now xs own = both_answers agent now xs own
settles_answers Lsm.PassedEndTime agent now xs own = both_answers agent now xs own

tells_answers : (b : Bool) (p : Plane) (c now : ℕ) (r : Record) → EachReply AsksNothing (tells_plane b p c now r).out
unfolding tells_plane
tells_answers true p c now r = (refl, tt)
tells_answers false p c now r = tt

---- A turn

-- a connection in the course of an entry
record IsTurned (name : List ℕ) (to : List ℕ → Type 0) (owner : List ℕ) (t : Turn) : Type 0 where
  mine : t.own.owner ≡ owner
  children : All (IsChild to) t.children
  replies : EachReply AsksNothing t.replies
  asked : All (IsRequestTo name to) t.asked
  notices : EachReply AsksNothing t.notices

-- what children are asked
record IsAsked (name : List ℕ) (to : List ℕ → Type 0) (children : List ChildConnection) (asked : List Message) : Type 0 where
  views : All (IsChild to) children
  requests : All (IsRequestTo name to) asked

-- a body that is asked is that of a request
abbrev IsAsk : Option Body → Type 0
IsAsk o = IfSome o (λ b. is_request b ≡ true)

free_ask : (o : Option Sent) (body : Option Body) → IsAsk body → IsAsk (if_free o body)
free_ask None body p = p
free_ask (Some q) body p = tt

known_ask : (o : Option ℕ) (k : Kind) → IsAsk (option_map (λ id. request_about k id) o)
known_ask None k = tt
known_ask (Some id) k = about_asks k id

request_ask : (b : Bool) (k : Kind) (x : ChildConnection) → IsAsk (request_if b k x)
unfolding request_if
request_ask true k x = free_ask (open_request k x) (option_map (λ id. request_about k id) x.connection) (known_ask x.connection k)
request_ask false k x = tt

apart_ask : (b : Bool) (body : Option Body) → IsAsk body → IsAsk (if_apart b body)
apart_ask true body p = tt
apart_ask false body p = p

reserve_ask : (o : Option Criteria) (s : Service) (x : ChildConnection) → IsAsk (reserve_if o s x)
unfolding reserve_if
reserve_ask None s x = tt
reserve_ask (Some c) s x = free_ask (open_request Kind.Reserve x) _ (apart_ask (bytes_eq x.source x.dest) _ refl)

passed_ask : (body : Body) (own : Record) (x : ChildConnection) → IsAsk (passed_on body own x)
unfolding passed_on
passed_ask (Body.Reserve q) own x = reserve_ask own.pending own.service x
passed_ask (Body.ReserveCommit id) own x = request_ask true Kind.ReserveCommit x
passed_ask (Body.ReserveAbort id) own x = request_ask (may_abort x.phase) Kind.ReserveAbort x
passed_ask (Body.Provision id) own x = request_ask true Kind.Provision x
passed_ask (Body.Release id) own x = request_ask true Kind.Release x
passed_ask (Body.Terminate id) own x = request_ask true Kind.Terminate x
passed_ask _ own x = tt

module _ (laws : AreLaws) (to : List ℕ → Type 0) where
  one_asked : (body : Option Body) (k : Kind) (agent : Agent) (next : ℕ) (x : ChildConnection) → IsAsk body → to x.child → IsAsked agent.name to ((ask_one body k agent next x).child ∷ []) (ask_one body k agent next x).asked
  unfolding asked_view
  one_asked None k agent next x p c = record { views = All-cons (IsChild to) x [] c (All-nil (IsChild to)); requests = All-nil (IsRequestTo agent.name to) }
  one_asked (Some b) k agent next x p c =
      let id = id_of agent.number next in
      record {
        views = All-cons (IsChild to) _ [] (subst to (sym (laws.asks k id x).child) c) (All-nil (IsChild to));
        requests = All-cons (IsRequestTo agent.name to) (to_child agent.name id x b) [] (p, refl, c) (All-nil (IsRequestTo agent.name to));
      }

  each_asked : (name : List ℕ) (does : ℕ → ChildConnection → Asked) → ((n : ℕ) (x : ChildConnection) → to x.child → IsAsked name to ((does n x).child ∷ []) (does n x).asked) → (next : ℕ) (xs : List ChildConnection) → All (IsChild to) xs
      → IsAsked name to (each does next xs).children (each does next xs).asked
  unfolding each
  each_asked name does one next [] all = record { views = All-nil (IsChild to); requests = All-nil (IsRequestTo name to) }
  each_asked name does one next (x ∷ xs) all =
      let a = one next x (All-head (IsChild to) x xs all) in
      let rest = each_asked name does one (does next x).next xs (All-tail (IsChild to) x xs all) in
      record {
        views = All-cons (IsChild to) (does next x).child (each does (does next x).next xs).children (All-head (IsChild to) (does next x).child [] a.views) rest.views;
        requests = All-append (IsRequestTo name to) (does next x).asked (each does (does next x).next xs).asked a.requests rest.requests;
      }

  module _ (agent : Agent) (owner : List ℕ) where
    replies_turned : (t : Turn) (x : Moved) → x.rec.owner ≡ t.own.owner → EachReply AsksNothing x.out → IsTurned agent.name to owner t → IsTurned agent.name to owner (replies_by t x)
    replies_turned t x e p h = record { mine = e ∙ h.mine; children = h.children; replies = both_said AsksNothing t.replies x.out h.replies p; asked = h.asked; notices = h.notices }

    notices_turned : (t : Turn) (x : Moved) → x.rec.owner ≡ t.own.owner → EachReply AsksNothing x.out → IsTurned agent.name to owner t → IsTurned agent.name to owner (notices_by t x)
    notices_turned t x e p h = record { mine = e ∙ h.mine; children = h.children; replies = h.replies; asked = h.asked; notices = both_said AsksNothing t.notices x.out h.notices p }

    under_turned : (t : Turn) (x : Moved) → x.rec.owner ≡ t.own.owner → EachReply AsksNothing x.out → IsTurned agent.name to owner t → IsTurned agent.name to owner (notices_under t x)
    under_turned t x e p h = record { mine = e ∙ h.mine; children = h.children; replies = h.replies; asked = h.asked; notices = both_said AsksNothing t.notices x.out h.notices p }

    asks_turned : (t : Turn) (a : Asking) → IsAsked agent.name to a.children a.asked → IsTurned agent.name to owner t → IsTurned agent.name to owner (asks_by t a)
    asks_turned t a p h = record { mine = h.mine; children = p.views; replies = h.replies; asked = All-append (IsRequestTo agent.name to) t.asked a.asked h.asked p.requests; notices = h.notices }

    settle_turned : (now : ℕ) (t : Turn) → IsTurned agent.name to owner t → IsTurned agent.name to owner (settle agent now t)
    unfolding settle
    settle_turned now t h = replies_turned t (settles t.own.lsm agent now t.children t.own) (settles_later t.own.lsm agent now t.children t.own).owner (settles_answers t.own.lsm agent now t.children t.own) h

    tell_turned : (before : Plane) (now : ℕ) (t : Turn) → IsTurned agent.name to owner t → IsTurned agent.name to owner (tell_joined before agent now t)
    unfolding tell_joined
    tell_turned before now t h =
        let b = announces before (joined_of t.children) in
        let c = id_of agent.number t.next in
        under_turned t (tells_plane b (joined_of t.children) c now t.own) (tells_plane_later b (joined_of t.children) c now t.own).owner (tells_answers b (joined_of t.children) c now t.own) h

    takes_turned : (m : Message) (now : ℕ) (t : Turn) → IsTurned agent.name to owner t → IsTurned agent.name to owner (replies_by t (takes m now t.own))
    unfolding takes
    takes_turned m now t h =
        let o = requested now m.body m.header.correlation t.own in
        replies_turned t (moves_if Side.Aggregator o now t.own) (moves_if_later Side.Aggregator o now t.own).owner (moves_if_answers Side.Aggregator o now t.own) h

    pass_turned : (m : Message) (t : Turn) → IsTurned agent.name to owner t → IsTurned agent.name to owner (pass_on m agent t)
    unfolding pass_on
    pass_turned m t h = asks_turned t (pass_each m agent t.own t.next t.children)
        (each_asked agent.name (λ n x. pass_one m agent t.own n x) (λ n x c. one_asked (passed_on m.body t.own x) (kind_of m.body) agent n x (passed_ask m.body t.own x) c) t.next t.children h.children) h

    heard_turned : (m : Message) (t : Turn) → IsTurned agent.name to owner t → IsTurned agent.name to owner (heard_by m agent t)
    unfolding heard_by
    heard_turned m t h =
        let is_ending = is_terminating t.own.lsm in
        asks_turned t (hear_each is_ending m agent t.next t.children)
        (each_asked agent.name (λ n x. hear_one is_ending m agent n x) (λ n x c. one_asked (late_terminate is_ending m x) Kind.Terminate agent n (hear m x).view (request_ask (is_ending && is_none x.connection) Kind.Terminate (hear m x).view) (subst to (sym (laws.messages m x).child) c)) t.next t.children h.children) h

    hold_turned : (b : Bool) (m : Message) (now : ℕ) (t : Turn) → IsTurned agent.name to owner t → IsTurned agent.name to owner (hold_ends b m now t)
    unfolding hold_ends
    hold_turned b m now t h =
        let o = hold_end_by (b && is_live t.own.lsm) m.body in
        notices_turned t (reserves_if o now t.own) (reserves_if_later o now t.own).owner (reserves_if_answers o now t.own) h

    force_turned : (b : Bool) (m : Message) (now : ℕ) (t : Turn) → IsTurned agent.name to owner t → IsTurned agent.name to owner (force_ends b m agent now t)
    unfolding force_ends
    force_turned b m now t h =
        let o = force_by b (id_of agent.number t.next) m.body in
        under_turned t (lives_if o now t.own) (lives_if_later o now t.own).owner (lives_if_answers o now t.own) h

    begin_turned : (own : Record) (xs : List ChildConnection) (next : ℕ) → own.owner ≡ owner → All (IsChild to) xs → IsTurned agent.name to owner (begin own xs next)
    begin_turned own xs next e all = record { mine = e; children = all; replies = tt; asked = All-nil (IsRequestTo agent.name to); notices = tt }

    request_turned : (now : ℕ) (m : Message) (own : Record) (xs : List ChildConnection) (next : ℕ) → own.owner ≡ owner → All (IsChild to) xs → IsTurned agent.name to owner (request_turn agent now m own xs next)
    unfolding request_turn turn_by_request
    request_turned now m own xs next e all =
        tell_turned (joined_of xs) now _ (settle_turned now _ (pass_turned m _ (takes_turned m now (begin own xs next) (begin_turned own xs next e all))))

    answer_turned : (now : ℕ) (m : Message) (own : Record) (xs : List ChildConnection) (next : ℕ) → own.owner ≡ owner → All (IsChild to) xs → IsTurned agent.name to owner (answer_turn agent now m own xs next)
    unfolding answer_turn turn_by_answer
    answer_turned now m own xs next e all =
        tell_turned (joined_of xs) now _ (settle_turned now _ (force_turned (list_any (breaks m) xs) m now _ (hold_turned (list_any (loses m) xs) m now _ (heard_turned m (begin own xs next) (begin_turned own xs next e all)))))

---- What is said

module _ (name : List ℕ) (to owed : List ℕ → Type 0) where
  answers_mine : (ms : List Message) → All (IsAnswer name owed) ms → All (IsMine name to owed) ms
  answers_mine ms all = All-weaker (IsAnswer name owed) (IsMine name to owed) (λ m a. inl a) ms all

  replies_mine : (owner : List ℕ) (replies : List Reply) → owed owner → EachReply AsksNothing replies → All (IsMine name to owed) (addressed name owner replies)
  replies_mine owner replies p q =
      answers_mine (addressed name owner replies)
      (both_answer name owed (addressed name owner replies) (addressed_answers name owner replies q) (addressed_headed name owed owner replies p))

  requests_mine : (ms : List Message) → All (IsRequestTo name to) ms → All (IsMine name to owed) ms
  requests_mine ms all = All-weaker (IsRequestTo name to) (IsMine name to owed) (λ m a. inr a) ms all

spoken_mine : (agent : Agent) (to owed : List ℕ → Type 0) (owner : List ℕ) (t : Turn) → owed owner → IsTurned agent.name to owner t → All (IsMine agent.name to owed) (spoken agent t)
unfolding spoken
spoken_mine agent to owed owner t p h =
    let mine : owed t.own.owner = subst owed (sym h.mine) p in
    All-append (IsMine agent.name to owed) (addressed agent.name t.own.owner t.replies) (t.asked ++ addressed agent.name t.own.owner t.notices) (replies_mine agent.name to owed t.own.owner t.replies mine h.replies)
    (All-append (IsMine agent.name to owed) t.asked (addressed agent.name t.own.owner t.notices) (requests_mine agent.name to owed t.asked h.asked) (replies_mine agent.name to owed t.own.owner t.notices mine h.notices))

---- A tick

late_answers : (delivery c now : ℕ) (r : Record) → EachReply AsksNothing (tells_late delivery c now r).out
unfolding tells_late
late_answers delivery c now r = (refl, tt)

late_owner : (delivery c now : ℕ) (r : Record) → (tells_late delivery c now r).rec.owner ≡ r.owner
unfolding tells_late
late_owner delivery c now r = refl

record IsTold (r : Record) (t : Told) : Type 0 where
  mine : t.own.owner ≡ r.owner
  says : EachReply AsksNothing t.out

one_told : (b : Bool) (agent : Agent) (now next : ℕ) (r : Record) (d : Due) (rest : Record → ℕ → Told) → ((s : Record) (n : ℕ) → IsTold s (rest s n)) → IsTold r (tell_one b agent now next r d rest)
unfolding tell_one
one_told true agent now next r d rest p =
    let x = tells_late d.correlation (id_of agent.number next) now r in
    let more = p x.rec (next + 1) in
    record { mine = more.mine ∙ late_owner d.correlation (id_of agent.number next) now r; says = both_said AsksNothing x.out (rest x.rec (next + 1)).out (late_answers d.correlation (id_of agent.number next) now r) more.says }
one_told false agent now next r d rest p = p r next

all_told : (ds : List Due) (agent : Agent) (now number : ℕ) (waiting : List Message) (r : Record) (next : ℕ) → IsTold r (tell_all ds agent now number waiting r next)
unfolding tell_all
all_told [] agent now number waiting r next = record { mine = refl; says = tt }
all_told (d ∷ ds) agent now number waiting r next = one_told (is_late_of number now waiting d) agent now next r d (λ s n. tell_all ds agent now number waiting s n) (λ s n. all_told ds agent now number waiting s n)

ended_told : (b : Bool) (now : ℕ) (r : Record) → ((ends b now r).rec.owner ≡ r.owner) × EachReply AsksNothing (ends b now r).out
unfolding ends
ended_told true now r = ((lives_if_later (schedule_end (last r.committed) now) now r).owner, lives_if_answers (schedule_end (last r.committed) now) now r)
ended_told false now r = (refl, tt)

clocked_told : (agent : Agent) (now number : ℕ) (ds : List Due) (waiting : List Message) (r : Record) (next : ℕ) → IsTold r (clocked agent now number ds waiting r next)
unfolding clocked
clocked_told agent now number ds waiting r next =
    let x = ends (is_live r.lsm) now r in
    let ended = ended_told (is_live r.lsm) now r in
    let told = all_told ds agent now number waiting x.rec next in
    record { mine = told.mine ∙ ended.0; says = both_said AsksNothing x.out (tell_all ds agent now number waiting x.rec next).out ended.1 told.says }

---- All connections

-- records and views after an entry, or a part of one, and what is said
pub record IsSaid (name : List ℕ) (to owed : List ℕ → Type 0) (rs : List Record) (xss : List (List ChildConnection)) (out : List Message) : Type 0 where
  pub owners : All (IsOwed owed) rs
  pub children : All (λ xs. All (IsChild to) xs) xss
  pub says : All (IsMine name to owed) out

clocked_said : (agent : Agent) (to owed : List ℕ → Type 0) (now number : ℕ) (ds : List Due) (waiting : List Message) (next : ℕ) (rs : List Record) (xss : List (List ChildConnection)) → All (IsOwed owed) rs → All (λ xs. All (IsChild to) xs) xss
    → IsSaid agent.name to owed (clock_all agent now number ds waiting next rs).records xss (clock_all agent now number ds waiting next rs).out
unfolding clock_all clock_then
clocked_said agent to owed now number ds waiting next [] xss all views = record { owners = All-nil (IsOwed owed); children = views; says = All-nil (IsMine agent.name to owed) }
clocked_said agent to owed now number ds waiting next (r ∷ rs) xss all views =
    let t = clocked agent now number ds waiting r next in
    let told = clocked_told agent now number ds waiting r next in
    let mine : owed t.own.owner = subst owed (sym told.mine) (All-head (IsOwed owed) r rs all) in
    let behind = clock_all agent now (number + 1) ds waiting t.next rs in
    let rest = clocked_said agent to owed now (number + 1) ds waiting t.next rs xss (All-tail (IsOwed owed) r rs all) views in
    record {
      owners = All-cons (IsOwed owed) t.own behind.records mine rest.owners;
      children = rest.children;
      says = All-append (IsMine agent.name to owed) (addressed agent.name t.own.owner t.out) behind.out (replies_mine agent.name to owed t.own.owner t.out mine told.says) rest.says;
    }

module _ (laws : AreLaws) (to owed : List ℕ → Type 0) where
  heard_said : (agent : Agent) (now number : ℕ) (m : Message) (next : ℕ) (rs : List Record) (xss : List (List ChildConnection)) → All (IsOwed owed) rs → All (λ xs. All (IsChild to) xs) xss
      → IsSaid agent.name to owed (hear_all agent now number m next rs xss).records (hear_all agent now number m next rs xss).children (hear_all agent now number m next rs xss).out
  unfolding hear_all pass_then
  heard_said agent now number m next [] xss all views = record { owners = all; children = views; says = All-nil (IsMine agent.name to owed) }
  heard_said agent now number m next (r ∷ rs) [] all views = record { owners = all; children = views; says = All-nil (IsMine agent.name to owed) }
  heard_said agent now number m next (r ∷ rs) (xs ∷ xss) all views =
      let t = answer_turn agent now m r xs next in
      let mine = All-head (IsOwed owed) r rs all in
      let turned = answer_turned laws to agent r.owner now m r xs next refl (All-head (λ ys. All (IsChild to) ys) xs xss views) in
      let behind = hear_all agent now (number + 1) m t.next rs xss in
      let rest = heard_said agent now (number + 1) m t.next rs xss (All-tail (IsOwed owed) r rs all) (All-tail (λ ys. All (IsChild to) ys) xs xss views) in
      record {
        owners = All-cons (IsOwed owed) t.own behind.records (subst owed (sym turned.mine) mine) rest.owners;
        children = All-cons (λ ys. All (IsChild to) ys) t.children behind.children turned.children rest.children;
        says = All-append (IsMine agent.name to owed) (spoken agent t) behind.out (spoken_mine agent to owed r.owner t mine turned) rest.says;
      }

---- One entry

-- whose the records are, of whom the views, and under which headers the queries wait
pub record AreHeld (name : List ℕ) (to owed : List ℕ → Type 0) (rs : List Record) (xss : List (List ChildConnection)) (qs : List OpenQuery) : Type 0 where
  pub owners : All (IsOwed owed) rs
  pub children : All (λ xs. All (IsChild to) xs) xss
  pub queries : All (IsOpen name owed) qs

abbrev pub IsHeld : List ℕ → (List ℕ → Type 0) → (List ℕ → Type 0) → AgentState → Type 0
IsHeld name to owed s = AreHeld name to owed s.base.records s.children s.queries

pub record IsSaying (setting : Setting) (to owed : List ℕ → Type 0) (x : AgentStepped) : Type 0 where
  pub held : IsHeld setting.agent.name to owed x.state
  pub says : All (IsMine setting.agent.name to owed) x.out

views_at : (to : List ℕ → Type 0) (n : ℕ) (xss : List (List ChildConnection)) → All (λ xs. All (IsChild to) xs) xss → All (IsChild to) (children_at n xss)
views_at to n [] views = All-nil (IsChild to)
views_at to zero (xs ∷ xss) views = All-head (λ ys. All (IsChild to) ys) xs xss views
views_at to (suc n) (xs ∷ xss) views = views_at to n xss (All-tail (λ ys. All (IsChild to) ys) xs xss views)

path_views : (to : List ℕ → Type 0) (body : Body) (xs : List ChildConnection) (legs : List Leg) → All (λ leg. to leg.child) legs → All (IsChild to) xs → All (IsChild to) (with_path body xs legs)
unfolding with_path views_of
path_views to (Body.Reserve q) [] legs p all = All-map (IsChild to) view_of legs p
path_views to (Body.Reserve q) (x ∷ xs) legs p all = all
path_views to _ xs legs p all = all

module _ (laws : AreLaws) (setting : Setting) (to owed : List ℕ → Type 0) (ways : (source dest : ℕ) → All (λ leg. to leg.child) (setting.route source dest)) where
  abbrev Holds : AgentState → Type 0
  Holds s = IsHeld setting.agent.name to owed s

  abbrev Says : AgentStepped → Type 0
  Says x = IsSaying setting to owed x

  abbrev Mine : Message → Type 0
  Mine m = IsMine setting.agent.name to owed m

  stays_saying : (s : AgentState) → Holds s → Says (stays s)
  stays_saying s held = record { held = held; says = All-nil Mine }

  -- one answer, under the header of what came
  one_saying : (s : AgentState) (m : Message) → Holds s → Mine m → Says (sends s (m ∷ []))
  one_saying s m held mine = record { held = held; says = All-cons Mine m [] mine (All-nil Mine) }

  at_saying : (s : AgentState) (n : ℕ) (m : Message) → n < length s.base.records → Holds s → Says (request_at setting s n m)
  unfolding request_at
  at_saying s n m lt held =
      let own = record_at n s.base.records in
      let xs = children_for setting s n m in
      let t = request_turn setting.agent s.base.now m own xs s.base.next in
      let mine : owed own.owner = All-get_or (IsOwed owed) s.base.records n no_record lt held.owners in
      let turned = request_turned laws to setting.agent own.owner s.base.now m own xs s.base.next refl (path_views to m.body (children_at n s.children) (setting.route own.source own.dest) (ways own.source own.dest) (views_at to n s.children held.children)) in
      record {
        held =
            record {
              owners = All-set (IsOwed owed) s.base.records n t.own (subst owed (sym turned.mine) mine) held.owners;
              children = All-set (λ ys. All (IsChild to) ys) s.children n t.children turned.children held.children;
              queries = held.queries;
            };
        says = spoken_mine setting.agent to owed own.owner t mine turned;
      }

  more_within : (s : AgentState) (m : Message) (q : ReserveRequest) (points : ℕ × ℕ) → length s.base.records < length (with_new setting s m q points).base.records
  more_within s m q points = grind (arith, length_push)

  between_saying : (o : Option (ℕ × ℕ)) (s : AgentState) (m : Message) (q : ReserveRequest) → Holds s → owed m.header.requester → Says (opens_between o setting s m q)
  between_saying None s m q held came = stays_saying s held
  between_saying (Some points) s m q held came =
      at_saying (with_new setting s m q points) (length s.base.records) m (more_within s m q points)
      (record {
        owners = All-append (IsOwed owed) s.base.records _ held.owners (All-cons (IsOwed owed) _ [] came (All-nil (IsOwed owed)));
        children =
            All-append (λ ys. All (IsChild to) ys) s.children ([] ∷ []) held.children (All-cons (λ ys. All (IsChild to) ys) [] [] (All-nil (IsChild to)) (All-nil (λ ys. All (IsChild to) ys)));
        queries = held.queries;
      })

  opens_saying : (body : Body) (s : AgentState) (m : Message) → Holds s → owed m.header.requester → Says (opens body setting s m)
  opens_saying (Body.Reserve q) s m held came = between_saying (points_of setting.stp_of q) s m q held came
  opens_saying _ s m held came = stays_saying s held

  to_saying : (o : Option ℕ) (s : AgentState) (m : Message) (id : ℕ) → place_of id m.header.requester s.base.records ≡ o → Holds s → Says (request_to o setting s m)
  to_saying None s m id e held = stays_saying s held
  to_saying (Some n) s m id e held = at_saying s n m (position-Some (λ r. eqb id r.id && bytes_eq m.header.requester r.owner) s.base.records n no_record e).0 held

  accepts_saying : (o : Option ℕ) (s : AgentState) (m : Message) → Holds s → owed m.header.requester → Says (accepts o setting s m)
  accepts_saying None s m held came = opens_saying m.body s m held came
  accepts_saying (Some id) s m held came = to_saying (place_of id m.header.requester s.base.records) s m id refl held

  answers_saying : (o : Option ErrorName) (s : AgentState) (m : Message) → Holds s → IsHeaded setting.agent.name owed m → Says (answers o setting s m)
  unfolding answers
  answers_saying (Some error) s m held came = one_saying s (error_reply setting.agent.name m error) held (inl (refl, came))
  answers_saying None s m held came = accepts_saying (connection_of m.body) s m held came.1

  sought_saying : (waits : Bool) (s : AgentState) (n : ℕ) (m : Message) (x : Sought) → Holds s → IsHeaded setting.agent.name owed m → All (IsRequestTo setting.agent.name to) x.asked → Says (opens_query waits setting s n m x)
  sought_saying true s n m x held came asked =
      let name = setting.agent.name in
      record {
        held =
            record {
              owners = held.owners;
              children = held.children;
              queries = All-append (IsOpen name owed) s.queries (opened m n x ∷ []) held.queries (All-cons (IsOpen name owed) (opened m n x) [] came (All-nil (IsOpen name owed)));
            };
        says = requests_mine name to owed x.asked asked;
      }
  sought_saying false s n m x held came asked = one_saying s (nested_reply setting.agent.name (record_at n s.base.records) (opened m n x)) held (inl (refl, came))

  below_saying : (s : AgentState) (n : ℕ) (m : Message) → Holds s → IsHeaded setting.agent.name owed m → Says (asks_below setting s n m)
  unfolding asks_below
  below_saying s n m held came =
      let x = seek setting.agent s.base.next (children_at n s.children) in
      sought_saying (list_any is_asked x.parts) s n m x held came (sought_asked to setting.agent s.base.next (children_at n s.children) (views_at to n s.children held.children))

  own_saying : (is_own : Bool) (o : Option ℕ) (s : AgentState) (m : Message) → Holds s → IsHeaded setting.agent.name owed m → Says (asks_if_own is_own o setting s m)
  own_saying true (Some n) s m held came = below_saying s n m held came
  own_saying true None s m held came = one_saying s (error_reply setting.agent.name m ErrorName.Nonexistent) held (inl (refl, came))
  own_saying false o s m held came = one_saying s (error_reply setting.agent.name m ErrorName.WrongProvider) held (inl (refl, came))

  queries_saying : (is_recursive : Bool) (s : AgentState) (m : Message) → Holds s → IsHeaded setting.agent.name owed m → Says (queries is_recursive setting s m)
  queries_saying true s m held came = own_saying (bytes_eq m.header.provider setting.agent.name) (place_named m s.base.records) s m held came
  queries_saying false s m held came =
      let reply = query_reply setting.agent.name m (answer_to setting.agent.name s m) in
      let headed = subst (λ (h : Header). (h.provider ≡ setting.agent.name) × owed h.requester) (sym (reply_header setting.agent.name m (answer_to setting.agent.name s m))) came in
      one_saying s reply held (inl (reply_asks_nothing setting.agent.name s m, headed))

  serves_saying : (is_query : Bool) (s : AgentState) (m : Message) → Holds s → IsHeaded setting.agent.name owed m → Says (serves is_query setting s m)
  serves_saying true s m held came = queries_saying (is_recursive m.body) s m held came
  serves_saying false s m held came = answers_saying (refusal s.base.now setting.agent.name setting.stp_of s.base.records m) s m held came

  hears_saying : (s : AgentState) (m : Message) → Holds s → Says (hears setting s m)
  unfolding hears
  hears_saying s m held =
      let name = setting.agent.name in
      let passed = hear_all setting.agent s.base.now 0 m s.base.next s.base.records s.children in
      let h = hear_below name s.base.records m s.queries in
      let all = heard_said laws to owed setting.agent s.base.now 0 m s.base.next s.base.records s.children held.owners held.children in
      let below = below_heard name owed s.base.records m s.queries held.queries in
      record {
        held = record { owners = all.owners; children = all.children; queries = below.queries };
        says = All-append Mine passed.out h.out all.says (answers_mine name to owed h.out below.says);
      }

  received_saying : (asks is_old : Bool) (s : AgentState) (m : Message) → is_request m.body ≡ asks → Holds s → (is_request m.body ≡ true → IsHeaded setting.agent.name owed m) → Says (receives asks is_old setting s m)
  unfolding receives
  received_saying true false s m e held came = serves_saying (is_query m.body) (sees m s) m held (came e)
  received_saying false false s m e held came = hears_saying (sees m s) m held
  received_saying true true s m e held came = stays_saying s held
  received_saying false true s m e held came = stays_saying s held

  pub step_saying : (input : Input) (second : ℕ) (s : AgentState) → Holds s → CameFor setting.agent.name owed input → Says (step input second setting s)
  unfolding step ticks
  step_saying (Input.Got m) second s held came = received_saying (is_request m.body) (is_seen s m) s m refl held came
  step_saying Input.Tick second s held came =
      let all = clocked_said setting.agent to owed second 0 s.dues s.base.waiting s.base.next s.base.records s.children held.owners held.children in
      record { held = record { owners = all.owners; children = all.children; queries = held.queries }; says = all.says }
  step_saying (Input.Acked i) second s held came = record { held = held; says = All-nil Mine }
  step_saying (Input.Work n machine) second s held came = stays_saying s held
  step_saying (Input.Force n) second s held came = stays_saying s held
  step_saying (Input.Ask n a) second s held came = stays_saying s held
