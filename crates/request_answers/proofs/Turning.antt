-- A turn of an aggregator's connection goes on with each request that its record works on, or answers it.
use Rattle.std.proofs.Common.{ℕ, ◌≡◌, inl, inr, ◌∙◌, Bool, true, false, ◌&&◌, ◌||◌, List, [], ◌++◌, refl, ap, arith}
use Rattle.std.specs.List.{list_any}
use Rattle.nsi_primitive.specs.Ids.{id_of}
use Rattle.nsi_primitive.specs.Messages.{kind_of}
use Rattle.nsi_primitive.specs.declared.kind.Kind.{Kind}
use Rattle.nsi_primitive.specs.declared.message.Body.{Body}
use Rattle.nsi_primitive.specs.declared.message.Message.{Message}
use Rattle.nsi_primitive.specs.declared.plane.Plane.{Plane}
use Rattle.nsi_primitive.specs.declared.state.Lsm.{Lsm}
use Rattle.nsi_primitive.specs.declared.state.Side.{Side}
use Rattle.dataplane_state.specs.Plane.{announces}
use Rattle.connection_record.specs.declared.record.Record.{Record}
use Rattle.connection_record.specs.Applied.{requested, tells_plane}
use Rattle.connection_record.specs.Lives.{lives_if}
use Rattle.connection_record.specs.Moves.{is_live, reserves_if}
use Rattle.connection_record.specs.Replies.{Moved, then_moves, addressed}
use Rattle.child_connection.specs.Views.{ChildConnection}
use Rattle.aggregator_agent.specs.declared.agent.Agent.{Agent}
use Rattle.aggregator_agent.specs.Asking.{Turn, begin, replies_by, notices_by}
use Rattle.aggregator_agent.specs.Settling.{is_quiet, reservation_due, provision_due, settles_reservation, settles_provision, is_there, closes_unless, settles, settle}
use Rattle.aggregator_agent.specs.Turns.{joined_of, tell_joined, pass_on, takes, turn_by_request, request_turn, loses, breaks, hold_end_by, force_by, hold_ends, force_ends, heard_by, turn_by_answer, answer_turn, spoken}
use Rattle.request_answers.specs.Open.{is_open}
use Rattle.request_answers.proofs.Carrying.{is_told_of, is_carried, Carries, IsGoingOn, told_append, carries_none, carries_then, reserves_if_carry, provisions_if_carry, lives_if_carry, closes_carry, moves_if_carry, requested_whole, plane_carries}
use Rattle.request_answers.proofs.Serving.{IsGone, answered_left, answered_right, told_message}

-- in the course of a turn a request is open still, or answered by its replies or notices
abbrev pub is_held : Kind → ℕ → Turn → Bool
is_held k c t = is_open k c t.own || (is_told_of k c t.replies || is_told_of k c t.notices)

abbrev pub Holds : Kind → ℕ → Turn → Type 0
Holds k c t = is_held k c t ≡ true

begun_holds : (k : Kind) (c : ℕ) (r : Record) (xs : List ChildConnection) (next : ℕ) → is_open k c r ≡ true → Holds k c (begin r xs next)
begun_holds k c r xs next h = ap (λ b. b || (is_told_of k c [] || is_told_of k c [])) h

replies_hold : (k : Kind) (c : ℕ) (t : Turn) (x : Moved) → Carries t.own x → Holds k c t → Holds k c (replies_by t x)
replies_hold k c t x carries h =
    ap (λ b. is_open k c x.rec || (b || is_told_of k c t.notices)) (told_append k c t.replies x.out)
    ∙ by (is_open k c t.own) (is_told_of k c t.replies) (is_told_of k c t.notices) (is_open k c x.rec) (is_told_of k c x.out) h (carries k c)
  where
    by : (a p q b s : Bool) → (a || (p || q)) ≡ true → (a ≡ true → (b || s) ≡ true) → (b || ((p || s) || q)) ≡ true
    by a p q true s h f = refl
    by a true q false s h f = refl
    by a false true false true h f = refl
    by a false true false false h f = refl
    by a false false false true h f = refl
    by true false false false false h f = f refl
    by false false false false false h f = h

notices_hold : (k : Kind) (c : ℕ) (t : Turn) (x : Moved) → Carries t.own x → Holds k c t → Holds k c (notices_by t x)
notices_hold k c t x carries h =
    ap (λ b. is_open k c x.rec || (is_told_of k c t.replies || b)) (told_append k c t.notices x.out)
    ∙ by (is_open k c t.own) (is_told_of k c t.replies) (is_told_of k c t.notices) (is_open k c x.rec) (is_told_of k c x.out) h (carries k c)
  where
    by : (a p q b s : Bool) → (a || (p || q)) ≡ true → (a ≡ true → (b || s) ≡ true) → (b || (p || (q || s))) ≡ true
    by a p q true s h f = refl
    by a true q false s h f = refl
    by a false true false s h f = refl
    by a false false false true h f = refl
    by true false false false false h f = f refl
    by false false false false false h f = h

---- What is due

both_carry : (agent : Agent) (now : ℕ) (xs : List ChildConnection) (r : Record) → Carries r (settles_reservation agent now xs r) × ((q : Record) → Carries q (settles_provision agent now xs q))
unfolding settles_reservation settles_provision
both_carry agent now xs r =
    (reserves_if_carry (reservation_due (is_quiet Kind.Reserve xs) r.rsm agent.name xs) now r, λ q. provisions_if_carry Side.Aggregator (provision_due (is_quiet Kind.Provision xs) q.psm agent.name xs) now q)

live_carry : (agent : Agent) (now : ℕ) (xs : List ChildConnection) (r : Record) → Carries r (then_moves (settles_reservation agent now xs r) (λ x. settles_provision agent now xs x))
live_carry agent now xs r =
    carries_then r (settles_reservation agent now xs r) (λ x. settles_provision agent now xs x) (both_carry agent now xs r).0 ((both_carry agent now xs r).1 (settles_reservation agent now xs r).rec)

close_carries : (b : Bool) (agent : Agent) (now : ℕ) (r : Record) → Carries r (closes_unless b agent now r)
unfolding closes_unless
close_carries true agent now r = carries_none r
close_carries false agent now r = closes_carry agent.name Side.Aggregator now r

settles_carry : (lsm : Lsm) (agent : Agent) (now : ℕ) (xs : List ChildConnection) (r : Record) → Carries r (settles lsm agent now xs r)
unfolding settles
settles_carry Lsm.Terminating agent now xs r = close_carries (list_any is_there xs) agent now r
settles_carry Lsm.Terminated agent now xs r = carries_none r
settles_carry Lsm.Created agent now xs r = live_carry agent now xs r
settles_carry Lsm.Failed agent now xs r = live_carry agent now xs r
settles_carry Lsm.PassedEndTime agent now xs r = live_carry agent now xs r

settle_holds : (agent : Agent) (now : ℕ) (k : Kind) (c : ℕ) (t : Turn) → Holds k c t → Holds k c (settle agent now t)
unfolding settle
settle_holds agent now k c t h = replies_hold k c t (settles t.own.lsm agent now t.children t.own) (settles_carry t.own.lsm agent now t.children t.own) h

tell_holds : (before : Plane) (agent : Agent) (now : ℕ) (k : Kind) (c : ℕ) (t : Turn) → Holds k c t → Holds k c (tell_joined before agent now t)
unfolding tell_joined
tell_holds before agent now k c t h =
    let told : Bool = announces before (joined_of t.children) in
    let d : ℕ = id_of agent.number t.next in
    notices_hold k c t (tells_plane told (joined_of t.children) d now t.own) (plane_carries told (joined_of t.children) d now t.own) h

---- A message of a child

-- the end of a connection below isn't that of the own one
force_goes_on : (b : Bool) (c : ℕ) (body : Body) → IsGoingOn (force_by b c body)
unfolding force_by
force_goes_on b c body = grind arith

hold_holds : (b : Bool) (m : Message) (now : ℕ) (k : Kind) (c : ℕ) (t : Turn) → Holds k c t → Holds k c (hold_ends b m now t)
unfolding hold_ends
hold_holds b m now k c t h =
    let o = hold_end_by (b && is_live t.own.lsm) m.body in
    notices_hold k c t (reserves_if o now t.own) (reserves_if_carry o now t.own) h

force_holds : (b : Bool) (m : Message) (agent : Agent) (now : ℕ) (k : Kind) (c : ℕ) (t : Turn) → Holds k c t → Holds k c (force_ends b m agent now t)
unfolding force_ends
force_holds b m agent now k c t h =
    let o = force_by b (id_of agent.number t.next) m.body in
    notices_hold k c t (lives_if o now t.own) (lives_if_carry o now t.own (force_goes_on b (id_of agent.number t.next) m.body)) h

heard_holds : (m : Message) (agent : Agent) (k : Kind) (c : ℕ) (t : Turn) → Holds k c t → Holds k c (heard_by m agent t)
unfolding heard_by
heard_holds m agent k c t h = h

pub answer_holds : (agent : Agent) (now : ℕ) (m : Message) (r : Record) (xs : List ChildConnection) (next : ℕ) (k : Kind) (c : ℕ) → is_open k c r ≡ true → Holds k c (answer_turn agent now m r xs next)
unfolding answer_turn turn_by_answer
answer_holds agent now m r xs next k c h =
    let t : Turn = begin r xs next in
    let heard : Holds k c (heard_by m agent t) = heard_holds m agent k c t (begun_holds k c r xs next h) in
    let lost = hold_holds (list_any (loses m) xs) m now k c (heard_by m agent t) heard in
    tell_holds (joined_of xs) agent now k c _ (settle_holds agent now k c _ (force_holds (list_any (breaks m) xs) m agent now k c _ lost))

---- A request

pass_holds : (m : Message) (agent : Agent) (k : Kind) (c : ℕ) (t : Turn) → Holds k c t → Holds k c (pass_on m agent t)
unfolding pass_on
pass_holds m agent k c t h = h

-- from where the own record has taken it
behind_holds : (agent : Agent) (now : ℕ) (m : Message) (r : Record) (xs : List ChildConnection) (next : ℕ) (k : Kind) (c : ℕ) → Holds k c (replies_by (begin r xs next) (takes m now r)) → Holds k c (request_turn agent now m r xs next)
unfolding request_turn turn_by_request
behind_holds agent now m r xs next k c h =
    tell_holds (joined_of xs) agent now k c _ (settle_holds agent now k c _ (pass_holds m agent k c (replies_by (begin r xs next) (takes m now r)) h))

takes_carry : (m : Message) (now : ℕ) (r : Record) → Carries r (takes m now r)
unfolding takes
takes_carry m now r = moves_if_carry Side.Aggregator (requested now m.body m.header.correlation r) now r (requested_whole now m.body m.header.correlation r)

pub request_holds : (agent : Agent) (now : ℕ) (m : Message) (r : Record) (xs : List ChildConnection) (next : ℕ) (k : Kind) (c : ℕ) → is_open k c r ≡ true → Holds k c (request_turn agent now m r xs next)
request_holds agent now m r xs next k c h = behind_holds agent now m r xs next k c (replies_hold k c (begin r xs next) (takes m now r) (takes_carry m now r) (begun_holds k c r xs next h))

-- the request itself
pub taken_holds : (agent : Agent) (now : ℕ) (m : Message) (r : Record) (xs : List ChildConnection) (next : ℕ) (k : Kind) (c : ℕ) → is_carried k c (takes m now r) ≡ true → Holds k c (request_turn agent now m r xs next)
unfolding is_told_of
taken_holds agent now m r xs next k c h = behind_holds agent now m r xs next k c (by (is_open k c (takes m now r).rec) (is_told_of k c (takes m now r).out) h)
  where
    by : (a b : Bool) → (a || b) ≡ true → (a || (b || false)) ≡ true
    by true b h = refl
    by false true h = refl
    by false false h = h

---- What is said

pub held_serves : (agent : Agent) (t : Turn) (m : Message) → t.own.owner ≡ m.header.requester → m.header.provider ≡ agent.name → Holds (kind_of m.body) m.header.correlation t → IsGone t.own (spoken agent t) m
unfolding spoken
held_serves agent t m o named h =
    by (is_open (kind_of m.body) m.header.correlation t.own) (is_told_of (kind_of m.body) m.header.correlation t.replies) (is_told_of (kind_of m.body) m.header.correlation t.notices) refl refl refl h
  where
    replies : List Message
    replies = addressed agent.name t.own.owner t.replies

    notices : List Message
    notices = addressed agent.name t.own.owner t.notices

    by : (a p q : Bool) → is_open (kind_of m.body) m.header.correlation t.own ≡ a → is_told_of (kind_of m.body) m.header.correlation t.replies ≡ p → is_told_of (kind_of m.body) m.header.correlation t.notices ≡ q →
        (a || (p || q)) ≡ true → IsGone t.own (replies ++ (t.asked ++ notices)) m
    by true p q a b c h = inr (a, o)
    by false true q a b c h = inl (answered_left m replies (t.asked ++ notices) (told_message agent.name t.own.owner m t.replies o named b))
    by false false true a b c h = inl (answered_right m replies (t.asked ++ notices) (answered_right m t.asked notices (told_message agent.name t.own.owner m t.notices o named c)))
    by false false false a b c h = absurd (cc)
