-- What a turn of an aggregator's connection says by itself is paid.
use Rattle.std.proofs.Common.{ℕ, ◌+◌, ◌≤◌, ◌≡◌, Bool, true, false, ◌&&◌, List, [], ◌∷◌, ◌++◌, Option, Some, None, refl, ap, arith}
use Rattle.std.specs.List.{list_any}
use Rattle.nsi_primitive.specs.Ids.{id_of}
use Rattle.nsi_primitive.specs.declared.kind.ErrorName.{ErrorName}
use Rattle.nsi_primitive.specs.declared.kind.Kind.{Kind}
use Rattle.nsi_primitive.specs.declared.message.Body.{Body}
use Rattle.nsi_primitive.specs.declared.message.Exception.{Exception}
use Rattle.nsi_primitive.specs.declared.message.Message.{Message}
use Rattle.nsi_primitive.specs.declared.plane.Plane.{Plane}
use Rattle.nsi_primitive.specs.declared.state.Rsm.{Rsm}
use Rattle.nsi_primitive.specs.declared.state.Psm.{Psm}
use Rattle.nsi_primitive.specs.declared.state.Lsm.{Lsm}
use Rattle.nsi_primitive.specs.declared.state.Side.{Side}
use Rattle.dataplane_state.specs.Plane.{announces}
use Rattle.connection_record.specs.declared.record.Record.{Record}
use Rattle.connection_record.specs.declared.moves.Reply.{Reply}
use Rattle.connection_record.specs.declared.moves.ReservationMove.{ReservationMove}
use Rattle.connection_record.specs.declared.provisioning.ProvisionMove.{ProvisionMove}
use Rattle.connection_record.specs.declared.life.LifecycleMove.{LifecycleMove}
use Rattle.connection_record.specs.declared.apply.Move.{Move}
use Rattle.connection_record.specs.Replies.{Moved, stays, then_moves, plain, addressed}
use Rattle.connection_record.specs.Moves.{reserves, reserves_if, is_live}
use Rattle.connection_record.specs.Lives.{provisions, provisions_if, lives, lives_if}
use Rattle.connection_record.specs.Applied.{closes, closes_reservation, closes_provision, reservation_closing, provision_closing, moves, moves_if, requested, is_terminating, tells_plane}
use Rattle.connection_record.specs.Speaking.{one, tally, is_asking, is_noting, is_answering}
use Rattle.connection_record.proofs.Saying.{tally_append}
use Rattle.child_connection.specs.Views.{ChildConnection}
use Rattle.aggregator_agent.specs.declared.agent.Agent.{Agent}
use Rattle.aggregator_agent.specs.Asking.{Turn, begin, replies_by, notices_by, notices_under, asks_by, Asking, pass_each}
use Rattle.aggregator_agent.specs.Settling.{is_quiet, is_there, checked, reservation_verdict, reservation_due, provision_verdict, provision_due, settles_reservation, settles_provision, closes_unless, settles, settle}
use Rattle.aggregator_agent.specs.Turns.{joined_of, tell_joined, pass_on, takes, turn_by_request, request_turn, loses, breaks, hear_each, hold_end_by, force_by, hold_ends, force_ends, heard_by, turn_by_answer, answer_turn, spoken}
use Rattle.agent_speech.proofs.Asking.{Any, Unless, is_strange}
use Rattle.agent_speech.proofs.Turning.{IsTurning, request_turning, answer_turning}
use Rattle.speech_cost.specs.Costs.{cost, replies_cost, is_own, says_own, left_reserve, left_provision, left_life, own_left}
use Rattle.speech_cost.proofs.Paying.{reserve_worth, provision_worth, life_worth, reserves_paid, reserves_psm, reserves_lsm, provisions_paid, provisions_rsm, provisions_lsm, lives_paid, lives_rsm, lives_psm}

---- What is said

abbrev pub own_reply : Reply → Bool
own_reply x = is_own x.body

own_few : (b : Body) → one (is_own b) ≤ cost b
unfolding is_answering is_asking is_noting
own_few b = grind arith

own_within : (out : List Reply) → tally own_reply out ≤ replies_cost out
unfolding tally replies_cost
own_within [] = omega arith
own_within (x ∷ xs) = omega (arith, own_within xs, own_few x.body)

pub addressed_own : (name owner : List ℕ) (out : List Reply) → tally says_own (addressed name owner out) ≡ tally own_reply out
unfolding tally
addressed_own name owner [] = refl
addressed_own name owner (x ∷ xs) = omega (arith, addressed_own name owner xs)

own_strange : (name : List ℕ) (m : Message) → one (says_own m) ≤ one (is_strange name m)
unfolding is_answering is_asking is_noting
own_strange name m = grind arith

-- what isn't strange is a request
pub asked_none : (name : List ℕ) (ms : List Message) → tally says_own ms ≤ tally (is_strange name) ms
unfolding tally
asked_none name [] = omega arith
asked_none name (m ∷ ms) = omega (arith, asked_none name ms, own_strange name m)

---- A move of the own record

-- what it says was left to say, or is a gift
pub record PaysOwn (gift : ℕ) (r : Record) (x : Moved) : Type 0 where
  pub paid : tally own_reply x.out + own_left x.rec ≤ own_left r + gift

reserves_own : (move : ReservationMove) (now : ℕ) (r : Record) → PaysOwn (reserve_worth move) r (reserves r.rsm move now r)
unfolding own_left
reserves_own move now r =
    let x : Moved = reserves r.rsm move now r in
    record { paid = omega (arith, own_within x.out, reserves_paid r.rsm move now r refl, ap left_provision (reserves_psm r.rsm move now r), ap left_life (reserves_lsm r.rsm move now r)) }

provisions_own : (side : Side) (move : ProvisionMove) (now : ℕ) (r : Record) → PaysOwn (provision_worth move) r (provisions side r.psm move now r)
unfolding own_left
provisions_own side move now r =
    let x : Moved = provisions side r.psm move now r in
    record { paid = omega (arith, own_within x.out, provisions_paid side r.psm move now r refl, ap left_reserve (provisions_rsm side r.psm move now r), ap left_life (provisions_lsm side r.psm move now r)) }

lives_own : (move : LifecycleMove) (now : ℕ) (r : Record) → PaysOwn (life_worth move) r (lives r.lsm move now r)
unfolding own_left
lives_own move now r =
    let x : Moved = lives r.lsm move now r in
    record { paid = omega (arith, own_within x.out, lives_paid r.lsm move now r refl, ap left_reserve (lives_rsm r.lsm move now r), ap left_provision (lives_psm r.lsm move now r)) }

pub stays_own : (gift : ℕ) (r : Record) → PaysOwn gift r (stays r)
unfolding tally
stays_own gift r = record { paid = omega arith }

pub then_own : (gift : ℕ) (r : Record) (x : Moved) (next : Record → Moved) → PaysOwn gift r x → PaysOwn 0 x.rec (next x.rec) → PaysOwn gift r (then_moves x next)
then_own gift r x next a b = record { paid = omega (arith, a.paid, b.paid, tally_append own_reply x.out (next x.rec).out) }

less_own : (few gift : ℕ) (r : Record) (x : Moved) → few ≤ gift → PaysOwn few r x → PaysOwn gift r x
less_own few gift r x l a = record { paid = omega (arith, l, a.paid) }

-- what a request makes a record say
requested_own : (side : Side) (o : Option Move) (body : Body) (c now : ℕ) (r : Record) → requested now body c r ≡ o → PaysOwn 16 r (moves_if side o now r)
unfolding moves requested
requested_own side None body c now r e = stays_own 16 r
requested_own side (Some (Move.Reservation (ReservationMove.Reserve d criteria))) body c now r e =
    less_own 3 16 r (reserves r.rsm (ReservationMove.Reserve d criteria) now r) (omega arith) (reserves_own (ReservationMove.Reserve d criteria) now r)
requested_own side (Some (Move.Reservation (ReservationMove.Commit d))) body c now r e = reserves_own (ReservationMove.Commit d) now r
requested_own side (Some (Move.Reservation (ReservationMove.Abort d))) body c now r e =
    less_own 1 16 r (reserves r.rsm (ReservationMove.Abort d) now r) (omega arith) (reserves_own (ReservationMove.Abort d) now r)
requested_own side (Some (Move.Provision (ProvisionMove.Provision d))) body c now r e =
    less_own 6 16 r (provisions side r.psm (ProvisionMove.Provision d) now r) (omega arith) (provisions_own side (ProvisionMove.Provision d) now r)
requested_own side (Some (Move.Provision (ProvisionMove.Release d))) body c now r e =
    less_own 6 16 r (provisions side r.psm (ProvisionMove.Release d) now r) (omega arith) (provisions_own side (ProvisionMove.Release d) now r)
requested_own side (Some (Move.Lifecycle (LifecycleMove.Terminate d))) body c now r e =
    less_own 6 16 r (lives r.lsm (LifecycleMove.Terminate d) now r) (omega arith) (lives_own (LifecycleMove.Terminate d) now r)
requested_own side (Some move) body c now r e = absurd (grind (arith, e))

takes_own : (m : Message) (now : ℕ) (r : Record) → PaysOwn 16 r (takes m now r)
unfolding takes
takes_own m now r = requested_own Side.Aggregator (requested now m.body m.header.correlation r) m.body m.header.correlation now r refl

---- What is due once children have answered

abbrev worth_if : Option ReservationMove → ℕ
worth_if None = 0
worth_if (Some move) = reserve_worth move

abbrev provision_worth_if : Option ProvisionMove → ℕ
provision_worth_if None = 0
provision_worth_if (Some move) = provision_worth move

abbrev life_worth_if : Option LifecycleMove → ℕ
life_worth_if None = 0
life_worth_if (Some move) = life_worth move

reserves_if_own : (o : Option ReservationMove) (now : ℕ) (r : Record) → worth_if o ≡ 0 → PaysOwn 0 r (reserves_if o now r)
reserves_if_own None now r e = stays_own 0 r
reserves_if_own (Some move) now r e = less_own (reserve_worth move) 0 r (reserves r.rsm move now r) (omega (arith, e)) (reserves_own move now r)

provisions_if_own : (side : Side) (o : Option ProvisionMove) (now : ℕ) (r : Record) → provision_worth_if o ≡ 0 → PaysOwn 0 r (provisions_if side o now r)
provisions_if_own side None now r e = stays_own 0 r
provisions_if_own side (Some move) now r e = less_own (provision_worth move) 0 r (provisions side r.psm move now r) (omega (arith, e)) (provisions_own side move now r)

pub lives_if_own : (o : Option LifecycleMove) (now : ℕ) (r : Record) → life_worth_if o ≡ 0 → PaysOwn 0 r (lives_if o now r)
lives_if_own None now r e = stays_own 0 r
lives_if_own (Some move) now r e = less_own (life_worth move) 0 r (lives r.lsm move now r) (omega (arith, e)) (lives_own move now r)

verdict_free : (b : Bool) (k : Rsm) (agent : List ℕ) (xs : List ChildConnection) → worth_if (reservation_due b k agent xs) ≡ 0
unfolding reservation_due reservation_verdict checked
verdict_free b k agent xs = grind arith

provision_free : (b : Bool) (k : Psm) (agent : List ℕ) (xs : List ChildConnection) → provision_worth_if (provision_due b k agent xs) ≡ 0
unfolding provision_due provision_verdict
provision_free b k agent xs = grind arith

closing_free : (k : Rsm) (gone : Exception) → worth_if (reservation_closing k gone) ≡ 0
unfolding reservation_closing
closing_free k gone = grind arith

unprovision_free : (k : Psm) (gone : Exception) → provision_worth_if (provision_closing k gone) ≡ 0
unfolding provision_closing
unprovision_free k gone = grind arith

closes_own : (agent : List ℕ) (side : Side) (now : ℕ) (r : Record) → PaysOwn 0 r (closes agent side now r)
unfolding closes
closes_own agent side now r =
    let gone : Exception = plain agent ErrorName.Gone in
    then_own 0 r (then_moves (closes_reservation agent now r) (λ x. closes_provision agent side now x)) (λ x. lives x.lsm LifecycleMove.Done now x)
    (then_own 0 r (closes_reservation agent now r) (λ x. closes_provision agent side now x)
    (reserves_if_own (reservation_closing r.rsm gone) now r (closing_free r.rsm gone))
    (let y : Record = (closes_reservation agent now r).rec in provisions_if_own side (provision_closing y.psm gone) now y (unprovision_free y.psm gone)))
    (lives_own LifecycleMove.Done now (then_moves (closes_reservation agent now r) (λ x. closes_provision agent side now x)).rec)

both_own : (agent : Agent) (now : ℕ) (xs : List ChildConnection) (own : Record) → PaysOwn 0 own (then_moves (settles_reservation agent now xs own) (λ x. settles_provision agent now xs x))
unfolding settles_reservation settles_provision
both_own agent now xs own =
    then_own 0 own (reserves_if (reservation_due (is_quiet Kind.Reserve xs) own.rsm agent.name xs) now own)
    (λ r. provisions_if Side.Aggregator (provision_due (is_quiet Kind.Provision xs) r.psm agent.name xs) now r)
    (reserves_if_own (reservation_due (is_quiet Kind.Reserve xs) own.rsm agent.name xs) now own (verdict_free (is_quiet Kind.Reserve xs) own.rsm agent.name xs))
    (let x : Moved = reserves_if (reservation_due (is_quiet Kind.Reserve xs) own.rsm agent.name xs) now own in
    provisions_if_own Side.Aggregator (provision_due (is_quiet Kind.Provision xs) x.rec.psm agent.name xs) now x.rec (provision_free (is_quiet Kind.Provision xs) x.rec.psm agent.name xs))

closing_own : (b : Bool) (agent : Agent) (now : ℕ) (own : Record) → PaysOwn 0 own (closes_unless b agent now own)
unfolding closes_unless
closing_own true agent now own = stays_own 0 own
closing_own false agent now own = closes_own agent.name Side.Aggregator now own

settles_own : (k : Lsm) (agent : Agent) (now : ℕ) (xs : List ChildConnection) (own : Record) → PaysOwn 0 own (settles k agent now xs own)
unfolding settles
settles_own Lsm.Terminating agent now xs own = closing_own (list_any is_there xs) agent now own
settles_own Lsm.Terminated agent now xs own = stays_own 0 own
settles_own Lsm.Created agent now xs own = both_own agent now xs own
settles_own Lsm.Failed agent now xs own = both_own agent now xs own
settles_own Lsm.PassedEndTime agent now xs own = both_own agent now xs own

plane_own : (told : Bool) (p : Plane) (c now : ℕ) (r : Record) → PaysOwn 0 r (tells_plane told p c now r)
unfolding tells_plane tally is_answering is_asking is_noting own_left
plane_own true p c now r = record { paid = omega arith }
plane_own false p c now r = record { paid = omega arith }

hold_free : (b : Bool) (body : Body) → worth_if (hold_end_by b body) ≡ 0
unfolding hold_end_by
hold_free true (Body.ReserveTimeout t) = refl
hold_free true _ = refl
hold_free false _ = refl

force_free : (b : Bool) (c : ℕ) (body : Body) → life_worth_if (force_by b c body) ≡ 0
unfolding force_by
force_free true c (Body.ErrorEvent f) = refl
force_free true c _ = refl
force_free false c _ = refl

---- A turn

-- what it has said by itself was left to say, or is a gift
pub record IsPaidTurn (gift : ℕ) (old : Record) (t : Turn) : Type 0 where
  pub paid : (tally own_reply t.replies + tally own_reply t.notices) + own_left t.own ≤ own_left old + gift

module _ (gift : ℕ) (old : Record) where
  replies_paid : (t : Turn) (x : Moved) → IsPaidTurn gift old t → PaysOwn 0 t.own x → IsPaidTurn gift old (replies_by t x)
  replies_paid t x h a = record { paid = omega (arith, h.paid, a.paid, tally_append own_reply t.replies x.out) }

  notices_paid : (t : Turn) (x : Moved) → IsPaidTurn gift old t → PaysOwn 0 t.own x → IsPaidTurn gift old (notices_by t x)
  notices_paid t x h a = record { paid = omega (arith, h.paid, a.paid, tally_append own_reply t.notices x.out) }

  under_paid : (t : Turn) (x : Moved) → IsPaidTurn gift old t → PaysOwn 0 t.own x → IsPaidTurn gift old (notices_under t x)
  under_paid t x h a = record { paid = omega (arith, h.paid, a.paid, tally_append own_reply t.notices x.out) }

  asks_paid : (t : Turn) (a : Asking) → IsPaidTurn gift old t → IsPaidTurn gift old (asks_by t a)
  asks_paid t a h = record { paid = h.paid }

  settle_paid : (agent : Agent) (now : ℕ) (t : Turn) → IsPaidTurn gift old t → IsPaidTurn gift old (settle agent now t)
  unfolding settle
  settle_paid agent now t h = replies_paid t (settles t.own.lsm agent now t.children t.own) h (settles_own t.own.lsm agent now t.children t.own)

  tell_paid : (p : Plane) (agent : Agent) (now : ℕ) (t : Turn) → IsPaidTurn gift old t → IsPaidTurn gift old (tell_joined p agent now t)
  unfolding tell_joined
  tell_paid p agent now t h =
      let b : Bool = announces p (joined_of t.children) in
      let id : ℕ = id_of agent.number t.next in
      under_paid t (tells_plane b (joined_of t.children) id now t.own) h (plane_own b (joined_of t.children) id now t.own)

  hold_paid : (lost : Bool) (m : Message) (now : ℕ) (t : Turn) → IsPaidTurn gift old t → IsPaidTurn gift old (hold_ends lost m now t)
  unfolding hold_ends
  hold_paid lost m now t h =
      let o : Option ReservationMove = hold_end_by (lost && is_live t.own.lsm) m.body in
      notices_paid t (reserves_if o now t.own) h (reserves_if_own o now t.own (hold_free (lost && is_live t.own.lsm) m.body))

  force_paid : (broken : Bool) (m : Message) (agent : Agent) (now : ℕ) (t : Turn) → IsPaidTurn gift old t → IsPaidTurn gift old (force_ends broken m agent now t)
  unfolding force_ends
  force_paid broken m agent now t h =
      let id : ℕ = id_of agent.number t.next in
      let o : Option LifecycleMove = force_by broken id m.body in
      under_paid t (lives_if o now t.own) h (lives_if_own o now t.own (force_free broken id m.body))

first_paid : (gift : ℕ) (old : Record) (xs : List ChildConnection) (next : ℕ) (x : Moved) → PaysOwn gift old x → IsPaidTurn gift old (replies_by (begin old xs next) x)
unfolding tally
first_paid gift old xs next x a = record { paid = omega (arith, a.paid) }

none_paid : (old : Record) (xs : List ChildConnection) (next : ℕ) → IsPaidTurn 0 old (begin old xs next)
unfolding tally
none_paid old xs next = record { paid = omega arith }

request_paid : (agent : Agent) (now : ℕ) (m : Message) (own : Record) (xs : List ChildConnection) (next : ℕ) → IsPaidTurn 16 own (request_turn agent now m own xs next)
unfolding request_turn turn_by_request pass_on
request_paid agent now m own xs next =
    let x : Moved = takes m now own in
    let t : Turn = replies_by (begin own xs next) x in
    let u : Turn = asks_by t (pass_each m agent x.rec next xs) in
    tell_paid 16 own (joined_of xs) agent now (settle agent now u)
    (settle_paid 16 own agent now u (asks_paid 16 own t (pass_each m agent x.rec next xs) (first_paid 16 own xs next x (takes_own m now own))))

answer_paid : (agent : Agent) (now : ℕ) (m : Message) (own : Record) (xs : List ChildConnection) (next : ℕ) → IsPaidTurn 0 own (answer_turn agent now m own xs next)
unfolding answer_turn turn_by_answer heard_by
answer_paid agent now m own xs next =
    let a : Asking = hear_each (is_terminating own.lsm) m agent next xs in
    let t : Turn = asks_by (begin own xs next) a in
    let u : Turn = hold_ends (list_any (loses m) xs) m now t in
    let v : Turn = force_ends (list_any (breaks m) xs) m agent now u in
    tell_paid 0 own (joined_of xs) agent now (settle agent now v)
    (settle_paid 0 own agent now v
    (force_paid 0 own (list_any (breaks m) xs) m agent now u (hold_paid 0 own (list_any (loses m) xs) m now t (asks_paid 0 own (begin own xs next) a (none_paid own xs next)))))

---- What a turn says

-- of a turn that asks nothing but requests
spoken_paid : (gift : ℕ) (agent : Agent) (old : Record) (t : Turn) → tally (is_strange agent.name) t.asked ≡ 0 → IsPaidTurn gift old t → tally says_own (spoken agent t) + own_left t.own ≤ own_left old + gift
unfolding spoken
spoken_paid gift agent old t s h =
    let notes : List Message = addressed agent.name t.own.owner t.notices in
    omega (
      arith,
      tally_append says_own (addressed agent.name t.own.owner t.replies) (t.asked ++ notes),
      tally_append says_own t.asked notes,
      addressed_own agent.name t.own.owner t.replies,
      addressed_own agent.name t.own.owner t.notices,
      asked_none agent.name t.asked,
      s,
      h.paid,
    )

pub request_spoken : (agent : Agent) (now : ℕ) (m : Message) (own : Record) (xs : List ChildConnection) (next : ℕ) →
    let t : Turn = request_turn agent now m own xs next in tally says_own (spoken agent t) + own_left t.own ≤ own_left own + 16
request_spoken agent now m own xs next =
    let t : Turn = request_turn agent now m own xs next in
    let u : IsTurning Any agent (Some m.header.correlation) own xs next t = request_turning agent now m own xs next in
    spoken_paid 16 agent own t u.strange (request_paid agent now m own xs next)

pub answer_spoken : (agent : Agent) (now : ℕ) (m : Message) (own : Record) (xs : List ChildConnection) (next : ℕ) →
    let t : Turn = answer_turn agent now m own xs next in tally says_own (spoken agent t) + own_left t.own ≤ own_left own
answer_spoken agent now m own xs next =
    let t : Turn = answer_turn agent now m own xs next in
    let u : IsTurning (Unless m) agent None own xs next t = answer_turning agent now m own xs next in
    omega (arith, spoken_paid 0 agent own t u.strange (answer_paid agent now m own xs next))
