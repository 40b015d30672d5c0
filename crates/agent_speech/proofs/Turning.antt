-- What an aggregator's connection says in the course of an entry, and what its views hold then.
use Rattle.std.proofs.Common.{ℕ, ◌+◌, ◌≤◌, ◌≡◌, Bool, true, false, List, [], ◌∷◌, ◌++◌, Option, Some, None, ◌==◌, ◌&&◌, refl, ap, ◌∙◌, subst, arith, bytes_eq, if◌then◌else◌}
use Rattle.std.specs.List.{list_any}
use Rattle.nsi_primitive.specs.Ids.{id_of}
use Rattle.nsi_primitive.specs.declared.kind.Kind.{Kind}
use Rattle.nsi_primitive.specs.declared.plane.Plane.{Plane}
use Rattle.nsi_primitive.specs.declared.state.Rsm.{Rsm}
use Rattle.nsi_primitive.specs.declared.state.Psm.{Psm}
use Rattle.nsi_primitive.specs.declared.state.Lsm.{Lsm}
use Rattle.nsi_primitive.specs.declared.state.Side.{Side}
use Rattle.nsi_primitive.specs.declared.message.Body.{Body}
use Rattle.nsi_primitive.specs.declared.message.Criteria.{Criteria}
use Rattle.nsi_primitive.specs.declared.message.Header.{Header}
use Rattle.nsi_primitive.specs.declared.message.Message.{Message}
use Rattle.dataplane_state.specs.Plane.{announces}
use Rattle.connection_record.specs.declared.record.Record.{Record}
use Rattle.connection_record.specs.declared.life.LifecycleMove.{LifecycleMove}
use Rattle.connection_record.specs.declared.moves.Reply.{Reply}
use Rattle.connection_record.specs.declared.moves.ReservationMove.{ReservationMove}
use Rattle.connection_record.specs.Applied.{moves_if, requested, is_terminating, tells_plane, schedule_end, end_of}
use Rattle.connection_record.specs.Courses.{IsOwn, IsOwnProvision}
use Rattle.connection_record.specs.Lives.{lives_if, lives, provisions_if}
use Rattle.connection_record.specs.Moves.{is_live, reserves_if, is_due}
use Rattle.connection_record.specs.Replies.{Moved, addressed}
use Rattle.connection_record.specs.Speaking.{one, tally, answers_as, notes_as, asks_for, owed, lifecycle_begins, lifecycle_draws, no_ids, drawn_if, Speaks}
use Rattle.connection_record.specs.Ids.{is_id}
use Rattle.connection_record.proofs.Growing.{reserves_if_later, provisions_if_later, lives_if_later, closes_later, moves_if_later, tells_plane_later}
use Rattle.connection_record.proofs.Saying.{tally_append, stays_speaks, lives_speaks, reserves_if_speaks, provisions_if_speaks, both_speak, closes_speaks, takes_speaks, plane_speaks}
use Rattle.child_connection.specs.Views.{ChildConnection}
use Rattle.aggregator_agent.specs.declared.agent.Agent.{Agent}
use Rattle.aggregator_agent.specs.Asking.{Turn, Asking, begin, replies_by, notices_by, next_after, notices_under, asks_by, pass_each}
use Rattle.aggregator_agent.specs.Settling.{is_quiet, is_there, checked, reservation_verdict, reservation_due, provision_verdict, provision_due, settles_reservation, settles_provision, closes_unless, settles, settle}
use Rattle.aggregator_agent.specs.Turns.{joined_of, tell_joined, pass_on, takes, turn_by_request, request_turn, loses, breaks, hear_each, hold_end_by, force_by, hold_ends, force_ends, heard_by, turn_by_answer, answer_turn, spoken}
use Rattle.agent_speech.specs.Owing.{answers_to, is_drawn, is_foreign, times, owed_under, before}
use Rattle.agent_speech.specs.Unanswered.{reserves_at, holding, misfitting}
use Rattle.agent_speech.proofs.Measures.{addressed_answers, addressed_drawn, addressed_foreign, before_next}
use Rattle.agent_speech.proofs.Holding.{addressed_reserves}
use Rattle.agent_speech.proofs.Asking.{is_strange, strange_answers, strange_foreign, IsAsking, Any, pass_asking, Unless, hear_asking}

---- A life that goes on by itself

-- a move of the life that begins no request
abbrev pub IsOwnLife : Option LifecycleMove → Type 0
IsOwnLife None = Unit {0}
IsOwnLife (Some move) = lifecycle_begins move ≡ None

-- how often it draws an id
abbrev pub life_draws : Option LifecycleMove → ℕ → ℕ
life_draws None c = 0
life_draws (Some move) c = lifecycle_draws move c

pub lives_if_speaks : (o : Option LifecycleMove) (now : ℕ) (r : Record) → IsOwnLife o → Speaks None (life_draws o) r (lives_if o now r)
lives_if_speaks None now r h = stays_speaks None (life_draws None) r
lives_if_speaks (Some move) now r h = subst (λ b. Speaks b (lifecycle_draws move) r (lives r.lsm move now r)) h (lives_speaks move now r)

pub ending_own : (c : Option Criteria) (now : ℕ) → IsOwnLife (schedule_end c now) × ((d : ℕ) → life_draws (schedule_end c now) d ≡ 0)
ending_own c now = by (is_due (end_of c) now)
  where
    by : (b : Bool) → let o : Option LifecycleMove = if b then Some LifecycleMove.EndTime else None in IsOwnLife o × ((d : ℕ) → life_draws o d ≡ 0)
    by true = (refl, λ d. refl)
    by false = (tt, λ d. refl)

forced_own : (b : Bool) (c : ℕ) (body : Body) → IsOwnLife (force_by b c body) × ((d : ℕ) → life_draws (force_by b c body) d ≤ one (d == c))
unfolding force_by
forced_own true c (Body.ErrorEvent f) = (refl, λ d. omega arith)
forced_own true c _ = (tt, λ d. omega arith)
forced_own false c _ = (tt, λ d. omega arith)

---- A turn

-- From an own record, its views and a next number on: what is said of a kind and still owed was owed, or is begun; what is said under an id
-- is said under one that was drawn for it; and the views hold what is asked.
pub record IsTurning (Blind : List ℕ → ℕ → Type 0) (agent : Agent) (begun : Option ℕ) (old : Record) (xs : List ChildConnection) (first : ℕ) (t : Turn) : Type 0 where
  pub id : t.own.id ≡ old.id
  pub owner : t.own.owner ≡ old.owner
  pub answers : (c n : ℕ) → (tally (answers_as c n) t.replies + tally (answers_as c n) t.notices) + owed c n t.own ≤ owed c n old + one (is_id begun c)
  pub drawn : (c : ℕ) → ((tally (notes_as c) t.replies + tally (notes_as c) t.notices) + tally (is_drawn c) t.asked) + before agent.number first c ≤ before agent.number t.next c
  pub asks : tally asks_for t.replies + tally asks_for t.notices ≡ 0
  pub strange : tally (is_strange agent.name) t.asked ≡ 0
  pub fit : misfitting t.children ≤ misfitting xs
  pub holds_on : (p : List ℕ) (c : ℕ) → Blind p c → tally (reserves_at p c) t.asked + holding p c xs ≤ holding p c t.children + misfitting xs
  pub few : (p : List ℕ) (c : ℕ) → holding p c t.children ≤ holding p c xs + tally (reserves_at p c) t.asked

under_next : (xs : List Reply) (number n c : ℕ) → tally (notes_as c) xs ≤ one (c == id_of number n) → tally (notes_as c) xs + before number n c ≤ before number (next_after xs n) c
unfolding next_after tally
under_next [] number n c h = omega arith
under_next (x ∷ xs) number n c h = omega (arith, h, before_next number n c)

verdict_own : (b : Bool) (k : Rsm) (agent : List ℕ) (xs : List ChildConnection) → IsOwn (reservation_due b k agent xs)
unfolding reservation_due reservation_verdict checked
verdict_own b k agent xs = grind arith

provision_own : (b : Bool) (k : Psm) (agent : List ℕ) (xs : List ChildConnection) → IsOwnProvision (provision_due b k agent xs)
unfolding provision_due provision_verdict
provision_own b k agent xs = grind arith

hold_end_own : (b : Bool) (body : Body) → IsOwn (hold_end_by b body)
unfolding hold_end_by
hold_end_own true (Body.ReserveTimeout t) = refl
hold_end_own true _ = tt
hold_end_own false _ = tt

both_settle : (agent : Agent) (now : ℕ) (xs : List ChildConnection) (own : Record) →
    let x : Moved = settles_reservation agent now xs own in Speaks None no_ids own (let y : Moved = settles_provision agent now xs x.rec in record { rec = y.rec; out = x.out ++ y.out })
unfolding settles_reservation settles_provision
both_settle agent now xs own =
    both_speak None own _ (λ r. provisions_if Side.Aggregator (provision_due (is_quiet Kind.Provision xs) r.psm agent.name xs) now r)
    (reserves_if_speaks (reservation_due (is_quiet Kind.Reserve xs) own.rsm agent.name xs) now own (verdict_own (is_quiet Kind.Reserve xs) own.rsm agent.name xs))
    (let x : Moved = reserves_if (reservation_due (is_quiet Kind.Reserve xs) own.rsm agent.name xs) now own in
    provisions_if_speaks Side.Aggregator (provision_due (is_quiet Kind.Provision xs) x.rec.psm agent.name xs) now x.rec (provision_own (is_quiet Kind.Provision xs) x.rec.psm agent.name xs))

closing_speaks : (b : Bool) (agent : Agent) (now : ℕ) (own : Record) → Speaks None no_ids own (closes_unless b agent now own)
unfolding closes_unless
closing_speaks true agent now own = stays_speaks None no_ids own
closing_speaks false agent now own = closes_speaks agent.name Side.Aggregator now own

settles_speak : (k : Lsm) (agent : Agent) (now : ℕ) (xs : List ChildConnection) (own : Record) → Speaks None no_ids own (settles k agent now xs own)
unfolding settles
settles_speak Lsm.Terminating agent now xs own = closing_speaks (list_any is_there xs) agent now own
settles_speak Lsm.Terminated agent now xs own = stays_speaks None no_ids own
settles_speak Lsm.Created agent now xs own = both_settle agent now xs own
settles_speak Lsm.Failed agent now xs own = both_settle agent now xs own
settles_speak Lsm.PassedEndTime agent now xs own = both_settle agent now xs own

closing_id : (b : Bool) (agent : Agent) (now : ℕ) (own : Record) → (closes_unless b agent now own).rec.id ≡ own.id
unfolding closes_unless
closing_id true agent now own = refl
closing_id false agent now own = (closes_later agent.name Side.Aggregator now own).id

both_id : (agent : Agent) (now : ℕ) (xs : List ChildConnection) (own : Record) → (settles_provision agent now xs (settles_reservation agent now xs own).rec).rec.id ≡ own.id
unfolding settles_reservation settles_provision
both_id agent now xs own =
    let o : Option ReservationMove = reservation_due (is_quiet Kind.Reserve xs) own.rsm agent.name xs in
    let x : Moved = reserves_if o now own in
    (provisions_if_later Side.Aggregator (provision_due (is_quiet Kind.Provision xs) x.rec.psm agent.name xs) now x.rec).id ∙ (reserves_if_later o now own).id

settles_id : (k : Lsm) (agent : Agent) (now : ℕ) (xs : List ChildConnection) (own : Record) → (settles k agent now xs own).rec.id ≡ own.id
unfolding settles
settles_id Lsm.Terminating agent now xs own = closing_id (list_any is_there xs) agent now own
settles_id Lsm.Terminated agent now xs own = refl
settles_id Lsm.Created agent now xs own = both_id agent now xs own
settles_id Lsm.Failed agent now xs own = both_id agent now xs own
settles_id Lsm.PassedEndTime agent now xs own = both_id agent now xs own

module _ (Blind : List ℕ → ℕ → Type 0) (agent : Agent) (begun : Option ℕ) (old : Record) (xs : List ChildConnection) (first : ℕ) where
  abbrev Turns : Turn → Type 0
  Turns t = IsTurning Blind agent begun old xs first t

  none_turning : Turns (begin old xs first)
  unfolding tally
  none_turning =
      record {
        id = refl;
        owner = refl;
        answers = λ c n. omega arith;
        drawn = λ c. omega arith;
        asks = refl;
        strange = refl;
        fit = omega arith;
        holds_on = λ p c b. omega arith;
        few = λ p c. omega arith;
      }

  first_turning : (x : Moved) → Speaks begun no_ids old x → x.rec.id ≡ old.id → Turns (replies_by (begin old xs first) x)
  unfolding tally
  first_turning x s i =
      record {
        id = i;
        owner = s.owner;
        answers = λ c n. omega (arith, s.answers c n);
        drawn = λ c. omega (arith, s.notes c);
        asks = omega (arith, s.asks);
        strange = refl;
        fit = omega arith;
        holds_on = λ p c b. omega arith;
        few = λ p c. omega arith;
      }

  replies_turning : (t : Turn) (x : Moved) → Turns t → Speaks None no_ids t.own x → x.rec.id ≡ t.own.id → Turns (replies_by t x)
  replies_turning t x h s i =
      record {
        id = i ∙ h.id;
        owner = s.owner ∙ h.owner;
        answers = λ c n. omega (arith, tally_append (answers_as c n) t.replies x.out, s.answers c n, h.answers c n);
        drawn = λ c. omega (arith, tally_append (notes_as c) t.replies x.out, s.notes c, h.drawn c);
        asks = omega (arith, tally_append asks_for t.replies x.out, s.asks, h.asks);
        strange = h.strange;
        fit = h.fit;
        holds_on = h.holds_on;
        few = h.few;
      }

  notices_turning : (t : Turn) (x : Moved) → Turns t → Speaks None no_ids t.own x → x.rec.id ≡ t.own.id → Turns (notices_by t x)
  notices_turning t x h s i =
      record {
        id = i ∙ h.id;
        owner = s.owner ∙ h.owner;
        answers = λ c n. omega (arith, tally_append (answers_as c n) t.notices x.out, s.answers c n, h.answers c n);
        drawn = λ c. omega (arith, tally_append (notes_as c) t.notices x.out, s.notes c, h.drawn c);
        asks = omega (arith, tally_append asks_for t.notices x.out, s.asks, h.asks);
        strange = h.strange;
        fit = h.fit;
        holds_on = h.holds_on;
        few = h.few;
      }

  under_turning : (t : Turn) (f : ℕ → ℕ) (x : Moved) → Turns t → Speaks None f t.own x → x.rec.id ≡ t.own.id → ((c : ℕ) → f c ≤ one (c == id_of agent.number t.next)) → Turns (notices_under t x)
  under_turning t f x h s i le =
      record {
        id = i ∙ h.id;
        owner = s.owner ∙ h.owner;
        answers = λ c n. omega (arith, tally_append (answers_as c n) t.notices x.out, s.answers c n, h.answers c n);
        drawn = λ c. omega (arith, tally_append (notes_as c) t.notices x.out, under_next x.out agent.number t.next c (omega (arith, s.notes c, le c)), h.drawn c);
        asks = omega (arith, tally_append asks_for t.notices x.out, s.asks, h.asks);
        strange = h.strange;
        fit = h.fit;
        holds_on = h.holds_on;
        few = h.few;
      }

  -- the children are asked where nothing was asked before
  asks_turning : (t : Turn) (a : Asking) → t.asked ≡ [] → Turns t → IsAsking Blind agent t.next xs a.children a.asked a.next → Turns (asks_by t a)
  unfolding tally
  asks_turning t a e h s =
      record {
        id = h.id;
        owner = h.owner;
        answers = h.answers;
        drawn = λ c. omega (arith, tally_append (is_drawn c) t.asked a.asked, s.drawn c, h.drawn c);
        asks = h.asks;
        strange = omega (arith, tally_append (is_strange agent.name) t.asked a.asked, s.own, h.strange);
        fit = s.fit;
        holds_on = λ p c b. omega (arith, tally_append (reserves_at p c) t.asked a.asked, s.holds_on p c b, ap (tally (reserves_at p c)) e);
        few = λ p c. omega (arith, tally_append (reserves_at p c) t.asked a.asked, s.few p c, ap (tally (reserves_at p c)) e);
      }

  settle_turning : (now : ℕ) (t : Turn) → Turns t → Turns (settle agent now t)
  unfolding settle
  settle_turning now t h = replies_turning t (settles t.own.lsm agent now t.children t.own) h (settles_speak t.own.lsm agent now t.children t.own) (settles_id t.own.lsm agent now t.children t.own)

  tell_turning : (p : Plane) (now : ℕ) (t : Turn) → Turns t → Turns (tell_joined p agent now t)
  unfolding tell_joined
  tell_turning p now t h =
      let b : Bool = announces p (joined_of t.children) in
      let id : ℕ = id_of agent.number t.next in
      under_turning t (drawn_if b id) (tells_plane b (joined_of t.children) id now t.own) h (plane_speaks b (joined_of t.children) id now t.own) (tells_plane_later b (joined_of t.children) id now t.own).id (λ c. told_once b id c)
    where
      told_once : (b : Bool) (d c : ℕ) → drawn_if b d c ≤ one (c == d)
      told_once b d c = grind arith

  hold_turning : (lost : Bool) (m : Message) (now : ℕ) (t : Turn) → Turns t → Turns (hold_ends lost m now t)
  unfolding hold_ends
  hold_turning lost m now t h =
      let o : Option ReservationMove = hold_end_by (lost && is_live t.own.lsm) m.body in
      notices_turning t (reserves_if o now t.own) h (reserves_if_speaks o now t.own (hold_end_own (lost && is_live t.own.lsm) m.body)) (reserves_if_later o now t.own).id

  force_turning : (broken : Bool) (m : Message) (now : ℕ) (t : Turn) → Turns t → Turns (force_ends broken m agent now t)
  unfolding force_ends
  force_turning broken m now t h =
      let id : ℕ = id_of agent.number t.next in
      let o : Option LifecycleMove = force_by broken id m.body in
      let own = forced_own broken id m.body in
      under_turning t (life_draws o) (lives_if o now t.own) h (lives_if_speaks o now t.own own.0) (lives_if_later o now t.own).id own.1

-- a whole turn by a request
pub request_turning : (agent : Agent) (now : ℕ) (m : Message) (own : Record) (xs : List ChildConnection) (next : ℕ) →
    IsTurning Any agent (Some m.header.correlation) own xs next (request_turn agent now m own xs next)
unfolding request_turn turn_by_request pass_on takes
request_turning agent now m own xs next =
    let c : Option ℕ = Some m.header.correlation in
    let x : Moved = moves_if Side.Aggregator (requested now m.body m.header.correlation own) now own in
    let t : Turn = replies_by (begin own xs next) x in
    let u : Turn = asks_by t (pass_each m agent x.rec next xs) in
    tell_turning Any agent c own xs next (joined_of xs) now (settle agent now u)
    (settle_turning Any agent c own xs next now u
    (asks_turning Any agent c own xs next t (pass_each m agent x.rec next xs) refl
    (first_turning Any agent c own xs next x (takes_speaks Side.Aggregator m.body m.header.correlation now own) (moves_if_later Side.Aggregator (requested now m.body m.header.correlation own) now own).id) (pass_asking m agent x.rec next xs)))

-- a whole turn by a message of a child
pub answer_turning : (agent : Agent) (now : ℕ) (m : Message) (own : Record) (xs : List ChildConnection) (next : ℕ) →
    IsTurning (Unless m) agent None own xs next (answer_turn agent now m own xs next)
unfolding answer_turn turn_by_answer heard_by
answer_turning agent now m own xs next =
    let a : Asking = hear_each (is_terminating own.lsm) m agent next xs in
    let t : Turn = asks_by (begin own xs next) a in
    let u : Turn = hold_ends (list_any (loses m) xs) m now t in
    let v : Turn = force_ends (list_any (breaks m) xs) m agent now u in
    tell_turning (Unless m) agent None own xs next (joined_of xs) now (settle agent now v)
    (settle_turning (Unless m) agent None own xs next now v
    (force_turning (Unless m) agent None own xs next (list_any (breaks m) xs) m now u
    (hold_turning (Unless m) agent None own xs next (list_any (loses m) xs) m now t
    (asks_turning (Unless m) agent None own xs next (begin own xs next) a refl (none_turning (Unless m) agent None own xs next) (hear_asking (is_terminating own.lsm) m agent next xs)))))

---- What a turn says

module _ (Blind : List ℕ → ℕ → Type 0) (agent : Agent) (begun : Option ℕ) (old : Record) (xs : List ChildConnection) (first : ℕ) (t : Turn) (u : IsTurning Blind agent begun old xs first t) where
  abbrev notes : List Message
  notes = addressed agent.name t.own.owner t.notices

  in_parts : (p : Message → Bool) → tally p (spoken agent t) ≡ tally p (addressed agent.name t.own.owner t.replies) + (tally p t.asked + tally p notes)
  unfolding spoken
  in_parts p = omega (arith, tally_append p (addressed agent.name t.own.owner t.replies) (t.asked ++ notes), tally_append p t.asked notes)

  pub spoken_answers : (h : Header) (n : ℕ) →
      tally (answers_to h n) (spoken agent t) + owed_under agent.name h n t.own
      ≤ owed_under agent.name h n old + times (bytes_eq h.requester old.owner && bytes_eq h.provider agent.name) (one (is_id begun h.correlation))
  unfolding owed_under
  spoken_answers h n =
      let a = addressed_answers h n agent.name t.own.owner t.replies in
      let b = addressed_answers h n agent.name t.own.owner t.notices in
      let c = u.answers h.correlation n in
      let all = in_parts (answers_to h n) in
      let s : tally (answers_to h n) t.asked ≤ 0 = omega (arith, strange_answers h n agent.name t.asked, u.strange) in
      let o = u.owner in
      grind (arith, all, a, b, c, s, o)

  pub spoken_drawn : (c : ℕ) → tally (is_drawn c) (spoken agent t) + before agent.number first c ≤ before agent.number t.next c
  spoken_drawn c = omega (arith, in_parts (is_drawn c), addressed_drawn c agent.name t.own.owner t.replies, addressed_drawn c agent.name t.own.owner t.notices, u.drawn c, u.asks)

  pub spoken_own : tally (is_foreign agent.name) (spoken agent t) ≡ 0
  spoken_own =
      omega (
        arith,
        in_parts (is_foreign agent.name),
        addressed_foreign agent.name t.own.owner t.replies,
        addressed_foreign agent.name t.own.owner t.notices,
        u.asks,
        strange_foreign agent.name t.asked,
        u.strange,
      )

  -- only what it asks is a request
  pub spoken_reserves : (p : List ℕ) (c : ℕ) → tally (reserves_at p c) (spoken agent t) ≡ tally (reserves_at p c) t.asked
  spoken_reserves p c =
      omega (
        arith,
        in_parts (reserves_at p c),
        addressed_reserves p c agent.name t.own.owner t.replies,
        addressed_reserves p c agent.name t.own.owner t.notices,
        u.asks,
      )
