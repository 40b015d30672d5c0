-- What an aggregator's own record commits by a turn: nothing, or what it worked on, where each child has answered without an error.
use Rattle.std.proofs.Common.{ℕ, ◌≡◌, ◌∙◌, ◌⊎◌, inl, inr, ◌&&◌, ◌||◌, Bool, true, false, not, List, [], ◌∷◌, ◌++◌, get_or, Option, Some, None, is_some, find, cond, refl, sym, ap, subst, arith}
use Rattle.std.specs.List.{All, list_any}
use Rattle.std.proofs.lemmas.List.Elements.{All-nil, All-cons}
use Rattle.nsi_primitive.specs.Ids.{id_of}
use Rattle.nsi_primitive.specs.declared.kind.ErrorName.{ErrorName}
use Rattle.nsi_primitive.specs.declared.kind.Kind.{Kind}
use Rattle.nsi_primitive.specs.declared.message.Body.{Body}
use Rattle.nsi_primitive.specs.declared.message.Criteria.{Criteria}
use Rattle.nsi_primitive.specs.declared.message.Exception.{Exception}
use Rattle.nsi_primitive.specs.declared.message.Message.{Message}
use Rattle.nsi_primitive.specs.declared.plane.Plane.{Plane}
use Rattle.nsi_primitive.specs.declared.state.Lsm.{Lsm}
use Rattle.nsi_primitive.specs.declared.state.Rsm.{Rsm}
use Rattle.nsi_primitive.specs.declared.state.Side.{Side}
use Rattle.reserve_machine.specs.Table.{step as reserve_step}
use Rattle.connection_record.specs.declared.life.LifecycleMove.{LifecycleMove}
use Rattle.connection_record.specs.declared.moves.Origin.{Origin}
use Rattle.connection_record.specs.declared.moves.ReservationMove.{ReservationMove}
use Rattle.connection_record.specs.declared.record.Record.{Record}
use Rattle.connection_record.specs.Applied.{reservation_closing, provision_closing, closes, tells_plane}
use Rattle.connection_record.specs.Lives.{provisions_if}
use Rattle.connection_record.specs.Moves.{event_of, reserves, reserves_if, is_live}
use Rattle.connection_record.specs.Replies.{then_moves, plain}
use Rattle.child_connection.specs.declared.state.Sent.{Sent}
use Rattle.child_connection.specs.Views.{ChildConnection, open_request}
use Rattle.aggregator_agent.specs.declared.agent.Agent.{Agent}
use Rattle.aggregator_agent.specs.Asking.{Turn}
use Rattle.aggregator_agent.specs.Settling.{is_waiting, is_quiet, has_error, done_or_mixed, reservation_verdict, reservation_due, is_there, settles_reservation, settles_provision, provision_due, closes_unless, settles, settle}
use Rattle.aggregator_agent.specs.Turns.{tell_joined, pass_on, takes, turn_by_request, request_turn, loses, breaks, hold_end_by, force_by, hold_ends, force_ends, heard_by, turn_by_answer, answer_turn}
use Rattle.circuit_fit.proofs.Owning.{IsAsBefore, as_then, provisions_if_as, lives_as, lives_if_as, plane_as}
use Rattle.circuit_link.proofs.Acting.{settles_course}
use Rattle.circuit_link.proofs.Aggregators.{From, request_from, answer_from}
use Rattle.circuit_laws.proofs.Attempts.{KeepsAttempt, course_keeps}

-- a child has answered, and told no error
abbrev pub IsDone : ChildConnection → Type 0
IsDone x = (x.reserve_request ≡ None) × (x.error ≡ None)

-- nothing more is committed, or the record lives and each child is done
abbrev pub CommitsBelow : Record → Record → List ChildConnection → Type 0
CommitsBelow r q ys = (q.committed ≡ r.committed) ⊎ ((is_live r.lsm ≡ true) × All IsDone ys)

pub record IsSettled (r q : Record) (ys : List ChildConnection) : Type 0 where
  pub keeps : KeepsAttempt r q
  pub lives : is_live q.lsm ≡ true → is_live r.lsm ≡ true
  pub done : CommitsBelow r q ys

---- Moves of the reservation machine

reserves_lsm : (k : Rsm) (move : ReservationMove) (now : ℕ) (r : Record) → (reserves k move now r).rec.lsm ≡ r.lsm
unfolding reserves reserve_step event_of
reserves_lsm k move now r = grind arith

if_lsm : (o : Option ReservationMove) (now : ℕ) (r : Record) → (reserves_if o now r).rec.lsm ≡ r.lsm
if_lsm None now r = refl
if_lsm (Some move) now r = reserves_lsm r.rsm move now r

closing_committed : (k : Rsm) (e : Exception) (now : ℕ) (r : Record) → r.rsm ≡ k → (reserves_if (reservation_closing k e) now r).rec.committed ≡ r.committed
unfolding reservation_closing reserves reserve_step event_of
closing_committed k e now r s = grind (arith, s)

spoiled_committed : (k : Rsm) (e : Exception) (b : Bool) (now : ℕ) (r : Record) → (reserves k (ReservationMove.Spoiled e b) now r).rec.committed ≡ r.committed
unfolding reserves reserve_step event_of
spoiled_committed k e b now r = grind arith

ended_committed : (k : Rsm) (o : Origin) (now : ℕ) (r : Record) → (reserves k (ReservationMove.HoldEnd o) now r).rec.committed ≡ r.committed
unfolding reserves reserve_step event_of
ended_committed k o now r = grind arith

hold_committed : (b : Bool) (body : Body) (now : ℕ) (r : Record) → (reserves_if (hold_end_by b body) now r).rec.committed ≡ r.committed
unfolding hold_end_by
hold_committed true (Body.ReserveTimeout t) now r = ended_committed r.rsm _ now r
hold_committed _ body now r = refl

---- All children

either_false : (a b : Bool) → (a || b) ≡ false → (a ≡ false) × (b ≡ false)
either_false false b h = (refl, h)
either_false true b h = absurd (cc)

not_true : (b : Bool) → not b ≡ true → b ≡ false
not_true true h = absurd (cc)
not_true false h = refl

waiting_none : (x : ChildConnection) → is_waiting Kind.Reserve x ≡ false → x.reserve_request ≡ None
unfolding open_request
waiting_none x h = by_request x.reserve_request h
  where
    by_request : (o : Option Sent) → is_some o ≡ false → o ≡ None
    by_request None e = refl
    by_request (Some q) e = absurd (cc)

none_any : (p : ChildConnection → Bool) (xs : List ChildConnection) → list_any p xs ≡ false → All (λ x. p x ≡ false) xs
none_any p [] h = All-nil (λ x. p x ≡ false)
none_any p (x ∷ xs) h = let w = either_false (p x) (list_any p xs) h in All-cons (λ x. p x ≡ false) x xs w.0 (none_any p xs w.1)

none_found : (p : ChildConnection → Bool) (xs : List ChildConnection) → find p xs ≡ None → All (λ x. p x ≡ false) xs
none_found p [] h = All-nil (λ x. p x ≡ false)
none_found p (x ∷ xs) h = by_first (p x) refl h (λ e. none_found p xs e)
  where
    by_first : (b : Bool) → p x ≡ b → cond b (Some x) (find p xs) ≡ None → (find p xs ≡ None → All (λ x. p x ≡ false) xs) → All (λ x. p x ≡ false) (x ∷ xs)
    by_first true e h f = absurd (cc)
    by_first false e h f = All-cons (λ x. p x ≡ false) x xs e (f h)

no_error : (o : Option ErrorName) → is_some o ≡ false → o ≡ None
no_error None e = refl
no_error (Some q) e = absurd (cc)

---- What is done as the children stand

module _ (agent : Agent) (now : ℕ) (xs : List ChildConnection) where
  verdict_done : (own : Record) → is_quiet Kind.Reserve xs ≡ true → ((reserves own.rsm (done_or_mixed agent.name (find has_error xs)) now own).rec.committed ≡ own.committed) ⊎ All IsDone xs
  verdict_done own quiet = by (find has_error xs) refl
    where
      by : (o : Option ChildConnection) → find has_error xs ≡ o → ((reserves own.rsm (done_or_mixed agent.name o) now own).rec.committed ≡ own.committed) ⊎ All IsDone xs
      by None e =
          inr (λ i d l. (
            waiting_none (get_or xs i d) (none_any (is_waiting Kind.Reserve) xs (not_true (list_any (is_waiting Kind.Reserve) xs) quiet) i d l),
            no_error (get_or xs i d).error (none_found has_error xs e i d l),
          ))
      by (Some x) e = inl (spoiled_committed own.rsm _ true now own)

  reservation_done : (own : Record) → own.rsm ≡ Rsm.ReserveCommitting → ((settles_reservation agent now xs own).rec.committed ≡ own.committed) ⊎ All IsDone xs
  unfolding settles_reservation reservation_due reservation_verdict
  reservation_done own state = by (is_quiet Kind.Reserve xs) refl
    where
      at_state : (k : Rsm) → k ≡ Rsm.ReserveCommitting → reservation_verdict k agent.name xs ≡ Some (done_or_mixed agent.name (find has_error xs))
      at_state k e = rw e refl

      by : (b : Bool) → is_quiet Kind.Reserve xs ≡ b → ((reserves_if (reservation_due b own.rsm agent.name xs) now own).rec.committed ≡ own.committed) ⊎ All IsDone xs
      by false e = inl refl
      by true e =
          subst (λ (o : Option ReservationMove). ((reserves_if o now own).rec.committed ≡ own.committed) ⊎ All IsDone xs) (sym (at_state own.rsm state)) (verdict_done own e)

  closes_as : (own : Record) → (let q : Record = (reserves_if (reservation_closing own.rsm (plain agent.name ErrorName.Gone)) now own).rec in IsAsBefore q (closes agent.name Side.Aggregator now own).rec)
  unfolding closes
  closes_as own =
      let gone : Exception = plain agent.name ErrorName.Gone in
      let q : Record = (reserves_if (reservation_closing own.rsm gone) now own).rec in
      let p : Record = (provisions_if Side.Aggregator (provision_closing q.psm gone) now q).rec in
      as_then q p _ (provisions_if_as Side.Aggregator (provision_closing q.psm gone) now q) (lives_as LifecycleMove.Done now p)

  closes_lives : (own : Record) → is_live (closes agent.name Side.Aggregator now own).rec.lsm ≡ true → is_live own.lsm ≡ true
  closes_lives own h = sym (ap is_live (if_lsm (reservation_closing own.rsm (plain agent.name ErrorName.Gone)) now own)) ∙ (closes_as own).lives h

  closes_committed : (own : Record) → (closes agent.name Side.Aggregator now own).rec.committed ≡ own.committed
  closes_committed own = (closes_as own).committed ∙ closing_committed own.rsm (plain agent.name ErrorName.Gone) now own refl

  both_as : (own : Record) → (let q : Record = (settles_reservation agent now xs own).rec in IsAsBefore q (then_moves (settles_reservation agent now xs own) (λ x. settles_provision agent now xs x)).rec)
  unfolding settles_provision
  both_as own = let q : Record = (settles_reservation agent now xs own).rec in provisions_if_as Side.Aggregator (provision_due (is_quiet Kind.Provision xs) q.psm agent.name xs) now q

  both_lives : (own : Record) → is_live (then_moves (settles_reservation agent now xs own) (λ x. settles_provision agent now xs x)).rec.lsm ≡ true → is_live own.lsm ≡ true
  unfolding settles_reservation
  both_lives own h = sym (ap is_live (if_lsm (reservation_due (is_quiet Kind.Reserve xs) own.rsm agent.name xs) now own)) ∙ (both_as own).lives h

  both_done : (own : Record) → is_live own.lsm ≡ true → own.rsm ≡ Rsm.ReserveCommitting → CommitsBelow own (then_moves (settles_reservation agent now xs own) (λ x. settles_provision agent now xs x)).rec xs
  both_done own live state = by (reservation_done own state)
    where
      by : ((settles_reservation agent now xs own).rec.committed ≡ own.committed) ⊎ All IsDone xs → CommitsBelow own (then_moves (settles_reservation agent now xs own) (λ x. settles_provision agent now xs x)).rec xs
      by (inl e) = inl ((both_as own).committed ∙ e)
      by (inr all) = inr (live, all)

  unless_lives : (b : Bool) (own : Record) → is_live (closes_unless b agent now own).rec.lsm ≡ true → is_live own.lsm ≡ true
  unfolding closes_unless
  unless_lives true own h = h
  unless_lives false own h = closes_lives own h

  unless_committed : (b : Bool) (own : Record) → (closes_unless b agent now own).rec.committed ≡ own.committed
  unfolding closes_unless
  unless_committed true own = refl
  unless_committed false own = closes_committed own

  settles_lives : (k : Lsm) (own : Record) → is_live (settles k agent now xs own).rec.lsm ≡ true → is_live own.lsm ≡ true
  unfolding settles
  settles_lives Lsm.Terminating own h = unless_lives (list_any is_there xs) own h
  settles_lives Lsm.Terminated own h = h
  settles_lives Lsm.Created own h = both_lives own h
  settles_lives Lsm.Failed own h = both_lives own h
  settles_lives Lsm.PassedEndTime own h = both_lives own h

  settles_done : (k : Lsm) (own : Record) → own.lsm ≡ k → own.rsm ≡ Rsm.ReserveCommitting → CommitsBelow own (settles k agent now xs own).rec xs
  unfolding settles is_live
  settles_done Lsm.Terminating own e state = inl (unless_committed (list_any is_there xs) own)
  settles_done Lsm.Terminated own e state = inl refl
  settles_done Lsm.Created own e state = both_done own (ap is_live e) state
  settles_done Lsm.Failed own e state = both_done own (ap is_live e) state
  settles_done Lsm.PassedEndTime own e state = both_done own (ap is_live e) state

  settles_below : (own : Record) → CommitsBelow own (settles own.lsm agent now xs own).rec xs
  settles_below own = by (course_keeps own (settles own.lsm agent now xs own).rec (settles own.lsm agent now xs own).out (settles_course own.lsm agent now xs own)).committed
    where
      q : Record
      q = (settles own.lsm agent now xs own).rec

      by : (q.committed ≡ own.committed) ⊎ ((k : Criteria) × (own.rsm ≡ Rsm.ReserveCommitting) × (own.pending ≡ Some k) × (q.committed ≡ own.committed ++ k ∷ []) × (q.pending ≡ None)) → CommitsBelow own q xs
      by (inl e) = inl e
      by (inr (k, state, held, e, gone)) = settles_done own.lsm own refl state

  -- and what goes before and behind commits nothing
  ended_turn : (own r : Record) (b : Bool) (p : Plane) (c : ℕ) → r.committed ≡ own.committed → (is_live r.lsm ≡ true → is_live own.lsm ≡ true) →
      (let q : Record = (tells_plane b p c now (settles r.lsm agent now xs r).rec).rec in KeepsAttempt own q → IsSettled own q xs)
  ended_turn own r b p c same live keeps =
      let a : IsAsBefore (settles r.lsm agent now xs r).rec (tells_plane b p c now (settles r.lsm agent now xs r).rec).rec = plane_as b p c now (settles r.lsm agent now xs r).rec in
      record { keeps = keeps; lives = λ h. live (settles_lives r.lsm r (a.lives h)); done = by a.committed (settles_below r) }
    where
      by : (let q : Record = (tells_plane b p c now (settles r.lsm agent now xs r).rec).rec in q.committed ≡ (settles r.lsm agent now xs r).rec.committed → CommitsBelow r (settles r.lsm agent now xs r).rec xs → CommitsBelow own q xs)
      by e (inl f) = inl (e ∙ f ∙ same)
      by e (inr w) = inr (live w.0, w.1)

---- Turns

pub request_settled : (agent : Agent) (now : ℕ) (m : Message) (own : Record) (xs : List ChildConnection) (next : ℕ) → IsSettled (takes m now own).rec (request_turn agent now m own xs next).own (request_turn agent now m own xs next).children
unfolding request_turn turn_by_request tell_joined settle pass_on
request_settled agent now m own xs next =
    let t : Turn = request_turn agent now m own xs next in
    let r : Record = (takes m now own).rec in
    let f : From (takes m now own) t = request_from agent now m own xs next in
    ended_turn agent now t.children r r _ _ _ refl (λ h. h) (course_keeps r t.own (f.rest ++ t.notices) f.course)

pub answer_settled : (agent : Agent) (now : ℕ) (m : Message) (own : Record) (xs : List ChildConnection) (next : ℕ) → IsSettled own (answer_turn agent now m own xs next).own (answer_turn agent now m own xs next).children
unfolding answer_turn turn_by_answer tell_joined settle force_ends hold_ends heard_by
answer_settled agent now m own xs next =
    let t : Turn = answer_turn agent now m own xs next in
    let f = answer_from agent now m own xs next in
    let held : Record = (reserves_if (hold_end_by (list_any (loses m) xs && is_live own.lsm) m.body) now own).rec in
    let forced : IsAsBefore held _ = lives_if_as (force_by (list_any (breaks m) xs) (id_of agent.number _) m.body) now held in
    ended_turn agent now t.children own _ _ _ _ (forced.committed ∙ hold_committed (list_any (loses m) xs && is_live own.lsm) m.body now own)
    (λ h. sym (ap is_live (if_lsm (hold_end_by (list_any (loses m) xs && is_live own.lsm) m.body) now own)) ∙ forced.lives h) (course_keeps own t.own (f.rest ++ t.notices) f.course)
