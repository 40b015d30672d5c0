-- A request that the record takes or refuses keeps the link of the view that waits for its answer.
use Rattle.std.proofs.Common.{ℕ, ◌≡◌, Bool, true, false, [], ◌∷◌, ◌++◌, Contains, Option, Some, None, ◌⊎◌, inl, inr, ◌==◌, ◌||◌, refl, sym, ap, ◌∙◌, subst, arith, true≢false}
use Rattle.std.proofs.lemmas.List.Elements.{Contains-append_right, Contains-append_cases}
use Rattle.nsi_primitive.specs.Messages.{kind_of}
use Rattle.nsi_primitive.specs.declared.kind.Kind.{Kind}
use Rattle.nsi_primitive.specs.declared.message.Body.{Body}
use Rattle.nsi_primitive.specs.declared.message.Criteria.{Criteria}
use Rattle.nsi_primitive.specs.declared.message.Exception.{Exception}
use Rattle.nsi_primitive.specs.declared.message.ReserveRequest.{ReserveRequest}
use Rattle.nsi_primitive.specs.declared.state.Rsm.{Rsm}
use Rattle.nsi_primitive.specs.declared.state.Side.{Side as Place}
use Rattle.reserve_machine.specs.Table.{step as reserve_step}
use Rattle.child_connection.specs.declared.state.Phase.{Phase}
use Rattle.child_connection.specs.Views.{ChildConnection, sent}
use Rattle.child_connection.specs.Asks.{asks}
use Rattle.child_connection.specs.Hearing.{hears}
use Rattle.child_connection.specs.Holding.{is_reservation, is_timeout, is_response, phase_of}
use Rattle.child_connection.specs.Standing.{IsQuiet, back}
use Rattle.child_connection.proofs.AtRest.{asked_rests, refused_rests}
use Rattle.child_connection.proofs.Holds.{asked_stands}
use Rattle.connection_record.specs.declared.record.Record.{Record}
use Rattle.connection_record.specs.declared.moves.ReservationMove.{ReservationMove}
use Rattle.connection_record.specs.declared.apply.Move.{Move}
use Rattle.connection_record.specs.Applied.{reserve_move, moves, moves_if, requested}
use Rattle.connection_record.specs.Courses.{answering}
use Rattle.connection_record.specs.Moves.{event_of, reserves, asked_criteria}
use Rattle.connection_record.specs.Refusal.{record_refusal}
use Rattle.connection_record.specs.Replies.{Moved, id_or, reply}
use Rattle.connection_record.specs.Speaking.{is_answering, is_asking, is_noting}
use Rattle.connection_record.proofs.Unrefused.{unrefused_fits, reserve_row, commit_row, abort_row, unrefused_criteria}
use Rattle.circuit_link.specs.Sides.{standing_of, Side, took_in, OwesTaken}
use Rattle.circuit_link.specs.Links.{IsCalm, WorksOn, Pending, IsAttempt, Link}
use Rattle.circuit_link.proofs.Answering.{one_answer, answer_there, nothing_answered}
use Rattle.circuit_link.proofs.Inner.{quiet_rests}
use Rattle.circuit_link.proofs.Likeness.{known_of}

---- Asking

asked_calm : (k : Kind) (c : ℕ) (x : ChildConnection) (s : Side) → is_reservation k ≡ true → s.said c ≡ [] → IsCalm x s → IsCalm (back (asks k c x)) s
unfolding asks is_reservation
asked_calm Kind.Reserve c x s r n h =
    record {
      quiet = asked_rests Kind.Reserve c x (standing_of s.rec) r h.quiet;
      late = λ d b p a i t. let e : d ≡ c = cc in absurd (nothing_in b (subst (λ z. Contains z b) (ap s.said e ∙ n) i));
    }
  where
    nothing_in : (b : Body) → Contains [] b → ⊥
    nothing_in b i = omega (arith, i.1)
asked_calm Kind.ReserveCommit c x s r n h = record { quiet = asked_rests Kind.ReserveCommit c x (standing_of s.rec) r h.quiet; late = h.late }
asked_calm Kind.ReserveAbort c x s r n h = record { quiet = asked_rests Kind.ReserveAbort c x (standing_of s.rec) r h.quiet; late = h.late }
asked_calm _ c x s r n h = absurd (cc)

asked_attempt : (k : Kind) (c : ℕ) (x : ChildConnection) → is_reservation k ≡ true → IsAttempt k c (asks k c x)
unfolding asks is_reservation
asked_attempt Kind.Reserve c x r = refl
asked_attempt Kind.ReserveCommit c x r = tt
asked_attempt Kind.ReserveAbort c x r = tt
asked_attempt _ c x r = absurd (cc)

pub calm_of : (x : ChildConnection) (s : Side) → Link x s → x.reserve_request ≡ None → IsCalm x s
calm_of x s (Link.calm h) e = h
calm_of x s (Link.asked c k r p a y) e = absurd (cc)

pub asking_link : (k : Kind) (c : ℕ) (x : ChildConnection) (s : Side) → is_reservation k ≡ true → x.reserve_request ≡ None → s.seen c ≡ false → s.said c ≡ [] → Link x s → Link (asks k c x) s
asking_link k c x s r e u n h =
    let a = asked_stands k c x r in
    Link.asked c k a.0 a.1 (asked_attempt k c x r) (Pending.unseen u n (asked_calm k c x s r n (calm_of x s h e)))

---- A request that waits

-- a view whose request isn't taken
pub record IsUnseen (c : ℕ) (k : Kind) (x : ChildConnection) (s : Side) : Type 0 where
  pub phase : x.phase ≡ phase_of k
  pub attempt : IsAttempt k c x
  pub none : s.said c ≡ []
  pub calm : IsCalm (back x) s

same_request : (c d : ℕ) (k l : Kind) → Some (sent c k) ≡ Some (sent d l) → (c ≡ d) × (k ≡ l)
same_request c d k l e = let q : sent c k ≡ sent d l = cc in (ap (λ z. z.correlation) q, ap (λ z. z.kind) q)

pub unseen_view : (c : ℕ) (k : Kind) (x : ChildConnection) (s : Side) → Link x s → x.reserve_request ≡ Some (sent c k) → s.seen c ≡ false → IsUnseen c k x s
unseen_view c k x s (Link.calm h) r u = absurd (let q = h.quiet.none in cc)
unseen_view c k x s (Link.asked d l r' p a y) r u = by_same (same_request d c l k (sym r' ∙ r)).0 (same_request d c l k (sym r' ∙ r)).1 p a y
  where
    by_pending : x.phase ≡ phase_of k → IsAttempt k c x → Pending c x s → IsUnseen c k x s
    by_pending p a (Pending.unseen v n h) = record { phase = p; attempt = a; none = n; calm = h }
    by_pending p a (Pending.working v w f) = absurd (true≢false (sym v ∙ u))
    by_pending p a (Pending.told v f w m g l q) = absurd (true≢false (sym v ∙ u))

    by_same : (d ≡ c) → (l ≡ k) → x.phase ≡ phase_of l → IsAttempt l d x → Pending d x s → IsUnseen c k x s
    by_same e f p a y = by_pending (p ∙ ap phase_of f) (subst (λ z. IsAttempt k z x) e (subst (λ z. IsAttempt z d x) f a)) (subst (λ z. Pending z x s) e y)

---- It is taken

took_seen : (c : ℕ) (f : ℕ → Bool) → ((c == c) || f c) ≡ true
took_seen c f = grind arith

module _ (now c : ℕ) (x : ChildConnection) (s : Side) where
  -- only what is said of the request is under it
  only_new : (y : Moved) → s.said c ≡ [] → (b : Body) → Contains (s.said c ++ answering c y.out) b → Contains (answering c y.out) b
  only_new y n b i = subst (λ z. Contains (z ++ answering c y.out) b) n i

  responses : (d : ℕ) (b : Body) (id : ℕ) → Contains (answering c (reply d (Body.ReserveResponse id) ∷ [])) b → is_response b ≡ true
  unfolding is_response
  responses d b id i = let k = one_answer c d b (Body.ReserveResponse id) i in ap is_response k.1

  none_said : (b : Body) → Contains (answering c []) b → is_response b ≡ true
  none_said b i = absurd (nothing_answered c b [] refl i)

  reserve_link : (criteria : Criteria) → s.rec.rsm ≡ Rsm.ReserveStart → x.reserve_request ≡ Some (sent c Kind.Reserve) → x.phase ≡ Phase.Reserving → x.attempt ≡ Some c → s.said c ≡ [] → IsCalm (back x) s →
      Pending c x (took_in c s (reserves Rsm.ReserveStart (ReservationMove.Reserve c criteria) now s.rec))
  unfolding reserves reserve_step event_of
  reserve_link criteria e r p a n h =
      Pending.working (took_seen c s.seen)
      (WorksOn.reserving (record { asked = r; phase = p; attempt = a; state = refl; request = refl; its_attempt = refl; same = h.quiet.same }))
      (λ b i. responses c b s.rec.id (only_new (reserves Rsm.ReserveStart (ReservationMove.Reserve c criteria) now s.rec) n b i))

  held_pending : s.rec.rsm ≡ Rsm.ReserveHeld → IsQuiet (back x) (standing_of s.rec) → x.pending ≡ (standing_of s.rec).pending
  held_pending e h = grind (arith, e)

  commit_link : s.rec.rsm ≡ Rsm.ReserveHeld → x.reserve_request ≡ Some (sent c Kind.ReserveCommit) → x.phase ≡ Phase.Committing → s.said c ≡ [] → IsCalm (back x) s →
      Pending c x (took_in c s (reserves Rsm.ReserveHeld (ReservationMove.Commit c) now s.rec))
  unfolding reserves reserve_step event_of
  commit_link e r p n h =
      Pending.working (took_seen c s.seen)
      (WorksOn.committing (record { asked = r; phase = p; state = refl; request = refl; pending = held_pending e h.quiet; same = h.quiet.same }))
      (λ b i. none_said b (only_new (reserves Rsm.ReserveHeld (ReservationMove.Commit c) now s.rec) n b i))

  abort_link : (k : Rsm) → (k ≡ Rsm.ReserveHeld) ⊎ (k ≡ Rsm.ReserveFailed) ⊎ (k ≡ Rsm.ReserveTimeout) → x.reserve_request ≡ Some (sent c Kind.ReserveAbort) → x.phase ≡ Phase.Aborting → s.said c ≡ [] → IsCalm (back x) s →
      Pending c x (took_in c s (reserves k (ReservationMove.Abort c) now s.rec))
  unfolding reserves reserve_step event_of
  abort_link Rsm.ReserveHeld e r p n h =
      Pending.working (took_seen c s.seen) (WorksOn.aborting (record { asked = r; phase = p; state = refl; request = refl; same = h.quiet.same }))
      (λ b i. none_said b (only_new (reserves Rsm.ReserveHeld (ReservationMove.Abort c) now s.rec) n b i))
  abort_link Rsm.ReserveFailed e r p n h =
      Pending.working (took_seen c s.seen) (WorksOn.aborting (record { asked = r; phase = p; state = refl; request = refl; same = h.quiet.same }))
      (λ b i. none_said b (only_new (reserves Rsm.ReserveFailed (ReservationMove.Abort c) now s.rec) n b i))
  abort_link Rsm.ReserveTimeout e r p n h =
      Pending.working (took_seen c s.seen) (WorksOn.aborting (record { asked = r; phase = p; state = refl; request = refl; same = h.quiet.same }))
      (λ b i. none_said b (only_new (reserves Rsm.ReserveTimeout (ReservationMove.Abort c) now s.rec) n b i))
  abort_link Rsm.ReserveStart e r p n h = absurd (grind (arith, e))
  abort_link Rsm.ReserveChecking e r p n h = absurd (grind (arith, e))
  abort_link Rsm.ReserveCommitting e r p n h = absurd (grind (arith, e))
  abort_link Rsm.ReserveAborting e r p n h = absurd (grind (arith, e))

  -- which move the request is, and where it leaves the view
  pub record IsTakenBy (body : Body) : Type 0 where
    pub move : ReservationMove
    pub is : requested now body c s.rec ≡ Some (Move.Reservation move)
    pub pending : Pending c x (took_in c s (reserves s.rec.rsm move now s.rec))

  pub reserve_taken : (q : ReserveRequest) → s.rec.rsm ≡ Rsm.ReserveStart → (asked_criteria now q s.rec.committed ≡ None → ⊥) → x.reserve_request ≡ Some (sent c Kind.Reserve) →
      IsUnseen c Kind.Reserve x s → IsTakenBy (Body.Reserve q)
  unfolding requested phase_of
  reserve_taken q e f r u = by_criteria (asked_criteria now q s.rec.committed) refl
    where
      by_criteria : (o : Option Criteria) → asked_criteria now q s.rec.committed ≡ o → IsTakenBy (Body.Reserve q)
      by_criteria None h = absurd (f h)
      by_criteria (Some criteria) h =
          record {
            move = ReservationMove.Reserve c criteria;
            is = ap (λ o. reserve_move c o) h;
            pending = subst (λ k. Pending c x (took_in c s (reserves k (ReservationMove.Reserve c criteria) now s.rec))) (sym e) (reserve_link criteria e r u.phase u.attempt u.none u.calm);
          }

  commit_taken : (id : ℕ) → s.rec.rsm ≡ Rsm.ReserveHeld → x.reserve_request ≡ Some (sent c Kind.ReserveCommit) → IsUnseen c Kind.ReserveCommit x s → IsTakenBy (Body.ReserveCommit id)
  unfolding requested phase_of
  commit_taken id e r u =
      record {
        move = ReservationMove.Commit c;
        is = refl;
        pending = subst (λ k. Pending c x (took_in c s (reserves k (ReservationMove.Commit c) now s.rec))) (sym e) (commit_link e r u.phase u.none u.calm);
      }

  abort_taken : (id : ℕ) → (s.rec.rsm ≡ Rsm.ReserveHeld) ⊎ (s.rec.rsm ≡ Rsm.ReserveFailed) ⊎ (s.rec.rsm ≡ Rsm.ReserveTimeout) → x.reserve_request ≡ Some (sent c Kind.ReserveAbort) →
      IsUnseen c Kind.ReserveAbort x s → IsTakenBy (Body.ReserveAbort id)
  unfolding requested phase_of
  abort_taken id e r u = record { move = ReservationMove.Abort c; is = refl; pending = abort_link s.rec.rsm e r u.phase u.none u.calm }

  pub own_taken : (body : Body) (k : Kind) → kind_of body ≡ k → is_reservation k ≡ true → record_refusal now body s.rec ≡ None → x.reserve_request ≡ Some (sent c k) → IsUnseen c k x s → IsTakenBy body
  unfolding is_reservation
  own_taken (Body.Reserve q) k e i h r u =
      let fit = unrefused_fits now (Body.Reserve q) s.rec h in
      reserve_taken q (reserve_row q s.rec fit.row) (unrefused_criteria now q s.rec fit.modification) (r ∙ ap (λ z. Some (sent c z)) (sym e)) (subst (λ z. IsUnseen c z x s) (sym e) u)
  own_taken (Body.ReserveCommit id) k e i h r u =
      commit_taken id (commit_row id s.rec (unrefused_fits now (Body.ReserveCommit id) s.rec h).row) (r ∙ ap (λ z. Some (sent c z)) (sym e)) (subst (λ z. IsUnseen c z x s) (sym e) u)
  own_taken (Body.ReserveAbort id) k e i h r u =
      abort_taken id (abort_row id s.rec (unrefused_fits now (Body.ReserveAbort id) s.rec h).row) (r ∙ ap (λ z. Some (sent c z)) (sym e)) (subst (λ z. IsUnseen c z x s) (sym e) u)
  own_taken _ k e i h r u = absurd (let q = e in let w = i in cc)

pub taken_move : (place : Place) (body : Body) (c now : ℕ) (r : Record) (move : ReservationMove) → requested now body c r ≡ Some (Move.Reservation move) →
    moves_if place (requested now body c r) now r ≡ reserves r.rsm move now r
unfolding moves
taken_move place body c now r move q = ap (λ o. moves_if place o now r) q

pub taking_link : (place : Place) (body : Body) (k : Kind) (c now : ℕ) (x : ChildConnection) (s : Side) → kind_of body ≡ k → is_reservation k ≡ true → record_refusal now body s.rec ≡ None →
    x.reserve_request ≡ Some (sent c k) → s.seen c ≡ false → Link x s → Link x (took_in c s (moves_if place (requested now body c s.rec) now s.rec))
taking_link place body k c now x s e i h r u l =
    let w = unseen_view c k x s l r u in
    let t = own_taken now c x s body k e i h r w in
    subst (λ z. Link x (took_in c s z)) (sym (taken_move place body c now s.rec t.move t.is)) (Link.asked c k r w.phase w.attempt t.pending)

---- It is refused

module _ (c : ℕ) (k : Kind) (x : ChildConnection) (s : Side) (o : Option ℕ) (e : Exception) where
  abbrev pub refused_side : Side
  refused_side = took_in c s (record { rec = s.rec; out = reply c (Body.Error o e) ∷ [] })

  refused_held : IsCalm (back x) s → x.reserve_request ≡ Some (sent c k) → (d : ℕ) → (hears (Body.Error o e) c x).view.phase ≡ Phase.Held → (hears (Body.Error o e) c x).view.attempt ≡ Some d →
      (x.before ≡ Phase.Held) × (x.attempt ≡ Some d)
  unfolding hears
  refused_held h r d p a = grind (arith, r)

  no_response : is_response (Body.Error o e) ≡ false
  unfolding is_response
  no_response = refl

  plain_error : is_timeout (Body.Error o e) ≡ false
  unfolding is_timeout
  plain_error = refl

  error_answers : is_answering (Body.Error o e) ≡ true
  unfolding is_answering is_asking is_noting
  error_answers = refl

  refused_calm : IsCalm (back x) s → x.reserve_request ≡ Some (sent c k) → IsCalm (hears (Body.Error o e) c x).view refused_side
  refused_calm h r =
      record {
        quiet = refused_rests k c x (standing_of s.rec) o e h.quiet r;
        late = λ d b p a i t.
            let w = refused_held h r d p a in
            elim (Contains-append_cases (s.said d) (answering d (reply c (Body.Error o e) ∷ [])) b i) [
              | inl j ↦ h.late d b w.0 w.1 j t
              | inr j ↦ let q = one_answer d c b (Body.Error o e) j in absurd (true≢false (sym t ∙ ap is_timeout q.1 ∙ plain_error))
            ];
      }

  pub refusing_link : OwesTaken s → x.reserve_request ≡ Some (sent c k) → s.seen c ≡ false → Link x s → Link x refused_side
  refusing_link owes r u l = Link.asked c k r w.phase w.attempt pending
    where
      w : IsUnseen c k x s
      w = unseen_view c k x s l r u

      apart : s.rec.rsm ≡ Rsm.ReserveHeld → id_or s.rec.attempt ≡ c → ⊥
      apart held a = true≢false (sym (known_of s owes held) ∙ ap s.seen a ∙ u)

      pending : Pending c x refused_side
      pending =
          Pending.told (took_seen c s.seen)
          (λ b i.
          let q = one_answer c c b (Body.Error o e) (subst (λ z. Contains (z ++ answering c (reply c (Body.Error o e) ∷ [])) b) w.none i) in
          inr (subst (λ z. IsCalm (hears z c x).view refused_side) (sym q.1) (refused_calm w.calm r)))
          (quiet_rests (back x) s.rec w.calm.quiet)
          (record { waits = λ held a. absurd (apart held a) })
          (Body.Error o e) (Contains-append_right (s.said c) (answering c (reply c (Body.Error o e) ∷ [])) (Body.Error o e) (answer_there c (Body.Error o e) error_answers)) no_response
