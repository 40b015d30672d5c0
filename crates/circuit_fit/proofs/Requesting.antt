-- A request that isn't refused keeps the fit of a connection: the own record takes it, and the children are asked.
use Rattle.std.proofs.Common.{ℕ, ◌≡◌, ◌∙◌, Bool, true, false, not, map, List, ◌&&◌, ◌||◌, ◌⊎◌, Contains, Option, Some, None, refl, sym, ap, subst, arith, true≢false}
use Rattle.std.specs.List.{All}
use Rattle.nsi_primitive.specs.Ids.{id_of}
use Rattle.nsi_primitive.specs.Messages.{kind_of}
use Rattle.nsi_primitive.specs.declared.kind.Kind.{Kind}
use Rattle.nsi_primitive.specs.declared.state.Rsm.{Rsm}
use Rattle.nsi_primitive.specs.declared.state.Side.{Side}
use Rattle.nsi_primitive.specs.declared.message.Body.{Body}
use Rattle.nsi_primitive.specs.declared.message.Criteria.{Criteria}
use Rattle.nsi_primitive.specs.declared.message.Message.{Message}
use Rattle.nsi_primitive.specs.declared.message.ReserveRequest.{ReserveRequest}
use Rattle.reserve_machine.specs.Table.{step as reserve_step}
use Rattle.connection_record.specs.declared.record.Record.{Record}
use Rattle.connection_record.specs.declared.life.LifecycleMove.{LifecycleMove}
use Rattle.connection_record.specs.declared.provisioning.ProvisionMove.{ProvisionMove}
use Rattle.connection_record.specs.declared.moves.ReservationMove.{ReservationMove}
use Rattle.connection_record.specs.Applied.{reserve_move, moves, moves_if, requested}
use Rattle.connection_record.specs.Moves.{event_of, reserves, asked_criteria, is_live}
use Rattle.connection_record.specs.Refusal.{is_in_place, record_refusal}
use Rattle.connection_record.proofs.Unrefused.{unrefused_fits, reserve_row, commit_row, abort_row, unrefused_criteria}
use Rattle.child_connection.specs.declared.state.Sent.{Sent}
use Rattle.child_connection.specs.Views.{ChildConnection}
use Rattle.child_connection.specs.Asks.{asks}
use Rattle.child_connection.specs.Holding.{is_reservation}
use Rattle.child_connection.proofs.Places.{asks_known}
use Rattle.aggregator_agent.specs.declared.agent.Agent.{Agent}
use Rattle.aggregator_agent.specs.Asking.{Asked, Asking, asked_view, ask_one, each, passed_on}
use Rattle.aggregator_agent.specs.Settling.{is_held}
use Rattle.connection_record.specs.Demand.{holds_pending}
use Rattle.circuit_link.specs.Sides.{version_of}
use Rattle.circuit_fit.specs.Fits.{pending_of, committed_of, IsFitting, IsKnown, Fits}
use Rattle.circuit_fit.proofs.Hearing.{like_fits}
use Rattle.circuit_fit.proofs.Owning.{IsAsBefore, as_itself, provisions_as, lives_as, as_fits, more_fits}
use Rattle.circuit_fit.proofs.Passing.{each_all, each_some, each_committed, reserve_fits, commit_fits, abort_fits, beside_like}

---- Views that were asked

pub asked_committed : (o : Option Body) (k : Kind) (c : ℕ) (x : ChildConnection) (v : ℕ) → Contains x.committed v → Contains (asked_view o k c x).committed v
unfolding asked_view
asked_committed None k c x v i = i
asked_committed (Some b) k c x v i = subst (λ vs. Contains vs v) (sym (asks_known k c x).1) i

asks_keep_known : (k : Kind) (c : ℕ) (x : ChildConnection) → IsKnown x → IsKnown (asks k c x)
unfolding asks is_held
asks_keep_known Kind.Reserve c x h e = h (either x e)
  where
    either : (x : ChildConnection) → (false || is_held x.phase) ≡ true → (is_held x.phase || is_held x.before) ≡ true
    either x e = grind (arith, e)
asks_keep_known Kind.ReserveCommit c x h e = h (either x e)
  where
    either : (x : ChildConnection) → (false || is_held x.phase) ≡ true → (is_held x.phase || is_held x.before) ≡ true
    either x e = grind (arith, e)
asks_keep_known Kind.ReserveAbort c x h e = h (either x e)
  where
    either : (x : ChildConnection) → (false || is_held x.phase) ≡ true → (is_held x.phase || is_held x.before) ≡ true
    either x e = grind (arith, e)
asks_keep_known Kind.Provision c x h e = h e
asks_keep_known Kind.Release c x h e = h e
asks_keep_known Kind.Terminate c x h e = h e
asks_keep_known _ c x h e = h e

pub asked_known : (o : Option Body) (k : Kind) (c : ℕ) (x : ChildConnection) → IsKnown x → IsKnown (asked_view o k c x)
unfolding asked_view
asked_known None k c x h = h
asked_known (Some b) k c x h = asks_keep_known k c x h

---- The own record and the views

module _ (agent : Agent) (asked all : List Message) (own : Record) (xs : List ChildConnection) (next : ℕ) (more : (m : Message) → Contains asked m → Contains all m) (fit : Fits agent.name asked own xs) where
  -- what the own record asks of its children
  abbrev passes : Body → Record → ℕ → ChildConnection → Asked
  passes b q n x = ask_one (passed_on b q x) (kind_of b) agent n x

  abbrev passed : Body → Record → Asking
  passed b q = each (λ n x. ask_one (passed_on b q x) (kind_of b) agent n x) next xs

  abbrev IsSaid : Asking → Type 0
  IsSaid a = (m : Message) → Contains a.asked m → Contains all m

  -- the fit of what follows, by its parts
  passed_fits : (b : Body) (q : Record) → IsSaid (passed b q) → committed_of q ≡ committed_of own → (q.mixed ≡ true → q.rsm ≡ Rsm.ReserveStart) → (holds_pending q.rsm ≡ true → holds_pending own.rsm ≡ true) →
      (is_live q.lsm ≡ true → q.mixed ≡ false → All (IsFitting agent.name all q.rsm (pending_of q)) (passed b q).children) → Fits agent.name all q (passed b q).children
  passed_fits b q said committed mixed holds fits =
      record {
        committed = λ v i. each_committed (passes b q) v next xs (λ n x j. asked_committed (passed_on b q x) (kind_of b) (id_of agent.number n) x v j) (fit.committed v (subst (λ vs. Contains vs v) committed i));
        known = each_all (passes b q) IsKnown IsKnown all (λ n x h _. asked_known (passed_on b q x) (kind_of b) (id_of agent.number n) x h) next xs fit.known said;
        mixed = mixed;
        some = λ h. each_some (passes b q) next xs (fit.some (holds h));
        fits = fits;
      }

  -- nothing of the reservation is asked
  beside_fits : (b : Body) (q : Record) → IsSaid (passed b q) → IsAsBefore own q → is_reservation (kind_of b) ≡ false → Fits agent.name all q (passed b q).children
  beside_fits b q said a e =
      let f : Fits agent.name all q xs = as_fits agent.name all own q xs a (more_fits agent.name asked all more own xs fit) in
      passed_fits b q said (ap (λ cs. map version_of cs) a.committed) f.mixed (λ h. sym (ap holds_pending a.rsm) ∙ h)
      (λ h n.
      each_all (passes b q) (IsFitting agent.name all q.rsm (pending_of q)) (IsFitting agent.name all q.rsm (pending_of q)) all
      (λ k x p _. like_fits agent.name all q.rsm (pending_of q) x (asked_view (passed_on b q x) (kind_of b) (id_of agent.number k) x) (beside_like agent.name asked all x (id_of agent.number k) (passed_on b q x) (kind_of b) e) p)
      next xs (f.fits h n) said)

  module _ (c now : ℕ) where
    abbrev Then : Body → Record → Type 0
    Then b q = IsSaid (passed b q) → Fits agent.name all q (passed b q).children

    -- the state that is known is put in its place
    at_state : (b : Body) (k : Rsm) (move : ReservationMove) → own.rsm ≡ k → Then b (reserves k move now own).rec → Then b (reserves own.rsm move now own).rec
    at_state b k move e h = subst (λ z. Then b (reserves z move now own).rec) (sym e) h

    reserve_then : (q : ReserveRequest) (criteria : Criteria) → own.rsm ≡ Rsm.ReserveStart → is_live own.lsm ≡ true → own.mixed ≡ false → Then (Body.Reserve q) (reserves Rsm.ReserveStart (ReservationMove.Reserve c criteria) now own).rec
    unfolding reserves reserve_step event_of passed_on
    reserve_then q criteria e l n said =
        passed_fits (Body.Reserve q) (reserves Rsm.ReserveStart (ReservationMove.Reserve c criteria) now own).rec said refl (λ h. absurd (true≢false (sym h ∙ n))) (λ h. absurd (cc))
        (λ _ _.
        each_all (passes (Body.Reserve q) (reserves Rsm.ReserveStart (ReservationMove.Reserve c criteria) now own).rec) (IsFitting agent.name asked Rsm.ReserveStart (pending_of own)) (IsFitting agent.name all Rsm.ReserveChecking (Some criteria.version)) all
        (λ k x p i. reserve_fits agent.name asked all x (id_of agent.number k) (pending_of own) criteria own.service _ refl i p) next xs
        (subst (λ k. All (IsFitting agent.name asked k (pending_of own)) xs) e (fit.fits l n)) said)

    not_mixed : (k : Rsm) → own.rsm ≡ k → (k ≡ Rsm.ReserveStart → ⊥) → (b : Bool) → own.mixed ≡ b → b ≡ false
    not_mixed k e f true h = absurd (f (sym e ∙ fit.mixed h))
    not_mixed k e f false h = refl

    known_fits : (P : ChildConnection → Type 0) → All P xs → All (λ x. IsKnown x × P x) xs
    known_fits P h k d l = (fit.known k d l, h k d l)

    commit_then : (id : ℕ) → own.rsm ≡ Rsm.ReserveHeld → is_live own.lsm ≡ true → Then (Body.ReserveCommit id) (reserves Rsm.ReserveHeld (ReservationMove.Commit c) now own).rec
    unfolding reserves reserve_step event_of passed_on
    commit_then id e l said =
        passed_fits (Body.ReserveCommit id) (reserves Rsm.ReserveHeld (ReservationMove.Commit c) now own).rec said refl
        (λ h. absurd (true≢false (sym h ∙ not_mixed Rsm.ReserveHeld e (λ z. cc) own.mixed refl))) (λ h. ap holds_pending e)
        (λ _ n.
        each_all (passes (Body.ReserveCommit id) (reserves Rsm.ReserveHeld (ReservationMove.Commit c) now own).rec) (λ x. IsKnown x × IsFitting agent.name asked Rsm.ReserveHeld (pending_of own) x) (IsFitting agent.name all Rsm.ReserveCommitting (pending_of own)) all
        (λ k x p i. commit_fits agent.name asked all x (id_of agent.number k) (pending_of own) _ refl p.0 p.1) next xs
        (known_fits (IsFitting agent.name asked Rsm.ReserveHeld (pending_of own)) (subst (λ k. All (IsFitting agent.name asked k (pending_of own)) xs) e (fit.fits l n))) said)

    -- a state in which no child has an unanswered request
    IsFree : Rsm → Type 0
    IsFree k = (x : ChildConnection) → IsFitting agent.name asked k (pending_of own) x → x.reserve_request ≡ None

    abort_at : (id : ℕ) (k : Rsm) (q : Record) → own.rsm ≡ k → IsFree k → (k ≡ Rsm.ReserveStart → ⊥) → is_live own.lsm ≡ true → committed_of q ≡ committed_of own → q.mixed ≡ own.mixed → q.rsm ≡ Rsm.ReserveAborting → Then (Body.ReserveAbort id) q
    unfolding passed_on IsFree
    abort_at id k q e free no_start l same mixed aborts said =
        passed_fits (Body.ReserveAbort id) q said same (λ h. absurd (true≢false (sym (sym mixed ∙ h) ∙ not_mixed k e no_start own.mixed refl))) (λ h. absurd (let w = sym (ap holds_pending aborts) ∙ h in cc))
        (λ _ n.
        subst (λ z. All (IsFitting agent.name all z (pending_of q)) (passed (Body.ReserveAbort id) q).children) (sym aborts)
        (each_all (passes (Body.ReserveAbort id) q) (λ x. IsKnown x × IsFitting agent.name asked k (pending_of own) x) (IsFitting agent.name all Rsm.ReserveAborting (pending_of q)) all
        (λ j x p i. abort_fits agent.name asked all x (id_of agent.number j) (pending_of q) _ refl i p.0 (free x p.1)) next xs
        (known_fits (IsFitting agent.name asked k (pending_of own)) (subst (λ z. All (IsFitting agent.name asked z (pending_of own)) xs) e (fit.fits l (sym mixed ∙ n)))) said))

    none_asked : (k : Rsm) (x : ChildConnection) → ((q : Sent) → x.reserve_request ≡ Some q → ⊥) → x.reserve_request ≡ None
    none_asked k x f = by_request x.reserve_request refl
      where
        by_request : (o : Option Sent) → x.reserve_request ≡ o → o ≡ None
        by_request None e = refl
        by_request (Some q) e = absurd (f q e)

    abort_then : (id : ℕ) → (own.rsm ≡ Rsm.ReserveHeld) ⊎ (own.rsm ≡ Rsm.ReserveFailed) ⊎ (own.rsm ≡ Rsm.ReserveTimeout) → is_live own.lsm ≡ true → Then (Body.ReserveAbort id) (reserves own.rsm (ReservationMove.Abort c) now own).rec
    unfolding reserves reserve_step event_of IsFree
    abort_then id h l = by_state own.rsm refl h
      where
        by_state : (k : Rsm) → own.rsm ≡ k → (k ≡ Rsm.ReserveHeld) ⊎ (k ≡ Rsm.ReserveFailed) ⊎ (k ≡ Rsm.ReserveTimeout) → Then (Body.ReserveAbort id) (reserves k (ReservationMove.Abort c) now own).rec
        by_state Rsm.ReserveHeld e h = abort_at id Rsm.ReserveHeld _ e (λ x f. none_asked Rsm.ReserveHeld x (λ q r. f.waits q r)) (λ z. cc) l refl refl refl
        by_state Rsm.ReserveFailed e h = abort_at id Rsm.ReserveFailed _ e (λ x f. none_asked Rsm.ReserveFailed x (λ q r. f.waits q r)) (λ z. cc) l refl refl refl
        by_state Rsm.ReserveTimeout e h = abort_at id Rsm.ReserveTimeout _ e (λ x f. none_asked Rsm.ReserveTimeout x (λ q r. f.waits q r)) (λ z. cc) l refl refl refl
        by_state Rsm.ReserveStart e h = absurd (grind (arith, h))
        by_state Rsm.ReserveChecking e h = absurd (grind (arith, h))
        by_state Rsm.ReserveCommitting e h = absurd (grind (arith, h))
        by_state Rsm.ReserveAborting e h = absurd (grind (arith, h))

    first_true : (a b : Bool) → (a && b) ≡ true → (b ≡ true)
    first_true true b h = h
    first_true false b h = absurd (cc)

    not_true : (b : Bool) → not b ≡ true → b ≡ false
    not_true true h = absurd (cc)
    not_true false h = refl

    reserve_in_place : (q : ReserveRequest) → is_in_place (Body.Reserve q) own ≡ true → own.mixed ≡ false
    unfolding is_in_place
    reserve_in_place q h = not_true own.mixed (first_true _ (not own.mixed) h)

    pub first_then : (q : ReserveRequest) → own.rsm ≡ Rsm.ReserveStart → is_live own.lsm ≡ true → own.mixed ≡ false → (asked_criteria now q own.committed ≡ None → ⊥) → Then (Body.Reserve q) (moves_if Side.Aggregator (requested now (Body.Reserve q) c own) now own).rec
    unfolding requested moves
    first_then q s l n f = by_criteria (asked_criteria now q own.committed) refl
      where
        by_criteria : (o : Option Criteria) → asked_criteria now q own.committed ≡ o → Then (Body.Reserve q) (moves_if Side.Aggregator (reserve_move c o) now own).rec
        by_criteria None e = absurd (f e)
        by_criteria (Some criteria) e = at_state (Body.Reserve q) Rsm.ReserveStart (ReservationMove.Reserve c criteria) s (reserve_then q criteria s l n)

    pub request_then : (b : Body) → record_refusal now b own ≡ None → Then b (moves_if Side.Aggregator (requested now b c own) now own).rec
    unfolding requested moves is_reservation
    request_then (Body.Reserve q) h =
        let fits = unrefused_fits now (Body.Reserve q) own h in
        first_then q (reserve_row q own fits.row) fits.live (reserve_in_place q fits.in_place) (unrefused_criteria now q own fits.modification)
    request_then (Body.ReserveCommit id) h =
        let fits = unrefused_fits now (Body.ReserveCommit id) own h in
        at_state (Body.ReserveCommit id) Rsm.ReserveHeld (ReservationMove.Commit c) (commit_row id own fits.row) (commit_then id (commit_row id own fits.row) fits.live)
    request_then (Body.ReserveAbort id) h = let fits = unrefused_fits now (Body.ReserveAbort id) own h in abort_then id (abort_row id own fits.row) fits.live
    request_then (Body.Provision id) h = λ said. beside_fits (Body.Provision id) _ said (provisions_as Side.Aggregator own.psm (ProvisionMove.Provision c) now own) refl
    request_then (Body.Release id) h = λ said. beside_fits (Body.Release id) _ said (provisions_as Side.Aggregator own.psm (ProvisionMove.Release c) now own) refl
    request_then (Body.Terminate id) h = λ said. beside_fits (Body.Terminate id) _ said (lives_as (LifecycleMove.Terminate c) now own) refl
    request_then b h = λ said. beside_fits b own said (as_itself own) refl
