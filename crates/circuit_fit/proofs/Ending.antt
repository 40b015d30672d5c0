-- What a turn of a connection leaves: its children fit, and those that are asked to terminate are of a connection that doesn't live.
use Rattle.std.proofs.Common.{ℕ, ◌≡◌, ◌∙◌, Bool, true, false, List, [], ◌∷◌, ◌&&◌, ◌⊎◌, inl, inr, Contains, Option, Some, None, is_none, option_to_list, refl, sym, ap, subst, arith, true≢false, bytes_eq}
use Rattle.std.specs.List.{All, list_any}
use Rattle.std.proofs.lemmas.List.Elements.{All-contains, Contains-append_cases}
use Rattle.std.proofs.lemmas.Slice.Eq.{bytes_eq-Decides}
use Rattle.nsi_primitive.specs.Ids.{id_of}
use Rattle.nsi_primitive.specs.Messages.{kind_of, connection_of}
use Rattle.nsi_primitive.specs.declared.kind.ErrorName.{ErrorName}
use Rattle.nsi_primitive.specs.declared.kind.Kind.{Kind}
use Rattle.nsi_primitive.specs.declared.message.Body.{Body}
use Rattle.nsi_primitive.specs.declared.message.Message.{Message}
use Rattle.nsi_primitive.specs.declared.state.Lsm.{Lsm}
use Rattle.nsi_primitive.specs.declared.state.Side.{Side}
use Rattle.lifecycle_machine.specs.Table.{step as lifecycle_step}
use Rattle.record_index.proofs.Members.{nothing_in, contains_first, contains_more}
use Rattle.connection_record.specs.declared.record.Record.{Record}
use Rattle.connection_record.specs.declared.life.LifecycleMove.{LifecycleMove}
use Rattle.connection_record.specs.declared.moves.ReservationMove.{ReservationMove}
use Rattle.connection_record.specs.declared.provisioning.ProvisionMove.{ProvisionMove}
use Rattle.nsi_primitive.specs.declared.message.Criteria.{Criteria}
use Rattle.connection_record.specs.Applied.{moves, moves_if, requested, reserve_move, is_terminating, reservation_closing, provision_closing, closes}
use Rattle.connection_record.specs.Lives.{lifecycle_event, lives, lives_if, provisions_if}
use Rattle.connection_record.specs.Moves.{asked_criteria, reserves_if, is_live}
use Rattle.connection_record.specs.Replies.{plain}
use Rattle.child_connection.specs.Views.{ChildConnection}
use Rattle.child_connection.specs.Asks.{to_child, request_about}
use Rattle.child_connection.specs.Hearing.{hear, hear_from}
use Rattle.child_connection.proofs.Places.{asks_known, asks_place, hear_place}
use Rattle.aggregator_agent.specs.declared.agent.Agent.{Agent}
use Rattle.aggregator_agent.specs.Asking.{Asked, Asking, asked_view, request_of, each, passed_on, pass_one, pass_each}
use Rattle.aggregator_agent.specs.Settling.{is_quiet, is_there, reservation_due, provision_due, settles_reservation, settles_provision, closes_unless, settles, settle}
use Rattle.aggregator_agent.specs.Turns.{takes, tell_joined, pass_on, turn_by_request, request_turn, late_terminate, hear_one, hear_each, hold_end_by, force_by, hold_ends, force_ends, heard_by, turn_by_answer, answer_turn, loses, breaks}
use Rattle.circuit_link.proofs.Answering.{only_one}
use Rattle.circuit_link.proofs.Living.{reserves_life}
use Rattle.circuit_pairs.proofs.Parenting.{passed_may}
use Rattle.circuit_fit.specs.Fits.{IsHonest, Fits}
use Rattle.circuit_fit.proofs.Owning.{IsAsBefore, lives_as, lives_if_as, provisions_as, provisions_if_as, plane_as, as_fits, more_fits}
use Rattle.circuit_fit.proofs.Passing.{request_some}
use Rattle.circuit_fit.proofs.Turning.{answer_fits, request_fits}

---- All children in order

module _ (does : ℕ → ChildConnection → Asked) where
  pub each_there : (next : ℕ) (xs : List ChildConnection) (x : ChildConnection) → Contains xs x → (n : ℕ) × Contains (each does next xs).children (does n x).child
  unfolding each
  each_there next [] x i = absurd (nothing_in x i)
  each_there next (y ∷ ys) x i = by_part (contains_first y x ys i) (λ j. each_there (does next y).next ys x j)
    where
      by_part : (x ≡ y) ⊎ Contains ys x → (Contains ys x → (n : ℕ) × Contains (each does (does next y).next ys).children (does n x).child) →
          (n : ℕ) × Contains ((does next y).child ∷ (each does (does next y).next ys).children) (does n x).child
      by_part (inl e) f = (next, contains_more (does next y).child (does next x).child (each does (does next y).next ys).children (inl (ap (λ z. (does next z).child) e)))
      by_part (inr j) f = let w = f j in (w.0, contains_more (does next y).child (does w.0 x).child (each does (does next y).next ys).children (inr w.1))

  pub each_asked : (next : ℕ) (xs : List ChildConnection) (m : Message) → Contains (each does next xs).asked m →
      (n : ℕ) × (x : ChildConnection) × Contains xs x × Contains (does n x).asked m × Contains (each does next xs).children (does n x).child
  unfolding each
  each_asked next [] m i = absurd (nothing_in m i)
  each_asked next (y ∷ ys) m i = by_part (Contains-append_cases (does next y).asked (each does (does next y).next ys).asked m i) (λ j. each_asked (does next y).next ys m j)
    where
      rest : List ChildConnection
      rest = (each does (does next y).next ys).children

      by_part : Contains (does next y).asked m ⊎ Contains (each does (does next y).next ys).asked m →
          (Contains (each does (does next y).next ys).asked m → (n : ℕ) × (x : ChildConnection) × Contains ys x × Contains (does n x).asked m × Contains (each does (does next y).next ys).children (does n x).child) →
          (n : ℕ) × (x : ChildConnection) × Contains (y ∷ ys) x × Contains (does n x).asked m × Contains ((does next y).child ∷ (each does (does next y).next ys).children) (does n x).child
      by_part (inl j) f = (next, y, contains_more y y ys (inl refl), j, contains_more (does next y).child (does next y).child rest (inl refl))
      by_part (inr j) f =
          let (n, x, p, q, r) = f j in
          (n, x, contains_more y x ys (inr p), q, contains_more (does next y).child (does n x).child rest (inr r))

---- The own record

-- one that doesn't live doesn't come alive
abbrev pub StaysDead : Record → Record → Type 0
StaysDead r q = is_live q.lsm ≡ true → is_live r.lsm ≡ true

reservation_dead : (o : Option ReservationMove) (now : ℕ) (r : Record) → StaysDead r (reserves_if o now r).rec
reservation_dead None now r = λ h. h
reservation_dead (Some move) now r = λ h. sym (ap is_live (reserves_life r.rsm move now r)) ∙ h

closes_dead : (agent : List ℕ) (side : Side) (now : ℕ) (r : Record) → StaysDead r (closes agent side now r).rec
unfolding closes
closes_dead agent side now r h =
    let q : Record = (reserves_if (reservation_closing r.rsm (plain agent ErrorName.Gone)) now r).rec in
    let p : Record = (provisions_if side (provision_closing q.psm (plain agent ErrorName.Gone)) now q).rec in
    reservation_dead (reservation_closing r.rsm (plain agent ErrorName.Gone)) now r
    ((provisions_if_as side (provision_closing q.psm (plain agent ErrorName.Gone)) now q).lives ((lives_as LifecycleMove.Done now p).lives h))

unless_dead : (b : Bool) (agent : Agent) (now : ℕ) (own : Record) → StaysDead own (closes_unless b agent now own).rec
unfolding closes_unless
unless_dead true agent now own = λ h. h
unless_dead false agent now own = closes_dead agent.name Side.Aggregator now own

both_dead : (agent : Agent) (now : ℕ) (xs : List ChildConnection) (own : Record) → StaysDead own (settles_provision agent now xs (settles_reservation agent now xs own).rec).rec
unfolding settles_reservation settles_provision
both_dead agent now xs own h =
    let q : Record = (reserves_if (reservation_due (is_quiet Kind.Reserve xs) own.rsm agent.name xs) now own).rec in
    reservation_dead (reservation_due (is_quiet Kind.Reserve xs) own.rsm agent.name xs) now own
    ((provisions_if_as Side.Aggregator (provision_due (is_quiet Kind.Provision xs) q.psm agent.name xs) now q).lives h)

settles_dead : (k : Lsm) (agent : Agent) (now : ℕ) (xs : List ChildConnection) (own : Record) → StaysDead own (settles k agent now xs own).rec
unfolding settles
settles_dead Lsm.Terminating agent now xs own = unless_dead (list_any is_there xs) agent now own
settles_dead Lsm.Terminated agent now xs own = λ h. h
settles_dead Lsm.Created agent now xs own = both_dead agent now xs own
settles_dead Lsm.Failed agent now xs own = both_dead agent now xs own
settles_dead Lsm.PassedEndTime agent now xs own = both_dead agent now xs own

taken_dead : (b : Body) (c now : ℕ) (own : Record) → StaysDead own (moves_if Side.Aggregator (requested now b c own) now own).rec
unfolding requested moves
taken_dead (Body.Reserve q) c now own = by_criteria (asked_criteria now q own.committed)
  where
    by_criteria : (o : Option Criteria) → StaysDead own (moves_if Side.Aggregator (reserve_move c o) now own).rec
    by_criteria None = λ h. h
    by_criteria (Some p) = λ h. sym (ap is_live (reserves_life own.rsm (ReservationMove.Reserve c p) now own)) ∙ h
taken_dead (Body.ReserveCommit id) c now own = λ h. sym (ap is_live (reserves_life own.rsm (ReservationMove.Commit c) now own)) ∙ h
taken_dead (Body.ReserveAbort id) c now own = λ h. sym (ap is_live (reserves_life own.rsm (ReservationMove.Abort c) now own)) ∙ h
taken_dead (Body.Provision id) c now own = (provisions_as Side.Aggregator own.psm (ProvisionMove.Provision c) now own).lives
taken_dead (Body.Release id) c now own = (provisions_as Side.Aggregator own.psm (ProvisionMove.Release c) now own).lives
taken_dead (Body.Terminate id) c now own = (lives_as (LifecycleMove.Terminate c) now own).lives
taken_dead _ c now own = λ h. h

-- behind its own terminate it doesn't live
terminate_kills : (k : Lsm) (c now : ℕ) (own : Record) → own.lsm ≡ k → is_live (lives k (LifecycleMove.Terminate c) now own).rec.lsm ≡ false
unfolding lives lifecycle_step lifecycle_event is_live
terminate_kills k c now own e = grind (arith, e)

terminated_dead : (b : Body) (c now : ℕ) (own : Record) → kind_of b ≡ Kind.Terminate → is_live (moves_if Side.Aggregator (requested now b c own) now own).rec.lsm ≡ false
unfolding requested moves
terminated_dead (Body.Terminate id) c now own e = terminate_kills own.lsm c now own refl
terminated_dead _ c now own e = absurd (cc)

ending_dead : (k : Lsm) → is_terminating k ≡ true → is_live k ≡ false
unfolding is_terminating is_live
ending_dead k e = grind (arith, e)

pub dead_then : (a b : Bool) → (b ≡ true → a ≡ true) → a ≡ false → b ≡ false
dead_then a true f e = absurd (true≢false (sym (f refl) ∙ e))
dead_then a false f e = refl

---- Views

view_child : (o : Option Body) (k : Kind) (c : ℕ) (x : ChildConnection) → (asked_view o k c x).child ≡ x.child
unfolding asked_view
view_child None k c x = refl
view_child (Some b) k c x = (asks_place k c x).child

view_connection : (o : Option Body) (k : Kind) (c : ℕ) (x : ChildConnection) → (asked_view o k c x).connection ≡ x.connection
unfolding asked_view
view_connection None k c x = refl
view_connection (Some b) k c x = (asks_known k c x).0

-- a request that was asked: of whom, and what
asked_is : (o : Option Body) (parent : List ℕ) (c : ℕ) (x : ChildConnection) (m : Message) → Contains (option_to_list (request_of o parent c x)) m → (b : Body) × (o ≡ Some b) × (m ≡ to_child parent c x b)
asked_is None parent c x m i = absurd (nothing_in m i)
asked_is (Some b) parent c x m i = (b, refl, only_one (to_child parent c x b) m i)

---- A turn

-- what a connection becomes by a turn in which its children were asked these
pub record IsTurned (parent : List ℕ) (honest : List Message → Type 0) (own : Record) (xs : List ChildConnection) (own' : Record) (ys : List ChildConnection) (more : List Message) : Type 0 where
  pub fits : (asked all : List Message) → ((m : Message) → Contains asked m → Contains all m) → ((m : Message) → Contains more m → Contains all m) → honest asked → Fits parent asked own xs → Fits parent all own' ys
  pub dead : StaysDead own own'
  pub views : (asked : List Message) → honest asked → (x : ChildConnection) (id : ℕ) → Contains xs x → x.connection ≡ Some id → (y : ChildConnection) × Contains ys y × (y.child ≡ x.child) × (y.connection ≡ Some id)
  pub ends : (m : Message) (id : ℕ) → Contains more m → m.body ≡ Body.Terminate id → (y : ChildConnection) × Contains ys y × (y.child ≡ m.header.provider) × (y.connection ≡ Some id) × (is_live own'.lsm ≡ false)

-- nothing is asked of what comes
abbrev pub Anything : List Message → Type 0
Anything asked = Unit {0}

pub rests_turned : (parent : List ℕ) (honest : List Message → Type 0) (own own' : Record) (xs : List ChildConnection) → IsAsBefore own own' → IsTurned parent honest own xs own' xs []
rests_turned parent honest own own' xs a =
    record {
      fits = λ asked all more _ _ f. as_fits parent all own own' xs a (more_fits parent asked all more own xs f);
      dead = a.lives;
      views = λ asked h x id i e. (x, i, refl, e);
      ends = λ m id i e. absurd (nothing_in m i);
    }

module _ (agent : Agent) (now : ℕ) (m : Message) (own : Record) (xs : List ChildConnection) (next : ℕ) where
  ---- By a message of a child

  abbrev Honest : List Message → Type 0
  Honest asked = All (λ x. m.header.provider ≡ x.child → IsHonest agent.name asked (is_live own.lsm) m.body m.header.correlation x) xs

  abbrev listens : ℕ → ChildConnection → Asked
  listens n x = hear_one (is_terminating own.lsm) m agent n x

  hear_child : (x : ChildConnection) → (hear m x).view.child ≡ x.child
  hear_child x = (hear_place m x).child

  hear_known : (asked : List Message) (x : ChildConnection) (id : ℕ) → (m.header.provider ≡ x.child → IsHonest agent.name asked (is_live own.lsm) m.body m.header.correlation x) → x.connection ≡ Some id → (hear m x).view.connection ≡ Some id
  hear_known asked x id h e = by_sender (bytes_eq m.header.provider x.child) refl
    where
      by_sender : (t : Bool) → bytes_eq m.header.provider x.child ≡ t → (hear_from t m x).view.connection ≡ Some id
      by_sender true q = (h ((bytes_eq-Decides m.header.provider x.child).0 q)).stays id e
      by_sender false q = e

  answer_dead : StaysDead own (answer_turn agent now m own xs next).own
  unfolding answer_turn turn_by_answer tell_joined settle force_ends hold_ends heard_by
  answer_dead h =
      let a : Asking = hear_each (is_terminating own.lsm) m agent next xs in
      let r : Record = (reserves_if (hold_end_by (list_any (loses m) xs && is_live own.lsm) m.body) now own).rec in
      let q : Record = (lives_if (force_by (list_any (breaks m) xs) (id_of agent.number a.next) m.body) now r).rec in
      reservation_dead (hold_end_by (list_any (loses m) xs && is_live own.lsm) m.body) now own
      ((lives_if_as (force_by (list_any (breaks m) xs) (id_of agent.number a.next) m.body) now r).lives
      (settles_dead q.lsm agent now a.children q ((plane_as _ _ _ now (settles q.lsm agent now a.children q).rec).lives h)))

  -- the parts of a turn that children and requests are
  answer_views : ((answer_turn agent now m own xs next).children ≡ (hear_each (is_terminating own.lsm) m agent next xs).children) × ((answer_turn agent now m own xs next).asked ≡ (hear_each (is_terminating own.lsm) m agent next xs).asked)
  unfolding answer_turn turn_by_answer tell_joined settle force_ends hold_ends heard_by
  answer_views = (refl, refl)

  pub answer_turned : IsTurned agent.name Honest own xs (answer_turn agent now m own xs next).own (answer_turn agent now m own xs next).children (answer_turn agent now m own xs next).asked
  unfolding request_about
  answer_turned =
      record {
        fits = λ asked all more said h f. answer_fits agent now m own xs next asked all more f h said;
        dead = answer_dead;
        views = λ asked h x id i e. views asked x id i e (All-contains (λ x. m.header.provider ≡ x.child → IsHonest agent.name asked (is_live own.lsm) m.body m.header.correlation x) xs x h i);
        ends = λ n id i e. ends n id (subst (λ ms. Contains ms n) answer_views.1 i) e;
      }
    where
      ys : List ChildConnection
      ys = (answer_turn agent now m own xs next).children

      views : (asked : List Message) (x : ChildConnection) (id : ℕ) → Contains xs x → x.connection ≡ Some id → (m.header.provider ≡ x.child → IsHonest agent.name asked (is_live own.lsm) m.body m.header.correlation x) →
          (y : ChildConnection) × Contains ys y × (y.child ≡ x.child) × (y.connection ≡ Some id)
      views asked x id i e h =
          let (n, j) = each_there listens next xs x i in
          let o : Option Body = late_terminate (is_terminating own.lsm) m x in (
            (listens n x).child,
            subst (λ zs. Contains zs (listens n x).child) (sym answer_views.0) j,
            view_child o Kind.Terminate (id_of agent.number n) (hear m x).view ∙ hear_child x,
            view_connection o Kind.Terminate (id_of agent.number n) (hear m x).view ∙ hear_known asked x id h e,
          )

      both_true : (a b : Bool) → (a && b) ≡ true → a ≡ true
      both_true true b h = refl
      both_true false b h = absurd (cc)

      same_end : (a b : ℕ) → Body.Terminate a ≡ Body.Terminate b → a ≡ b
      same_end a b e = cc

      ends : (n : Message) (id : ℕ) → Contains (hear_each (is_terminating own.lsm) m agent next xs).asked n → n.body ≡ Body.Terminate id →
          (y : ChildConnection) × Contains ys y × (y.child ≡ n.header.provider) × (y.connection ≡ Some id) × (is_live (answer_turn agent now m own xs next).own.lsm ≡ false)
      ends n id i e =
          let (k, x, p, q, r) = each_asked listens next xs n i in
          let o : Option Body = late_terminate (is_terminating own.lsm) m x in
          let (b, s, t) = asked_is o agent.name (id_of agent.number k) (hear m x).view n q in
          let w = request_some (is_terminating own.lsm && is_none x.connection) Kind.Terminate (hear m x).view b s in
          let same : w.2.0 ≡ id = same_end w.2.0 id (sym w.2.2 ∙ sym (ap (λ (z : Message). z.body) t) ∙ e) in (
            (listens k x).child,
            subst (λ zs. Contains zs (listens k x).child) (sym answer_views.0) r,
            view_child o Kind.Terminate (id_of agent.number k) (hear m x).view ∙ sym (ap (λ (z : Message). z.header.provider) t),
            view_connection o Kind.Terminate (id_of agent.number k) (hear m x).view ∙ w.2.1 ∙ ap Some same,
            dead_then (is_live own.lsm) (is_live (answer_turn agent now m own xs next).own.lsm) answer_dead (ending_dead own.lsm (both_true (is_terminating own.lsm) (is_none x.connection) w.0)),
          )

  ---- By a request

  request_views : ((request_turn agent now m own xs next).children ≡ (pass_each m agent (takes m now own).rec next xs).children) × ((request_turn agent now m own xs next).asked ≡ (pass_each m agent (takes m now own).rec next xs).asked)
  unfolding request_turn turn_by_request tell_joined settle pass_on
  request_views = (refl, refl)

  request_dead : StaysDead (takes m now own).rec (request_turn agent now m own xs next).own
  unfolding request_turn turn_by_request tell_joined settle pass_on
  request_dead h =
      let y : Record = (takes m now own).rec in
      let zs : List ChildConnection = (pass_each m agent (takes m now own).rec next xs).children in
      settles_dead y.lsm agent now zs y ((plane_as _ _ _ now (settles y.lsm agent now zs y).rec).lives h)

  takes_dead : StaysDead own (takes m now own).rec
  unfolding takes
  takes_dead = taken_dead m.body m.header.correlation now own

  takes_kills : kind_of m.body ≡ Kind.Terminate → is_live (takes m now own).rec.lsm ≡ false
  unfolding takes
  takes_kills e = terminated_dead m.body m.header.correlation now own e

  -- where the own record takes it, and the children fit then
  pub request_turned :
      ((asked all : List Message) → ((n : Message) → Contains asked n → Contains all n) → Fits agent.name asked own xs → ((n : Message) → Contains (pass_each m agent (takes m now own).rec next xs).asked n → Contains all n) →
      Fits agent.name all (takes m now own).rec (pass_each m agent (takes m now own).rec next xs).children) →
      IsTurned agent.name Anything own xs (request_turn agent now m own xs next).own (request_turn agent now m own xs next).children (request_turn agent now m own xs next).asked
  unfolding connection_of
  request_turned taken =
      record {
        fits = λ asked all more said _ f. request_fits agent now m own xs next asked all more f (taken asked all more f) said;
        dead = λ h. takes_dead (request_dead h);
        views = λ asked _ x id i e. views x id i e;
        ends = λ n id i e. ends n id (subst (λ ms. Contains ms n) request_views.1 i) e;
      }
    where
      q : Record
      q = (takes m now own).rec

      ys : List ChildConnection
      ys = (request_turn agent now m own xs next).children

      views : (x : ChildConnection) (id : ℕ) → Contains xs x → x.connection ≡ Some id → (y : ChildConnection) × Contains ys y × (y.child ≡ x.child) × (y.connection ≡ Some id)
      views x id i e =
          let (n, j) = each_there (λ n x. pass_one m agent (takes m now own).rec n x) next xs x i in (
            (pass_one m agent (takes m now own).rec n x).child,
            subst (λ zs. Contains zs (pass_one m agent (takes m now own).rec n x).child) (sym request_views.0) j,
            view_child (passed_on m.body q x) (kind_of m.body) (id_of agent.number n) x,
            view_connection (passed_on m.body q x) (kind_of m.body) (id_of agent.number n) x ∙ e,
          )

      ends : (n : Message) (id : ℕ) → Contains (pass_each m agent (takes m now own).rec next xs).asked n → n.body ≡ Body.Terminate id →
          (y : ChildConnection) × Contains ys y × (y.child ≡ n.header.provider) × (y.connection ≡ Some id) × (is_live (request_turn agent now m own xs next).own.lsm ≡ false)
      ends n id i e =
          let (k, x, p, r, s) = each_asked (λ n x. pass_one m agent (takes m now own).rec n x) next xs n i in
          let (b, o, t) = asked_is (passed_on m.body q x) agent.name (id_of agent.number k) x n r in
          let w = passed_may m.body q x b o in
          let is : b ≡ Body.Terminate id = sym (ap (λ (z : Message). z.body) t) ∙ e in
          let kind : kind_of m.body ≡ Kind.Terminate = sym w.kind ∙ ap kind_of is in (
            (pass_one m agent (takes m now own).rec k x).child,
            subst (λ zs. Contains zs (pass_one m agent (takes m now own).rec k x).child) (sym request_views.0) s,
            view_child (passed_on m.body q x) (kind_of m.body) (id_of agent.number k) x ∙ sym (ap (λ (z : Message). z.header.provider) t),
            view_connection (passed_on m.body q x) (kind_of m.body) (id_of agent.number k) x ∙ sym w.named ∙ ap connection_of is,
            dead_then (is_live q.lsm) (is_live (request_turn agent now m own xs next).own.lsm) request_dead (takes_kills kind),
          )
