-- A turn keeps the fit of a connection: by a request of its owner, and by a message of a child.
use Rattle.std.proofs.Common.{ℕ, ◌≡◌, ◌∙◌, Bool, true, false, List, [], ◌∷◌, ◌++◌, ◌&&◌, ◌||◌, ◌⊎◌, inl, inr, Contains, Option, Some, None, refl, sym, ap, subst, arith, true≢false, bytes_eq, get_or}
use Rattle.std.specs.List.{All, list_any}
use Rattle.std.proofs.lemmas.List.Elements.{All-nil, All-cons, Contains-append_left, Contains-append_right}
use Rattle.std.proofs.lemmas.Slice.Eq.{bytes_eq-Decides}
use Rattle.nsi_primitive.specs.Ids.{id_of}
use Rattle.nsi_primitive.specs.Messages.{kind_of, error_of}
use Rattle.nsi_primitive.specs.declared.kind.ErrorName.{ErrorName}
use Rattle.nsi_primitive.specs.declared.kind.Kind.{Kind}
use Rattle.nsi_primitive.specs.declared.state.Rsm.{Rsm}
use Rattle.nsi_primitive.specs.declared.state.Side.{Side}
use Rattle.nsi_primitive.specs.declared.message.Body.{Body}
use Rattle.nsi_primitive.specs.declared.message.Message.{Message}
use Rattle.nsi_primitive.specs.declared.message.ReserveRequest.{ReserveRequest}
use Rattle.reserve_machine.specs.Table.{step as reserve_step}
use Rattle.connection_record.specs.declared.record.Record.{Record}
use Rattle.connection_record.specs.declared.moves.Origin.{Origin}
use Rattle.connection_record.specs.declared.moves.ReservationMove.{ReservationMove}
use Rattle.connection_record.specs.Applied.{is_terminating, moves_if, requested}
use Rattle.connection_record.specs.Lives.{lives_if}
use Rattle.connection_record.specs.Demand.{holds_pending}
use Rattle.connection_record.specs.Moves.{event_of, reserves, reserves_if, asked_criteria, is_live}
use Rattle.connection_record.specs.Refusal.{record_refusal}
use Rattle.connection_record.specs.Replies.{addressed}
use Rattle.child_connection.specs.declared.state.Sent.{Sent}
use Rattle.child_connection.specs.Views.{ChildConnection, is_open}
use Rattle.child_connection.specs.Hearing.{refused, answers, hears, hear, hear_from, push_version}
use Rattle.child_connection.specs.Holding.{is_reservation, is_timeout, Commits}
use Rattle.child_connection.proofs.Learning.{messages_commit}
use Rattle.child_connection.proofs.Reservations.{request_stays}
use Rattle.aggregator_agent.specs.declared.agent.Agent.{Agent}
use Rattle.aggregator_agent.specs.Asking.{Turn, Asked, Asking, ask_one, each, passed_on, pass_each}
use Rattle.aggregator_agent.specs.Settling.{is_held, settle}
use Rattle.aggregator_agent.specs.Turns.{tell_joined, pass_on, takes, turn_by_request, request_turn, is_timed_out, loses, breaks, late_terminate, hear_one, hear_each, hold_end_by, force_by, hold_ends, force_ends, heard_by, turn_by_answer, answer_turn, spoken}
use Rattle.circuit_fit.specs.Fits.{pending_of, committed_of, IsFitting, IsHonest, IsKnown, Fits}
use Rattle.circuit_fit.proofs.Hearing.{like_fits, hears_fits}
use Rattle.circuit_fit.proofs.Owning.{lives_if_as, plane_as, as_fits, more_fitting}
use Rattle.circuit_fit.proofs.Passing.{each_all, each_some, each_committed, beside_like}
use Rattle.circuit_fit.proofs.Requesting.{request_then, first_then, asked_known, asked_committed}
use Rattle.circuit_fit.proofs.Settling.{settles_fits}

---- What a view keeps whatever it hears

more_committed : (b : Body) (c : ℕ) (x : ChildConnection) (v : ℕ) → Contains x.committed v → Contains (hears b c x).view.committed v
more_committed b c x v i = by_commit (messages_commit b c x)
  where
    longer : (p : Option ℕ) → Contains (push_version x.committed p) v
    longer None = i
    longer (Some n) = Contains-append_left x.committed (n ∷ []) v i

    by_commit : Commits b c x (hears b c x).view → Contains (hears b c x).view.committed v
    by_commit (inl e) = subst (λ vs. Contains vs v) (sym e) i
    by_commit (inr (id, e, o, w)) = subst (λ vs. Contains vs v) (sym w) (longer x.pending)

pub hear_committed : (m : Message) (x : ChildConnection) (v : ℕ) → Contains x.committed v → Contains (hear m x).view.committed v
hear_committed m x v i = by_sender (bytes_eq m.header.provider x.child)
  where
    by_sender : (t : Bool) → Contains (hear_from t m x).view.committed v
    by_sender true = more_committed m.body m.header.correlation x v i
    by_sender false = i

refused_known : (a p l : Bool) (name : ErrorName) (x : ChildConnection) → IsKnown x → IsKnown (refused a p l name x).view
refused_known true p l name x h e = h (either (is_held x.phase) (is_held x.before) e)
  where
    either : (a b : Bool) → (b || b) ≡ true → (a || b) ≡ true
    either true b e = refl
    either false true e = refl
    either false false e = e
refused_known false true l name x h e = h e
refused_known false false true name x h e = h e
refused_known false false false name x h e = h e

hears_known : (b : Body) (c : ℕ) (x : ChildConnection) → IsKnown x → IsKnown (hears b c x).view
unfolding hears is_held
hears_known (Body.ReserveResponse id) c x h e = grind (arith, h, e)
hears_known (Body.ReserveConfirmed f) c x h e = grind (arith, h, e)
hears_known (Body.ReserveFailed id ex) c x h e = grind (arith, h, e)
hears_known (Body.ReserveTimeout t) c x h e = grind (arith, h, e)
hears_known (Body.ReserveCommitConfirmed id) c x h e = grind (arith, h, e)
hears_known (Body.ReserveCommitFailed id ex) c x h e = grind (arith, h, e)
hears_known (Body.ReserveAbortConfirmed id) c x h e = grind (arith, h, e)
hears_known (Body.Error id ex) c x h e = refused_known (is_open x.reserve_request c) (is_open x.provision_request c) (is_open x.lifecycle_request c) (error_of ex.cause) x h e
hears_known (Body.ProvisionConfirmed id) c x h e = grind (arith, h, e)
hears_known (Body.ReleaseConfirmed id) c x h e = grind (arith, h, e)
hears_known (Body.TerminateConfirmed id) c x h e = grind (arith, h, e)
hears_known (Body.ErrorEvent f) c x h e = grind (arith, h, e)
hears_known (Body.DataPlaneStateChange n) c x h e = grind (arith, h, e)
hears_known _ c x h e = h e

hear_known : (m : Message) (x : ChildConnection) → IsKnown x → IsKnown (hear m x).view
hear_known m x h = by_sender (bytes_eq m.header.provider x.child)
  where
    by_sender : (t : Bool) → IsKnown (hear_from t m x).view
    by_sender true = hears_known m.body m.header.correlation x h
    by_sender false = h

---- When what is held ends

answers_other : (o : Option Sent) → is_timed_out (answers o) ≡ false
unfolding is_timed_out
answers_other None = refl
answers_other (Some q) = refl

refused_other : (a p l : Bool) (x : ChildConnection) (name : ErrorName) → is_timed_out (refused a p l name x).taken ≡ false
unfolding is_timed_out
refused_other true p l x name = answers_other x.reserve_request
refused_other false true l x name = answers_other x.provision_request
refused_other false false true x name = answers_other x.lifecycle_request
refused_other false false false x name = refl

-- only by the end of a hold
ends_by : (b : Body) (c : ℕ) (x : ChildConnection) → is_timeout b ≡ false → is_timed_out (hears b c x).taken ≡ false
unfolding hears is_timed_out is_timeout
ends_by (Body.ReserveResponse id) c x h = grind (arith, h)
ends_by (Body.ReserveConfirmed f) c x h = grind (arith, h)
ends_by (Body.ReserveFailed id ex) c x h = grind (arith, h)
ends_by (Body.ReserveTimeout t) c x h = absurd (cc)
ends_by (Body.ReserveCommitConfirmed id) c x h = grind (arith, h)
ends_by (Body.ReserveCommitFailed id ex) c x h = grind (arith, h)
ends_by (Body.ReserveAbortConfirmed id) c x h = grind (arith, h)
ends_by (Body.Error id ex) c x h = refused_other (is_open x.reserve_request c) (is_open x.provision_request c) (is_open x.lifecycle_request c) x (error_of ex.cause)
ends_by (Body.ProvisionConfirmed id) c x h = grind (arith, h)
ends_by (Body.ReleaseConfirmed id) c x h = grind (arith, h)
ends_by (Body.TerminateConfirmed id) c x h = grind (arith, h)
ends_by (Body.ErrorEvent f) c x h = grind (arith, h)
ends_by (Body.DataPlaneStateChange n) c x h = grind (arith, h)
ends_by _ c x h = refl

---- A message of a child

module _ (agent : Agent) (now : ℕ) (m : Message) (own : Record) (xs : List ChildConnection) (next : ℕ) (asked all : List Message) (more : (n : Message) → Contains asked n → Contains all n) (fit : Fits agent.name asked own xs)
    (honest : All (λ x. m.header.provider ≡ x.child → IsHonest agent.name asked (is_live own.lsm) m.body m.header.correlation x) xs) where
  -- the own record, where a hold below has ended
  abbrev held : Record
  held = (reserves_if (hold_end_by (list_any (loses m) xs && is_live own.lsm) m.body) now own).rec

  -- a child that hears
  abbrev listens : ℕ → ChildConnection → Asked
  listens n x = hear_one (is_terminating own.lsm) m agent n x

  abbrev listened : Asking
  listened = hear_each (is_terminating own.lsm) m agent next xs

  heard_fits : (k : Rsm) (v : Option ℕ) (x : ChildConnection) → is_live own.lsm ≡ true → (m.header.provider ≡ x.child → IsHonest agent.name asked (is_live own.lsm) m.body m.header.correlation x) →
      (k ≡ Rsm.ReserveHeld → is_timed_out (hear m x).taken ≡ false) → IsFitting agent.name asked k v x → IsFitting agent.name asked k v (hear m x).view
  heard_fits k v x l h t f = by_sender (bytes_eq m.header.provider x.child) refl (λ e. t e)
    where
      by_sender : (b : Bool) → bytes_eq m.header.provider x.child ≡ b → (k ≡ Rsm.ReserveHeld → is_timed_out (hear_from b m x).taken ≡ false) → IsFitting agent.name asked k v (hear_from b m x).view
      by_sender true e t = hears_fits agent.name asked (is_live own.lsm) l k v x f m.header.correlation m.body (h ((bytes_eq-Decides m.header.provider x.child).0 e)) t
      by_sender false e t = f

  then_fits : (k : Rsm) (v : Option ℕ) (n : ℕ) (x : ChildConnection) → IsFitting agent.name asked k v (hear m x).view → IsFitting agent.name all k v (listens n x).child
  unfolding is_reservation
  then_fits k v n x f =
      like_fits agent.name all k v (hear m x).view (listens n x).child (beside_like agent.name asked all (hear m x).view (id_of agent.number n) (late_terminate (is_terminating own.lsm) m x) Kind.Terminate refl)
      (more_fitting agent.name asked all more k v (hear m x).view f)

  abbrev IsSaid : Type 0
  IsSaid = (n : Message) → Contains listened.asked n → Contains all n

  -- the fit of what follows, by its parts
  followed : (q : Record) → IsSaid → committed_of q ≡ committed_of own → (q.mixed ≡ true → q.rsm ≡ Rsm.ReserveStart) → (holds_pending q.rsm ≡ true → holds_pending own.rsm ≡ true) →
      (is_live q.lsm ≡ true → q.mixed ≡ false → All (IsFitting agent.name all q.rsm (pending_of q)) listened.children) → Fits agent.name all q listened.children
  followed q said same mixed holds fits =
      record {
        committed = λ v i.
            each_committed listens v next xs (λ n x j. asked_committed (late_terminate (is_terminating own.lsm) m x) Kind.Terminate (id_of agent.number n) (hear m x).view v (hear_committed m x v j))
            (fit.committed v (subst (λ vs. Contains vs v) same i));
        known = each_all listens IsKnown IsKnown all (λ n x h _. asked_known (late_terminate (is_terminating own.lsm) m x) Kind.Terminate (id_of agent.number n) (hear m x).view (hear_known m x h)) next xs fit.known said;
        mixed = mixed;
        some = λ h. each_some listens next xs (fit.some (holds h));
        fits = fits;
      }

  abbrev Keeps : ChildConnection → Type 0
  Keeps x = (m.header.provider ≡ x.child → IsHonest agent.name asked (is_live own.lsm) m.body m.header.correlation x) × (own.rsm ≡ Rsm.ReserveHeld → is_timed_out (hear m x).taken ≡ false)

  -- nothing that is held ends
  stays_fits : IsSaid → (own.rsm ≡ Rsm.ReserveHeld → is_live own.lsm ≡ true → All (λ x. is_timed_out (hear m x).taken ≡ false) xs) → Fits agent.name all own listened.children
  stays_fits said calm =
      followed own said refl fit.mixed (λ h. h)
      (λ l n.
      each_all listens (λ x. Keeps x × IsFitting agent.name asked own.rsm (pending_of own) x) (IsFitting agent.name all own.rsm (pending_of own)) all
      (λ i x p _. then_fits own.rsm (pending_of own) i x (heard_fits own.rsm (pending_of own) x l p.0.0 p.0.1 p.1)) next xs
      (λ i d j. ((honest i d j, λ e. calm e l i d j), fit.fits l n i d j)) said)

  still_free : (x : ChildConnection) → x.reserve_request ≡ None → (hear m x).view.reserve_request ≡ None
  still_free x e = by_sender (bytes_eq m.header.provider x.child)
    where
      by_stay : (b : Body) (c : ℕ) → ((hears b c x).view.reserve_request ≡ x.reserve_request) ⊎ ((hears b c x).view.reserve_request ≡ None) → (hears b c x).view.reserve_request ≡ None
      by_stay b c (inl w) = w ∙ e
      by_stay b c (inr w) = w

      by_sender : (t : Bool) → (hear_from t m x).view.reserve_request ≡ None
      by_sender true = by_stay m.body m.header.correlation (request_stays m.body m.header.correlation x)
      by_sender false = e

  free_held : (v : Option ℕ) (x : ChildConnection) → IsFitting agent.name asked Rsm.ReserveHeld v x → x.reserve_request ≡ None
  free_held v x f = by_request x.reserve_request refl
    where
      by_request : (o : Option Sent) → x.reserve_request ≡ o → o ≡ None
      by_request None e = refl
      by_request (Some q) e = absurd (f.waits q e)

  -- what was held has ended
  ended_fits : (origin : Origin) → IsSaid → own.rsm ≡ Rsm.ReserveHeld → Fits agent.name all (reserves Rsm.ReserveHeld (ReservationMove.HoldEnd origin) now own).rec listened.children
  unfolding reserves reserve_step event_of
  ended_fits origin said e =
      followed (reserves Rsm.ReserveHeld (ReservationMove.HoldEnd origin) now own).rec said refl (λ h. absurd (let w = sym e ∙ fit.mixed h in cc)) (λ h. absurd (cc))
      (λ l n.
      each_all listens (IsFitting agent.name asked Rsm.ReserveHeld (pending_of own)) (IsFitting agent.name all Rsm.ReserveTimeout None) all
      (λ i x p _. then_fits Rsm.ReserveTimeout None i x (record { rests = λ _. tt; waits = λ q g. absurd (let w : None ≡ Some q = sym (still_free x (free_held (pending_of own) x p)) ∙ g in cc) })) next xs
      (subst (λ k. All (IsFitting agent.name asked k (pending_of own)) xs) e (fit.fits l n)) said)

  any_there : (p : ChildConnection → Bool) (ys : List ChildConnection) → list_any p ys ≡ false → All (λ x. p x ≡ false) ys
  any_there p [] h = All-nil (λ x. p x ≡ false)
  any_there p (y ∷ ys) h = let w = either (p y) (list_any p ys) h in All-cons (λ x. p x ≡ false) y ys w.0 (any_there p ys w.1)
    where
      either : (a b : Bool) → (a || b) ≡ false → (a ≡ false) × (b ≡ false)
      either false b h = (refl, h)
      either true b h = absurd (cc)

  not_timeout : is_timeout m.body ≡ false → (x : ChildConnection) → is_timed_out (hear m x).taken ≡ false
  unfolding is_timed_out
  not_timeout h x = by_sender (bytes_eq m.header.provider x.child)
    where
      by_sender : (t : Bool) → is_timed_out (hear_from t m x).taken ≡ false
      by_sender true = ends_by m.body m.header.correlation x h
      by_sender false = refl

  hold_state : (origin : Origin) → IsSaid → (k : Rsm) → own.rsm ≡ k → Fits agent.name all (reserves k (ReservationMove.HoldEnd origin) now own).rec listened.children
  unfolding reserves reserve_step event_of
  hold_state origin said Rsm.ReserveHeld e = ended_fits origin said e
  hold_state origin said Rsm.ReserveStart e = stays_fits said (λ h _. absurd (let w = sym e ∙ h in cc))
  hold_state origin said Rsm.ReserveChecking e = stays_fits said (λ h _. absurd (let w = sym e ∙ h in cc))
  hold_state origin said Rsm.ReserveFailed e = stays_fits said (λ h _. absurd (let w = sym e ∙ h in cc))
  hold_state origin said Rsm.ReserveCommitting e = stays_fits said (λ h _. absurd (let w = sym e ∙ h in cc))
  hold_state origin said Rsm.ReserveTimeout e = stays_fits said (λ h _. absurd (let w = sym e ∙ h in cc))
  hold_state origin said Rsm.ReserveAborting e = stays_fits said (λ h _. absurd (let w = sym e ∙ h in cc))

  hold_fits : IsSaid → (lost live : Bool) → list_any (loses m) xs ≡ lost → is_live own.lsm ≡ live → (b : Body) → m.body ≡ b → Fits agent.name all (reserves_if (hold_end_by (lost && live) b) now own).rec listened.children
  unfolding hold_end_by is_timeout
  hold_fits said true true h l (Body.ReserveTimeout t) e = hold_state _ said own.rsm refl
  hold_fits said true true h l b e = stays_fits said (λ _ _ i d j. not_timeout (ap is_timeout e) (get_or xs i d))
  hold_fits said true false h l b e = stays_fits said (λ _ g. absurd (true≢false (sym g ∙ l)))
  hold_fits said false live h l b e = stays_fits said (λ _ _. any_there (loses m) xs h)

---- Turns

module _ (agent : Agent) (now : ℕ) (m : Message) (own : Record) (xs : List ChildConnection) (next : ℕ) (asked all : List Message) (more : (n : Message) → Contains asked n → Contains all n) (fit : Fits agent.name asked own xs) where
  -- by a message of a child
  pub answer_fits : All (λ x. m.header.provider ≡ x.child → IsHonest agent.name asked (is_live own.lsm) m.body m.header.correlation x) xs → ((n : Message) → Contains (answer_turn agent now m own xs next).asked n → Contains all n) →
      Fits agent.name all (answer_turn agent now m own xs next).own (answer_turn agent now m own xs next).children
  unfolding answer_turn turn_by_answer tell_joined settle force_ends hold_ends heard_by
  answer_fits honest said =
      as_fits agent.name all _ _ ys (plane_as _ _ _ now _)
      (settles_fits agent all now ys _ q refl
      (as_fits agent.name all r q ys (lives_if_as (force_by (list_any (breaks m) xs) (id_of agent.number (hear_each (is_terminating own.lsm) m agent next xs).next) m.body) now r)
      (hold_fits agent now m own xs next asked all more fit honest said (list_any (loses m) xs) (is_live own.lsm) refl refl m.body refl)))
    where
      ys : List ChildConnection
      ys = (hear_each (is_terminating own.lsm) m agent next xs).children

      r : Record
      r = (reserves_if (hold_end_by (list_any (loses m) xs && is_live own.lsm) m.body) now own).rec

      q : Record
      q = (lives_if (force_by (list_any (breaks m) xs) (id_of agent.number (hear_each (is_terminating own.lsm) m agent next xs).next) m.body) now r).rec

  -- by a request that the own record takes
  pub request_fits : (((n : Message) → Contains (pass_each m agent (takes m now own).rec next xs).asked n → Contains all n) → Fits agent.name all (takes m now own).rec (pass_each m agent (takes m now own).rec next xs).children) →
      ((n : Message) → Contains (request_turn agent now m own xs next).asked n → Contains all n) → Fits agent.name all (request_turn agent now m own xs next).own (request_turn agent now m own xs next).children
  unfolding request_turn turn_by_request pass_on tell_joined settle
  request_fits taken said =
      as_fits agent.name all _ _ ys (plane_as _ _ _ now _) (settles_fits agent all now ys (takes m now own).rec.lsm (takes m now own).rec refl (taken said))
    where
      ys : List ChildConnection
      ys = (pass_each m agent (takes m now own).rec next xs).children

  -- one that isn't refused
  pub taken_fits : record_refusal now m.body own ≡ None → ((n : Message) → Contains (pass_each m agent (takes m now own).rec next xs).asked n → Contains all n) → Fits agent.name all (takes m now own).rec (pass_each m agent (takes m now own).rec next xs).children
  unfolding takes
  taken_fits h said = request_then agent asked all own xs next more fit m.header.correlation now m.body h said

  -- a reserve of a record that is as it was made
  pub first_fits : (q : ReserveRequest) → m.body ≡ Body.Reserve q → own.rsm ≡ Rsm.ReserveStart → is_live own.lsm ≡ true → own.mixed ≡ false → (asked_criteria now q own.committed ≡ None → ⊥) →
      ((n : Message) → Contains (pass_each m agent (takes m now own).rec next xs).asked n → Contains all n) → Fits agent.name all (takes m now own).rec (pass_each m agent (takes m now own).rec next xs).children
  unfolding takes
  first_fits q e s l n f said =
      subst (λ b. ((k : Message) → Contains (each (λ i x. ask_one (passed_on b (moves_if Side.Aggregator (requested now b m.header.correlation own) now own).rec x) (kind_of b) agent i x) next xs).asked k → Contains all k) →
      Fits agent.name all (moves_if Side.Aggregator (requested now b m.header.correlation own) now own).rec (each (λ i x. ask_one (passed_on b (moves_if Side.Aggregator (requested now b m.header.correlation own) now own).rec x) (kind_of b) agent i x) next xs).children) (sym e)
      (first_then agent asked all own xs next more fit m.header.correlation now q s l n f) said

-- what a turn asks is among what it says
pub spoken_asked : (agent : Agent) (t : Turn) (m : Message) → Contains t.asked m → Contains (spoken agent t) m
unfolding spoken
spoken_asked agent t m i =
    Contains-append_right (addressed agent.name t.own.owner t.replies) (t.asked ++ addressed agent.name t.own.owner t.notices) m (Contains-append_left t.asked (addressed agent.name t.own.owner t.notices) m i)
