-- What is done as the children stand keeps the fit of a connection.
use Rattle.std.proofs.Common.{ℕ, ◌≡◌, ◌∙◌, ◌<◌, length, get_or, Bool, true, false, not, List, [], ◌∷◌, ◌++◌, ◌||◌, ◌⊎◌, inl, inr, Contains, Option, Some, None, IfSome, is_some, map, option_map, option_to_list, find, cond, refl, sym, ap, subst, arith, true≢false}
use Rattle.std.specs.List.{All, list_any}
use Rattle.std.proofs.lemmas.List.Elements.{All-nil, All-cons}
use Rattle.nsi_primitive.specs.declared.kind.ErrorName.{ErrorName}
use Rattle.nsi_primitive.specs.declared.kind.Kind.{Kind}
use Rattle.nsi_primitive.specs.declared.state.Lsm.{Lsm}
use Rattle.nsi_primitive.specs.declared.state.Rsm.{Rsm}
use Rattle.nsi_primitive.specs.declared.state.Side.{Side}
use Rattle.nsi_primitive.specs.declared.message.Criteria.{Criteria}
use Rattle.nsi_primitive.specs.declared.message.Exception.{Exception}
use Rattle.nsi_primitive.specs.declared.message.Message.{Message}
use Rattle.record_index.proofs.Members.{nothing_in, contains_first, contains_more}
use Rattle.reserve_machine.specs.Table.{step as reserve_step}
use Rattle.connection_record.specs.declared.record.Record.{Record}
use Rattle.connection_record.specs.declared.life.LifecycleMove.{LifecycleMove}
use Rattle.connection_record.specs.declared.moves.ReservationMove.{ReservationMove}
use Rattle.connection_record.specs.Applied.{reservation_closing, provision_closing, closes}
use Rattle.connection_record.specs.Demand.{holds_pending}
use Rattle.connection_record.specs.Lives.{provisions_if}
use Rattle.connection_record.specs.Moves.{event_of, reserves, reserves_if, fits as fits_until, is_live}
use Rattle.connection_record.specs.Replies.{then_moves, plain}
use Rattle.child_connection.specs.declared.state.Sent.{Sent}
use Rattle.child_connection.specs.Views.{ChildConnection, open_request}
use Rattle.aggregator_agent.specs.declared.agent.Agent.{Agent}
use Rattle.aggregator_agent.specs.Settling.{is_waiting, is_quiet, is_held, is_lacking, has_error, fit_or_lack, checked, done_or_mixed, reservation_verdict, reservation_due, is_there, provision_due, settles_reservation, settles_provision, closes_unless, settles}
use Rattle.circuit_link.specs.Sides.{version_of}
use Rattle.circuit_fit.specs.Fits.{pending_of, committed_of, IsCommittedBelow, Rests, IsFitting, Fits}
use Rattle.circuit_fit.proofs.Owning.{as_then, provisions_if_as, lives_as, as_fits}

---- What a search over the children says

either_false : (a b : Bool) → (a || b) ≡ false → (a ≡ false) × (b ≡ false)
either_false false b h = (refl, h)
either_false true b h = absurd (cc)

not_true : (b : Bool) → not b ≡ true → b ≡ false
not_true true h = absurd (cc)
not_true false h = refl

waiting_none : (x : ChildConnection) → is_waiting Kind.Reserve x ≡ false → x.reserve_request ≡ None
unfolding open_request
waiting_none x h = by_request x.reserve_request h
  where
    by_request : (o : Option Sent) → is_some o ≡ false → o ≡ None
    by_request None e = refl
    by_request (Some q) e = absurd (cc)

abbrev IsFree : ChildConnection → Type 0
IsFree x = x.reserve_request ≡ None

none_waits : (xs : List ChildConnection) → list_any (is_waiting Kind.Reserve) xs ≡ false → All IsFree xs
none_waits [] h = All-nil IsFree
none_waits (x ∷ xs) h =
    let w = either_false (is_waiting Kind.Reserve x) (list_any (is_waiting Kind.Reserve) xs) h in
    All-cons IsFree x xs (waiting_none x w.0) (none_waits xs w.1)

quiet_free : (xs : List ChildConnection) → is_quiet Kind.Reserve xs ≡ true → All IsFree xs
quiet_free xs h = none_waits xs (not_true (list_any (is_waiting Kind.Reserve) xs) h)

none_found : (p : ChildConnection → Bool) (xs : List ChildConnection) → find p xs ≡ None → All (λ x. p x ≡ false) xs
none_found p [] h = All-nil (λ x. p x ≡ false)
none_found p (x ∷ xs) h = by_first (p x) refl h (λ e. none_found p xs e)
  where
    by_first : (b : Bool) → p x ≡ b → cond b (Some x) (find p xs) ≡ None → (find p xs ≡ None → All (λ x. p x ≡ false) xs) → All (λ x. p x ≡ false) (x ∷ xs)
    by_first true e h f = absurd (cc)
    by_first false e h f = All-cons (λ x. p x ≡ false) x xs e (f h)

no_error : (o : Option ErrorName) → is_some o ≡ false → o ≡ None
no_error None e = refl
no_error (Some q) e = absurd (cc)

is_not_lacking : (b : Bool) → not b ≡ false → b ≡ true
is_not_lacking true h = refl
is_not_lacking false h = absurd (cc)

all_both : {X : Type 0} (P Q : X → Type 0) (xs : List X) → All P xs → All Q xs → All (λ x. P x × Q x) xs
all_both P Q xs h i k d l = (h k d l, i k d l)

contains_map : {X : Type 0} (f : X → ℕ) (xs ys : List X) (v : ℕ) → Contains (map f (xs ++ ys)) v → Contains (map f xs) v ⊎ Contains (map f ys) v
contains_map f [] ys v i = inr i
contains_map f (x ∷ xs) ys v i = elim (contains_first (f x) v (map f (xs ++ ys)) i) [
  | inl e ↦ inl (contains_more (f x) v (map f xs) (inl e))
  | inr j ↦ further (contains_map f xs ys v j)
]
  where
    further : Contains (map f xs) v ⊎ Contains (map f ys) v → Contains (f x ∷ map f xs) v ⊎ Contains (map f ys) v
    further (inl j) = inl (contains_more (f x) v (map f xs) (inr j))
    further (inr j) = inr j

---- The rows

module _ (agent : Agent) (asked : List Message) (now : ℕ) (own : Record) (xs : List ChildConnection) (fit : Fits agent.name asked own xs) where
  abbrev Then : Record → Type 0
  Then q = Fits agent.name asked q xs

  -- a state in which the own record isn't mixed
  unmixed : (k : Rsm) → own.rsm ≡ k → (k ≡ Rsm.ReserveStart → ⊥) → own.mixed ≡ true → ⊥
  unmixed k e f h = f (sym e ∙ fit.mixed h)

  free_fits : (k : Rsm) (v : Option ℕ) → All IsFree xs → All (Rests k v) xs → All (IsFitting agent.name asked k v) xs
  free_fits k v a h i d l = record { rests = λ _. h i d l; waits = λ q e. absurd (let w : None ≡ Some q = sym (a i d l) ∙ e in cc) }

  rested : (k : Rsm) → own.rsm ≡ k → is_live own.lsm ≡ true → own.mixed ≡ false → All IsFree xs → All (Rests k (pending_of own)) xs
  rested k e l n a i d m = subst (λ z. Rests z (pending_of own) (get_or xs i d)) e ((fit.fits l n i d m).rests (a i d m))

  ending : (k : Rsm) (move : ReservationMove) → own.rsm ≡ k → Then (reserves k move now own).rec → Then (reserves own.rsm move now own).rec
  ending k move e h = subst (λ z. Then (reserves z move now own).rec) (sym e) h

  lack_fits : (e : Exception) → own.rsm ≡ Rsm.ReserveChecking → All IsFree xs → Then (reserves Rsm.ReserveChecking (ReservationMove.Lack e) now own).rec
  unfolding reserves reserve_step event_of
  lack_fits e s a =
      record {
        committed = fit.committed;
        known = fit.known;
        mixed = λ h. absurd (unmixed Rsm.ReserveChecking s (λ z. cc) h);
        some = λ h. absurd (cc);
        fits = λ _ _. free_fits Rsm.ReserveFailed None a (λ i d l. tt);
      }

  held_fits : own.rsm ≡ Rsm.ReserveChecking → (xs ≡ [] → ⊥) → is_live own.lsm ≡ true → All IsFree xs → All (λ x. is_lacking x ≡ false) xs → Then (reserves Rsm.ReserveChecking (ReservationMove.Fit None) now own).rec
  unfolding reserves reserve_step event_of
  held_fits s some l a h = by_pending own.pending refl
    where
      moved : (o : Option Criteria) → own.pending ≡ o → (q : Record) → committed_of q ≡ committed_of own → q.mixed ≡ own.mixed → q.rsm ≡ Rsm.ReserveHeld → q.pending ≡ own.pending → q.lsm ≡ own.lsm → Then q
      moved o p q same mixed state pending life =
          record {
            committed = λ v i. fit.committed v (subst (λ vs. Contains vs v) same i);
            known = fit.known;
            mixed = λ e. absurd (unmixed Rsm.ReserveChecking s (λ z. cc) (sym mixed ∙ e));
            some = λ _. some;
            fits = λ _ n.
                subst (λ k. All (IsFitting agent.name asked k (pending_of q)) xs) (sym state)
                (subst (λ c. All (IsFitting agent.name asked Rsm.ReserveHeld (option_map version_of c)) xs) (sym pending)
                (free_fits Rsm.ReserveHeld (pending_of own) a
                (λ i d m.
                let held = is_not_lacking (is_held (get_or xs i d).phase) (h i d m) in
                (held, rested Rsm.ReserveChecking s l (sym mixed ∙ n) a i d m held))));
          }

      by_pending : (o : Option Criteria) → own.pending ≡ o → Then (fits_until o None Rsm.ReserveHeld now own).rec
      by_pending None e = fit
      by_pending (Some c) e = moved (Some c) e _ refl refl refl refl refl

  freed_fits : own.rsm ≡ Rsm.ReserveAborting → is_live own.lsm ≡ true → All IsFree xs → Then (reserves Rsm.ReserveAborting ReservationMove.Freed now own).rec
  unfolding reserves reserve_step event_of
  freed_fits s l a =
      record {
        committed = fit.committed;
        known = fit.known;
        mixed = λ h. refl;
        some = λ h. absurd (cc);
        fits = λ _ n. free_fits Rsm.ReserveStart (pending_of own) a (rested Rsm.ReserveAborting s l n a);
      }

  spoiled_fits : (e : Exception) → Then (reserves Rsm.ReserveCommitting (ReservationMove.Spoiled e true) now own).rec
  unfolding reserves reserve_step event_of
  spoiled_fits e =
      record {
        committed = fit.committed;
        known = fit.known;
        mixed = λ h. refl;
        some = λ h. absurd (cc);
        fits = λ _ n. absurd (no_mixed own.mixed n);
      }
    where
      no_mixed : (b : Bool) → (b || true) ≡ false → ⊥
      no_mixed true n = cc
      no_mixed false n = cc

  -- all have committed
  done_fits : own.rsm ≡ Rsm.ReserveCommitting → is_live own.lsm ≡ true → own.mixed ≡ false → All IsFree xs → All (λ x. has_error x ≡ false) xs → Then (reserves Rsm.ReserveCommitting ReservationMove.Done now own).rec
  unfolding reserves reserve_step event_of
  done_fits s l n a h =
      record {
        committed = λ v i. by_part v (contains_map version_of own.committed (option_to_list own.pending) v i);
        known = fit.known;
        mixed = λ _. refl;
        some = λ h. absurd (cc);
        fits = λ _ _. free_fits Rsm.ReserveStart None a (λ i d m. (each i d m).0);
      }
    where
      each : (i : ℕ) (d : ChildConnection) → i < length xs → (is_held (get_or xs i d).phase ≡ false) × IfSome (pending_of own) (λ v. Contains (get_or xs i d).committed v)
      each i d m = rested Rsm.ReserveCommitting s l n a i d m (no_error (get_or xs i d).error (h i d m))

      some_pending : (o : Option Criteria) (v : ℕ) (us : List ℕ) → Contains (map version_of (option_to_list o)) v → IfSome (option_map version_of o) (λ w. Contains us w) → Contains us v
      some_pending None v us i c = absurd (nothing_in v i)
      some_pending (Some p) v us i c = elim (contains_first p.version v [] i) [
        | inl e ↦ subst (λ w. Contains us w) (sym e) c
        | inr j ↦ absurd (nothing_in v j)
      ]

      by_part : (v : ℕ) → Contains (map version_of own.committed) v ⊎ Contains (map version_of (option_to_list own.pending)) v → IsCommittedBelow v xs
      by_part v (inl j) = fit.committed v j
      by_part v (inr j) = record { some = fit.some (ap holds_pending s); each = λ i d m. some_pending own.pending v (get_or xs i d).committed j (each i d m).1 }

  ---- The verdict

  checked_fits : (ys : List ChildConnection) → xs ≡ ys → own.rsm ≡ Rsm.ReserveChecking → is_live own.lsm ≡ true → All IsFree xs → Then (reserves Rsm.ReserveChecking (checked agent.name ys) now own).rec
  unfolding checked
  checked_fits [] e s l a = lack_fits (plain agent.name ErrorName.NoPath) s a
  checked_fits (y ∷ ys) e s l a = by_found (find is_lacking (y ∷ ys)) refl
    where
      by_found : (o : Option ChildConnection) → find is_lacking (y ∷ ys) ≡ o → Then (reserves Rsm.ReserveChecking (fit_or_lack agent.name o) now own).rec
      by_found None f = held_fits s (λ n. absurd (let w : [] ≡ y ∷ ys = sym n ∙ e in cc)) l a (subst (All (λ x. is_lacking x ≡ false)) (sym e) (none_found is_lacking (y ∷ ys) f))
      by_found (Some x) f = lack_fits _ s a

  committing_fits : (o : Option ChildConnection) → find has_error xs ≡ o → own.rsm ≡ Rsm.ReserveCommitting → is_live own.lsm ≡ true → All IsFree xs → Then (reserves Rsm.ReserveCommitting (done_or_mixed agent.name o) now own).rec
  committing_fits None f s l a = by_mixed own.mixed refl
    where
      by_mixed : (b : Bool) → own.mixed ≡ b → Then (reserves Rsm.ReserveCommitting (done_or_mixed agent.name None) now own).rec
      by_mixed true e = absurd (unmixed Rsm.ReserveCommitting s (λ z. cc) e)
      by_mixed false e = done_fits s l e a (none_found has_error xs f)
  committing_fits (Some x) f s l a = spoiled_fits _

  verdict_fits : (k : Rsm) → own.rsm ≡ k → is_live own.lsm ≡ true → All IsFree xs → Then (reserves_if (reservation_verdict k agent.name xs) now own).rec
  unfolding reservation_verdict
  verdict_fits Rsm.ReserveChecking e l a = ending Rsm.ReserveChecking (checked agent.name xs) e (checked_fits xs refl e l a)
  verdict_fits Rsm.ReserveCommitting e l a = ending Rsm.ReserveCommitting (done_or_mixed agent.name (find has_error xs)) e (committing_fits (find has_error xs) refl e l a)
  verdict_fits Rsm.ReserveAborting e l a = ending Rsm.ReserveAborting ReservationMove.Freed e (freed_fits e l a)
  verdict_fits Rsm.ReserveStart e l a = fit
  verdict_fits Rsm.ReserveHeld e l a = fit
  verdict_fits Rsm.ReserveFailed e l a = fit
  verdict_fits Rsm.ReserveTimeout e l a = fit

  due_fits : (b : Bool) → is_quiet Kind.Reserve xs ≡ b → is_live own.lsm ≡ true → Then (reserves_if (reservation_due b own.rsm agent.name xs) now own).rec
  unfolding reservation_due
  due_fits true e l = verdict_fits own.rsm refl l (quiet_free xs e)
  due_fits false e l = fit

  reservation_fits : is_live own.lsm ≡ true → Then (settles_reservation agent now xs own).rec
  unfolding settles_reservation
  reservation_fits l = due_fits (is_quiet Kind.Reserve xs) refl l

---- All that is due

-- a connection that ends commits nothing
closing_committed : (k : Rsm) (e : Exception) (now : ℕ) (r : Record) → r.rsm ≡ k → (reserves_if (reservation_closing k e) now r).rec.committed ≡ r.committed
unfolding reservation_closing reserves reserve_step event_of
closing_committed k e now r s = grind (arith, s)

closing_rsm : (k : Rsm) (e : Exception) (now : ℕ) (r : Record) → r.rsm ≡ k → r.rsm ≡ Rsm.ReserveStart → (reserves_if (reservation_closing k e) now r).rec.rsm ≡ r.rsm
unfolding reservation_closing reserves reserve_step event_of
closing_rsm k e now r s h = grind (arith, s, h)

closing_mixed : (k : Rsm) (e : Exception) (now : ℕ) (r : Record) → r.rsm ≡ k → (reserves_if (reservation_closing k e) now r).rec.mixed ≡ r.mixed
unfolding reservation_closing reserves reserve_step event_of
closing_mixed k e now r s = grind (arith, s)

closing_holds : (k : Rsm) (e : Exception) (now : ℕ) (r : Record) → r.rsm ≡ k → holds_pending (reserves_if (reservation_closing k e) now r).rec.rsm ≡ true → holds_pending r.rsm ≡ true
unfolding reservation_closing reserves reserve_step event_of
closing_holds k e now r s h = grind (arith, s, h)

closing_lsm : (k : Rsm) (e : Exception) (now : ℕ) (r : Record) → (reserves_if (reservation_closing k e) now r).rec.lsm ≡ r.lsm
unfolding reservation_closing reserves reserve_step event_of
closing_lsm k e now r = grind arith

module _ (agent : Agent) (asked : List Message) (now : ℕ) (xs : List ChildConnection) where
  closes_fits : (own : Record) → is_live own.lsm ≡ false → Fits agent.name asked own xs → Fits agent.name asked (closes agent.name Side.Aggregator now own).rec xs
  unfolding closes
  closes_fits own dead fit =
      as_fits agent.name asked q _ xs
      (as_then q p _ (provisions_if_as Side.Aggregator (provision_closing q.psm gone) now q) (lives_as LifecycleMove.Done now p))
      (record {
        committed = λ v i. fit.committed v (subst (λ cs. Contains (map version_of cs) v) (closing_committed own.rsm gone now own refl) i);
        known = fit.known;
        mixed = λ h. let s = fit.mixed (sym (closing_mixed own.rsm gone now own refl) ∙ h) in closing_rsm own.rsm gone now own refl s ∙ s;
        some = λ h. fit.some (closing_holds own.rsm gone now own refl h);
        fits = λ h _. absurd (true≢false (sym h ∙ ap is_live (closing_lsm own.rsm gone now own) ∙ dead));
      })
    where
      gone : Exception
      gone = plain agent.name ErrorName.Gone

      q : Record
      q = (reserves_if (reservation_closing own.rsm gone) now own).rec

      p : Record
      p = (provisions_if Side.Aggregator (provision_closing q.psm gone) now q).rec

  unless_fits : (b : Bool) (own : Record) → is_live own.lsm ≡ false → Fits agent.name asked own xs → Fits agent.name asked (closes_unless b agent now own).rec xs
  unfolding closes_unless
  unless_fits true own dead fit = fit
  unless_fits false own dead fit = closes_fits own dead fit

  both_fits : (own : Record) → is_live own.lsm ≡ true → Fits agent.name asked own xs → Fits agent.name asked (then_moves (settles_reservation agent now xs own) (λ x. settles_provision agent now xs x)).rec xs
  unfolding settles_provision
  both_fits own live fit =
      let q : Record = (settles_reservation agent now xs own).rec in
      as_fits agent.name asked q (settles_provision agent now xs q).rec xs (provisions_if_as Side.Aggregator (provision_due (is_quiet Kind.Provision xs) q.psm agent.name xs) now q) (reservation_fits agent asked now own xs fit live)

  pub settles_fits : (k : Lsm) (own : Record) → own.lsm ≡ k → Fits agent.name asked own xs → Fits agent.name asked (settles k agent now xs own).rec xs
  unfolding settles is_live
  settles_fits Lsm.Terminating own e fit = unless_fits (list_any is_there xs) own (ap is_live e) fit
  settles_fits Lsm.Terminated own e fit = fit
  settles_fits Lsm.Created own e fit = both_fits own (ap is_live e) fit
  settles_fits Lsm.Failed own e fit = both_fits own (ap is_live e) fit
  settles_fits Lsm.PassedEndTime own e fit = both_fits own (ap is_live e) fit
