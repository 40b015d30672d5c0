-- What a message leaves of a view that fits its connection's own record.
use Rattle.std.proofs.Common.{ℕ, ◌≡◌, ◌∙◌, Bool, true, false, List, [], ◌∷◌, ◌&&◌, ◌==◌, Contains, Option, Some, None, IfSome, inl, refl, sym, ap, subst, arith, eqb-true, true≢false}
use Rattle.std.proofs.lemmas.List.Elements.{Contains-append_right}
use Rattle.nsi_primitive.specs.declared.kind.ErrorName.{ErrorName}
use Rattle.nsi_primitive.specs.declared.kind.Kind.{Kind}
use Rattle.nsi_primitive.specs.declared.state.Rsm.{Rsm}
use Rattle.nsi_primitive.specs.declared.message.Body.{Body}
use Rattle.nsi_primitive.specs.declared.message.Exception.{Exception}
use Rattle.nsi_primitive.specs.declared.message.Header.{Header}
use Rattle.nsi_primitive.specs.declared.message.Message.{Message}
use Rattle.child_connection.specs.declared.state.Sent.{Sent}
use Rattle.child_connection.specs.declared.state.Taken.{Taken}
use Rattle.child_connection.specs.Views.{ChildConnection, sent, is_id, is_open, is_open_of, is_kind}
use Rattle.child_connection.specs.Hearing.{heard_if, refused, push_version, is_reserving_or_held, hears}
use Rattle.child_connection.specs.Holding.{settles}
use Rattle.child_connection.proofs.Reservations.{settling_changes}
use Rattle.aggregator_agent.specs.Asking.{may_abort}
use Rattle.aggregator_agent.specs.Settling.{is_held}
use Rattle.aggregator_agent.specs.Turns.{is_timed_out}
use Rattle.circuit_fit.specs.Fits.{WasAsked, IsReserveFor, IsAbortOf, Rests, Waits, IsFitting, IsHonest}
use Rattle.record_index.proofs.Members.{contains_more}

---- Views that differ in nothing that fits

pub record IsLike (x y : ChildConnection) : Type 0 where
  pub request : y.reserve_request ≡ x.reserve_request
  pub phase : y.phase ≡ x.phase
  pub before : y.before ≡ x.before
  pub pending : y.pending ≡ x.pending
  pub committed : y.committed ≡ x.committed
  pub child : y.child ≡ x.child
  pub error : y.error ≡ None → x.error ≡ None
  pub connection : (id : ℕ) → x.connection ≡ Some id → y.connection ≡ Some id

asked_like : (parent : List ℕ) (asked : List Message) (x y : ChildConnection) (c : ℕ) (P Q : Body → Type 0) → y.child ≡ x.child → ((b : Body) → P b → Q b) → WasAsked parent asked x c P → WasAsked parent asked y c Q
asked_like parent asked x y c P Q e f w =
    record { message = w.message; there = w.there; header = w.header ∙ ap (λ p. let h : Header = record { correlation = c; requester = parent; provider = p } in h) (sym e); is = f w.message.body w.is }

committed_in : (v : Option ℕ) (us vs : List ℕ) → us ≡ vs → IfSome v (λ n. Contains us n) → IfSome v (λ n. Contains vs n)
committed_in v us vs e h = subst (λ ws. IfSome v (λ n. Contains ws n)) e h

rests_like : (k : Rsm) (v : Option ℕ) (x y : ChildConnection) → IsLike x y → Rests k v x → Rests k v y
rests_like Rsm.ReserveStart v x y l h = ap is_held l.phase ∙ h
rests_like Rsm.ReserveChecking v x y l h = λ e. l.pending ∙ h (sym (ap is_held l.phase) ∙ e)
rests_like Rsm.ReserveHeld v x y l h = (ap is_held l.phase ∙ h.0, l.pending ∙ h.1)
rests_like Rsm.ReserveCommitting v x y l h = λ e. let w = h (l.error e) in (ap is_held l.phase ∙ w.0, committed_in v x.committed y.committed (sym l.committed) w.1)
rests_like Rsm.ReserveAborting v x y l h = ap is_held l.phase ∙ h
rests_like Rsm.ReserveFailed v x y l h = tt
rests_like Rsm.ReserveTimeout v x y l h = tt

module _ (parent : List ℕ) (asked : List Message) where
  waits_like : (k : Rsm) (v : Option ℕ) (x y : ChildConnection) (q : Sent) → IsLike x y → Waits parent asked k v x q → Waits parent asked k v y q
  waits_like Rsm.ReserveChecking v x y q l h = (h.0, ap is_held l.before ∙ h.1, asked_like parent asked x y q.correlation (IsReserveFor v) (IsReserveFor v) l.child (λ b p. p) h.2)
  waits_like Rsm.ReserveCommitting v x y q l h = (h.0, l.pending ∙ h.1)
  waits_like Rsm.ReserveAborting v x y q l h =
      (h.0, ap may_abort l.before ∙ h.1, asked_like parent asked x y q.correlation (IsAbortOf x.connection) (IsAbortOf y.connection) l.child (λ b p. (p.0, l.connection p.0 p.1, p.2)) h.2)
  waits_like Rsm.ReserveStart v x y q l h = h
  waits_like Rsm.ReserveHeld v x y q l h = h
  waits_like Rsm.ReserveFailed v x y q l h = h
  waits_like Rsm.ReserveTimeout v x y q l h = h

  pub like_fits : (k : Rsm) (v : Option ℕ) (x y : ChildConnection) → IsLike x y → IsFitting parent asked k v x → IsFitting parent asked k v y
  like_fits k v x y l f = record { rests = λ e. rests_like k v x y l (f.rests (sym l.request ∙ e)); waits = λ q e. waits_like k v x y q l (f.waits q (sym l.request ∙ e)) }

  free_fits : (k : Rsm) (v : Option ℕ) (y : ChildConnection) → y.reserve_request ≡ None → Rests k v y → IsFitting parent asked k v y
  free_fits k v y e h = record { rests = λ _. h; waits = λ q g. absurd (let w : None ≡ Some q = sym e ∙ g in cc) }

---- What leaves the reservation

child_stays : (b : Body) (d : ℕ) (x : ChildConnection) → (hears b d x).view.child ≡ x.child
unfolding hears
child_stays (Body.ReserveResponse id) d x = grind arith
child_stays (Body.ReserveConfirmed f) d x = grind arith
child_stays (Body.ReserveFailed id ex) d x = grind arith
child_stays (Body.ReserveTimeout t) d x = grind arith
child_stays (Body.ReserveCommitConfirmed id) d x = grind arith
child_stays (Body.ReserveCommitFailed id ex) d x = grind arith
child_stays (Body.ReserveAbortConfirmed id) d x = grind arith
child_stays (Body.Error id ex) d x = grind arith
child_stays (Body.ProvisionConfirmed id) d x = grind arith
child_stays (Body.ReleaseConfirmed id) d x = grind arith
child_stays (Body.TerminateConfirmed id) d x = grind arith
child_stays (Body.ErrorEvent f) d x = grind arith
child_stays (Body.DataPlaneStateChange n) d x = grind arith
child_stays _ d x = refl

error_stays : (b : Body) (d : ℕ) (x : ChildConnection) → settles b ≡ false → (hears b d x).view.error ≡ x.error
unfolding hears settles
error_stays (Body.ReserveResponse id) d x h = grind (arith, h)
error_stays (Body.ReserveConfirmed f) d x h = absurd (cc)
error_stays (Body.ReserveFailed id ex) d x h = absurd (cc)
error_stays (Body.ReserveTimeout t) d x h = absurd (cc)
error_stays (Body.ReserveCommitConfirmed id) d x h = absurd (cc)
error_stays (Body.ReserveCommitFailed id ex) d x h = absurd (cc)
error_stays (Body.ReserveAbortConfirmed id) d x h = absurd (cc)
error_stays (Body.Error id ex) d x h = absurd (cc)
error_stays (Body.ProvisionConfirmed id) d x h = grind (arith, h)
error_stays (Body.ReleaseConfirmed id) d x h = grind (arith, h)
error_stays (Body.TerminateConfirmed id) d x h = grind (arith, h)
error_stays (Body.ErrorEvent f) d x h = grind (arith, h)
error_stays (Body.DataPlaneStateChange n) d x h = grind (arith, h)
error_stays _ d x h = refl

quiet_like : (b : Body) (d : ℕ) (x : ChildConnection) → settles b ≡ false → ((id : ℕ) → x.connection ≡ Some id → (hears b d x).view.connection ≡ Some id) → IsLike x (hears b d x).view
quiet_like b d x e f =
    let s = settling_changes b d x e in
    record {
      request = s.request;
      phase = s.phase;
      before = s.before;
      pending = s.pending;
      committed = s.committed;
      child = child_stays b d x;
      error = λ n. sym (error_stays b d x e) ∙ n;
      connection = f;
    }

---- What answers a request

first_true : (a b : Bool) → (a && b) ≡ true → a ≡ true
first_true true b h = refl
first_true false b h = absurd (cc)

second_true : (a b : Bool) → (a && b) ≡ true → b ≡ true
second_true true b h = h
second_true false b h = absurd (cc)

made_sent : (c d : ℕ) (k l : Kind) → d ≡ c → l ≡ k → Some (sent d l) ≡ Some (sent c k)
made_sent c d k l e f = rw (e, f) refl

reserve_kind : (k : Kind) → is_kind Kind.Reserve k ≡ true → k ≡ Kind.Reserve
unfolding is_kind
reserve_kind k h = grind (arith, h)

commit_kind : (k : Kind) → is_kind Kind.ReserveCommit k ≡ true → k ≡ Kind.ReserveCommit
unfolding is_kind
commit_kind k h = grind (arith, h)

abort_kind : (k : Kind) → is_kind Kind.ReserveAbort k ≡ true → k ≡ Kind.ReserveAbort
unfolding is_kind
abort_kind k h = grind (arith, h)

open_is : (k : Kind) → ((l : Kind) → is_kind k l ≡ true → l ≡ k) → (o : Option Sent) (c : ℕ) → is_open_of o k c ≡ true → o ≡ Some (sent c k)
open_is k f None c e = absurd (cc)
open_is k f (Some q) c e = made_sent c q.correlation k q.kind (sym (eqb-true c q.correlation (first_true (c == q.correlation) (is_kind k q.kind) e))) (f q.kind (second_true (c == q.correlation) (is_kind k q.kind) e))

pushed : (us : List ℕ) (p v : Option ℕ) → p ≡ v → IfSome v (λ n. Contains (push_version us p) n)
pushed us p None e = tt
pushed us None (Some n) e = absurd (cc)
pushed us (Some m) (Some n) e =
    let q : m ≡ n = cc in
    Contains-append_right us (m ∷ []) n (subst (λ z. Contains (m ∷ []) z) q (contains_more m m [] (inl refl)))

module _ (parent : List ℕ) (asked : List Message) (lives : Bool) (live : lives ≡ true) (k : Rsm) (v : Option ℕ) (x : ChildConnection) (fit : IsFitting parent asked k v x) where
  abbrev Still : ChildConnection → Type 0
  Still y = IsFitting parent asked k v y

  by_test : (t : Bool) (taken : Taken) (y : ChildConnection) → (t ≡ true → IsFitting parent asked k v y) → IsFitting parent asked k v (heard_if t taken y x).view
  by_test true taken y f = f refl
  by_test false taken y f = fit

  ---- Confirmed, or failed

  confirmed_rests : (l : Rsm) (c : ℕ) (w : Option ℕ) (y : ChildConnection) → Waits parent asked l w x (sent c Kind.Reserve) → (WasAsked parent asked x c (IsReserveFor w) → y.pending ≡ w) → Rests l w y
  confirmed_rests Rsm.ReserveChecking c w y h f = λ _. f h.2
  confirmed_rests Rsm.ReserveCommitting c w y h f = absurd (let e = h.0 in cc)
  confirmed_rests Rsm.ReserveAborting c w y h f = absurd (let e = h.0 in cc)
  confirmed_rests Rsm.ReserveStart c w y h f = absurd h
  confirmed_rests Rsm.ReserveHeld c w y h f = absurd h
  confirmed_rests Rsm.ReserveFailed c w y h f = tt
  confirmed_rests Rsm.ReserveTimeout c w y h f = tt

  failed_rests : (l : Rsm) (c : ℕ) (w : Option ℕ) (y : ChildConnection) → Waits parent asked l w x (sent c Kind.Reserve) → is_held y.phase ≡ false → Rests l w y
  failed_rests Rsm.ReserveChecking c w y h f = λ e. absurd (true≢false (sym e ∙ f))
  failed_rests Rsm.ReserveCommitting c w y h f = absurd (let e = h.0 in cc)
  failed_rests Rsm.ReserveAborting c w y h f = absurd (let e = h.0 in cc)
  failed_rests Rsm.ReserveStart c w y h f = absurd h
  failed_rests Rsm.ReserveHeld c w y h f = absurd h
  failed_rests Rsm.ReserveFailed c w y h f = tt
  failed_rests Rsm.ReserveTimeout c w y h f = tt

  commit_rests : (l : Rsm) (c : ℕ) (w : Option ℕ) (y : ChildConnection) → Waits parent asked l w x (sent c Kind.ReserveCommit) → is_held y.phase ≡ false → (x.pending ≡ w → y.error ≡ None → IfSome w (λ n. Contains y.committed n)) → Rests l w y
  commit_rests Rsm.ReserveChecking c w y h f g = absurd (let e = h.0 in cc)
  commit_rests Rsm.ReserveCommitting c w y h f g = λ e. (f, g h.1 e)
  commit_rests Rsm.ReserveAborting c w y h f g = absurd (let e = h.0 in cc)
  commit_rests Rsm.ReserveStart c w y h f g = absurd h
  commit_rests Rsm.ReserveHeld c w y h f g = absurd h
  commit_rests Rsm.ReserveFailed c w y h f g = tt
  commit_rests Rsm.ReserveTimeout c w y h f g = tt

  abort_rests : (l : Rsm) (c : ℕ) (w : Option ℕ) (y : ChildConnection) → Waits parent asked l w x (sent c Kind.ReserveAbort) → is_held y.phase ≡ false → Rests l w y
  abort_rests Rsm.ReserveChecking c w y h f = absurd (let e = h.0 in cc)
  abort_rests Rsm.ReserveCommitting c w y h f = absurd (let e = h.0 in cc)
  abort_rests Rsm.ReserveAborting c w y h f = f
  abort_rests Rsm.ReserveStart c w y h f = absurd h
  abort_rests Rsm.ReserveHeld c w y h f = absurd h
  abort_rests Rsm.ReserveFailed c w y h f = tt
  abort_rests Rsm.ReserveTimeout c w y h f = tt

  -- a hold ended
  lapsed_rests : (l : Rsm) (w : Option ℕ) (y : ChildConnection) → (l ≡ Rsm.ReserveHeld → ⊥) → is_held y.phase ≡ false → (y.error ≡ None → ⊥) → Rests l w y
  lapsed_rests Rsm.ReserveChecking w y n f g = λ e. absurd (true≢false (sym e ∙ f))
  lapsed_rests Rsm.ReserveCommitting w y n f g = λ e. absurd (g e)
  lapsed_rests Rsm.ReserveAborting w y n f g = f
  lapsed_rests Rsm.ReserveStart w y n f g = f
  lapsed_rests Rsm.ReserveHeld w y n f g = absurd (n refl)
  lapsed_rests Rsm.ReserveFailed w y n f g = tt
  lapsed_rests Rsm.ReserveTimeout w y n f g = tt

  -- a request was refused
  refused_rests : (l : Rsm) (w : Option ℕ) (q : Sent) (y : ChildConnection) → Waits parent asked l w x q → y.phase ≡ x.before → (y.error ≡ None → ⊥) →
      (q.kind ≡ Kind.ReserveAbort → may_abort x.before ≡ true → WasAsked parent asked x q.correlation (IsAbortOf x.connection) → ⊥) → Rests l w y
  refused_rests Rsm.ReserveChecking w q y h p g a = λ e. absurd (true≢false (sym e ∙ ap is_held p ∙ h.1))
  refused_rests Rsm.ReserveCommitting w q y h p g a = λ e. absurd (g e)
  refused_rests Rsm.ReserveAborting w q y h p g a = absurd (a h.0 h.1 h.2)
  refused_rests Rsm.ReserveStart w q y h p g a = absurd h
  refused_rests Rsm.ReserveHeld w q y h p g a = absurd h
  refused_rests Rsm.ReserveFailed w q y h p g a = tt
  refused_rests Rsm.ReserveTimeout w q y h p g a = tt

  module _ (c : ℕ) where
    error_fits : (o : Option ℕ) (e : Exception) (name : ErrorName) (p l : Bool) (a : Bool) → is_open x.reserve_request c ≡ a → IsHonest parent asked lives (Body.Error o e) c x → IsFitting parent asked k v (refused a p l name x).view
    error_fits o e name p l true h n = by_request x.reserve_request refl h
      where
        by_request : (r : Option Sent) → x.reserve_request ≡ r → is_open r c ≡ true → IsFitting parent asked k v (refused true p l name x).view
        by_request None r i = absurd (cc)
        by_request (Some q) r i =
            let same : q.correlation ≡ c = sym (eqb-true c q.correlation i) in
            free_fits parent asked k v (refused true p l name x).view refl
            (refused_rests k v q (refused true p l name x).view (fit.waits q r) refl (λ z. cc)
            (λ z b w. n.refuses o e live refl (r ∙ made_sent c q.correlation Kind.ReserveAbort q.kind same z) b (subst (λ d. WasAsked parent asked x d (IsAbortOf x.connection)) same w)))
    error_fits o e name true l false h n = like_fits parent asked k v x (refused false true l name x).view (record { request = refl; phase = refl; before = refl; pending = refl; committed = refl; child = refl; error = λ z. z; connection = λ id z. z }) fit
    error_fits o e name false true false h n = like_fits parent asked k v x (refused false false true name x).view (record { request = refl; phase = refl; before = refl; pending = refl; committed = refl; child = refl; error = λ z. absurd (cc); connection = λ id z. z }) fit
    error_fits o e name false false false h n = fit

    quiet_fits : (b : Body) → settles b ≡ false → IsHonest parent asked lives b c x → IsFitting parent asked k v (hears b c x).view
    quiet_fits b e n = like_fits parent asked k v x (hears b c x).view (quiet_like b c x e n.stays) fit

    lapse_fits : (t : Bool) (y : ChildConnection) → y.reserve_request ≡ None → is_held y.phase ≡ false → (y.error ≡ None → ⊥) →
        (k ≡ Rsm.ReserveHeld → is_timed_out (heard_if t Taken.TimedOut y x).taken ≡ false) → IsFitting parent asked k v (heard_if t Taken.TimedOut y x).view
    unfolding is_timed_out
    lapse_fits true y r p g h = free_fits parent asked k v y r (lapsed_rests k v y (λ e. true≢false (h e)) p g)
    lapse_fits false y r p g h = fit

    settled_fits : (b : Body) → settles b ≡ true → IsHonest parent asked lives b c x → (k ≡ Rsm.ReserveHeld → is_timed_out (hears b c x).taken ≡ false) → IsFitting parent asked k v (hears b c x).view
    unfolding hears settles is_held
    settled_fits (Body.ReserveConfirmed f) e n h =
        by_test (is_open_of x.reserve_request Kind.Reserve c) _ _
        (λ t.
        let r = open_is Kind.Reserve reserve_kind x.reserve_request c t in
        free_fits parent asked k v _ refl (confirmed_rests k c v _ (fit.waits (sent c Kind.Reserve) r) (λ w. n.confirms f v refl r w)))
    settled_fits (Body.ReserveFailed id ex) e n h =
        by_test (is_open_of x.reserve_request Kind.Reserve c) _ _
        (λ t.
        let r = open_is Kind.Reserve reserve_kind x.reserve_request c t in
        free_fits parent asked k v _ refl (failed_rests k c v _ (fit.waits (sent c Kind.Reserve) r) refl))
    settled_fits (Body.ReserveTimeout t) e n h = lapse_fits (is_id x.attempt c && is_reserving_or_held x.phase) _ refl refl (λ z. absurd (cc)) h
    settled_fits (Body.ReserveCommitConfirmed id) e n h =
        by_test (is_open_of x.reserve_request Kind.ReserveCommit c) _ _
        (λ t.
        let r = open_is Kind.ReserveCommit commit_kind x.reserve_request c t in
        free_fits parent asked k v _ refl (commit_rests k c v _ (fit.waits (sent c Kind.ReserveCommit) r) refl (λ p z. pushed x.committed x.pending v p)))
    settled_fits (Body.ReserveCommitFailed id ex) e n h =
        by_test (is_open_of x.reserve_request Kind.ReserveCommit c) _ _
        (λ t.
        let r = open_is Kind.ReserveCommit commit_kind x.reserve_request c t in
        free_fits parent asked k v _ refl (commit_rests k c v _ (fit.waits (sent c Kind.ReserveCommit) r) refl (λ p z. absurd (cc))))
    settled_fits (Body.ReserveAbortConfirmed id) e n h =
        by_test (is_open_of x.reserve_request Kind.ReserveAbort c) _ _
        (λ t.
        let r = open_is Kind.ReserveAbort abort_kind x.reserve_request c t in
        free_fits parent asked k v _ refl (abort_rests k c v _ (fit.waits (sent c Kind.ReserveAbort) r) refl))
    settled_fits (Body.Error o ex) e n h = error_fits o ex _ _ _ (is_open x.reserve_request c) refl n
    settled_fits _ e n h = absurd (cc)

    -- by a message of the child, unless what is held ends by it
    pub hears_fits : (b : Body) → IsHonest parent asked lives b c x → (k ≡ Rsm.ReserveHeld → is_timed_out (hears b c x).taken ≡ false) → IsFitting parent asked k v (hears b c x).view
    hears_fits b n h = by_settling (settles b) refl
      where
        by_settling : (t : Bool) → settles b ≡ t → IsFitting parent asked k v (hears b c x).view
        by_settling true e = settled_fits b e n h
        by_settling false e = quiet_fits b e n
