-- What a view hears of what was said keeps its link.
use Rattle.std.proofs.Common.{ℕ, ◌≡◌, Bool, true, false, [], Contains, Option, Some, None, ◌⊎◌, inl, inr, refl, sym, ap, ◌∙◌, subst, arith, ne_eqb, eqb-true}
use Rattle.std.proofs.lemmas.Bool.{cases_eq}
use Rattle.nsi_primitive.specs.Messages.{has_rows}
use Rattle.nsi_primitive.specs.declared.kind.Kind.{Kind}
use Rattle.nsi_primitive.specs.declared.message.Body.{Body}
use Rattle.nsi_primitive.specs.declared.state.Rsm.{Rsm}
use Rattle.child_connection.specs.declared.state.Phase.{Phase}
use Rattle.child_connection.specs.declared.state.Sent.{Sent}
use Rattle.child_connection.specs.Views.{ChildConnection, sent, is_id, is_open}
use Rattle.child_connection.specs.Hearing.{ignored, hears, is_reserving_or_held}
use Rattle.child_connection.specs.Holding.{settles, is_timeout, is_response, phase_of, IsSameReservation}
use Rattle.child_connection.specs.Standing.{Rests, back}
use Rattle.child_connection.proofs.AtRest.{same_quiet, timed_out_rests}
use Rattle.child_connection.proofs.Reservations.{apart_same, settling_changes, same_hear}
use Rattle.connection_record.specs.declared.record.Record.{Record}
use Rattle.circuit_link.specs.Sides.{standing_of, Side}
use Rattle.circuit_link.specs.Links.{SameCommitted, IsCalm, WorksOn, IsForetold, MayEnd, Pending, IsAttempt, Link}
use Rattle.circuit_link.proofs.Answering.{same_some}

---- Views of one reservation

calm_same : (x y : ChildConnection) (s : Side) → IsSameReservation x y → IsCalm x s → IsCalm y s
calm_same x y s e h =
    record { quiet = same_quiet x y (standing_of s.rec) e h.quiet; late = λ c b p a i t. h.late c b (sym e.phase ∙ p) (sym e.attempt ∙ a) i t }

back_same : (x y : ChildConnection) → IsSameReservation x y → IsSameReservation (back x) (back y)
back_same x y h = grind arith

works_same : (c : ℕ) (x y : ChildConnection) (r : Record) → IsSameReservation x y → WorksOn c x r → WorksOn c y r
works_same c x y r e (WorksOn.reserving h) =
    WorksOn.reserving
    (record {
      asked = e.request ∙ h.asked;
      phase = e.phase ∙ h.phase;
      attempt = e.attempt ∙ h.attempt;
      state = h.state;
      request = h.request;
      its_attempt = h.its_attempt;
      same = e.committed ∙ h.same;
    })
works_same c x y r e (WorksOn.committing h) =
    WorksOn.committing
    (record { asked = e.request ∙ h.asked; phase = e.phase ∙ h.phase; state = h.state; request = h.request; pending = e.pending ∙ h.pending; same = e.committed ∙ h.same })
works_same c x y r e (WorksOn.aborting h) =
    WorksOn.aborting (record { asked = e.request ∙ h.asked; phase = e.phase ∙ h.phase; state = h.state; request = h.request; same = e.committed ∙ h.same })

foretold_same : (c : ℕ) (x y : ChildConnection) (s : Side) (b : Body) → IsSameReservation x y → IsForetold c x s b → IsForetold c y s b
foretold_same c x y s b e (inl r) = inl r
foretold_same c x y s b e (inr h) = inr (calm_same (hears b c x).view (hears b c y).view s (same_hear b c x y e) h)

end_same : (c : ℕ) (x y : ChildConnection) (r : Record) → IsSameReservation x y → MayEnd c x r → MayEnd c y r
end_same c x y r e h = record { waits = λ p a. let w = h.waits p a in (e.phase ∙ w.0, e.attempt ∙ w.1, e.committed ∙ w.2) }

pending_same : (c : ℕ) (x y : ChildConnection) (s : Side) → IsSameReservation x y → Pending c x s → Pending c y s
pending_same c x y s e (Pending.unseen u n h) = Pending.unseen u n (calm_same (back x) (back y) s (back_same x y e) h)
pending_same c x y s e (Pending.working u w f) = Pending.working u (works_same c x y s.rec e w) f
pending_same c x y s e (Pending.told u f w m g l q) = Pending.told u (λ b i. foretold_same c x y s b e (f b i)) w (end_same c x y s.rec e m) g l q

attempt_same : (k : Kind) (c : ℕ) (x y : ChildConnection) → IsSameReservation x y → IsAttempt k c x → IsAttempt k c y
attempt_same k c x y e h = grind arith

-- what doesn't concern the reservation keeps the link
pub same_link : (x y : ChildConnection) (s : Side) → IsSameReservation x y → Link x s → Link y s
same_link x y s e (Link.calm h) = Link.calm (calm_same x y s e h)
same_link x y s e (Link.asked c k r p a h) = Link.asked c k (e.request ∙ r) (e.phase ∙ p) (attempt_same k c x y e a) (pending_same c x y s e h)

---- Messages

response_settles : (b : Body) → is_response b ≡ true → settles b ≡ false
unfolding is_response settles
response_settles b e = grind arith

response_same : (b : Body) (d : ℕ) (x : ChildConnection) → is_response b ≡ true → IsSameReservation x (hears b d x).view
response_same b d x e = settling_changes b d x (response_settles b e)

-- the end of a hold is heard only by a view that reserves or holds
deaf : (b : Body) (d : ℕ) (x : ChildConnection) → is_timeout b ≡ true → is_reserving_or_held x.phase ≡ false → (hears b d x).view ≡ x
unfolding hears is_timeout
deaf (Body.ReserveTimeout t) d x e n = grind arith
deaf _ d x e n = absurd (cc)

same_view : (x y : ChildConnection) → y ≡ x → IsSameReservation x y
same_view x y e = grind (arith, e)

late_heard : (b : Body) (d : ℕ) (x : ChildConnection) (s : Side) → is_timeout b ≡ true → x.attempt ≡ Some d → x.phase ≡ Phase.Held → s.rec.rsm ≡ Rsm.ReserveTimeout → SameCommitted x s.rec →
    IsCalm (hears b d x).view s
unfolding is_timeout
late_heard (Body.ReserveTimeout t) d x s e a p r m = record { quiet = timed_out_rests t d x (standing_of s.rec) a (inl p) r m; late = λ c b' q a' i t'. r }
late_heard _ d x s e a p r m = absurd (cc)

is_some_id : (o : Option ℕ) (d : ℕ) → is_id o d ≡ true → o ≡ Some d
is_some_id None d e = absurd (cc)
is_some_id (Some c) d e = ap Some (sym (eqb-true d c e))

closed : (o : Option Sent) (d : ℕ) → o ≡ None → is_open o d ≡ false
closed o d e = ap (λ z. is_open z d) e

calm_heard : (b : Body) (d : ℕ) (x : ChildConnection) (s : Side) → Contains (s.said d) b → IsCalm x s → Link (hears b d x).view s
calm_heard b d x s i h = by_attempt (is_id x.attempt d) refl
  where
    apart : (is_id x.attempt d ≡ false) ⊎ (is_timeout b ≡ false) → Link (hears b d x).view s
    apart e = same_link x (hears b d x).view s (apart_same b d x (closed x.reserve_request d h.quiet.none, e)) (Link.calm h)

    unheard : is_timeout b ≡ true → is_reserving_or_held x.phase ≡ false → Link (hears b d x).view s
    unheard t n = same_link x (hears b d x).view s (same_view x (hears b d x).view (deaf b d x t n)) (Link.calm h)

    held : (p : Phase) → x.phase ≡ p → x.attempt ≡ Some d → is_timeout b ≡ true → Link (hears b d x).view s
    held Phase.Held p a t = Link.calm (late_heard b d x s t a p (h.late d b p a i t) h.quiet.same)
    held Phase.Reserving p a t = absurd (let q : Rests Phase.Reserving x (standing_of s.rec) = subst (λ z. Rests z x (standing_of s.rec)) p h.quiet.rests in q)
    held Phase.Idle p a t = unheard t (ap is_reserving_or_held p)
    held Phase.Failed p a t = unheard t (ap is_reserving_or_held p)
    held Phase.TimedOut p a t = unheard t (ap is_reserving_or_held p)
    held Phase.Committing p a t = unheard t (ap is_reserving_or_held p)
    held Phase.Aborting p a t = unheard t (ap is_reserving_or_held p)

    by_kind : (t : Bool) → is_timeout b ≡ t → x.attempt ≡ Some d → Link (hears b d x).view s
    by_kind false t a = apart (inr t)
    by_kind true t a = held x.phase refl a t

    by_attempt : (z : Bool) → is_id x.attempt d ≡ z → Link (hears b d x).view s
    by_attempt false e = apart (inl e)
    by_attempt true e = by_kind (is_timeout b) refl (is_some_id x.attempt d e)

open_at : (o : Option Sent) (c d : ℕ) (k : Kind) → o ≡ Some (sent c k) → (d ≡ c → ⊥) → is_open o d ≡ false
open_at o c d k e n = ap (λ z. is_open z d) e ∙ ne_eqb d c n

-- what was said under another correlation than the unanswered request's leaves the reservation
pub other_same : (b : Body) (d c : ℕ) (k : Kind) (x : ChildConnection) → (d ≡ c → ⊥) → x.reserve_request ≡ Some (sent c k) → x.phase ≡ phase_of k → IsAttempt k c x → IsSameReservation x (hears b d x).view
unfolding phase_of
other_same b d c k x n r p a = by_attempt (is_id x.attempt d) refl
  where
    apart : (is_id x.attempt d ≡ false) ⊎ (is_timeout b ≡ false) → IsSameReservation x (hears b d x).view
    apart e = apart_same b d x (open_at x.reserve_request c d k r n, e)

    by_request : (k : Kind) → x.phase ≡ phase_of k → IsAttempt k c x → x.attempt ≡ Some d → is_timeout b ≡ true → IsSameReservation x (hears b d x).view
    by_request Kind.Reserve p a e t = absurd (n (same_some d c (sym e ∙ a)))
    by_request Kind.ReserveCommit p a e t = same_view x (hears b d x).view (deaf b d x t (ap is_reserving_or_held p))
    by_request Kind.ReserveAbort p a e t = same_view x (hears b d x).view (deaf b d x t (ap is_reserving_or_held p))
    by_request _ p a e t = absurd a

    by_kind : (t : Bool) → is_timeout b ≡ t → x.attempt ≡ Some d → IsSameReservation x (hears b d x).view
    by_kind false t e = apart (inr t)
    by_kind true t e = by_request k p a e t

    by_attempt : (z : Bool) → is_id x.attempt d ≡ z → IsSameReservation x (hears b d x).view
    by_attempt false e = apart (inl e)
    by_attempt true e = by_kind (is_timeout b) refl (is_some_id x.attempt d e)

-- what was said is heard
pub hearing_link : (b : Body) (d : ℕ) (x : ChildConnection) (s : Side) → Contains (s.said d) b → Link x s → Link (hears b d x).view s
hearing_link b d x s i (Link.calm h) = calm_heard b d x s i h
hearing_link b d x s i (Link.asked c k r p a y) = by_request (cases_eq d c)
  where
    y' : ChildConnection
    y' = (hears b d x).view

    same : IsSameReservation x y' → Link y' s
    same e = same_link x y' s e (Link.asked c k r p a y)

    nothing_in : (b : Body) → Contains [] b → ⊥
    nothing_in b i = omega (arith, i.1)

    answer : (b : Body) → Contains (s.said c) b → Pending c x s → Link (hears b c x).view s
    answer b i (Pending.unseen u n h) = absurd (nothing_in b (subst (λ z. Contains z b) n i))
    answer b i (Pending.working u w f) = same_link x (hears b c x).view s (response_same b c x (f b i)) (Link.asked c k r p a (Pending.working u w f))
    answer b i (Pending.told u f w m g l q) = elim (f b i) [
      | inl e ↦ same_link x (hears b c x).view s (response_same b c x e) (Link.asked c k r p a (Pending.told u f w m g l q))
      | inr h ↦ Link.calm h
    ]

    by_request : (d ≡ c) ⊎ (d ≡ c → ⊥) → Link (hears b d x).view s
    by_request (inr n) = same (other_same b d c k x n r p a)
    by_request (inl e) = subst (λ z. Link (hears b z x).view s) (sym e) (answer b (subst (λ z. Contains (s.said z) b) e i) y)

---- Rows

-- they are nothing to a view
pub rows_unheard : (b : Body) (c : ℕ) (x : ChildConnection) → has_rows b ≡ true → hears b c x ≡ ignored x
unfolding hears
rows_unheard (Body.QuerySummaryConfirmed more rows) c x e = refl
rows_unheard (Body.QueryNotificationConfirmed id more rows) c x e = refl
rows_unheard (Body.QueryResultConfirmed id more rows) c x e = refl
rows_unheard (Body.QueryRecursiveConfirmed id more rows) c x e = refl
rows_unheard _ c x e = absurd (cc)
