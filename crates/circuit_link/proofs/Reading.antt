-- What is read off a link: the phases, and that the versions are in step.
use Rattle.std.proofs.Common.{ℕ, ◌≡◌, false, List, Contains, Option, Some, None, inl, inr, refl, sym, ap, ◌∙◌, subst, arith, true≢false}
use Rattle.nsi_primitive.specs.declared.kind.Kind.{Kind}
use Rattle.nsi_primitive.specs.declared.message.Body.{Body}
use Rattle.nsi_primitive.specs.declared.state.Rsm.{Rsm}
use Rattle.child_connection.specs.Views.{ChildConnection, sent}
use Rattle.child_connection.specs.Hearing.{hears, push_version}
use Rattle.child_connection.specs.Holding.{Commits}
use Rattle.child_connection.specs.Standing.{IsQuiet, back}
use Rattle.child_connection.proofs.Learning.{messages_commit}
use Rattle.connection_record.specs.declared.record.Record.{Record}
use Rattle.connection_record.specs.Moves.{is_working}
use Rattle.circuit_link.specs.Sides.{standing_of, Side}
use Rattle.circuit_link.specs.Links.{InStep, SameCommitted, WorksOn, Pending, Link, Stands, Works, Waits}
use Rattle.circuit_link.proofs.Inner.{quiet_rests}
use Rattle.circuit_link.proofs.Taking.{calm_of}

quiet_stands : (x : ChildConnection) (r : Record) → IsQuiet x (standing_of r) → Stands x.phase r.rsm
quiet_stands x r q = grind (arith, q)

pub link_stands : (x : ChildConnection) (s : Side) → Link x s → x.reserve_request ≡ None → Stands x.phase s.rec.rsm
link_stands x s h e = quiet_stands x s.rec (calm_of x s h e).quiet

works_as : (c d : ℕ) (k : Kind) (x : ChildConnection) (r : Record) → WorksOn d x r → x.reserve_request ≡ Some (sent c k) → Works k r.rsm
works_as c d k x r (WorksOn.reserving h) e = let q = h.asked in let t = h.state in grind (arith, q, t, e)
works_as c d k x r (WorksOn.committing h) e = let q = h.asked in let t = h.state in grind (arith, q, t, e)
works_as c d k x r (WorksOn.aborting h) e = let q = h.asked in let t = h.state in grind (arith, q, t, e)

same_request : (c d : ℕ) (k l : Kind) → Some (sent c k) ≡ Some (sent d l) → c ≡ d
same_request c d k l e = let q : sent c k ≡ sent d l = cc in ap (λ z. z.correlation) q

pub link_waits : (c : ℕ) (k : Kind) (x : ChildConnection) (s : Side) → Link x s → x.reserve_request ≡ Some (sent c k) → Waits c k x s
link_waits c k x s (Link.calm h) e = absurd (let n = h.quiet.none in cc)
link_waits c k x s (Link.asked d l r p a y) e = by_pending y
  where
    same : d ≡ c
    same = same_request d c l k (sym r ∙ e)

    by_pending : Pending d x s → Waits c k x s
    by_pending (Pending.unseen u n h) = Waits.untaken (ap s.seen (sym same) ∙ u) (quiet_stands (back x) s.rec h.quiet)
    by_pending (Pending.working u w f) = Waits.working (ap s.seen (sym same) ∙ u) (works_as c d k x s.rec w e)
    by_pending (Pending.told u f w m g i q) = Waits.answered (ap s.seen (sym same) ∙ u) g (subst (λ z. Contains (s.said z) g) same i) q w

---- Versions

pushed_step : (vs : List ℕ) (o : Option ℕ) → InStep vs (push_version vs o)
pushed_step vs None = inl refl
pushed_step vs (Some v) = inr (v, refl)

-- one message adds at most one version
heard_step : (b : Body) (d : ℕ) (x : ChildConnection) → InStep x.committed (hears b d x).view.committed
heard_step b d x = by_message (messages_commit b d x)
  where
    by_message : Commits b d x (hears b d x).view → InStep x.committed (hears b d x).view.committed
    by_message (inl e) = inl e
    by_message (inr w) = subst (λ z. InStep x.committed z) (sym w.3) (pushed_step x.committed x.pending)

works_committed : (c : ℕ) (x : ChildConnection) (r : Record) → WorksOn c x r → SameCommitted x r
works_committed c x r (WorksOn.reserving h) = h.same
works_committed c x r (WorksOn.committing h) = h.same
works_committed c x r (WorksOn.aborting h) = h.same

pub link_in_step : (x : ChildConnection) (s : Side) → Link x s → InStep x.committed (standing_of s.rec).committed
link_in_step x s (Link.calm h) = inl (sym h.quiet.same)
link_in_step x s (Link.asked c k r p a (Pending.unseen u n h)) = inl (sym h.quiet.same)
link_in_step x s (Link.asked c k r p a (Pending.working u w f)) = inl (sym (works_committed c x s.rec w))
link_in_step x s (Link.asked c k r p a (Pending.told u f w m g l q)) = elim (f g l) [
  | inl e ↦ absurd (true≢false (sym e ∙ q))
  | inr h ↦ subst (λ z. InStep x.committed z) h.quiet.same (heard_step g c x)
]

committing_works : (r : Record) → r.rsm ≡ Rsm.ReserveCommitting → is_working r.rsm ≡ false → ⊥
unfolding is_working
committing_works r e w = grind (arith, e)

-- what a record commits is what the view held as pending when it asked
pub link_commits : (x : ChildConnection) (s : Side) → Link x s → s.rec.rsm ≡ Rsm.ReserveCommitting → (c : ℕ) × (x.reserve_request ≡ Some (sent c Kind.ReserveCommit)) × (x.pending ≡ (standing_of s.rec).pending)
link_commits x s (Link.calm h) w = absurd (committing_works s.rec w (quiet_rests x s.rec h.quiet))
link_commits x s (Link.asked d k r p a (Pending.unseen u n h)) w = absurd (committing_works s.rec w (quiet_rests (back x) s.rec h.quiet))
link_commits x s (Link.asked d k r p a (Pending.told u f q m g l n)) w = absurd (committing_works s.rec w q)
link_commits x s (Link.asked d k r p a (Pending.working u (WorksOn.committing h) f)) w = (d, h.asked, h.pending)
link_commits x s (Link.asked d k r p a (Pending.working u (WorksOn.reserving h) f)) w = absurd (let q = h.state in cc)
link_commits x s (Link.asked d k r p a (Pending.working u (WorksOn.aborting h) f)) w = absurd (let q = h.state in cc)
