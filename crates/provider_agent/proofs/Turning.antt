-- What telling a change of the data plane adds to a move of a record, and which moves change nothing of it.
use Rattle.std.proofs.Common.{◌≡◌, ◌∙◌, ℕ, Bool, true, false, List, Option, arith, refl, sym, ap, subst, append-nil}
use Rattle.std.proofs.lemmas.Bool.Decides.{nat_tests}
use Rattle.nsi_primitive.specs.declared.plane.Plane.{Plane}
use Rattle.nsi_primitive.specs.declared.state.Rsm.{Rsm}
use Rattle.nsi_primitive.specs.declared.message.Exception.{Exception}
use Rattle.nsi_primitive.specs.declared.message.Notice.{Notice}
use Rattle.reserve_machine.specs.Table.{step as reserve_step}
use Rattle.dataplane_state.specs.Plane.{announces}
use Rattle.connection_record.specs.declared.record.Record.{Record}
use Rattle.connection_record.specs.declared.moves.ReservationMove.{ReservationMove}
use Rattle.connection_record.specs.Replies.{Moved, stays, behind}
use Rattle.connection_record.specs.Moves.{event_of, reserves}
use Rattle.connection_record.specs.Applied.{status_of, is_told, tells_plane, tells}
use Rattle.provider_agent.specs.Steps.{drawn}

-- what stays the same isn't told
pub announces_same : (p : Plane) → announces p p ≡ false
unfolding announces
announces_same p = grind (arith, nat_tests)

pub untold : (p : Plane) (now : ℕ) (r : Record) → status_of now r ≡ p → is_told p now r ≡ false
untold p now r e = ap (announces p) e ∙ announces_same p

-- A move that leaves the data plane as it was is the whole step.
pub told_quiet : (p : Plane) (c now : ℕ) (x : Moved) → status_of now x.rec ≡ p → tells p c now x ≡ x
unfolding tells tells_plane
told_quiet p c now x e =
    ap (λ b. behind x.out (tells_plane b (status_of now x.rec) c now x.rec)) (untold p now x.rec e)
    ∙ ap (λ out. record { rec = x.rec; out = out }) (append-nil x.out)

pub drawn_quiet : (p : Plane) (now : ℕ) (r : Record) → status_of now r ≡ p → drawn (is_told p now r) ≡ 0
drawn_quiet p now r e = ap drawn (untold p now r e)

-- nothing done is nothing told, and no id is drawn for it
pub told_still : (c now : ℕ) (r : Record) → tells (status_of now r) c now (stays r) ≡ stays r
told_still c now r = told_quiet (status_of now r) c now (stays r) refl

pub drawn_still : (now : ℕ) (r : Record) → drawn (is_told (status_of now r) now r) ≡ 0
drawn_still now r = drawn_quiet (status_of now r) now r refl

-- Telling changes the notices alone,
pub told_but_notices : (p : Plane) (c now : ℕ) (x : Moved) → (tells p c now x).rec ≡ record x.rec { notices = (tells p c now x).rec.notices }
unfolding tells tells_plane
told_but_notices p c now x = by_told (is_told p now x.rec)
  where
    told : Bool → Record
    told b = (tells_plane b (status_of now x.rec) c now x.rec).rec

    by_told : (b : Bool) → told b ≡ record x.rec { notices = (told b).notices }
    by_told true = refl
    by_told false = refl

-- so what holds whatever the notices are holds of the whole step.
pub told_keeps : (P : Record → Type 0) (p : Plane) (c now : ℕ) (x : Moved) → ((notices : List Notice) → P (record x.rec { notices = notices })) → P (tells p c now x).rec
told_keeps P p c now x all = subst P (sym (told_but_notices p c now x)) (all (tells p c now x).rec.notices)

---- The reservation machine

-- a move that isn't a commit carried out
abbrev pub IsNoCommit : ReservationMove → Type 0
IsNoCommit ReservationMove.Done = ⊥
IsNoCommit _ = Unit {0}

-- but for a commit no move of the reservation machine changes the data plane
pub reserves_status : (k : Rsm) (move : ReservationMove) (now : ℕ) (r : Record) → IsNoCommit move → status_of now (reserves k move now r).rec ≡ status_of now r
unfolding reserves reserve_step event_of
reserves_status k move now r n = grind arith

pub reserves_untold : (k : Rsm) (move : ReservationMove) (c now : ℕ) (r : Record) → IsNoCommit move → tells (status_of now r) c now (reserves k move now r) ≡ reserves k move now r
reserves_untold k move c now r n = told_quiet (status_of now r) c now (reserves k move now r) (reserves_status k move now r n)

pub reserves_undrawn : (k : Rsm) (move : ReservationMove) (now : ℕ) (r : Record) → IsNoCommit move → drawn (is_told (status_of now r) now (reserves k move now r).rec) ≡ 0
reserves_undrawn k move now r n = drawn_quiet (status_of now r) now (reserves k move now r).rec (reserves_status k move now r n)

-- what is checked fits, or lacks: that is said, and nothing else
pub fit_untold : (deadline : Option ℕ) (c now : ℕ) (r : Record)
    → tells (status_of now r) c now (reserves Rsm.ReserveChecking (ReservationMove.Fit deadline) now r) ≡ reserves Rsm.ReserveChecking (ReservationMove.Fit deadline) now r
fit_untold deadline c now r = reserves_untold Rsm.ReserveChecking (ReservationMove.Fit deadline) c now r tt

pub lack_untold : (exception : Exception) (c now : ℕ) (r : Record)
    → tells (status_of now r) c now (reserves Rsm.ReserveChecking (ReservationMove.Lack exception) now r) ≡ reserves Rsm.ReserveChecking (ReservationMove.Lack exception) now r
lack_untold exception c now r = reserves_untold Rsm.ReserveChecking (ReservationMove.Lack exception) c now r tt
