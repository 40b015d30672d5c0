-- What an aggregator's own record does beside its reservation leaves the fit of its children.
use Rattle.std.proofs.Common.{ℕ, ◌≡◌, ◌∙◌, Bool, true, false, List, Contains, Option, Some, None, map, option_map, refl, sym, ap, subst, arith}
use Rattle.std.specs.List.{All}
use Rattle.std.proofs.lemmas.List.Elements.{All-weaker}
use Rattle.nsi_primitive.specs.declared.kind.Kind.{Kind}
use Rattle.nsi_primitive.specs.declared.plane.Plane.{Plane}
use Rattle.nsi_primitive.specs.declared.state.Lsm.{Lsm}
use Rattle.nsi_primitive.specs.declared.state.Psm.{Psm}
use Rattle.nsi_primitive.specs.declared.state.Rsm.{Rsm}
use Rattle.nsi_primitive.specs.declared.state.Side.{Side}
use Rattle.nsi_primitive.specs.declared.message.Body.{Body}
use Rattle.nsi_primitive.specs.declared.message.Message.{Message}
use Rattle.lifecycle_machine.specs.Table.{step as lifecycle_step}
use Rattle.provision_machine.specs.Table.{step as provision_step}
use Rattle.connection_record.specs.declared.record.Record.{Record}
use Rattle.connection_record.specs.declared.life.LifecycleMove.{LifecycleMove}
use Rattle.connection_record.specs.declared.provisioning.ProvisionMove.{ProvisionMove}
use Rattle.connection_record.specs.Applied.{tells_plane}
use Rattle.connection_record.specs.Lives.{provision_event, provision_does, provisions, provisions_if, lifecycle_event, lives, lives_if}
use Rattle.connection_record.specs.Moves.{is_live}
use Rattle.connection_record.specs.Replies.{by_row}
use Rattle.child_connection.specs.Views.{ChildConnection}
use Rattle.child_connection.specs.declared.state.Sent.{Sent}
use Rattle.connection_record.specs.Demand.{holds_pending}
use Rattle.circuit_link.specs.Sides.{version_of}
use Rattle.circuit_fit.specs.Fits.{pending_of, WasAsked, IsReserveFor, IsAbortOf, Waits, IsFitting, Fits}

---- The own record

-- the reservation is the same, and it doesn't come alive
pub record IsAsBefore (r q : Record) : Type 0 where
  pub committed : q.committed ≡ r.committed
  pub rsm : q.rsm ≡ r.rsm
  pub pending : q.pending ≡ r.pending
  pub mixed : q.mixed ≡ r.mixed
  pub lives : is_live q.lsm ≡ true → is_live r.lsm ≡ true

pub as_itself : (r : Record) → IsAsBefore r r
as_itself r = record { committed = refl; rsm = refl; pending = refl; mixed = refl; lives = λ h. h }

pub as_then : (r q p : Record) → IsAsBefore r q → IsAsBefore q p → IsAsBefore r p
as_then r q p a b =
    record {
      committed = b.committed ∙ a.committed;
      rsm = b.rsm ∙ a.rsm;
      pending = b.pending ∙ a.pending;
      mixed = b.mixed ∙ a.mixed;
      lives = λ h. a.lives (b.lives h);
    }

taken_as : (c : ℕ) (next : Psm) (said : Option Kind) (now : ℕ) (r : Record) → IsAsBefore r (provision_does next said (ProvisionMove.Provision c) now r).rec
taken_as c next None now r = record { committed = refl; rsm = refl; pending = refl; mixed = refl; lives = λ h. h }
taken_as c next (Some k) now r = record { committed = refl; rsm = refl; pending = refl; mixed = refl; lives = λ h. h }

released_as : (c : ℕ) (next : Psm) (said : Option Kind) (now : ℕ) (r : Record) → IsAsBefore r (provision_does next said (ProvisionMove.Release c) now r).rec
released_as c next None now r = record { committed = refl; rsm = refl; pending = refl; mixed = refl; lives = λ h. h }
released_as c next (Some k) now r = record { committed = refl; rsm = refl; pending = refl; mixed = refl; lives = λ h. h }

does_as : (next : Psm) (said : Option Kind) (move : ProvisionMove) (now : ℕ) (r : Record) → IsAsBefore r (provision_does next said move now r).rec
does_as next said (ProvisionMove.Provision c) now r = taken_as c next said now r
does_as next said (ProvisionMove.Release c) now r = released_as c next said now r
does_as next said ProvisionMove.Done now r = record { committed = refl; rsm = refl; pending = refl; mixed = refl; lives = λ h. h }
does_as next said (ProvisionMove.Spoiled e) now r = record { committed = refl; rsm = refl; pending = refl; mixed = refl; lives = λ h. h }

pub provisions_as : (side : Side) (k : Psm) (move : ProvisionMove) (now : ℕ) (r : Record) → IsAsBefore r (provisions side k move now r).rec
unfolding provisions
provisions_as side k move now r = by_found (provision_step side k (provision_event move))
  where
    by_found : (o : Option (Psm × Option Kind)) → IsAsBefore r (by_row o (λ next said. provision_does next said move now r) r).rec
    by_found None = as_itself r
    by_found (Some row) = does_as row.0 row.1 move now r

pub provisions_if_as : (side : Side) (o : Option ProvisionMove) (now : ℕ) (r : Record) → IsAsBefore r (provisions_if side o now r).rec
provisions_if_as side None now r = as_itself r
provisions_if_as side (Some move) now r = provisions_as side r.psm move now r

live_stays : (k : Lsm) (move : LifecycleMove) (now : ℕ) (r : Record) → r.lsm ≡ k → is_live (lives k move now r).rec.lsm ≡ true → is_live k ≡ true
unfolding lives lifecycle_step lifecycle_event is_live
live_stays k move now r e h = grind (arith, e, h)

lives_committed : (k : Lsm) (move : LifecycleMove) (now : ℕ) (r : Record) → (lives k move now r).rec.committed ≡ r.committed
unfolding lives lifecycle_step lifecycle_event
lives_committed k move now r = grind arith

lives_rsm : (k : Lsm) (move : LifecycleMove) (now : ℕ) (r : Record) → (lives k move now r).rec.rsm ≡ r.rsm
unfolding lives lifecycle_step lifecycle_event
lives_rsm k move now r = grind arith

lives_pending : (k : Lsm) (move : LifecycleMove) (now : ℕ) (r : Record) → (lives k move now r).rec.pending ≡ r.pending
unfolding lives lifecycle_step lifecycle_event
lives_pending k move now r = grind arith

lives_mixed : (k : Lsm) (move : LifecycleMove) (now : ℕ) (r : Record) → (lives k move now r).rec.mixed ≡ r.mixed
unfolding lives lifecycle_step lifecycle_event
lives_mixed k move now r = grind arith

pub lives_as : (move : LifecycleMove) (now : ℕ) (r : Record) → IsAsBefore r (lives r.lsm move now r).rec
lives_as move now r =
    record {
      committed = lives_committed r.lsm move now r;
      rsm = lives_rsm r.lsm move now r;
      pending = lives_pending r.lsm move now r;
      mixed = lives_mixed r.lsm move now r;
      lives = live_stays r.lsm move now r refl;
    }

pub lives_if_as : (o : Option LifecycleMove) (now : ℕ) (r : Record) → IsAsBefore r (lives_if o now r).rec
lives_if_as None now r = as_itself r
lives_if_as (Some move) now r = lives_as move now r

pub plane_as : (t : Bool) (p : Plane) (c now : ℕ) (r : Record) → IsAsBefore r (tells_plane t p c now r).rec
unfolding tells_plane
plane_as true p c now r = record { committed = refl; rsm = refl; pending = refl; mixed = refl; lives = λ h. h }
plane_as false p c now r = as_itself r

---- The fit

module _ (parent : List ℕ) (asked : List Message) where
  pub as_fits : (r q : Record) (xs : List ChildConnection) → IsAsBefore r q → Fits parent asked r xs → Fits parent asked q xs
  as_fits r q xs a f =
      record {
        committed = λ v i. f.committed v (subst (λ cs. Contains (map version_of cs) v) a.committed i);
        known = f.known;
        mixed = λ h. a.rsm ∙ f.mixed (sym a.mixed ∙ h);
        some = λ h. f.some (sym (ap holds_pending a.rsm) ∙ h);
        fits = λ h n.
            subst (λ k. All (IsFitting parent asked k (pending_of q)) xs) (sym a.rsm)
            (subst (λ o. All (IsFitting parent asked r.rsm (option_map version_of o)) xs) (sym a.pending) (f.fits (a.lives h) (sym a.mixed ∙ n)));
      }

  module _ (all : List Message) (more : (m : Message) → Contains asked m → Contains all m) where
    more_asked : (x : ChildConnection) (c : ℕ) (P : Body → Type 0) → WasAsked parent asked x c P → WasAsked parent all x c P
    more_asked x c P w = record { message = w.message; there = more w.message w.there; header = w.header; is = w.is }

    more_waits : (k : Rsm) (v : Option ℕ) (x : ChildConnection) (q : Sent) → Waits parent asked k v x q → Waits parent all k v x q
    more_waits Rsm.ReserveChecking v x q h = (h.0, h.1, more_asked x q.correlation (IsReserveFor v) h.2)
    more_waits Rsm.ReserveCommitting v x q h = h
    more_waits Rsm.ReserveAborting v x q h = (h.0, h.1, more_asked x q.correlation (IsAbortOf x.connection) h.2)
    more_waits Rsm.ReserveStart v x q h = h
    more_waits Rsm.ReserveHeld v x q h = h
    more_waits Rsm.ReserveFailed v x q h = h
    more_waits Rsm.ReserveTimeout v x q h = h

    pub more_fitting : (k : Rsm) (v : Option ℕ) (x : ChildConnection) → IsFitting parent asked k v x → IsFitting parent all k v x
    more_fitting k v x f = record { rests = f.rests; waits = λ q e. more_waits k v x q (f.waits q e) }

    pub more_fits : (r : Record) (xs : List ChildConnection) → Fits parent asked r xs → Fits parent all r xs
    more_fits r xs f =
        record {
          committed = f.committed;
          known = f.known;
          mixed = f.mixed;
          some = f.some;
          fits = λ h n. All-weaker (IsFitting parent asked r.rsm (pending_of r)) (IsFitting parent all r.rsm (pending_of r)) (λ x p. more_fitting r.rsm (pending_of r) x p) xs (f.fits h n);
        }
