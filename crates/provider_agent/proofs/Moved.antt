-- What moves leave of what a record books.
use Rattle.std.proofs.Common.{◌≡◌, ℕ, true, cond, Option, Some, None, refl, sym, subst, arith}
use Rattle.nsi_primitive.specs.declared.plane.Plane.{Plane}
use Rattle.nsi_primitive.specs.declared.state.Rsm.{Rsm}
use Rattle.nsi_primitive.specs.declared.state.Psm.{Psm}
use Rattle.nsi_primitive.specs.declared.state.Lsm.{Lsm}
use Rattle.nsi_primitive.specs.declared.state.Side.{Side}
use Rattle.nsi_primitive.specs.declared.message.Body.{Body}
use Rattle.nsi_primitive.specs.declared.message.Criteria.{Criteria}
use Rattle.reserve_machine.specs.Table.{step as reserve_step}
use Rattle.provision_machine.specs.Table.{step as provision_step}
use Rattle.lifecycle_machine.specs.Table.{step as lifecycle_step}
use Rattle.connection_record.specs.declared.record.Record.{Record}
use Rattle.connection_record.specs.declared.life.LifecycleMove.{LifecycleMove}
use Rattle.connection_record.specs.declared.moves.ReservationMove.{ReservationMove}
use Rattle.connection_record.specs.declared.provisioning.ProvisionMove.{ProvisionMove}
use Rattle.connection_record.specs.declared.apply.Move.{Move}
use Rattle.connection_record.specs.Demand.{held, holds_pending, is_terminated}
use Rattle.connection_record.specs.Moves.{event_of, reserves}
use Rattle.connection_record.specs.Lives.{provision_event, lifecycle_event, provisions, lives}
use Rattle.connection_record.specs.Replies.{Moved}
use Rattle.connection_record.specs.Applied.{moves, moves_if, requested, tells}
use Rattle.provider_agent.specs.Kept.{booked, is_plain, is_plain_reservation, is_plain_life}
use Rattle.provider_agent.proofs.Turning.{told_but_notices}

-- the same points, and ended only where it was
pub record IsSamePlace (r moved : Record) : Type 0 where
  pub service : moved.service ≡ r.service
  pub source : moved.source ≡ r.source
  pub dest : moved.dest ≡ r.dest
  pub ended : is_terminated moved.lsm ≡ is_terminated r.lsm

-- nothing is put nor committed: what is held stays, or is dropped
pub record IsPlain (r moved : Record) : Type 0 where
  pub place : IsSamePlace r moved
  pub committed : moved.committed ≡ r.committed
  pub holds : held moved ≡ cond (holds_pending moved.rsm) (held r) None

---- The machines

pub same_place : (k : Rsm) (move : ReservationMove) (now : ℕ) (r : Record) → IsSamePlace r (reserves k move now r).rec
unfolding reserves reserve_step event_of
same_place k move now r = record { service = grind arith; source = grind arith; dest = grind arith; ended = grind arith }

same_committed : (k : Rsm) (move : ReservationMove) (now : ℕ) (r : Record) → is_plain_reservation move ≡ true → (reserves k move now r).rec.committed ≡ r.committed
unfolding reserves reserve_step event_of
same_committed k move now r p = grind arith

plain_holds : (k : Rsm) (move : ReservationMove) (now : ℕ) (r : Record) → r.rsm ≡ k → is_plain_reservation move ≡ true → held (reserves k move now r).rec ≡ cond (holds_pending (reserves k move now r).rec.rsm) (held r) None
unfolding reserves reserve_step event_of
plain_holds k move now r at p = grind arith

-- what isn't moved
held_or_not : (r : Record) → held r ≡ cond (holds_pending r.rsm) (held r) None
held_or_not r = grind arith

pub plain_still : (r : Record) → IsPlain r r
plain_still r = record { place = record { service = refl; source = refl; dest = refl; ended = refl }; committed = refl; holds = held_or_not r }

provision_plain : (side : Side) (k : Psm) (move : ProvisionMove) (now : ℕ) (r : Record) → IsPlain r (provisions side k move now r).rec
unfolding provisions provision_step provision_event
provision_plain side k move now r =
    record { place = record { service = grind arith; source = grind arith; dest = grind arith; ended = grind arith }; committed = grind arith; holds = grind (arith, held_or_not) }

life_plain : (k : Lsm) (move : LifecycleMove) (now : ℕ) (r : Record) → r.lsm ≡ k → is_plain_life move ≡ true → IsPlain r (lives k move now r).rec
unfolding lives lifecycle_step lifecycle_event
life_plain k move now r at p =
    record { place = record { service = grind arith; source = grind arith; dest = grind arith; ended = grind arith }; committed = grind arith; holds = grind (arith, held_or_not) }

pub plain_move : (side : Side) (move : Move) (now : ℕ) (r : Record) → is_plain move ≡ true → IsPlain r (moves side move now r).rec
unfolding moves
plain_move side (Move.Reservation move) now r p = record { place = same_place r.rsm move now r; committed = same_committed r.rsm move now r p; holds = plain_holds r.rsm move now r refl p }
plain_move side (Move.Provision move) now r p = provision_plain side r.psm move now r
plain_move side (Move.Lifecycle move) now r p = life_plain r.lsm move now r refl p
plain_move side (Move.Close agent) now r p = cc

---- What is told of the data plane

pub plain_told : (before : Plane) (c now : ℕ) (r : Record) (x : Moved) → IsPlain r x.rec → IsPlain r (tells before c now x).rec
plain_told before c now r x p =
    subst (IsPlain r) (sym (told_but_notices before c now x))
    (record { place = record { service = p.place.service; source = p.place.source; dest = p.place.dest; ended = p.place.ended }; committed = p.committed; holds = p.holds })

---- Requests

-- requests neither put nor commit nor end
pub requested_plain : (now : ℕ) (body : Body) (c : ℕ) (r : Record) (move : Move) → requested now body c r ≡ Some move → is_plain move ≡ true
unfolding requested
requested_plain now body c r move h = grind arith

pub plain_request : (body : Body) (c now : ℕ) (r : Record) → IsPlain r (moves_if Side.Provider (requested now body c r) now r).rec
plain_request body c now r = by_move (requested now body c r) refl
  where
    by_move : (o : Option Move) → requested now body c r ≡ o → IsPlain r (moves_if Side.Provider o now r).rec
    by_move None e = plain_still r
    by_move (Some move) e = plain_move Side.Provider move now r (requested_plain now body c r move e)

-- at one place and of one life the same criteria book the same
pub booked_same : (r moved : Record) (c : Option Criteria) → IsSamePlace r moved → booked moved c ≡ booked r c
booked_same r moved c p = grind (arith, p.service, p.source, p.dest, p.ended)
