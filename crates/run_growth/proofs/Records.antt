-- What an aggregator does to a record makes a later form of it, whose versions rise if its own did.
use Rattle.std.proofs.Common.{ℕ, Bool, List, Option, Some, None, IfSome, arith}
use Rattle.nsi_primitive.specs.declared.plane.Plane.{Plane}
use Rattle.nsi_primitive.specs.declared.state.Rsm.{Rsm}
use Rattle.nsi_primitive.specs.declared.state.Side.{Side}
use Rattle.reserve_machine.specs.Table.{step as reserve_step}
use Rattle.connection_record.specs.declared.record.Record.{Record}
use Rattle.connection_record.specs.declared.life.LifecycleMove.{LifecycleMove}
use Rattle.connection_record.specs.declared.moves.ReservationMove.{ReservationMove}
use Rattle.connection_record.specs.declared.provisioning.ProvisionMove.{ProvisionMove}
use Rattle.connection_record.specs.declared.apply.Move.{Move}
use Rattle.connection_record.specs.Applied.{moves, moves_if, closes, tells_plane}
use Rattle.connection_record.specs.Courses.{IsOwn, IsAct, IsReservationSame, Course, Rises}
use Rattle.connection_record.specs.Later.{IsLater}
use Rattle.connection_record.specs.Lives.{provisions_if, lives_if}
use Rattle.connection_record.specs.Moves.{event_of, reserves, reserves_if}
use Rattle.connection_record.specs.Replies.{Moved}
use Rattle.connection_record.specs.Rising.{AreRising, IsAboveLast}
use Rattle.connection_record.proofs.Courses.{rising_with, same_rises, course_after}
use Rattle.connection_record.proofs.Doing.{reservation_is_act, close_is_act}
use Rattle.connection_record.proofs.Frames.{provisions_core, lives_core, plane_core}
use Rattle.connection_record.proofs.Growing.{later_refl, later_trans, provisions_if_later, lives_if_later, tells_plane_later}
use Rattle.provider_agent.proofs.GoodMoves.{IsFittingReservation, IsFitting}

pub record IsGrown (old new : Record) : Type 0 where
  pub later : IsLater old new
  pub rises : Rises old → Rises new

pub grown_same : (r : Record) → IsGrown r r
grown_same r = record { later = later_refl r; rises = λ h. h }

pub grown_then : (a b c : Record) → IsGrown a b → IsGrown b c → IsGrown a c
grown_then a b c p q = record { later = later_trans a b c p.later q.later; rises = λ h. q.rises (p.rises h) }

grown_act : (r : Record) (y : Moved) → IsAct r y → IsGrown r y.rec
grown_act r y a = record { later = a.later; rises = (course_after r y.rec y.out (Course.does r y a)).rises }

-- where the reservation stays
grown_beside : (old new : Record) → IsLater old new → IsReservationSame old new → IsGrown old new
grown_beside old new l s = record { later = l; rises = same_rises old new s }

pub grown_reservation : (o : Option ReservationMove) (now : ℕ) (r : Record) → IsOwn o → IsGrown r (reserves_if o now r).rec
grown_reservation o now r h = grown_act r (reserves_if o now r) (reservation_is_act o now r h)

pub grown_provision : (side : Side) (o : Option ProvisionMove) (now : ℕ) (r : Record) → IsGrown r (provisions_if side o now r).rec
grown_provision side None now r = grown_same r
grown_provision side (Some move) now r = grown_beside r _ (provisions_if_later side (Some move) now r) (provisions_core side r.psm move now r)

pub grown_life : (o : Option LifecycleMove) (now : ℕ) (r : Record) → IsGrown r (lives_if o now r).rec
grown_life None now r = grown_same r
grown_life (Some move) now r = grown_beside r _ (lives_if_later (Some move) now r) (lives_core r.lsm move now r)

pub grown_close : (agent : List ℕ) (side : Side) (now : ℕ) (r : Record) → IsGrown r (closes agent side now r).rec
grown_close agent side now r = grown_act r (closes agent side now r) (close_is_act agent side now r)

pub grown_plane : (told : Bool) (p : Plane) (c now : ℕ) (r : Record) → IsGrown r (tells_plane told p c now r).rec
grown_plane told p c now r = grown_beside r _ (tells_plane_later told p c now r) (plane_core told p c now r)

---- A request

-- a reserve that asks for a version above the last leaves the versions rising
fitting_rising : (k : Rsm) (move : ReservationMove) (now : ℕ) (r : Record) → Rises r → AreRising (reserves k move now r).rec.committed
unfolding reserves reserve_step event_of
fitting_rising k move now r h = let a = h.rising in let b = h.above in grind (arith, rising_with, a, b)

fitting_above : (k : Rsm) (move : ReservationMove) (now : ℕ) (r : Record) → IsFittingReservation move r → Rises r →
    IsAboveLast (reserves k move now r).rec.pending (reserves k move now r).rec.committed
unfolding reserves reserve_step event_of
fitting_above k move now r f h = let a = h.rising in let b = h.above in grind (arith, f, a, b)

move_rises : (side : Side) (move : Move) (now : ℕ) (r : Record) → IsFitting move r → Rises r → Rises (moves side move now r).rec
unfolding moves
move_rises side (Move.Reservation move) now r f h = record { rising = fitting_rising r.rsm move now r h; above = fitting_above r.rsm move now r f h }
move_rises side (Move.Provision move) now r f h = (grown_provision side (Some move) now r).rises h
move_rises side (Move.Lifecycle move) now r f h = (grown_life (Some move) now r).rises h
move_rises side (Move.Close agent) now r f h = (grown_close agent side now r).rises h

pub fitting_rises : (side : Side) (o : Option Move) (now : ℕ) (r : Record) → IfSome o (λ move. IsFitting move r) → Rises r → Rises (moves_if side o now r).rec
fitting_rises side None now r f h = h
fitting_rises side (Some move) now r f h = move_rises side move now r f h
