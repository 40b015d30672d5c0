-- What a record of an aggregator says can be written, and is no request.
use Rattle.std.proofs.Common.{◌≡◌, ℕ, Bool, true, false, List, [], ◌∷◌, ◌++◌, Option, Some, None, IfSome, refl, arith}
use Rattle.std.specs.List.{AllByRecursion}
use Rattle.nsi_primitive.specs.Messages.{is_request}
use Rattle.nsi_primitive.specs.Printable.{IsPrintableBody, IsPrintableCause}
use Rattle.nsi_primitive.specs.declared.kind.ErrorName.{ErrorName}
use Rattle.nsi_primitive.specs.declared.plane.Plane.{Plane}
use Rattle.nsi_primitive.specs.declared.state.Lsm.{Lsm}
use Rattle.nsi_primitive.specs.declared.state.Psm.{Psm}
use Rattle.nsi_primitive.specs.declared.state.Rsm.{Rsm}
use Rattle.nsi_primitive.specs.declared.state.Side.{Side}
use Rattle.nsi_primitive.specs.declared.message.Body.{Body}
use Rattle.reserve_machine.specs.Table.{step as reserve_step}
use Rattle.provision_machine.specs.Table.{step as provision_step}
use Rattle.lifecycle_machine.specs.Table.{step as lifecycle_step}
use Rattle.connection_record.specs.declared.record.Record.{Record}
use Rattle.connection_record.specs.declared.life.LifecycleMove.{LifecycleMove}
use Rattle.connection_record.specs.declared.moves.Reply.{Reply}
use Rattle.connection_record.specs.declared.moves.ReservationMove.{ReservationMove}
use Rattle.connection_record.specs.declared.provisioning.ProvisionMove.{ProvisionMove}
use Rattle.connection_record.specs.declared.apply.Move.{Move}
use Rattle.connection_record.specs.Lives.{provision_event, lifecycle_event, provisions, provisions_if, lives, lives_if}
use Rattle.connection_record.specs.Moves.{event_of, reserves, reserves_if}
use Rattle.connection_record.specs.Replies.{Moved, plain, then_moves, stays}
use Rattle.connection_record.specs.Later.{IsLater}
use Rattle.connection_record.specs.Applied.{reservation_closing, provision_closing, closes_reservation, closes_provision, closes, moves, moves_if, requested, tells_plane}
use Rattle.connection_record.proofs.Growing.{later_refl, later_trans, reserves_if_later, provisions_if_later, lives_if_later, closes_later, moves_if_later, tells_plane_later}
use Rattle.aggregator_agent.specs.Good.{IsWritable}

-- a body that can be written and is no request
abbrev pub IsMildBody : Body → Type 0
IsMildBody body = IsPrintableBody body × (is_request body ≡ false)

abbrev pub AreMild : List Reply → Type 0
AreMild replies = AllByRecursion (λ x. IsMildBody x.body) replies

pub both_mild : (a b : List Reply) → AreMild a → AreMild b → AreMild (a ++ b)
both_mild [] b p q = q
both_mild (x ∷ xs) b p q = (p.0, both_mild xs b p.1 q)

-- a record that is moved stays the same connection, and what it says is mild
pub record IsMildMoved (r : Record) (x : Moved) : Type 0 where
  pub later : IsLater r x.rec
  pub says : AreMild x.out

pub stays_mild : (r : Record) → IsMildMoved r (stays r)
stays_mild r = record { later = later_refl r; says = tt }

pub then_mild : (r : Record) (x : Moved) (f : Record → Moved) → IsMildMoved r x → IsMildMoved x.rec (f x.rec) → IsMildMoved r (then_moves x f)
then_mild r x f p q = record { later = later_trans r x.rec (f x.rec).rec p.later q.later; says = both_mild x.out (f x.rec).out p.says q.says }

pub writable_later : (r s : Record) → IsLater r s → IsWritable r → IsWritable s
writable_later r s l w = rw (l.service) (record { description = w.description; global = w.global })

---- The three machines

-- its exception can be written
abbrev pub IsMildReservation : ReservationMove → Type 0
IsMildReservation (ReservationMove.Lack exception) = IsPrintableCause exception.cause
IsMildReservation (ReservationMove.Spoiled exception mixed) = IsPrintableCause exception.cause
IsMildReservation _ = Unit {0}

abbrev pub IsMildProvision : ProvisionMove → Type 0
IsMildProvision (ProvisionMove.Spoiled exception) = IsPrintableCause exception.cause
IsMildProvision _ = Unit {0}

reserves_says : (k : Rsm) (move : ReservationMove) (now : ℕ) (r : Record) → IsWritable r → IsMildReservation move → AreMild (reserves k move now r).out
unfolding reserves reserve_step event_of
reserves_says k move now r w p = let d = w.description in let g = w.global in grind arith

provisions_says : (side : Side) (k : Psm) (move : ProvisionMove) (now : ℕ) (r : Record) → IsMildProvision move → AreMild (provisions side k move now r).out
unfolding provisions provision_step provision_event
provisions_says side k move now r p = grind arith

lives_says : (k : Lsm) (move : LifecycleMove) (now : ℕ) (r : Record) → AreMild (lives k move now r).out
unfolding lives lifecycle_step lifecycle_event
lives_says k move now r = grind arith

pub reserves_mild : (o : Option ReservationMove) (now : ℕ) (r : Record) → IsWritable r → IfSome o IsMildReservation → IsMildMoved r (reserves_if o now r)
reserves_mild None now r w p = stays_mild r
reserves_mild (Some move) now r w p = record { later = reserves_if_later (Some move) now r; says = reserves_says r.rsm move now r w p }

pub provisions_mild : (side : Side) (o : Option ProvisionMove) (now : ℕ) (r : Record) → IfSome o IsMildProvision → IsMildMoved r (provisions_if side o now r)
provisions_mild side None now r p = stays_mild r
provisions_mild side (Some move) now r p = record { later = provisions_if_later side (Some move) now r; says = provisions_says side r.psm move now r p }

pub lives_mild : (o : Option LifecycleMove) (now : ℕ) (r : Record) → IsMildMoved r (lives_if o now r)
lives_mild None now r = stays_mild r
lives_mild (Some move) now r = record { later = lives_if_later (Some move) now r; says = lives_says r.lsm move now r }

---- The end of a connection, and requests

closing_reserve : (k : Rsm) (agent : List ℕ) → IfSome (reservation_closing k (plain agent ErrorName.Gone)) IsMildReservation
unfolding reservation_closing
closing_reserve k agent = grind arith

closing_provision : (k : Psm) (agent : List ℕ) → IfSome (provision_closing k (plain agent ErrorName.Gone)) IsMildProvision
unfolding provision_closing
closing_provision k agent = grind arith

closes_says : (agent : List ℕ) (side : Side) (now : ℕ) (r : Record) → IsWritable r → AreMild (closes agent side now r).out
unfolding closes
closes_says agent side now r w =
    let a : Moved = closes_reservation agent now r in
    let b : Moved = closes_provision agent side now a.rec in
    both_mild (a.out ++ b.out) (lives b.rec.lsm LifecycleMove.Done now b.rec).out
    (both_mild a.out b.out (reserves_mild (reservation_closing r.rsm (plain agent ErrorName.Gone)) now r w (closing_reserve r.rsm agent)).says
    (provisions_mild side (provision_closing a.rec.psm (plain agent ErrorName.Gone)) now a.rec (closing_provision a.rec.psm agent)).says)
    (lives_says b.rec.lsm LifecycleMove.Done now b.rec)

pub closes_mild : (agent : List ℕ) (side : Side) (now : ℕ) (r : Record) → IsWritable r → IsMildMoved r (closes agent side now r)
closes_mild agent side now r w = record { later = closes_later agent side now r; says = closes_says agent side now r w }

-- a request is no move that says an error
abbrev IsAsking : Move → Type 0
IsAsking (Move.Reservation m) = IsMildReservation m
IsAsking (Move.Provision m) = IsMildProvision m
IsAsking _ = Unit {0}

asks_mildly : (now : ℕ) (body : Body) (c : ℕ) (r : Record) → IfSome (requested now body c r) IsAsking
unfolding requested
asks_mildly now body c r = grind arith

moves_says : (side : Side) (move : Move) (now : ℕ) (r : Record) → IsWritable r → IsAsking move → AreMild (moves side move now r).out
unfolding moves
moves_says side (Move.Reservation m) now r w p = reserves_says r.rsm m now r w p
moves_says side (Move.Provision m) now r w p = provisions_says side r.psm m now r p
moves_says side (Move.Lifecycle m) now r w p = lives_says r.lsm m now r
moves_says side (Move.Close agent) now r w p = (closes_mild agent side now r w).says

pub moves_mild : (side : Side) (o : Option Move) (now : ℕ) (r : Record) → IsWritable r → IfSome o IsAsking → IsMildMoved r (moves_if side o now r)
moves_mild side None now r w p = stays_mild r
moves_mild side (Some move) now r w p = record { later = moves_if_later side (Some move) now r; says = moves_says side move now r w p }

pub requested_mild : (side : Side) (body : Body) (c now : ℕ) (r : Record) → IsWritable r → IsMildMoved r (moves_if side (requested now body c r) now r)
requested_mild side body c now r w = moves_mild side (requested now body c r) now r w (asks_mildly now body c r)

tells_says : (b : Bool) (p : Plane) (c now : ℕ) (r : Record) → AreMild (tells_plane b p c now r).out
unfolding tells_plane
tells_says true p c now r = ((tt, refl), tt)
tells_says false p c now r = tt

pub tells_mild : (b : Bool) (p : Plane) (c now : ℕ) (r : Record) → IsMildMoved r (tells_plane b p c now r)
tells_mild b p c now r = record { later = tells_plane_later b p c now r; says = tells_says b p c now r }
