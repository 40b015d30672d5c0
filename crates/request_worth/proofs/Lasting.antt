-- What lasts of a connection: its service and its points; and that it ends is asked for by a terminate alone.
use Rattle.std.proofs.Common.{ℕ, ◌≡◌, ◌∙◌, Bool, true, false, List, Option, Some, None, refl, ap, arith}
use Rattle.std.specs.List.{list_any}
use Rattle.nsi_primitive.specs.declared.kind.Kind.{Kind}
use Rattle.nsi_primitive.specs.declared.message.Body.{Body}
use Rattle.nsi_primitive.specs.declared.message.Criteria.{Criteria}
use Rattle.nsi_primitive.specs.declared.message.Message.{Message}
use Rattle.nsi_primitive.specs.declared.plane.Plane.{Plane}
use Rattle.nsi_primitive.specs.declared.state.Lsm.{Lsm}
use Rattle.nsi_primitive.specs.declared.state.Side.{Side}
use Rattle.lifecycle_machine.specs.Table.{step as lifecycle_step}
use Rattle.connection_record.specs.declared.record.Record.{Record}
use Rattle.connection_record.specs.declared.moves.ReservationMove.{ReservationMove}
use Rattle.connection_record.specs.declared.provisioning.ProvisionMove.{ProvisionMove}
use Rattle.connection_record.specs.declared.life.LifecycleMove.{LifecycleMove}
use Rattle.connection_record.specs.Later.{IsLater}
use Rattle.connection_record.specs.Moves.{reserves_if, asked_criteria}
use Rattle.connection_record.specs.Lives.{lifecycle_event, provisions_if, lives, lives_if}
use Rattle.connection_record.specs.Applied.{closes, closes_reservation, closes_provision, moves_if, moves, requested, reserve_move, is_terminating, tells_plane}
use Rattle.connection_record.proofs.Growing.{later_refl, later_trans, reserves_if_later, provisions_if_later, lives_if_later, closes_later, moves_if_later, tells_plane_later}
use Rattle.child_connection.specs.Views.{ChildConnection}
use Rattle.aggregator_agent.specs.declared.agent.Agent.{Agent}
use Rattle.aggregator_agent.specs.Settling.{is_quiet, is_there, reservation_due, provision_due, settles_reservation, settles_provision, closes_unless, settles}
use Rattle.aggregator_agent.specs.Turns.{force_by, takes}
use Rattle.speech_cost.proofs.Paying.{reserves_lsm, provisions_lsm}

-- a later form of a record, which ends only where it did before
pub record Lasts (r q : Record) : Type 0 where
  pub later : IsLater r q
  pub lives : is_terminating r.lsm ≡ false → is_terminating q.lsm ≡ false

pub lasts_same : (r : Record) → Lasts r r
lasts_same r = record { later = later_refl r; lives = λ h. h }

pub lasts_then : (r q p : Record) → Lasts r q → Lasts q p → Lasts r p
lasts_then r q p a b = record { later = later_trans r q p a.later b.later; lives = λ h. b.lives (a.lives h) }

-- where the life stays as it is
lasts_alike : (r q : Record) → IsLater r q → q.lsm ≡ r.lsm → Lasts r q
lasts_alike r q a e = record { later = a; lives = λ h. ap is_terminating e ∙ h }

---- Moves

pub reserves_last : (o : Option ReservationMove) (now : ℕ) (r : Record) → Lasts r (reserves_if o now r).rec
reserves_last None now r = lasts_same r
reserves_last (Some move) now r = lasts_alike r (reserves_if (Some move) now r).rec (reserves_if_later (Some move) now r) (reserves_lsm r.rsm move now r)

provisions_last : (side : Side) (o : Option ProvisionMove) (now : ℕ) (r : Record) → Lasts r (provisions_if side o now r).rec
provisions_last side None now r = lasts_same r
provisions_last side (Some move) now r = lasts_alike r (provisions_if side (Some move) now r).rec (provisions_if_later side (Some move) now r) (provisions_lsm side r.psm move now r)

abbrev is_terminate : LifecycleMove → Bool
is_terminate (LifecycleMove.Terminate c) = true
is_terminate _ = false

lives_alive : (k : Lsm) (move : LifecycleMove) (now : ℕ) (r : Record) → r.lsm ≡ k → is_terminate move ≡ false → is_terminating k ≡ false → is_terminating (lives k move now r).rec.lsm ≡ false
unfolding lives lifecycle_step lifecycle_event is_terminating
lives_alive k move now r e plain h = grind (arith, e, plain, h)

life_lasts : (move : LifecycleMove) (now : ℕ) (r : Record) → is_terminate move ≡ false → Lasts r (lives r.lsm move now r).rec
life_lasts move now r plain = record { later = lives_if_later (Some move) now r; lives = λ h. lives_alive r.lsm move now r refl plain h }

pub lives_last : (o : Option LifecycleMove) (now : ℕ) (r : Record) → ((move : LifecycleMove) → o ≡ Some move → is_terminate move ≡ false) → Lasts r (lives_if o now r).rec
lives_last None now r plain = lasts_same r
lives_last (Some move) now r plain = life_lasts move now r (plain move refl)

pub forced_last : (broken : Bool) (c : ℕ) (body : Body) (now : ℕ) (r : Record) → Lasts r (lives_if (force_by broken c body) now r).rec
unfolding force_by
forced_last true c (Body.ErrorEvent f) now r = life_lasts _ now r refl
forced_last true c _ now r = lasts_same r
forced_last false c _ now r = lasts_same r

closed_alive : (agent : List ℕ) (side : Side) (now : ℕ) (r : Record) → is_terminating r.lsm ≡ false → is_terminating (closes agent side now r).rec.lsm ≡ false
unfolding closes
closed_alive agent side now r h =
    let x : Record = (closes_reservation agent now r).rec in
    let y : Record = (closes_provision agent side now x).rec in
    (life_lasts LifecycleMove.Done now y refl).lives ((provisions_last side _ now x).lives ((reserves_last _ now r).lives h))

closes_last : (agent : List ℕ) (side : Side) (now : ℕ) (r : Record) → Lasts r (closes agent side now r).rec
closes_last agent side now r = record { later = closes_later agent side now r; lives = λ h. closed_alive agent side now r h }

plane_alive : (told : Bool) (p : Plane) (c now : ℕ) (r : Record) → is_terminating r.lsm ≡ false → is_terminating (tells_plane told p c now r).rec.lsm ≡ false
unfolding tells_plane
plane_alive true p c now r h = h
plane_alive false p c now r h = h

pub plane_lasts : (told : Bool) (p : Plane) (c now : ℕ) (r : Record) → Lasts r (tells_plane told p c now r).rec
plane_lasts told p c now r = record { later = tells_plane_later told p c now r; lives = λ h. plane_alive told p c now r h }

---- What is due

closing_lasts : (b : Bool) (agent : Agent) (now : ℕ) (own : Record) → Lasts own (closes_unless b agent now own).rec
unfolding closes_unless
closing_lasts true agent now own = lasts_same own
closing_lasts false agent now own = closes_last agent.name Side.Aggregator now own

both_last : (agent : Agent) (now : ℕ) (xs : List ChildConnection) (own : Record) → Lasts own (settles_provision agent now xs (settles_reservation agent now xs own).rec).rec
unfolding settles_reservation settles_provision
both_last agent now xs own =
    let o : Option ReservationMove = reservation_due (is_quiet Kind.Reserve xs) own.rsm agent.name xs in
    let x : Record = (reserves_if o now own).rec in
    let p : Option ProvisionMove = provision_due (is_quiet Kind.Provision xs) x.psm agent.name xs in
    lasts_then own x (provisions_if Side.Aggregator p now x).rec (reserves_last o now own) (provisions_last Side.Aggregator p now x)

pub settles_last : (k : Lsm) (agent : Agent) (now : ℕ) (xs : List ChildConnection) (own : Record) → Lasts own (settles k agent now xs own).rec
unfolding settles
settles_last Lsm.Terminating agent now xs own = closing_lasts (list_any is_there xs) agent now own
settles_last Lsm.Terminated agent now xs own = lasts_same own
settles_last Lsm.Created agent now xs own = both_last agent now xs own
settles_last Lsm.Failed agent now xs own = both_last agent now xs own
settles_last Lsm.PassedEndTime agent now xs own = both_last agent now xs own

---- A request

-- whether a request ends the connection
abbrev pub ends_it : Body → Bool
ends_it (Body.Terminate id) = true
ends_it _ = false

reserved_last : (c : ℕ) (o : Option Criteria) (now : ℕ) (r : Record) → Lasts r (moves_if Side.Aggregator (reserve_move c o) now r).rec
unfolding moves
reserved_last c None now r = lasts_same r
reserved_last c (Some criteria) now r = reserves_last (Some (ReservationMove.Reserve c criteria)) now r

requested_last : (body : Body) (c now : ℕ) (r : Record) → ends_it body ≡ false → Lasts r (moves_if Side.Aggregator (requested now body c r) now r).rec
unfolding requested moves
requested_last (Body.Reserve q) c now r e = reserved_last c (asked_criteria now q r.committed) now r
requested_last (Body.ReserveCommit id) c now r e = reserves_last (Some (ReservationMove.Commit c)) now r
requested_last (Body.ReserveAbort id) c now r e = reserves_last (Some (ReservationMove.Abort c)) now r
requested_last (Body.Provision id) c now r e = provisions_last Side.Aggregator (Some (ProvisionMove.Provision c)) now r
requested_last (Body.Release id) c now r e = provisions_last Side.Aggregator (Some (ProvisionMove.Release c)) now r
requested_last (Body.Terminate id) c now r e = absurd (cc)
requested_last _ c now r e = lasts_same r

pub takes_later : (m : Message) (now : ℕ) (own : Record) → IsLater own (takes m now own).rec
unfolding takes
takes_later m now own = moves_if_later Side.Aggregator (requested now m.body m.header.correlation own) now own

pub takes_last : (m : Message) (now : ℕ) (own : Record) → ends_it m.body ≡ false → Lasts own (takes m now own).rec
unfolding takes
takes_last m now own e = requested_last m.body m.header.correlation now own e
