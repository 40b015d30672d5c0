-- A record goes on with each request that it works on, or answers it.
use Rattle.std.proofs.Common.{ℕ, ◌≡◌, Bool, true, false, not, List, [], ◌∷◌, ◌++◌, Option, Some, None, ◌==◌, ◌&&◌, ◌||◌, refl, ap, ◌∙◌, arith, if◌then◌else◌}
use Rattle.nsi_primitive.specs.Messages.{kind_of}
use Rattle.nsi_primitive.specs.declared.kind.ErrorName.{ErrorName}
use Rattle.nsi_primitive.specs.declared.kind.Kind.{Kind}
use Rattle.nsi_primitive.specs.declared.state.Rsm.{Rsm}
use Rattle.nsi_primitive.specs.declared.state.Psm.{Psm}
use Rattle.nsi_primitive.specs.declared.state.Lsm.{Lsm}
use Rattle.nsi_primitive.specs.declared.state.Machine.{Machine}
use Rattle.nsi_primitive.specs.declared.state.Side.{Side}
use Rattle.nsi_primitive.specs.declared.message.Body.{Body}
use Rattle.nsi_primitive.specs.declared.message.Cause.{Cause}
use Rattle.nsi_primitive.specs.declared.message.Exception.{Exception}
use Rattle.nsi_primitive.specs.declared.plane.Plane.{Plane}
use Rattle.reserve_machine.specs.Table.{step as reserve_step}
use Rattle.provision_machine.specs.Table.{step as provision_step}
use Rattle.lifecycle_machine.specs.Table.{step as lifecycle_step}
use Rattle.connection_record.specs.declared.record.Record.{Record}
use Rattle.connection_record.specs.declared.moves.Origin.{Origin}
use Rattle.connection_record.specs.declared.moves.Reply.{Reply}
use Rattle.connection_record.specs.declared.moves.ReservationMove.{ReservationMove}
use Rattle.connection_record.specs.declared.provisioning.ProvisionMove.{ProvisionMove}
use Rattle.connection_record.specs.declared.life.LifecycleMove.{LifecycleMove}
use Rattle.connection_record.specs.declared.apply.Move.{Move}
use Rattle.connection_record.specs.Replies.{Moved, stays, then_moves, plain}
use Rattle.connection_record.specs.Demand.{last, is_terminated}
use Rattle.connection_record.specs.Moves.{event_of, reserves, reserves_if, hold_end, worked, is_due}
use Rattle.connection_record.specs.Lives.{provision_event, lifecycle_event, provisions, provisions_if, lives, lives_if}
use Rattle.connection_record.specs.Applied.{closes, closes_reservation, closes_provision, reservation_closing, provision_closing, moves, moves_if, requested, work_of, provided, is_terminating, ticks, schedule_end, end_of, tells_plane, tells, is_told, status_of}
use Rattle.request_answers.specs.Answers.{is_answer}
use Rattle.request_answers.specs.Open.{works_on, is_open}

-- one of the replies answers a request of that kind under the correlation
unfoldable pub is_told_of : Kind → ℕ → List Reply → Bool
is_told_of k c [] = false
is_told_of k c (y ∷ ys) = ((c == y.correlation) && is_answer k (kind_of y.body)) || is_told_of k c ys

-- a request is still open, or answered
abbrev pub is_carried : Kind → ℕ → Moved → Bool
is_carried k c x = is_open k c x.rec || is_told_of k c x.out

-- the record goes on with what it works on, or answers it
abbrev pub Carries : Record → Moved → Type 0
Carries r x = (k : Kind) (c : ℕ) → is_open k c r ≡ true → is_carried k c x ≡ true

---- The reservation machine

reserve_carried : (s : Rsm) (move : ReservationMove) (now : ℕ) (r : Record) (c : ℕ) → r.rsm ≡ s → is_open Kind.Reserve c r ≡ true → is_carried Kind.Reserve c (reserves s move now r) ≡ true
unfolding reserves reserve_step event_of works_on is_told_of is_answer
reserve_carried s move now r c e h = grind (arith, e, h)

commit_carried : (s : Rsm) (move : ReservationMove) (now : ℕ) (r : Record) (c : ℕ) → r.rsm ≡ s → is_open Kind.ReserveCommit c r ≡ true → is_carried Kind.ReserveCommit c (reserves s move now r) ≡ true
unfolding reserves reserve_step event_of works_on is_told_of is_answer
commit_carried s move now r c e h = grind (arith, e, h)

abort_carried : (s : Rsm) (move : ReservationMove) (now : ℕ) (r : Record) (c : ℕ) → r.rsm ≡ s → is_open Kind.ReserveAbort c r ≡ true → is_carried Kind.ReserveAbort c (reserves s move now r) ≡ true
unfolding reserves reserve_step event_of works_on is_told_of is_answer
abort_carried s move now r c e h = grind (arith, e, h)

---- What a machine doesn't touch

-- what the reservation machine works on stays
record IsReserveSame (r q : Record) : Type 0 where
  rsm : q.rsm ≡ r.rsm
  pending : q.pending ≡ r.pending
  request : q.reserve_request ≡ r.reserve_request

-- so does what the provision machine works on
record IsProvisionSame (r q : Record) : Type 0 where
  psm : q.psm ≡ r.psm
  request : q.provision_request ≡ r.provision_request

-- so does what the lifecycle machine works on
record IsLifeSame (r q : Record) : Type 0 where
  lsm : q.lsm ≡ r.lsm
  request : q.lifecycle_request ≡ r.lifecycle_request

record IsBesideReserve (r q : Record) : Type 0 where
  provision : IsProvisionSame r q
  life : IsLifeSame r q

record IsBesideProvision (r q : Record) : Type 0 where
  reserve : IsReserveSame r q
  life : IsLifeSame r q

record IsBesideLife (r q : Record) : Type 0 where
  reserve : IsReserveSame r q
  provision : IsProvisionSame r q

reserves_leave : (s : Rsm) (move : ReservationMove) (now : ℕ) (r : Record) → IsBesideReserve r (reserves s move now r).rec
unfolding reserves reserve_step event_of
reserves_leave s move now r = record { provision = record { psm = grind arith; request = grind arith }; life = record { lsm = grind arith; request = grind arith } }

provisions_leave : (side : Side) (s : Psm) (move : ProvisionMove) (now : ℕ) (r : Record) → IsBesideProvision r (provisions side s move now r).rec
unfolding provisions provision_step provision_event
provisions_leave side s move now r = record { reserve = record { rsm = grind arith; pending = grind arith; request = grind arith }; life = record { lsm = grind arith; request = grind arith } }

lives_leave : (s : Lsm) (move : LifecycleMove) (now : ℕ) (r : Record) → IsBesideLife r (lives s move now r).rec
unfolding lives lifecycle_step lifecycle_event
lives_leave s move now r = record { reserve = record { rsm = grind arith; pending = grind arith; request = grind arith }; provision = record { psm = grind arith; request = grind arith } }

-- whether a request of that kind is one to the machine
is_reserving : Kind → Bool
is_reserving Kind.Reserve = true
is_reserving Kind.ReserveCommit = true
is_reserving Kind.ReserveAbort = true
is_reserving _ = false

is_provisioning_of : Kind → Bool
is_provisioning_of Kind.Provision = true
is_provisioning_of Kind.Release = true
is_provisioning_of _ = false

reserve_still : (k : Kind) (c : ℕ) (r q : Record) → is_reserving k ≡ true → IsReserveSame r q → is_terminated q.lsm ≡ false → is_open k c r ≡ true → is_open k c q ≡ true
unfolding is_reserving works_on
reserve_still k c r q b same l h = grind (arith, b, same.rsm, same.pending, same.request, l, h)

provision_still : (k : Kind) (c : ℕ) (r q : Record) → is_provisioning_of k ≡ true → IsProvisionSame r q → is_terminated q.lsm ≡ false → is_open k c r ≡ true → is_open k c q ≡ true
unfolding is_provisioning_of works_on
provision_still k c r q b same l h = grind (arith, b, same.psm, same.request, l, h)

terminate_still : (c : ℕ) (r q : Record) → IsLifeSame r q → is_open Kind.Terminate c r ≡ true → is_open Kind.Terminate c q ≡ true
unfolding works_on
terminate_still c r q same h = grind (arith, same.lsm, same.request, h)

-- what is open is so at a connection that hasn't ended
open_living : (k : Kind) (c : ℕ) (r : Record) → is_open k c r ≡ true → is_terminated r.lsm ≡ false
open_living k c r h = by (works_on k c r) (is_terminated r.lsm) h
  where
    by : (a b : Bool) → (a && not b) ≡ true → b ≡ false
    by true false h = refl
    by true true h = absurd (cc)
    by false b h = absurd (cc)

pub or_left : (a b : Bool) → a ≡ true → (a || b) ≡ true
or_left a b e = ap (λ x. x || b) e

---- The provision machine, and the lifecycle machine

provision_carried : (side : Side) (s : Psm) (move : ProvisionMove) (now : ℕ) (r : Record) (c : ℕ) → r.psm ≡ s → is_open Kind.Provision c r ≡ true → is_carried Kind.Provision c (provisions side s move now r) ≡ true
unfolding provisions provision_step provision_event works_on is_told_of is_answer
provision_carried side s move now r c e h = grind (arith, e, h)

release_carried : (side : Side) (s : Psm) (move : ProvisionMove) (now : ℕ) (r : Record) (c : ℕ) → r.psm ≡ s → is_open Kind.Release c r ≡ true → is_carried Kind.Release c (provisions side s move now r) ≡ true
unfolding provisions provision_step provision_event works_on is_told_of is_answer
release_carried side s move now r c e h = grind (arith, e, h)

terminate_carried : (s : Lsm) (move : LifecycleMove) (now : ℕ) (r : Record) (c : ℕ) → r.lsm ≡ s → is_open Kind.Terminate c r ≡ true → is_carried Kind.Terminate c (lives s move now r) ≡ true
unfolding lives lifecycle_step lifecycle_event works_on is_terminating is_told_of is_answer
terminate_carried s move now r c e h = grind (arith, e, h)

-- a move of the lifecycle machine that isn't the last one ends nothing
abbrev pub is_last : LifecycleMove → Bool
is_last LifecycleMove.Done = true
is_last _ = false

lives_on : (s : Lsm) (move : LifecycleMove) (now : ℕ) (r : Record) → r.lsm ≡ s → is_last move ≡ false → is_terminated s ≡ false → is_terminated (lives s move now r).rec.lsm ≡ false
unfolding lives lifecycle_step lifecycle_event
lives_on s move now r e l h = grind (arith, e, l, h)

---- One move

beside_provision : (side : Side) (move : ProvisionMove) (now : ℕ) (r : Record) (k : Kind) (c : ℕ) → is_reserving k ≡ true → is_open k c r ≡ true → is_carried k c (provisions side r.psm move now r) ≡ true
beside_provision side move now r k c b h =
    let y : Moved = provisions side r.psm move now r in
    let beside = provisions_leave side r.psm move now r in
    or_left (is_open k c y.rec) (is_told_of k c y.out) (reserve_still k c r y.rec b beside.reserve (ap is_terminated beside.life.lsm ∙ open_living k c r h) h)

beside_reserve : (move : ReservationMove) (now : ℕ) (r : Record) (k : Kind) (c : ℕ) → is_provisioning_of k ≡ true → is_open k c r ≡ true → is_carried k c (reserves r.rsm move now r) ≡ true
beside_reserve move now r k c b h =
    let y : Moved = reserves r.rsm move now r in
    let beside = reserves_leave r.rsm move now r in
    or_left (is_open k c y.rec) (is_told_of k c y.out) (provision_still k c r y.rec b beside.provision (ap is_terminated beside.life.lsm ∙ open_living k c r h) h)

reserve_beside_life : (move : LifecycleMove) (now : ℕ) (r : Record) → is_last move ≡ false → (k : Kind) (c : ℕ) → is_reserving k ≡ true → is_open k c r ≡ true → is_carried k c (lives r.lsm move now r) ≡ true
reserve_beside_life move now r l k c b h =
    let y : Moved = lives r.lsm move now r in
    or_left (is_open k c y.rec) (is_told_of k c y.out) (reserve_still k c r y.rec b (lives_leave r.lsm move now r).reserve (lives_on r.lsm move now r refl l (open_living k c r h)) h)

provision_beside_life : (move : LifecycleMove) (now : ℕ) (r : Record) → is_last move ≡ false → (k : Kind) (c : ℕ) → is_provisioning_of k ≡ true → is_open k c r ≡ true → is_carried k c (lives r.lsm move now r) ≡ true
provision_beside_life move now r l k c b h =
    let y : Moved = lives r.lsm move now r in
    or_left (is_open k c y.rec) (is_told_of k c y.out) (provision_still k c r y.rec b (lives_leave r.lsm move now r).provision (lives_on r.lsm move now r refl l (open_living k c r h)) h)

reserves_carry : (move : ReservationMove) (now : ℕ) (r : Record) → Carries r (reserves r.rsm move now r)
unfolding works_on is_reserving is_provisioning_of
reserves_carry move now r Kind.Reserve c h = reserve_carried r.rsm move now r c refl h
reserves_carry move now r Kind.ReserveCommit c h = commit_carried r.rsm move now r c refl h
reserves_carry move now r Kind.ReserveAbort c h = abort_carried r.rsm move now r c refl h
reserves_carry move now r Kind.Provision c h = beside_reserve move now r Kind.Provision c refl h
reserves_carry move now r Kind.Release c h = beside_reserve move now r Kind.Release c refl h
reserves_carry move now r Kind.Terminate c h =
    let q : Record = (reserves r.rsm move now r).rec in
    or_left (is_open Kind.Terminate c q) (is_told_of Kind.Terminate c (reserves r.rsm move now r).out) (terminate_still c r q (reserves_leave r.rsm move now r).life h)
reserves_carry move now r _ c h = absurd (cc)

provisions_carry : (side : Side) (move : ProvisionMove) (now : ℕ) (r : Record) → Carries r (provisions side r.psm move now r)
unfolding works_on is_reserving
provisions_carry side move now r Kind.Reserve c h = beside_provision side move now r Kind.Reserve c refl h
provisions_carry side move now r Kind.ReserveCommit c h = beside_provision side move now r Kind.ReserveCommit c refl h
provisions_carry side move now r Kind.ReserveAbort c h = beside_provision side move now r Kind.ReserveAbort c refl h
provisions_carry side move now r Kind.Provision c h = provision_carried side r.psm move now r c refl h
provisions_carry side move now r Kind.Release c h = release_carried side r.psm move now r c refl h
provisions_carry side move now r Kind.Terminate c h =
    let y : Moved = provisions side r.psm move now r in
    or_left (is_open Kind.Terminate c y.rec) (is_told_of Kind.Terminate c y.out) (terminate_still c r y.rec (provisions_leave side r.psm move now r).life h)
provisions_carry side move now r _ c h = absurd (cc)

lives_carry : (move : LifecycleMove) (now : ℕ) (r : Record) → is_last move ≡ false → Carries r (lives r.lsm move now r)
unfolding works_on is_reserving is_provisioning_of
lives_carry move now r l Kind.Reserve c h = reserve_beside_life move now r l Kind.Reserve c refl h
lives_carry move now r l Kind.ReserveCommit c h = reserve_beside_life move now r l Kind.ReserveCommit c refl h
lives_carry move now r l Kind.ReserveAbort c h = reserve_beside_life move now r l Kind.ReserveAbort c refl h
lives_carry move now r l Kind.Provision c h = provision_beside_life move now r l Kind.Provision c refl h
lives_carry move now r l Kind.Release c h = provision_beside_life move now r l Kind.Release c refl h
lives_carry move now r l Kind.Terminate c h = terminate_carried r.lsm move now r c refl h
lives_carry move now r l _ c h = absurd (cc)

---- Several moves

pub told_append : (k : Kind) (c : ℕ) (xs ys : List Reply) → is_told_of k c (xs ++ ys) ≡ (is_told_of k c xs || is_told_of k c ys)
unfolding is_told_of
told_append k c [] ys = refl
told_append k c (x ∷ xs) ys = by ((c == x.correlation) && is_answer k (kind_of x.body)) (told_append k c xs ys)
  where
    by : (b : Bool) → is_told_of k c (xs ++ ys) ≡ (is_told_of k c xs || is_told_of k c ys) → (b || is_told_of k c (xs ++ ys)) ≡ ((b || is_told_of k c xs) || is_told_of k c ys)
    by true e = refl
    by false e = e

pub carries_none : (r : Record) → Carries r (stays r)
carries_none r k c h = or_left (is_open k c r) (is_told_of k c []) h

-- what is open still, or answered, is so behind what is done then
pub carried_then : (k : Kind) (c : ℕ) (x : Moved) (next : Record → Moved) → is_carried k c x ≡ true → Carries x.rec (next x.rec) → is_carried k c (then_moves x next) ≡ true
carried_then k c x next a b =
    let y : Moved = next x.rec in
    ap (λ z. is_open k c y.rec || z) (told_append k c x.out y.out) ∙ both (is_open k c x.rec) (is_told_of k c x.out) (is_open k c y.rec) (is_told_of k c y.out) a (b k c)
  where
    both : (a p b q : Bool) → (a || p) ≡ true → (a ≡ true → (b || q) ≡ true) → (b || (p || q)) ≡ true
    both true true true q e f = refl
    both true true false q e f = refl
    both true false b q e f = f refl
    both false true true q e f = refl
    both false true false q e f = refl
    both false false b q e f = absurd (cc)

pub carries_then : (r : Record) (x : Moved) (next : Record → Moved) → Carries r x → Carries x.rec (next x.rec) → Carries r (then_moves x next)
carries_then r x next a b k c h = carried_then k c x next (a k c h) b

pub reserves_if_carry : (o : Option ReservationMove) (now : ℕ) (r : Record) → Carries r (reserves_if o now r)
reserves_if_carry None now r = carries_none r
reserves_if_carry (Some move) now r = reserves_carry move now r

pub provisions_if_carry : (side : Side) (o : Option ProvisionMove) (now : ℕ) (r : Record) → Carries r (provisions_if side o now r)
provisions_if_carry side None now r = carries_none r
provisions_if_carry side (Some move) now r = provisions_carry side move now r

-- a move that isn't the last one of the lifecycle machine
abbrev pub IsGoingOn : Option LifecycleMove → Type 0
IsGoingOn None = Unit {0}
IsGoingOn (Some move) = is_last move ≡ false

pub lives_if_carry : (o : Option LifecycleMove) (now : ℕ) (r : Record) → IsGoingOn o → Carries r (lives_if o now r)
lives_if_carry None now r h = carries_none r
lives_if_carry (Some move) now r h = lives_carry move now r h

---- The end of a connection

reservation_answered : (k : Kind) (s : Rsm) (agent : List ℕ) (now : ℕ) (r : Record) (c : ℕ) → r.rsm ≡ s → is_reserving k ≡ true → is_open k c r ≡ true →
    is_told_of k c (reserves_if (reservation_closing s (plain agent ErrorName.Gone)) now r).out ≡ true
unfolding is_reserving works_on reservation_closing reserves reserve_step event_of is_told_of is_answer
reservation_answered k s agent now r c e b h = grind (arith, e, b, h)

provision_answered : (k : Kind) (side : Side) (s : Psm) (agent : List ℕ) (now : ℕ) (r : Record) (c : ℕ) → r.psm ≡ s → is_provisioning_of k ≡ true → is_open k c r ≡ true →
    is_told_of k c (provisions_if side (provision_closing s (plain agent ErrorName.Gone)) now r).out ≡ true
unfolding is_provisioning_of works_on provision_closing provisions provision_step provision_event is_told_of is_answer
provision_answered k side s agent now r c e b h = grind (arith, e, b, h)

terminate_answered : (s : Lsm) (now : ℕ) (r : Record) (c : ℕ) → r.lsm ≡ s → is_open Kind.Terminate c r ≡ true → is_told_of Kind.Terminate c (lives s LifecycleMove.Done now r).out ≡ true
unfolding works_on is_terminating lives lifecycle_step lifecycle_event is_told_of is_answer
terminate_answered s now r c e h = grind (arith, e, h)

reserves_if_leave : (o : Option ReservationMove) (now : ℕ) (r : Record) → IsBesideReserve r (reserves_if o now r).rec
reserves_if_leave None now r = record { provision = record { psm = refl; request = refl }; life = record { lsm = refl; request = refl } }
reserves_if_leave (Some move) now r = reserves_leave r.rsm move now r

provisions_if_leave : (side : Side) (o : Option ProvisionMove) (now : ℕ) (r : Record) → IsBesideProvision r (provisions_if side o now r).rec
provisions_if_leave side None now r = record { reserve = record { rsm = refl; pending = refl; request = refl }; life = record { lsm = refl; request = refl } }
provisions_if_leave side (Some move) now r = provisions_leave side r.psm move now r

-- what is answered in one of three parts
first_of : (a p q s : Bool) → p ≡ true → (a || ((p || q) || s)) ≡ true
first_of true p q s e = refl
first_of false p q s e = ap (λ z. (z || q) || s) e

second_of : (a p q s : Bool) → q ≡ true → (a || ((p || q) || s)) ≡ true
second_of true p q s e = refl
second_of false true q s e = refl
second_of false false q s e = ap (λ z. z || s) e

third_of : (a p q s : Bool) → s ≡ true → (a || ((p || q) || s)) ≡ true
third_of true p q s e = refl
third_of false true q s e = refl
third_of false false true s e = refl
third_of false false false s e = e

-- all that is open is answered when the connection ends
module _ (agent : List ℕ) (side : Side) (now : ℕ) (r : Record) where
  abbrev a : Moved
  a = closes_reservation agent now r

  abbrev b : Moved
  b = closes_provision agent side now a.rec

  abbrev l : Moved
  l = lives b.rec.lsm LifecycleMove.Done now b.rec

  in_parts : (k : Kind) (c : ℕ) → (is_open k c l.rec || ((is_told_of k c a.out || is_told_of k c b.out) || is_told_of k c l.out)) ≡ true → is_carried k c (closes agent side now r) ≡ true
  unfolding closes
  in_parts k c h = ap (λ z. is_open k c l.rec || z) (told_append k c (a.out ++ b.out) l.out ∙ ap (λ z. z || is_told_of k c l.out) (told_append k c a.out b.out)) ∙ h

  closing_reserve : (k : Kind) (c : ℕ) → is_reserving k ≡ true → is_open k c r ≡ true → is_carried k c (closes agent side now r) ≡ true
  closing_reserve k c e h =
      in_parts k c (first_of (is_open k c l.rec) (is_told_of k c a.out) (is_told_of k c b.out) (is_told_of k c l.out) (reservation_answered k r.rsm agent now r c refl e h))

  closing_provision : (k : Kind) (c : ℕ) → is_provisioning_of k ≡ true → is_open k c r ≡ true → is_carried k c (closes agent side now r) ≡ true
  closing_provision k c e h =
      let beside = reserves_if_leave (reservation_closing r.rsm (plain agent ErrorName.Gone)) now r in
      let still : is_open k c a.rec ≡ true = provision_still k c r a.rec e beside.provision (ap is_terminated beside.life.lsm ∙ open_living k c r h) h in
      in_parts k c (second_of (is_open k c l.rec) (is_told_of k c a.out) (is_told_of k c b.out) (is_told_of k c l.out) (provision_answered k side a.rec.psm agent now a.rec c refl e still))

  closing_life : (c : ℕ) → is_open Kind.Terminate c r ≡ true → is_carried Kind.Terminate c (closes agent side now r) ≡ true
  closing_life c h =
      let gone : Exception = plain agent ErrorName.Gone in
      let first : is_open Kind.Terminate c a.rec ≡ true = terminate_still c r a.rec (reserves_if_leave (reservation_closing r.rsm gone) now r).life h in
      let second : is_open Kind.Terminate c b.rec ≡ true = terminate_still c a.rec b.rec (provisions_if_leave side (provision_closing a.rec.psm gone) now a.rec).life first in
      in_parts Kind.Terminate c
      (third_of (is_open Kind.Terminate c l.rec) (is_told_of Kind.Terminate c a.out) (is_told_of Kind.Terminate c b.out) (is_told_of Kind.Terminate c l.out)
      (terminate_answered b.rec.lsm now b.rec c refl second))

pub closes_carry : (agent : List ℕ) (side : Side) (now : ℕ) (r : Record) → Carries r (closes agent side now r)
unfolding works_on is_reserving is_provisioning_of
closes_carry agent side now r Kind.Reserve c h = closing_reserve agent side now r Kind.Reserve c refl h
closes_carry agent side now r Kind.ReserveCommit c h = closing_reserve agent side now r Kind.ReserveCommit c refl h
closes_carry agent side now r Kind.ReserveAbort c h = closing_reserve agent side now r Kind.ReserveAbort c refl h
closes_carry agent side now r Kind.Provision c h = closing_provision agent side now r Kind.Provision c refl h
closes_carry agent side now r Kind.Release c h = closing_provision agent side now r Kind.Release c refl h
closes_carry agent side now r Kind.Terminate c h = closing_life agent side now r c h
closes_carry agent side now r _ c h = absurd (cc)

---- Moves of every kind

-- a move that isn't the last one of the lifecycle machine by itself
abbrev pub IsWhole : Option Move → Type 0
IsWhole (Some (Move.Lifecycle move)) = is_last move ≡ false
IsWhole _ = Unit {0}

pub moves_carry : (side : Side) (move : Move) (now : ℕ) (r : Record) → IsWhole (Some move) → Carries r (moves side move now r)
unfolding moves
moves_carry side (Move.Reservation m) now r h = reserves_carry m now r
moves_carry side (Move.Provision m) now r h = provisions_carry side m now r
moves_carry side (Move.Lifecycle m) now r h = lives_carry m now r h
moves_carry side (Move.Close agent) now r h = closes_carry agent side now r

pub moves_if_carry : (side : Side) (o : Option Move) (now : ℕ) (r : Record) → IsWhole o → Carries r (moves_if side o now r)
moves_if_carry side None now r h = carries_none r
moves_if_carry side (Some move) now r h = moves_carry side move now r h

pub requested_whole : (now : ℕ) (body : Body) (c : ℕ) (r : Record) → IsWhole (requested now body c r)
unfolding requested
requested_whole now body c r = grind arith

pub work_whole : (machine : Machine) (r : Record) (lack : Option Cause) (agent : List ℕ) (deadline : ℕ) → IsWhole (work_of machine r lack agent deadline)
unfolding work_of worked provided
work_whole machine r lack agent deadline = grind arith

---- Time, and what is told

pub ticks_carry : (live : Bool) (origin : Origin) (now : ℕ) (r : Record) → Carries r (ticks live origin now r)
unfolding ticks
ticks_carry false origin now r = carries_none r
ticks_carry true origin now r =
    carries_then r (reserves_if (hold_end r.rsm r.deadline now origin) now r) (λ x. lives_if (schedule_end (last x.committed) now) now x)
    (reserves_if_carry (hold_end r.rsm r.deadline now origin) now r)
    (let y : Record = (reserves_if (hold_end r.rsm r.deadline now origin) now r).rec in lives_if_carry (schedule_end (last y.committed) now) now y (by_end (is_due (end_of (last y.committed)) now)))
  where
    by_end : (due : Bool) → IsGoingOn (if due then Some LifecycleMove.EndTime else None)
    by_end true = refl
    by_end false = tt

-- a notice changes nothing that a machine works on
pub plane_carries : (told : Bool) (p : Plane) (d now : ℕ) (r : Record) → Carries r (tells_plane told p d now r)
unfolding tells_plane works_on
plane_carries false p d now r k c h = carries_none r k c h
plane_carries true p d now r k c h = or_left (is_open k c (tells_plane true p d now r).rec) (is_told_of k c (tells_plane true p d now r).out) (by k h)
  where
    by : (k : Kind) → is_open k c r ≡ true → is_open k c (tells_plane true p d now r).rec ≡ true
    by Kind.Reserve h = h
    by Kind.ReserveCommit h = h
    by Kind.ReserveAbort h = h
    by Kind.Provision h = h
    by Kind.Release h = h
    by Kind.Terminate h = h
    by _ h = absurd (cc)

pub tells_carry : (before : Plane) (d now : ℕ) (r : Record) (x : Moved) → Carries r x → Carries r (tells before d now x)
unfolding tells
tells_carry before d now r x h = carries_then r x (λ y. tells_plane (is_told before now y) (status_of now y) d now y) h (plane_carries (is_told before now x.rec) (status_of now x.rec) d now x.rec)

pub tells_carried : (k : Kind) (before : Plane) (d now c : ℕ) (x : Moved) → is_carried k c x ≡ true → is_carried k c (tells before d now x) ≡ true
unfolding tells
tells_carried k before d now c x h = carried_then k c x (λ y. tells_plane (is_told before now y) (status_of now y) d now y) h (plane_carries (is_told before now x.rec) (status_of now x.rec) d now x.rec)
