-- What a record says, it owed: each move answers once, and only what was asked.
use Rattle.std.proofs.Common.{ℕ, ◌+◌, ◌≤◌, ◌≡◌, Bool, true, false, List, [], ◌∷◌, ◌++◌, Option, Some, None, refl, subst, ◌∙◌, arith, if◌then◌else◌}
use Rattle.nsi_primitive.specs.declared.state.Rsm.{Rsm}
use Rattle.nsi_primitive.specs.declared.state.Psm.{Psm}
use Rattle.nsi_primitive.specs.declared.state.Lsm.{Lsm}
use Rattle.nsi_primitive.specs.declared.state.Side.{Side}
use Rattle.nsi_primitive.specs.declared.message.Body.{Body}
use Rattle.reserve_machine.specs.Table.{step as reserve_step}
use Rattle.provision_machine.specs.Table.{step as provision_step}
use Rattle.lifecycle_machine.specs.Table.{step as lifecycle_step}
use Rattle.connection_record.specs.declared.record.Record.{Record}
use Rattle.connection_record.specs.declared.moves.ReservationMove.{ReservationMove}
use Rattle.connection_record.specs.declared.provisioning.ProvisionMove.{ProvisionMove}
use Rattle.connection_record.specs.declared.life.LifecycleMove.{LifecycleMove}
use Rattle.connection_record.specs.declared.apply.Move.{Move}
use Rattle.connection_record.specs.declared.moves.Origin.{Origin}
use Rattle.connection_record.specs.Replies.{Moved, stays, then_moves, plain}
use Rattle.connection_record.specs.Demand.{last}
use Rattle.connection_record.specs.Applied.{closes, closes_reservation, closes_provision, reservation_closing, provision_closing, moves, moves_if, requested, work_of, provided, ticks, schedule_end, end_of, tells_plane, tells, is_told, status_of}
use Rattle.nsi_primitive.specs.declared.kind.ErrorName.{ErrorName}
use Rattle.nsi_primitive.specs.declared.message.Cause.{Cause}
use Rattle.nsi_primitive.specs.declared.message.Criteria.{Criteria}
use Rattle.nsi_primitive.specs.declared.message.Exception.{Exception}
use Rattle.nsi_primitive.specs.declared.plane.Plane.{Plane}
use Rattle.nsi_primitive.specs.declared.state.Machine.{Machine}
use Rattle.nsi_primitive.specs.Kinds.{kind_number}
use Rattle.connection_record.specs.Moves.{event_of, reserves, reserves_if, hold_end, worked, is_due}
use Rattle.connection_record.specs.Lives.{provision_event, lifecycle_event, provisions, provisions_if, lives, lives_if}
use Rattle.connection_record.specs.Courses.{IsOwn, IsOwnProvision}
use Rattle.connection_record.specs.Speaking.{one, tally, number_of, is_asking, is_noting, is_answering, answers_as, notes_as, asks_for, owed_reserve, owed_provision, owed_life, owed, reservation_begins, provision_begins, lifecycle_begins, begun_of, lifecycle_draws, drawn_of, no_ids, drawn_if, Speaks}
use Rattle.connection_record.specs.Ids.{is_id}

pub reserves_owed : (k : Rsm) (move : ReservationMove) (now : ℕ) (r : Record) (c n : ℕ) → r.rsm ≡ k →
    tally (answers_as c n) (reserves k move now r).out + owed_reserve (reserves k move now r).rec.rsm c n (reserves k move now r).rec ≤ owed_reserve k c n r + one (is_id (reservation_begins move) c)
unfolding reserves reserve_step event_of owed_reserve tally is_answering is_asking is_noting number_of kind_number
reserves_owed k move now r c n e = grind arith

-- the other machines' part stays
pub reserves_others : (k : Rsm) (move : ReservationMove) (now : ℕ) (r : Record) (c n : ℕ) →
    (owed_provision (reserves k move now r).rec.psm c n (reserves k move now r).rec ≡ owed_provision r.psm c n r) × (owed_life (reserves k move now r).rec.lsm c n (reserves k move now r).rec ≡ owed_life r.lsm c n r)
unfolding reserves reserve_step event_of owed_provision owed_life
reserves_others k move now r c n = grind arith

pub provisions_owed : (side : Side) (k : Psm) (move : ProvisionMove) (now : ℕ) (r : Record) (c n : ℕ) → r.psm ≡ k →
    tally (answers_as c n) (provisions side k move now r).out + owed_provision (provisions side k move now r).rec.psm c n (provisions side k move now r).rec ≤ owed_provision k c n r + one (is_id (provision_begins move) c)
unfolding provisions provision_step provision_event owed_provision tally is_answering is_asking is_noting number_of kind_number
provisions_owed side k move now r c n e = grind arith

pub provisions_others : (side : Side) (k : Psm) (move : ProvisionMove) (now : ℕ) (r : Record) (c n : ℕ) →
    (owed_reserve (provisions side k move now r).rec.rsm c n (provisions side k move now r).rec ≡ owed_reserve r.rsm c n r) × (owed_life (provisions side k move now r).rec.lsm c n (provisions side k move now r).rec ≡ owed_life r.lsm c n r)
unfolding provisions provision_step provision_event owed_reserve owed_life
provisions_others side k move now r c n = grind arith

pub lives_owed : (k : Lsm) (move : LifecycleMove) (now : ℕ) (r : Record) (c n : ℕ) → r.lsm ≡ k →
    tally (answers_as c n) (lives k move now r).out + owed_life (lives k move now r).rec.lsm c n (lives k move now r).rec ≤ owed_life k c n r + one (is_id (lifecycle_begins move) c)
unfolding lives lifecycle_step lifecycle_event owed_life tally is_answering is_asking is_noting number_of kind_number
lives_owed k move now r c n e = grind arith

pub lives_others : (k : Lsm) (move : LifecycleMove) (now : ℕ) (r : Record) (c n : ℕ) →
    (owed_reserve (lives k move now r).rec.rsm c n (lives k move now r).rec ≡ owed_reserve r.rsm c n r) × (owed_provision (lives k move now r).rec.psm c n (lives k move now r).rec ≡ owed_provision r.psm c n r)
unfolding lives lifecycle_step lifecycle_event owed_reserve owed_provision
lives_others k move now r c n = grind arith

-- notifications: only a forced end and an announcement have an id of their own
reserves_notes : (k : Rsm) (move : ReservationMove) (now : ℕ) (r : Record) (c : ℕ) → tally (notes_as c) (reserves k move now r).out ≡ 0
unfolding reserves reserve_step event_of tally is_noting
reserves_notes k move now r c = grind arith

provisions_notes : (side : Side) (k : Psm) (move : ProvisionMove) (now : ℕ) (r : Record) (c : ℕ) → tally (notes_as c) (provisions side k move now r).out ≡ 0
unfolding provisions provision_step provision_event tally is_noting
provisions_notes side k move now r c = grind arith

lives_notes : (k : Lsm) (move : LifecycleMove) (now : ℕ) (r : Record) (c : ℕ) → tally (notes_as c) (lives k move now r).out ≤ lifecycle_draws move c
unfolding lives lifecycle_step lifecycle_event tally is_noting
lives_notes k move now r c = grind arith

reserves_asks : (k : Rsm) (move : ReservationMove) (now : ℕ) (r : Record) → tally asks_for (reserves k move now r).out ≡ 0
unfolding reserves reserve_step event_of tally is_asking
reserves_asks k move now r = grind arith

provisions_asks : (side : Side) (k : Psm) (move : ProvisionMove) (now : ℕ) (r : Record) → tally asks_for (provisions side k move now r).out ≡ 0
unfolding provisions provision_step provision_event tally is_asking
provisions_asks side k move now r = grind arith

lives_asks : (k : Lsm) (move : LifecycleMove) (now : ℕ) (r : Record) → tally asks_for (lives k move now r).out ≡ 0
unfolding lives lifecycle_step lifecycle_event tally is_asking
lives_asks k move now r = grind arith

reserves_owner : (k : Rsm) (move : ReservationMove) (now : ℕ) (r : Record) → (reserves k move now r).rec.owner ≡ r.owner
unfolding reserves reserve_step event_of
reserves_owner k move now r = grind arith

provisions_owner : (side : Side) (k : Psm) (move : ProvisionMove) (now : ℕ) (r : Record) → (provisions side k move now r).rec.owner ≡ r.owner
unfolding provisions provision_step provision_event
provisions_owner side k move now r = grind arith

lives_owner : (k : Lsm) (move : LifecycleMove) (now : ℕ) (r : Record) → (lives k move now r).rec.owner ≡ r.owner
unfolding lives lifecycle_step lifecycle_event
lives_owner k move now r = grind arith

---- What a move of a record says

pub reserves_speaks : (move : ReservationMove) (now : ℕ) (r : Record) → Speaks (reservation_begins move) no_ids r (reserves r.rsm move now r)
unfolding owed
reserves_speaks move now r =
    record {
      owner = reserves_owner r.rsm move now r;
      answers = λ c n. let a = reserves_owed r.rsm move now r c n refl in let b = reserves_others r.rsm move now r c n in omega (arith, a, b.0, b.1);
      notes = λ c. omega (arith, reserves_notes r.rsm move now r c);
      asks = reserves_asks r.rsm move now r;
    }

pub provisions_speaks : (side : Side) (move : ProvisionMove) (now : ℕ) (r : Record) → Speaks (provision_begins move) no_ids r (provisions side r.psm move now r)
unfolding owed
provisions_speaks side move now r =
    record {
      owner = provisions_owner side r.psm move now r;
      answers = λ c n. let a = provisions_owed side r.psm move now r c n refl in let b = provisions_others side r.psm move now r c n in omega (arith, a, b.0, b.1);
      notes = λ c. omega (arith, provisions_notes side r.psm move now r c);
      asks = provisions_asks side r.psm move now r;
    }

pub lives_speaks : (move : LifecycleMove) (now : ℕ) (r : Record) → Speaks (lifecycle_begins move) (lifecycle_draws move) r (lives r.lsm move now r)
unfolding owed
lives_speaks move now r =
    record {
      owner = lives_owner r.lsm move now r;
      answers = λ c n. let a = lives_owed r.lsm move now r c n refl in let b = lives_others r.lsm move now r c n in omega (arith, a, b.0, b.1);
      notes = λ c. lives_notes r.lsm move now r c;
      asks = lives_asks r.lsm move now r;
    }

pub stays_speaks : (begun : Option ℕ) (drawn : ℕ → ℕ) (r : Record) → Speaks begun drawn r (stays r)
unfolding tally
stays_speaks begun drawn r = record { owner = refl; answers = λ c n. omega arith; notes = λ c. omega arith; asks = refl }

pub tally_append : {X : Type 0} (p : X → Bool) (xs ys : List X) → tally p (xs ++ ys) ≡ tally p xs + tally p ys
unfolding tally
tally_append p [] ys = omega arith
tally_append p (x ∷ xs) ys = omega (arith, tally_append p xs ys)

-- one move, and another that begins nothing
pub then_speaks : (begun : Option ℕ) (f g : ℕ → ℕ) (r : Record) (x : Moved) (next : Record → Moved) → Speaks begun f r x → Speaks None g x.rec (next x.rec) → Speaks begun (λ c. f c + g c) r (then_moves x next)
then_speaks begun f g r x next a b =
    record {
      owner = b.owner ∙ a.owner;
      answers = λ c n. omega (arith, tally_append (answers_as c n) x.out (next x.rec).out, a.answers c n, b.answers c n);
      notes = λ c. omega (arith, tally_append (notes_as c) x.out (next x.rec).out, a.notes c, b.notes c);
      asks = omega (arith, tally_append asks_for x.out (next x.rec).out, a.asks, b.asks);
    }

-- two moves that draw nothing
pub both_speak : (begun : Option ℕ) (r : Record) (x : Moved) (next : Record → Moved) → Speaks begun no_ids r x → Speaks None no_ids x.rec (next x.rec) → Speaks begun no_ids r (then_moves x next)
both_speak begun r x next a b = then_speaks begun no_ids no_ids r x next a b

pub reserves_if_speaks : (o : Option ReservationMove) (now : ℕ) (r : Record) → IsOwn o → Speaks None no_ids r (reserves_if o now r)
reserves_if_speaks None now r h = stays_speaks None no_ids r
reserves_if_speaks (Some move) now r h = subst (λ b. Speaks b no_ids r (reserves r.rsm move now r)) h (reserves_speaks move now r)

pub provisions_if_speaks : (side : Side) (o : Option ProvisionMove) (now : ℕ) (r : Record) → IsOwnProvision o → Speaks None no_ids r (provisions_if side o now r)
provisions_if_speaks side None now r h = stays_speaks None no_ids r
provisions_if_speaks side (Some move) now r h = subst (λ b. Speaks b no_ids r (provisions side r.psm move now r)) h (provisions_speaks side move now r)

pub closing_own : (k : Rsm) (gone : Exception) → IsOwn (reservation_closing k gone)
unfolding reservation_closing
closing_own k gone = grind arith

pub closing_provision_own : (k : Psm) (gone : Exception) → IsOwnProvision (provision_closing k gone)
unfolding provision_closing
closing_provision_own k gone = grind arith

pub closes_speaks : (agent : List ℕ) (side : Side) (now : ℕ) (r : Record) → Speaks None no_ids r (closes agent side now r)
unfolding closes
closes_speaks agent side now r =
    both_speak None r (then_moves (closes_reservation agent now r) (λ x. closes_provision agent side now x)) (λ x. lives x.lsm LifecycleMove.Done now x)
    (both_speak None r (closes_reservation agent now r) (λ x. closes_provision agent side now x)
    (reserves_if_speaks (reservation_closing r.rsm (plain agent ErrorName.Gone)) now r (closing_own r.rsm (plain agent ErrorName.Gone)))
    (let y : Record = (closes_reservation agent now r).rec in provisions_if_speaks side (provision_closing y.psm (plain agent ErrorName.Gone)) now y (closing_provision_own y.psm (plain agent ErrorName.Gone))))
    (lives_speaks LifecycleMove.Done now (then_moves (closes_reservation agent now r) (λ x. closes_provision agent side now x)).rec)

abbrev pub draws_none : Move → Bool
draws_none (Move.Lifecycle (LifecycleMove.Force d origin)) = false
draws_none _ = true

pub moves_speaks : (side : Side) (move : Move) (now : ℕ) (r : Record) → Speaks (begun_of move) (drawn_of move) r (moves side move now r)
unfolding moves
moves_speaks side (Move.Reservation m) now r = reserves_speaks m now r
moves_speaks side (Move.Provision m) now r = provisions_speaks side m now r
moves_speaks side (Move.Lifecycle m) now r = lives_speaks m now r
moves_speaks side (Move.Close agent) now r = closes_speaks agent side now r

speaks_less : (begun : Option ℕ) (f g : ℕ → ℕ) (r : Record) (x : Moved) → Speaks begun f r x → ((c : ℕ) → f c ≤ g c) → Speaks begun g r x
speaks_less begun f g r x a le = record { owner = a.owner; answers = a.answers; notes = λ c. omega (arith, a.notes c, le c); asks = a.asks }

quiet_speaks : (side : Side) (move : Move) (now : ℕ) (r : Record) → draws_none move ≡ true → Speaks (begun_of move) no_ids r (moves side move now r)
quiet_speaks side move now r h = speaks_less (begun_of move) (drawn_of move) no_ids r (moves side move now r) (moves_speaks side move now r) (λ c. draws_nothing move c h)
  where
    draws_nothing : (move : Move) (c : ℕ) → draws_none move ≡ true → drawn_of move c ≤ 0
    draws_nothing move c h = grind arith

-- a request begins nothing but itself
abbrev IsRequested : Option Move → ℕ → Type 0
IsRequested None c = Unit {0}
IsRequested (Some move) c = (begun_of move ≡ Some c) × (draws_none move ≡ true)

requested_begins : (now : ℕ) (body : Body) (c : ℕ) (r : Record) → IsRequested (requested now body c r) c
unfolding requested
requested_begins now body c r = grind arith

moves_if_speaks : (side : Side) (o : Option Move) (c now : ℕ) (r : Record) → IsRequested o c → Speaks (Some c) no_ids r (moves_if side o now r)
moves_if_speaks side None c now r h = stays_speaks (Some c) no_ids r
moves_if_speaks side (Some move) c now r h = subst (λ b. Speaks b no_ids r (moves side move now r)) h.0 (quiet_speaks side move now r h.1)

-- what a request makes of a record
pub takes_speaks : (side : Side) (body : Body) (c now : ℕ) (r : Record) → Speaks (Some c) no_ids r (moves_if side (requested now body c r) now r)
takes_speaks side body c now r = moves_if_speaks side (requested now body c r) c now r (requested_begins now body c r)

-- work begins nothing, and draws nothing
abbrev IsWork : Option Move → Type 0
IsWork None = Unit {0}
IsWork (Some move) = (begun_of move ≡ None) × (draws_none move ≡ true)

work_own : (machine : Machine) (r : Record) (lack : Option Cause) (agent : List ℕ) (deadline : ℕ) → IsWork (work_of machine r lack agent deadline)
unfolding work_of worked provided
work_own machine r lack agent deadline = grind arith

work_if_speaks : (side : Side) (o : Option Move) (now : ℕ) (r : Record) → IsWork o → Speaks None no_ids r (moves_if side o now r)
work_if_speaks side None now r h = stays_speaks None no_ids r
work_if_speaks side (Some move) now r h = subst (λ b. Speaks b no_ids r (moves side move now r)) h.0 (quiet_speaks side move now r h.1)

pub works_speaks : (side : Side) (machine : Machine) (lack : Option Cause) (agent : List ℕ) (deadline now : ℕ) (r : Record) → Speaks None no_ids r (moves_if side (work_of machine r lack agent deadline) now r)
works_speaks side machine lack agent deadline now r = work_if_speaks side (work_of machine r lack agent deadline) now r (work_own machine r lack agent deadline)

pub hold_own : (k : Rsm) (deadline : Option ℕ) (now : ℕ) (origin : Origin) → IsOwn (hold_end k deadline now origin)
unfolding hold_end
hold_own k deadline now origin = grind arith

lives_end_speaks : (c : Option Criteria) (now : ℕ) (r : Record) → Speaks None no_ids r (lives_if (schedule_end c now) now r)
lives_end_speaks c now r = end_if (is_due (end_of c) now)
  where
    end_if : (due : Bool) → Speaks None no_ids r (lives_if (if due then Some LifecycleMove.EndTime else None) now r)
    end_if true = lives_speaks LifecycleMove.EndTime now r
    end_if false = stays_speaks None no_ids r

pub ticks_speaks : (live : Bool) (origin : Origin) (now : ℕ) (r : Record) → Speaks None no_ids r (ticks live origin now r)
unfolding ticks
ticks_speaks false origin now r = stays_speaks None no_ids r
ticks_speaks true origin now r =
    both_speak None r (reserves_if (hold_end r.rsm r.deadline now origin) now r) (λ x. lives_if (schedule_end (last x.committed) now) now x)
    (reserves_if_speaks (hold_end r.rsm r.deadline now origin) now r (hold_own r.rsm r.deadline now origin))
    (let y : Record = (reserves_if (hold_end r.rsm r.deadline now origin) now r).rec in lives_end_speaks (last y.committed) now y)

plane_answers : (told : Bool) (p : Plane) (c now : ℕ) (r : Record) (d n : ℕ) → tally (answers_as d n) (tells_plane told p c now r).out + owed d n (tells_plane told p c now r).rec ≤ owed d n r + 0
unfolding tells_plane tally is_answering is_asking is_noting owed owed_reserve owed_provision owed_life
plane_answers told p c now r d n = grind arith

plane_notes : (told : Bool) (p : Plane) (c now : ℕ) (r : Record) (d : ℕ) → tally (notes_as d) (tells_plane told p c now r).out ≤ drawn_if told c d
unfolding tells_plane tally is_noting
plane_notes told p c now r d = grind arith

plane_asks : (told : Bool) (p : Plane) (c now : ℕ) (r : Record) → tally asks_for (tells_plane told p c now r).out ≡ 0
unfolding tells_plane tally is_asking
plane_asks told p c now r = grind arith

pub plane_speaks : (told : Bool) (p : Plane) (c now : ℕ) (r : Record) → Speaks None (drawn_if told c) r (tells_plane told p c now r)
unfolding tells_plane tally is_answering is_asking is_noting owed owed_reserve owed_provision owed_life
plane_speaks told p c now r = record { owner = grind arith; answers = λ d n. plane_answers told p c now r d n; notes = λ d. plane_notes told p c now r d; asks = plane_asks told p c now r }

pub tells_speaks : (before : Plane) (begun : Option ℕ) (f : ℕ → ℕ) (c now : ℕ) (r : Record) (x : Moved) → Speaks begun f r x → Speaks begun (λ d. f d + drawn_if (is_told before now x.rec) c d) r (tells before c now x)
unfolding tells
tells_speaks before begun f c now r x h =
    then_speaks begun f (drawn_if (is_told before now x.rec) c) r x (λ y. tells_plane (is_told before now y) (status_of now y) c now y) h
    (plane_speaks (is_told before now x.rec) (status_of now x.rec) c now x.rec)
