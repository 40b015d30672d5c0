-- What a record does by itself is one move of the reservation machine, or none, and nothing else under correlations that no other machine owes.
use Rattle.std.proofs.Common.{ℕ, ◌≡◌, Bool, true, false, List, [], ◌∷◌, ◌++◌, Option, Some, None, ◌==◌, ◌&&◌, refl, ap, ◌∙◌, arith, if◌then◌else◌, append-nil, option_map}
use Rattle.nsi_primitive.specs.declared.kind.ErrorName.{ErrorName}
use Rattle.nsi_primitive.specs.declared.kind.Kind.{Kind}
use Rattle.nsi_primitive.specs.declared.state.Rsm.{Rsm}
use Rattle.nsi_primitive.specs.declared.state.Psm.{Psm}
use Rattle.nsi_primitive.specs.declared.state.Lsm.{Lsm}
use Rattle.nsi_primitive.specs.declared.state.Machine.{Machine}
use Rattle.nsi_primitive.specs.declared.state.Side.{Side}
use Rattle.nsi_primitive.specs.declared.message.Cause.{Cause}
use Rattle.nsi_primitive.specs.declared.message.Criteria.{Criteria}
use Rattle.nsi_primitive.specs.declared.plane.Plane.{Plane}
use Rattle.nsi_primitive.specs.Kinds.{kind_number}
use Rattle.provision_machine.specs.Table.{step as provision_step}
use Rattle.lifecycle_machine.specs.Table.{step as lifecycle_step}
use Rattle.connection_record.specs.declared.record.Record.{Record}
use Rattle.connection_record.specs.declared.moves.Origin.{Origin}
use Rattle.connection_record.specs.declared.moves.Reply.{Reply}
use Rattle.connection_record.specs.declared.moves.ReservationMove.{ReservationMove}
use Rattle.connection_record.specs.declared.provisioning.ProvisionMove.{ProvisionMove}
use Rattle.connection_record.specs.declared.life.LifecycleMove.{LifecycleMove}
use Rattle.connection_record.specs.declared.apply.Move.{Move}
use Rattle.connection_record.specs.Replies.{Moved, stays, then_moves, plain}
use Rattle.connection_record.specs.Demand.{last}
use Rattle.connection_record.specs.Moves.{reserves, reserves_if, hold_end, worked, is_due}
use Rattle.connection_record.specs.Lives.{provision_event, lifecycle_event, provisions, provisions_if, lives, lives_if}
use Rattle.connection_record.specs.Applied.{closes, closes_reservation, closes_provision, reservation_closing, provision_closing, moves, moves_if, work_of, provided, ticks, schedule_end, end_of, tells_plane, tells, is_told, status_of}
use Rattle.connection_record.specs.Courses.{IsOwn, IsOwnProvision, IsReservationSame, answering, IsAlone, Acts}
use Rattle.connection_record.specs.Speaking.{one, is_asking, is_noting, is_answering, owed_provision, owed_life, provision_begins, lifecycle_begins}
use Rattle.connection_record.specs.Ids.{is_id}
use Rattle.connection_record.proofs.Frames.{provisions_core, lives_core, plane_core}
use Rattle.connection_record.proofs.Saying.{provisions_owed, lives_owed, reserves_others, provisions_others, lives_others, closing_own, closing_provision_own, hold_own}

---- What is answered

pub answering_append : (c : ℕ) (xs ys : List Reply) → answering c (xs ++ ys) ≡ answering c xs ++ answering c ys
unfolding answering
answering_append c [] ys = refl
answering_append c (x ∷ xs) ys = by_test (is_answering x.body && (c == x.correlation)) (answering_append c xs ys)
  where
    by_test : (b : Bool) → answering c (xs ++ ys) ≡ answering c xs ++ answering c ys → (if b then x.body ∷ answering c (xs ++ ys) else answering c (xs ++ ys)) ≡ (if b then x.body ∷ answering c xs else answering c xs) ++ answering c ys
    by_test true e = ap (λ z. x.body ∷ z) e
    by_test false e = e

pub same_self : (r : Record) → IsReservationSame r r
same_self r = record { rsm = refl; request = refl; attempt = refl; pending = refl; committed = refl }

pub same_then : (p q r : Record) → IsReservationSame p q → IsReservationSame q r → IsReservationSame p r
same_then p q r a b = record { rsm = b.rsm ∙ a.rsm; request = b.request ∙ a.request; attempt = b.attempt ∙ a.attempt; pending = b.pending ∙ a.pending; committed = b.committed ∙ a.committed }

pub acts_stays : (r : Record) → Acts r (stays r)
acts_stays r = record { move = None; now = 0; own = tt; same = same_self r; says = λ c a. refl; alone = λ c a. a }

pub reserves_acts : (o : Option ReservationMove) (now : ℕ) (r : Record) → IsOwn o → Acts r (reserves_if o now r)
reserves_acts None now r h = acts_stays r
reserves_acts (Some move) now r h =
    record {
      move = Some move;
      now = now;
      own = h;
      same = same_self (reserves r.rsm move now r).rec;
      says = λ c a. refl;
      alone = λ c a. record { provision = λ n. (reserves_others r.rsm move now r c n).0 ∙ a.provision n; life = λ n. (reserves_others r.rsm move now r c n).1 ∙ a.life n };
    }

-- a move that isn't the reservation machine's, and answers nothing under the correlation
pub record Besides (r : Record) (y : Moved) : Type 0 where
  pub same : IsReservationSame r y.rec
  pub says : (c : ℕ) → IsAlone c r → answering c y.out ≡ []
  pub alone : (c : ℕ) → IsAlone c r → IsAlone c y.rec

pub acts_then : (r : Record) (x : Moved) (f : Record → Moved) → Acts r x → Besides x.rec (f x.rec) → Acts r (then_moves x f)
acts_then r x f a b =
    record {
      move = a.move;
      now = a.now;
      own = a.own;
      same = same_then (reserves_if a.move a.now r).rec x.rec (f x.rec).rec a.same b.same;
      says = λ c h. answering_append c x.out (f x.rec).out ∙ ap (λ z. answering c x.out ++ z) (b.says c (a.alone c h)) ∙ append-nil (answering c x.out) ∙ a.says c h;
      alone = λ c h. b.alone c (a.alone c h);
    }

pub besides_acts : (r : Record) (y : Moved) → Besides r y → Acts r y
unfolding answering
besides_acts r y b = record { move = None; now = 0; own = tt; same = b.same; says = b.says; alone = b.alone }

pub besides_stays : (r : Record) → Besides r (stays r)
unfolding answering
besides_stays r = record { same = same_self r; says = λ c a. refl; alone = λ c a. a }

-- what is said of the provision machine was owed by it
provisions_silent : (side : Side) (k : Psm) (move : ProvisionMove) (now : ℕ) (r : Record) (c : ℕ) → r.psm ≡ k → IsOwnProvision (Some move) → ((n : ℕ) → owed_provision k c n r ≡ 0) → answering c (provisions side k move now r).out ≡ []
unfolding provisions provision_step provision_event owed_provision answering is_answering is_asking is_noting kind_number
provisions_silent side k move now r c e h o = let a = o (kind_number Kind.ProvisionConfirmed) in let b = o (kind_number Kind.ReleaseConfirmed) in let d = o (kind_number Kind.Error) in grind (arith, a, b, d, h)

own_none : (move : ProvisionMove) → IsOwnProvision (Some move) → (c : ℕ) → one (is_id (provision_begins move) c) ≡ 0
own_none move h c = ap (λ o. one (is_id o c)) h

pub provisions_besides : (side : Side) (o : Option ProvisionMove) (now : ℕ) (r : Record) → IsOwnProvision o → Besides r (provisions_if side o now r)
provisions_besides side None now r h = besides_stays r
provisions_besides side (Some move) now r h =
    record {
      same = provisions_core side r.psm move now r;
      says = λ c a. provisions_silent side r.psm move now r c refl h a.provision;
      alone = λ c a. record {
        provision = λ n. omega (arith, provisions_owed side r.psm move now r c n refl, a.provision n, own_none move h c);
        life = λ n. (provisions_others side r.psm move now r c n).1 ∙ a.life n;
      };
    }

-- a lifecycle move that an agent makes by itself
abbrev pub IsOwnLife : LifecycleMove → Type 0
IsOwnLife move = lifecycle_begins move ≡ None

lives_silent : (k : Lsm) (move : LifecycleMove) (now : ℕ) (r : Record) (c : ℕ) → r.lsm ≡ k → ((n : ℕ) → owed_life k c n r ≡ 0) → answering c (lives k move now r).out ≡ []
unfolding lives lifecycle_step lifecycle_event owed_life answering is_answering is_asking is_noting kind_number
lives_silent k move now r c e o = let a = o (kind_number Kind.TerminateConfirmed) in grind (arith, a)

pub lives_besides : (move : LifecycleMove) (now : ℕ) (r : Record) → IsOwnLife move → Besides r (lives r.lsm move now r)
lives_besides move now r h =
    record {
      same = lives_core r.lsm move now r;
      says = λ c a. lives_silent r.lsm move now r c refl a.life;
      alone = λ c a. record {
        provision = λ n. (lives_others r.lsm move now r c n).1 ∙ a.provision n;
        life = λ n. omega (arith, lives_owed r.lsm move now r c n refl, a.life n, ap (λ o. one (is_id o c)) h);
      };
    }

pub plane_silent : (told : Bool) (p : Plane) (d now : ℕ) (r : Record) (c : ℕ) → answering c (tells_plane told p d now r).out ≡ []
unfolding tells_plane answering is_answering is_asking is_noting
plane_silent told p d now r c = grind arith

pub plane_owes : (told : Bool) (p : Plane) (d now : ℕ) (r : Record) (c n : ℕ) →
    (owed_provision (tells_plane told p d now r).rec.psm c n (tells_plane told p d now r).rec ≡ owed_provision r.psm c n r) × (owed_life (tells_plane told p d now r).rec.lsm c n (tells_plane told p d now r).rec ≡ owed_life r.lsm c n r)
unfolding tells_plane owed_provision owed_life
plane_owes told p d now r c n = grind arith

pub plane_besides : (told : Bool) (p : Plane) (d now : ℕ) (r : Record) → Besides r (tells_plane told p d now r)
plane_besides told p d now r =
    record {
      same = plane_core told p d now r;
      says = λ c a. plane_silent told p d now r c;
      alone = λ c a. record { provision = λ n. (plane_owes told p d now r c n).0 ∙ a.provision n; life = λ n. (plane_owes told p d now r c n).1 ∙ a.life n };
    }

pub closes_acts : (agent : List ℕ) (side : Side) (now : ℕ) (r : Record) → Acts r (closes agent side now r)
unfolding closes
closes_acts agent side now r =
    let x : Moved = closes_reservation agent now r in
    let y : Moved = then_moves x (λ z. closes_provision agent side now z) in
    acts_then r y (λ z. lives z.lsm LifecycleMove.Done now z)
    (acts_then r x (λ z. closes_provision agent side now z)
    (reserves_acts (reservation_closing r.rsm (plain agent ErrorName.Gone)) now r (closing_own r.rsm (plain agent ErrorName.Gone)))
    (provisions_besides side (provision_closing x.rec.psm (plain agent ErrorName.Gone)) now x.rec (closing_provision_own x.rec.psm (plain agent ErrorName.Gone))))
    (lives_besides LifecycleMove.Done now y.rec refl)

worked_is_own : (k : Rsm) (lack : Option Cause) (agent : List ℕ) (deadline : ℕ) → IsOwn (worked k lack agent deadline)
unfolding worked
worked_is_own k lack agent deadline = grind arith

provided_own : (k : Psm) → IsOwnProvision (provided k)
unfolding provided
provided_own k = grind arith

-- a provider's work
pub works_act : (side : Side) (machine : Machine) (lack : Option Cause) (agent : List ℕ) (deadline now : ℕ) (r : Record) → Acts r (moves_if side (work_of machine r lack agent deadline) now r)
unfolding work_of moves
works_act side Machine.Reserve lack agent deadline now r = by_move (worked r.rsm lack agent deadline) (worked_is_own r.rsm lack agent deadline)
  where
    by_move : (o : Option ReservationMove) → IsOwn o → Acts r (moves_if side (option_map Move.Reservation o) now r)
    by_move None h = acts_stays r
    by_move (Some move) h = reserves_acts (Some move) now r h
works_act side Machine.Provision lack agent deadline now r = by_move (provided r.psm) (provided_own r.psm)
  where
    by_move : (o : Option ProvisionMove) → IsOwnProvision o → Acts r (moves_if side (option_map Move.Provision o) now r)
    by_move None h = acts_stays r
    by_move (Some move) h = besides_acts r (provisions side r.psm move now r) (provisions_besides side (Some move) now r h)
works_act side Machine.Lifecycle lack agent deadline now r = closes_acts agent side now r

-- a forced end
pub force_acts : (side : Side) (d : ℕ) (origin : Origin) (now : ℕ) (r : Record) → Acts r (moves side (Move.Lifecycle (LifecycleMove.Force d origin)) now r)
unfolding moves
force_acts side d origin now r = besides_acts r (lives r.lsm (LifecycleMove.Force d origin) now r) (lives_besides (LifecycleMove.Force d origin) now r refl)

end_besides : (c : Option Criteria) (now : ℕ) (r : Record) → Besides r (lives_if (schedule_end c now) now r)
end_besides c now r = end_if (is_due (end_of c) now)
  where
    end_if : (due : Bool) → Besides r (lives_if (if due then Some LifecycleMove.EndTime else None) now r)
    end_if true = lives_besides LifecycleMove.EndTime now r refl
    end_if false = besides_stays r

-- a tick
pub ticks_act : (live : Bool) (origin : Origin) (now : ℕ) (r : Record) → Acts r (ticks live origin now r)
unfolding ticks
ticks_act false origin now r = acts_stays r
ticks_act true origin now r =
    acts_then r (reserves_if (hold_end r.rsm r.deadline now origin) now r) (λ x. lives_if (schedule_end (last x.committed) now) now x)
    (reserves_acts (hold_end r.rsm r.deadline now origin) now r (hold_own r.rsm r.deadline now origin))
    (end_besides _ now _)

-- and the change of the data plane that is told
pub tells_act : (before : Plane) (d now : ℕ) (r : Record) (x : Moved) → Acts r x → Acts r (tells before d now x)
unfolding tells
tells_act before d now r x a = acts_then r x (λ y. tells_plane (is_told before now y) (status_of now y) d now y) a (plane_besides (is_told before now x.rec) (status_of now x.rec) d now x.rec)
