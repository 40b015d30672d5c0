-- How much work a record has to do: a move makes one more at most, and work on its first machine that waits takes one off.
use Rattle.std.proofs.Common.{◌≡◌, ◌≤◌, ◌+◌, ◌∙◌, ℕ, Bool, true, false, cond, ◌&&◌, List, Option, Some, None, IsSome, arith, refl, sym, ap, option_map, is_some}
use Rattle.std.proofs.lemmas.Bool.{and_parts}
use Rattle.std.proofs.lemmas.Option.{none-some, same_Some}
use Rattle.nsi_primitive.specs.declared.kind.ErrorName.{ErrorName}
use Rattle.nsi_primitive.specs.declared.plane.Plane.{Plane}
use Rattle.nsi_primitive.specs.declared.state.Lsm.{Lsm}
use Rattle.nsi_primitive.specs.declared.state.Machine.{Machine}
use Rattle.nsi_primitive.specs.declared.state.Psm.{Psm}
use Rattle.nsi_primitive.specs.declared.state.Rsm.{Rsm}
use Rattle.nsi_primitive.specs.declared.state.Side.{Side}
use Rattle.nsi_primitive.specs.declared.message.Cause.{Cause}
use Rattle.nsi_primitive.specs.declared.message.Exception.{Exception}
use Rattle.reserve_machine.specs.Table.{step as reserve_step}
use Rattle.provision_machine.specs.Table.{step as provision_step}
use Rattle.lifecycle_machine.specs.Table.{step as lifecycle_step}
use Rattle.connection_record.specs.declared.record.Record.{Record}
use Rattle.connection_record.specs.declared.life.LifecycleMove.{LifecycleMove}
use Rattle.connection_record.specs.declared.moves.Origin.{Origin}
use Rattle.connection_record.specs.declared.moves.ReservationMove.{ReservationMove}
use Rattle.connection_record.specs.declared.provisioning.ProvisionMove.{ProvisionMove}
use Rattle.connection_record.specs.declared.apply.Move.{Move}
use Rattle.connection_record.specs.Demand.{last}
use Rattle.connection_record.specs.Lives.{provision_event, lifecycle_event, provisions, provisions_if, lives, lives_if}
use Rattle.connection_record.specs.Moves.{event_of, reserves, reserves_if, worked, hold_end, is_live, is_working}
use Rattle.connection_record.specs.Replies.{Moved, plain}
use Rattle.connection_record.specs.Applied.{closes_reservation, closes_provision, reservation_closing, provision_closing, closes, moves, moves_if, provided, work_of, first_of, first_machine, has_work, waits, is_provisioning, is_terminating, schedule_end, ticks, ticked, tells}
use Rattle.provider_agent.specs.Good.{is_asking}
use Rattle.provider_agent.specs.Working.{works_in}
use Rattle.provider_agent.proofs.Turning.{told_keeps}

-- 1 where a machine waits
abbrev one_if : Bool → ℕ
one_if b = cond b 1 0

one_if_le : (b : Bool) → one_if b ≤ 1
one_if_le true = omega arith
one_if_le false = omega arith

-- what two states of the machines have to do
works_by : Rsm → Psm → Lsm → ℕ
works_by rsm psm lsm = one_if (is_live lsm && is_working rsm) + (one_if (is_live lsm && is_provisioning psm) + one_if (is_terminating lsm))

works_are : (r : Record) → works_in r ≡ works_by r.rsm r.psm r.lsm
unfolding waits works_by
works_are r = refl

---- One machine

record IsReserving (a b : Record) : Type 0 where
  psm : a.psm ≡ b.psm
  lsm : a.lsm ≡ b.lsm

reserves_machine : (k : Rsm) (move : ReservationMove) (now : ℕ) (r : Record) → IsReserving (reserves k move now r).rec r
unfolding reserves reserve_step event_of
reserves_machine k move now r = grind arith

record IsProvisioning (a b : Record) : Type 0 where
  rsm : a.rsm ≡ b.rsm
  lsm : a.lsm ≡ b.lsm

provisions_machine : (side : Side) (k : Psm) (move : ProvisionMove) (now : ℕ) (r : Record) → IsProvisioning (provisions side k move now r).rec r
unfolding provisions provision_step provision_event
provisions_machine side k move now r = grind arith

record IsLiving (a b : Record) : Type 0 where
  rsm : a.rsm ≡ b.rsm
  psm : a.psm ≡ b.psm

lives_machine : (k : Lsm) (move : LifecycleMove) (now : ℕ) (r : Record) → IsLiving (lives k move now r).rec r
unfolding lives lifecycle_step lifecycle_event
lives_machine k move now r = grind arith

reserving_is : (a b : Record) → IsReserving a b → works_in a ≡ works_by a.rsm b.psm b.lsm
reserving_is a b same = works_are a ∙ (ap (λ p. works_by a.rsm p a.lsm) same.psm ∙ ap (λ l. works_by a.rsm b.psm l) same.lsm)

provisioning_is : (a b : Record) → IsProvisioning a b → works_in a ≡ works_by b.rsm a.psm b.lsm
provisioning_is a b same = works_are a ∙ (ap (λ k. works_by k a.psm a.lsm) same.rsm ∙ ap (λ l. works_by b.rsm a.psm l) same.lsm)

living_is : (a b : Record) → IsLiving a b → works_in a ≡ works_by b.rsm b.psm a.lsm
living_is a b same = works_are a ∙ (ap (λ k. works_by k a.psm a.lsm) same.rsm ∙ ap (λ p. works_by b.rsm p a.lsm) same.psm)

---- One more at most

reserves_works : (k : Rsm) (move : ReservationMove) (now : ℕ) (r : Record) → works_in (reserves k move now r).rec ≤ works_in r + 1
unfolding works_by
reserves_works k move now r =
    let a : Record = (reserves k move now r).rec in
    omega (arith, reserving_is a r (reserves_machine k move now r), works_are r, one_if_le (is_live r.lsm && is_working a.rsm))

provisions_works : (side : Side) (k : Psm) (move : ProvisionMove) (now : ℕ) (r : Record) → works_in (provisions side k move now r).rec ≤ works_in r + 1
unfolding works_by
provisions_works side k move now r =
    let a : Record = (provisions side k move now r).rec in
    omega (arith, provisioning_is a r (provisions_machine side k move now r), works_are r, one_if_le (is_live r.lsm && is_provisioning a.psm))

lives_works : (k : Lsm) (move : LifecycleMove) (now : ℕ) (r : Record) → r.lsm ≡ k → works_in (lives k move now r).rec ≤ works_in r + 1
unfolding lives lifecycle_step lifecycle_event waits is_live is_terminating
lives_works k move now r e = grind (arith, e)

---- No more

closing_reserve_works : (gone : Exception) (now : ℕ) (r : Record) → works_in (reserves_if (reservation_closing r.rsm gone) now r).rec ≤ works_in r
unfolding reservation_closing reserves reserve_step event_of waits is_working
closing_reserve_works gone now r = grind arith

closing_provision_works : (gone : Exception) (side : Side) (now : ℕ) (r : Record) → works_in (provisions_if side (provision_closing r.psm gone) now r).rec ≤ works_in r
unfolding provision_closing provisions provision_step provision_event waits is_provisioning
closing_provision_works gone side now r = grind arith

closes_works : (agent : List ℕ) (side : Side) (now : ℕ) (r : Record) → works_in (closes agent side now r).rec ≤ works_in r + 1
unfolding closes
closes_works agent side now r =
    let gone : Exception = plain agent ErrorName.Gone in
    let a : Moved = closes_reservation agent now r in
    let b : Moved = closes_provision agent side now a.rec in
    omega (arith, closing_reserve_works gone now r, closing_provision_works gone side now a.rec, lives_works b.rec.lsm LifecycleMove.Done now b.rec refl)

-- A move makes one more at most,
pub moves_works : (side : Side) (move : Move) (now : ℕ) (r : Record) → works_in (moves side move now r).rec ≤ works_in r + 1
unfolding moves
moves_works side (Move.Reservation m) now r = reserves_works r.rsm m now r
moves_works side (Move.Provision m) now r = provisions_works side r.psm m now r
moves_works side (Move.Lifecycle m) now r = lives_works r.lsm m now r refl
moves_works side (Move.Close agent) now r = closes_works agent side now r

pub moves_if_works : (side : Side) (o : Option Move) (now : ℕ) (r : Record) → works_in (moves_if side o now r).rec ≤ works_in r + 1
moves_if_works side None now r = omega arith
moves_if_works side (Some move) now r = moves_works side move now r

hold_end_works : (origin : Origin) (now : ℕ) (r : Record) → works_in (reserves_if (hold_end r.rsm r.deadline now origin) now r).rec ≤ works_in r
unfolding hold_end reserves reserve_step event_of waits is_working
hold_end_works origin now r = grind arith

end_time_works : (now : ℕ) (r : Record) → works_in (lives_if (schedule_end (last r.committed) now) now r).rec ≤ works_in r
unfolding lives lifecycle_step lifecycle_event waits is_live is_terminating
end_time_works now r = grind arith

-- a tick makes none,
pub ticked_works : (origin : Origin) (now : ℕ) (r : Record) → works_in (ticked origin now r).rec ≤ works_in r
unfolding ticks
ticked_works origin now r = by_life (is_live r.lsm)
  where
    ended : Record
    ended = (reserves_if (hold_end r.rsm r.deadline now origin) now r).rec

    by_life : (b : Bool) → works_in (ticks b origin now r).rec ≤ works_in r
    by_life false = omega arith
    by_life true = omega (arith, hold_end_works origin now r, end_time_works now ended)

-- and telling the change of the data plane changes nothing of it.
pub told_works : (p : Plane) (c now : ℕ) (x : Moved) → works_in (tells p c now x).rec ≡ works_in x.rec
unfolding waits
told_works p c now x = told_keeps (λ r. works_in r ≡ works_in x.rec) p c now x (λ notices. refl)

---- Work takes one off

-- what is found waits
pub first_waits : (r : Record) (machine : Machine) → first_machine r ≡ Some machine → waits machine r ≡ true
unfolding first_machine
first_waits r machine e = by_tests (waits Machine.Reserve r) (waits Machine.Provision r) (waits Machine.Lifecycle r) refl refl refl e
  where
    by_tests : (a b c : Bool) → waits Machine.Reserve r ≡ a → waits Machine.Provision r ≡ b → waits Machine.Lifecycle r ≡ c → first_of a b c ≡ Some machine → waits machine r ≡ true
    by_tests true b c p q s f = sym (ap (λ m. waits m r) (same_Some Machine.Reserve machine f)) ∙ p
    by_tests false true c p q s f = sym (ap (λ m. waits m r) (same_Some Machine.Provision machine f)) ∙ q
    by_tests false false true p q s f = sym (ap (λ m. waits m r) (same_Some Machine.Lifecycle machine f)) ∙ s
    by_tests false false false p q s f = absurd (none-some machine f)

-- a record that has no work has none to do, and one that has work has some
pub idle_works : (r : Record) → has_work r ≡ false → works_in r ≡ 0
unfolding first_machine
idle_works r e = by_tests (waits Machine.Reserve r) (waits Machine.Provision r) (waits Machine.Lifecycle r) e
  where
    by_tests : (a b c : Bool) → is_some (first_of a b c) ≡ false → one_if a + (one_if b + one_if c) ≡ 0
    by_tests false false false e = refl
    by_tests true b c e = absurd (cc)
    by_tests false true c e = absurd (cc)
    by_tests false false true e = absurd (cc)

pub busy_works : (r : Record) → has_work r ≡ true → 1 ≤ works_in r
unfolding first_machine
busy_works r e = by_tests (waits Machine.Reserve r) (waits Machine.Provision r) (waits Machine.Lifecycle r) e
  where
    by_tests : (a b c : Bool) → is_some (first_of a b c) ≡ true → 1 ≤ one_if a + (one_if b + one_if c)
    by_tests true b c e = omega arith
    by_tests false true c e = omega arith
    by_tests false false true e = omega arith
    by_tests false false false e = absurd (cc)

-- work on the reservation machine leaves it nothing to do
worked_idle : (k : Rsm) (lack : Option Cause) (agent : List ℕ) (deadline now : ℕ) (r : Record) → r.rsm ≡ k → (is_asking k ≡ true → IsSome r.pending) → is_working (moves_if Side.Provider (option_map Move.Reservation (worked k lack agent deadline)) now r).rec.rsm ≡ false
unfolding moves worked reserves reserve_step event_of is_working
worked_idle k lack agent deadline now r e asked = grind (arith, e)

provided_idle : (now : ℕ) (r : Record) → is_provisioning (moves_if Side.Provider (option_map Move.Provision (provided r.psm)) now r).rec.psm ≡ false
unfolding moves provided provisions provision_step provision_event is_provisioning
provided_idle now r = grind arith

reserving_by : (o : Option ReservationMove) (now : ℕ) (r : Record) → IsReserving (moves_if Side.Provider (option_map Move.Reservation o) now r).rec r
unfolding moves
reserving_by None now r = record { psm = refl; lsm = refl }
reserving_by (Some m) now r = reserves_machine r.rsm m now r

provisioning_by : (o : Option ProvisionMove) (now : ℕ) (r : Record) → IsProvisioning (moves_if Side.Provider (option_map Move.Provision o) now r).rec r
unfolding moves
provisioning_by None now r = record { rsm = refl; lsm = refl }
provisioning_by (Some m) now r = provisions_machine Side.Provider r.psm m now r

-- the end of a connection that ends leaves nothing to do
closed_by : (agent : List ℕ) (side : Side) (now : ℕ) (r : Record) → r.lsm ≡ Lsm.Terminating → (closes agent side now r).rec.lsm ≡ Lsm.Terminated
unfolding closes lives lifecycle_step lifecycle_event
closed_by agent side now r e =
    let gone : Exception = plain agent ErrorName.Gone in
    let a : Moved = closes_reservation agent now r in
    let b : Moved = closes_provision agent side now a.rec in
    ap (λ k. (lives k LifecycleMove.Done now b.rec).rec.lsm) (provision_life (provision_closing a.rec.psm gone) a.rec ∙ (reservation_life (reservation_closing r.rsm gone) ∙ e))
  where
    reservation_life : (o : Option ReservationMove) → (reserves_if o now r).rec.lsm ≡ r.lsm
    reservation_life None = refl
    reservation_life (Some m) = (reserves_machine r.rsm m now r).lsm

    provision_life : (o : Option ProvisionMove) (x : Record) → (provisions_if side o now x).rec.lsm ≡ x.lsm
    provision_life None x = refl
    provision_life (Some m) x = (provisions_machine side x.psm m now x).lsm

terminating_is : (k : Lsm) → is_terminating k ≡ true → k ≡ Lsm.Terminating
unfolding is_terminating
terminating_is k e = grind arith

ended_works : (r : Record) → r.lsm ≡ Lsm.Terminated → works_in r ≡ 0
unfolding works_by is_live is_terminating
ended_works r e = works_are r ∙ ap (λ l. works_by r.rsm r.psm l) e

ending_works : (r : Record) → r.lsm ≡ Lsm.Terminating → works_in r ≡ 1
unfolding works_by is_live is_terminating
ending_works r e = works_are r ∙ ap (λ l. works_by r.rsm r.psm l) e

-- Work on the first machine of a record that waits takes its work off, and nothing else.
pub worked_less : (machine : Machine) (lack : Option Cause) (agent : List ℕ) (deadline now : ℕ) (r : Record) → (is_asking r.rsm ≡ true → IsSome r.pending) → waits machine r ≡ true
    → works_in (moves_if Side.Provider (work_of machine r lack agent deadline) now r).rec + 1 ≡ works_in r
unfolding work_of waits works_by moves
worked_less Machine.Reserve lack agent deadline now r asked w =
    let a : Record = (moves_if Side.Provider (option_map Move.Reservation (worked r.rsm lack agent deadline)) now r).rec in
    let was = and_parts (is_live r.lsm) (is_working r.rsm) w in
    omega (arith, reserving_is a r (reserving_by (worked r.rsm lack agent deadline) now r), works_are r, ap one_if w, ap (λ b. one_if (is_live r.lsm && b)) (worked_idle r.rsm lack agent deadline now r refl asked), ap (λ b. one_if (b && false)) was.0)
worked_less Machine.Provision lack agent deadline now r asked w =
    let a : Record = (moves_if Side.Provider (option_map Move.Provision (provided r.psm)) now r).rec in
    let was = and_parts (is_live r.lsm) (is_provisioning r.psm) w in
    omega (arith, provisioning_is a r (provisioning_by (provided r.psm) now r), works_are r, ap one_if w, ap (λ b. one_if (is_live r.lsm && b)) (provided_idle now r), ap (λ b. one_if (b && false)) was.0)
worked_less Machine.Lifecycle lack agent deadline now r asked w =
    let ending = terminating_is r.lsm w in
    omega (arith, ended_works (closes agent Side.Provider now r).rec (closed_by agent Side.Provider now r ending), ending_works r ending)
