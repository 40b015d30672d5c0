-- What work, an end and a tick make a record say is paid by what was left to say.
use Rattle.std.proofs.Common.{ℕ, ◌+◌, ◌*◌, ◌≤◌, ◌≡◌, Bool, true, false, not, List, ◌++◌, ◌&&◌, Option, Some, None, option_map, refl, sym, ap, subst, ◌∙◌, ◌⊎◌, inl, inr, arith, if◌then◌else◌}
use Rattle.nsi_primitive.specs.declared.kind.ErrorName.{ErrorName}
use Rattle.nsi_primitive.specs.declared.message.Body.{Body}
use Rattle.nsi_primitive.specs.declared.message.Cause.{Cause}
use Rattle.nsi_primitive.specs.declared.message.Criteria.{Criteria}
use Rattle.nsi_primitive.specs.declared.message.Exception.{Exception}
use Rattle.nsi_primitive.specs.declared.state.Machine.{Machine}
use Rattle.nsi_primitive.specs.declared.state.Rsm.{Rsm}
use Rattle.nsi_primitive.specs.declared.state.Psm.{Psm}
use Rattle.nsi_primitive.specs.declared.state.Lsm.{Lsm}
use Rattle.nsi_primitive.specs.declared.state.Side.{Side}
use Rattle.reserve_machine.specs.Table.{step as reserve_step}
use Rattle.provision_machine.specs.Table.{step as provision_step}
use Rattle.lifecycle_machine.specs.Table.{step as lifecycle_step}
use Rattle.std.specs.Bool.{beq}
use Rattle.nsi_base.specs.Range.{is_covered}
use Rattle.nsi_primitive.specs.declared.plane.Plane.{Plane}
use Rattle.dataplane_state.specs.Plane.{is_up, is_scheduled, status, announces}
use Rattle.connection_record.specs.declared.record.Record.{Record}
use Rattle.connection_record.specs.declared.moves.Origin.{Origin}
use Rattle.connection_record.specs.declared.moves.ReservationMove.{ReservationMove}
use Rattle.connection_record.specs.declared.provisioning.ProvisionMove.{ProvisionMove}
use Rattle.connection_record.specs.declared.life.LifecycleMove.{LifecycleMove}
use Rattle.connection_record.specs.declared.apply.Move.{Move}
use Rattle.connection_record.specs.Demand.{last}
use Rattle.connection_record.specs.Replies.{Moved, stays, plain}
use Rattle.connection_record.specs.Moves.{event_of, reserves, reserves_if, worked, hold_end, is_due}
use Rattle.connection_record.specs.Lives.{provision_event, lifecycle_event, provisions, provisions_if, lives, lives_if}
use Rattle.connection_record.specs.Applied.{closes, closes_reservation, closes_provision, reservation_closing, provision_closing, moves, moves_if, requested, work_of, provided, waits, is_provisioning, is_terminating, ticks, schedule_end, end_of, is_told, status_of}
use Rattle.connection_record.specs.Speaking.{one}
use Rattle.speech_cost.specs.Costs.{replies_cost, left_reserve, left_provision, left_life, changes, left}
use Rattle.speech_cost.proofs.Paying.{replies_append, reserve_worth, is_done, reserves_psm, reserves_lsm, reserves_committed, few_changes, untold, PaysBy, pays_told, pays_untold, left_provisions, left_lives, reserves_left, provisions_left, lives_left, stays_left, provisions_rsm, provisions_lsm, provisions_committed, lives_rsm, lives_psm, lives_committed}

---- Requests

-- what a request makes a record say
requested_left : (side : Side) (o : Option Move) (body : Body) (c now : ℕ) (r : Record) → requested now body c r ≡ o →
    replies_cost (moves_if side o now r).out + left now (moves_if side o now r).rec ≤ left now r + 16
unfolding moves requested
requested_left side None body c now r e = stays_left 16 now r
requested_left side (Some (Move.Reservation (ReservationMove.Reserve d criteria))) body c now r e = omega (arith, reserves_left (ReservationMove.Reserve d criteria) now now r refl)
requested_left side (Some (Move.Reservation (ReservationMove.Commit d))) body c now r e = omega (arith, reserves_left (ReservationMove.Commit d) now now r refl)
requested_left side (Some (Move.Reservation (ReservationMove.Abort d))) body c now r e = omega (arith, reserves_left (ReservationMove.Abort d) now now r refl)
requested_left side (Some (Move.Provision (ProvisionMove.Provision d))) body c now r e = omega (arith, provisions_left side (ProvisionMove.Provision d) now r)
requested_left side (Some (Move.Provision (ProvisionMove.Release d))) body c now r e = omega (arith, provisions_left side (ProvisionMove.Release d) now r)
requested_left side (Some (Move.Lifecycle (LifecycleMove.Terminate d))) body c now r e = omega (arith, lives_left (LifecycleMove.Terminate d) now r)
requested_left side (Some move) body c now r e = absurd (grind (arith, e))

pub takes_paid : (side : Side) (body : Body) (c now : ℕ) (r : Record) (told : Bool) →
    PaysBy 21 now now r (moves_if side (requested now body c r) now r) told
takes_paid side body c now r told = pays_told 16 now now r (moves_if side (requested now body c r) now r) told (requested_left side (requested now body c r) body c now r refl)

---- Work

-- a move that says nothing of the data plane
still_paid : (move : ReservationMove) (now : ℕ) (r : Record) → is_done move ≡ false → reserve_worth move ≡ 0 →
    PaysBy 0 now now r (reserves r.rsm move now r) (is_told (status_of now r) now (reserves r.rsm move now r).rec)
still_paid move now r d w =
    let x : Moved = reserves r.rsm move now r in
    pays_untold 0 now now r x (is_told (status_of now r) now x.rec) (untold now r x.rec (reserves_psm r.rsm move now r) (reserves_lsm r.rsm move now r) (reserves_committed r.rsm move now r d))
    (omega (arith, reserves_left move now now r d, w))

-- a commit that is carried out
done_left : (now : ℕ) (r : Record) → r.rsm ≡ Rsm.ReserveCommitting →
    replies_cost (reserves Rsm.ReserveCommitting ReservationMove.Done now r).out + left now (reserves Rsm.ReserveCommitting ReservationMove.Done now r).rec + 5 ≤ left now r
unfolding reserves reserve_step event_of replies_cost left left_reserve
done_left now r e =
    let x : Moved = reserves Rsm.ReserveCommitting ReservationMove.Done now r in
    let a = few_changes (last x.rec.committed) now in
    let b : left_reserve r.rsm ≡ left_reserve Rsm.ReserveCommitting = ap left_reserve e in
    omega (arith, a, b)

-- nothing happens
stays_paid : (now : ℕ) (r : Record) → PaysBy 0 now now r (stays r) (is_told (status_of now r) now r)
stays_paid now r = pays_untold 0 now now r (stays r) (is_told (status_of now r) now r) (untold now r r refl refl refl) (stays_left 0 now r)

-- what is said pays for one change of the data plane too
loud : (was now : ℕ) (r : Record) (x : Moved) (told : Bool) → replies_cost x.out + left now x.rec + 5 ≤ left was r → PaysBy 0 was now r x told
loud was now r x told h = record { paid = omega (arith, h, few told) }
  where
    few : (b : Bool) → one b ≤ 1
    few b = grind arith

done_paid : (k : Rsm) (now : ℕ) (r : Record) → r.rsm ≡ k → k ≡ Rsm.ReserveCommitting →
    PaysBy 0 now now r (reserves k ReservationMove.Done now r) (is_told (status_of now r) now (reserves k ReservationMove.Done now r).rec)
done_paid k now r e f =
    subst (λ z. PaysBy 0 now now r (reserves z ReservationMove.Done now r) (is_told (status_of now r) now (reserves z ReservationMove.Done now r).rec)) (sym f)
    (let x : Moved = reserves Rsm.ReserveCommitting ReservationMove.Done now r in loud now now r x (is_told (status_of now r) now x.rec) (done_left now r (e ∙ f)))

abbrev pub Works : Option Move → ℕ → Record → Type 0
Works o now r = PaysBy 0 now now r (moves_if Side.Provider o now r) (is_told (status_of now r) now (moves_if Side.Provider o now r).rec)

reserve_work : (k : Rsm) (lack : Option Cause) (agent : List ℕ) (deadline now : ℕ) (r : Record) → r.rsm ≡ k → Works (option_map Move.Reservation (worked k lack agent deadline)) now r
unfolding moves worked
reserve_work Rsm.ReserveChecking None agent deadline now r e = still_paid (ReservationMove.Fit (Some deadline)) now r refl refl
reserve_work Rsm.ReserveChecking (Some cause) agent deadline now r e = still_paid (ReservationMove.Lack (record { nsa = agent; cause = cause })) now r refl refl
reserve_work Rsm.ReserveCommitting lack agent deadline now r e = done_paid r.rsm now r refl e
reserve_work Rsm.ReserveAborting lack agent deadline now r e = still_paid ReservationMove.Freed now r refl refl
reserve_work _ lack agent deadline now r e = stays_paid now r

provision_done : (side : Side) (k : Psm) (now : ℕ) (r : Record) → is_provisioning k ≡ true →
    replies_cost (provisions side k ProvisionMove.Done now r).out + left_provision (provisions side k ProvisionMove.Done now r).rec.psm + 5 ≤ left_provision k
unfolding provisions provision_step provision_event left_provision replies_cost is_provisioning
provision_done side k now r e = grind (arith, e)

provision_loud : (now : ℕ) (r : Record) → is_provisioning r.psm ≡ true →
    PaysBy 0 now now r (provisions Side.Provider r.psm ProvisionMove.Done now r) (is_told (status_of now r) now (provisions Side.Provider r.psm ProvisionMove.Done now r).rec)
provision_loud now r e =
    let x : Moved = provisions Side.Provider r.psm ProvisionMove.Done now r in
    let h : replies_cost x.out + 5 + left now x.rec ≤ left now r + 0 =
    left_provisions 0 now r x.rec (replies_cost x.out + 5) (provisions_rsm Side.Provider r.psm ProvisionMove.Done now r) (provisions_lsm Side.Provider r.psm ProvisionMove.Done now r)
    (provisions_committed Side.Provider r.psm ProvisionMove.Done now r) (omega (arith, provision_done Side.Provider r.psm now r e))
    in
    loud now now r x (is_told (status_of now r) now x.rec) (omega (arith, h))

provision_work : (k : Psm) (now : ℕ) (r : Record) → r.psm ≡ k → Works (option_map Move.Provision (provided k)) now r
unfolding moves provided is_provisioning
provision_work Psm.Provisioning now r e = provision_loud now r (ap is_provisioning e)
provision_work Psm.Releasing now r e = provision_loud now r (ap is_provisioning e)
provision_work _ now r e = stays_paid now r

---- The end of a connection

abbrev pub is_loud : Lsm → LifecycleMove → Bool
is_loud Lsm.Created (LifecycleMove.Force c origin) = true
is_loud Lsm.Created LifecycleMove.EndTime = true
is_loud Lsm.Terminating LifecycleMove.Done = true
is_loud _ _ = false

life_loud : (k : Lsm) (move : LifecycleMove) (now : ℕ) (r : Record) → is_loud k move ≡ true → replies_cost (lives k move now r).out + left_life (lives k move now r).rec.lsm + 5 ≤ left_life k
unfolding lives lifecycle_step lifecycle_event left_life replies_cost
life_loud k move now r e = grind (arith, e)

pub lives_loud : (move : LifecycleMove) (n now : ℕ) (r : Record) → is_loud r.lsm move ≡ true → replies_cost (lives r.lsm move now r).out + left n (lives r.lsm move now r).rec + 5 ≤ left n r
lives_loud move n now r e =
    let x : Moved = lives r.lsm move now r in
    let h : replies_cost x.out + 5 + left n x.rec ≤ left n r + 0 =
    left_lives 0 n r x.rec (replies_cost x.out + 5) (lives_rsm r.lsm move now r) (lives_psm r.lsm move now r) (lives_committed r.lsm move now r) (omega (arith, life_loud r.lsm move now r e))
    in
    omega (arith, h)

closing_left : (k : Rsm) (gone : Exception) (now : ℕ) (r : Record) → r.rsm ≡ k →
    replies_cost (reserves_if (reservation_closing k gone) now r).out + left now (reserves_if (reservation_closing k gone) now r).rec ≤ left now r
unfolding reservation_closing
closing_left Rsm.ReserveChecking gone now r e = omega (arith, reserves_left (ReservationMove.Lack gone) now now r refl)
closing_left Rsm.ReserveCommitting gone now r e = omega (arith, reserves_left (ReservationMove.Spoiled gone false) now now r refl)
closing_left Rsm.ReserveAborting gone now r e = omega (arith, reserves_left ReservationMove.Freed now now r refl)
closing_left _ gone now r e = omega (arith, stays_left 0 now r)

closing_lsm : (k : Rsm) (gone : Exception) (now : ℕ) (r : Record) → (reserves_if (reservation_closing k gone) now r).rec.lsm ≡ r.lsm
unfolding reservation_closing
closing_lsm Rsm.ReserveChecking gone now r = reserves_lsm r.rsm (ReservationMove.Lack gone) now r
closing_lsm Rsm.ReserveCommitting gone now r = reserves_lsm r.rsm (ReservationMove.Spoiled gone false) now r
closing_lsm Rsm.ReserveAborting gone now r = reserves_lsm r.rsm ReservationMove.Freed now r
closing_lsm _ gone now r = refl

unprovision_left : (side : Side) (k : Psm) (gone : Exception) (now : ℕ) (r : Record) →
    replies_cost (provisions_if side (provision_closing k gone) now r).out + left now (provisions_if side (provision_closing k gone) now r).rec ≤ left now r
unfolding provision_closing
unprovision_left side Psm.Provisioning gone now r = omega (arith, provisions_left side (ProvisionMove.Spoiled gone) now r)
unprovision_left side Psm.Releasing gone now r = omega (arith, provisions_left side (ProvisionMove.Spoiled gone) now r)
unprovision_left side _ gone now r = omega (arith, stays_left 0 now r)

unprovision_lsm : (side : Side) (k : Psm) (gone : Exception) (now : ℕ) (r : Record) → (provisions_if side (provision_closing k gone) now r).rec.lsm ≡ r.lsm
unfolding provision_closing
unprovision_lsm side Psm.Provisioning gone now r = provisions_lsm side r.psm (ProvisionMove.Spoiled gone) now r
unprovision_lsm side Psm.Releasing gone now r = provisions_lsm side r.psm (ProvisionMove.Spoiled gone) now r
unprovision_lsm side _ gone now r = refl

closes_left : (agent : List ℕ) (now : ℕ) (r : Record) → r.lsm ≡ Lsm.Terminating → replies_cost (closes agent Side.Provider now r).out + left now (closes agent Side.Provider now r).rec + 5 ≤ left now r
unfolding closes
closes_left agent now r e =
    let gone : Exception = plain agent ErrorName.Gone in
    let x : Moved = closes_reservation agent now r in
    let y : Moved = closes_provision agent Side.Provider now x.rec in
    let z : Moved = lives y.rec.lsm LifecycleMove.Done now y.rec in
    let f : y.rec.lsm ≡ Lsm.Terminating = unprovision_lsm Side.Provider x.rec.psm gone now x.rec ∙ (closing_lsm r.rsm gone now r ∙ e) in
    omega (
      arith,
      replies_append (x.out ++ y.out) z.out,
      replies_append x.out y.out,
      closing_left r.rsm gone now r refl,
      unprovision_left Side.Provider x.rec.psm gone now x.rec,
      lives_loud LifecycleMove.Done now now y.rec (ap (λ k. is_loud k LifecycleMove.Done) f),
    )

terminating_is : (k : Lsm) → is_terminating k ≡ true → k ≡ Lsm.Terminating
unfolding is_terminating
terminating_is k e = grind (arith, e)

-- what a provider's work makes a record say
pub works_paid : (machine : Machine) (lack : Option Cause) (agent : List ℕ) (deadline now : ℕ) (r : Record) → waits machine r ≡ true → Works (work_of machine r lack agent deadline) now r
unfolding work_of waits moves
works_paid Machine.Reserve lack agent deadline now r e = reserve_work r.rsm lack agent deadline now r refl
works_paid Machine.Provision lack agent deadline now r e = provision_work r.psm now r refl
works_paid Machine.Lifecycle lack agent deadline now r e =
    let x : Moved = closes agent Side.Provider now r in loud now now r x (is_told (status_of now r) now x.rec) (closes_left agent now r (terminating_is r.lsm e))

-- a forced end
pub forces_paid : (c : ℕ) (origin : Origin) (now : ℕ) (r : Record) → is_loud r.lsm (LifecycleMove.Force c origin) ≡ true → Works (Some (Move.Lifecycle (LifecycleMove.Force c origin))) now r
unfolding moves
forces_paid c origin now r e =
    let x : Moved = lives r.lsm (LifecycleMove.Force c origin) now r in
    loud now now r x (is_told (status_of now r) now x.rec) (lives_loud (LifecycleMove.Force c origin) now now r e)

---- Time

told_active : (p q : Plane) → q.version ≡ p.version → q.consistent ≡ p.consistent → announces p q ≡ not (beq p.active q.active)
unfolding announces
told_active p q e f = grind (arith, e, f)

fewer_changes : (c : Option Criteria) (was now : ℕ) → was ≤ now → changes c now ≤ changes c was
unfolding changes
fewer_changes c was now h = grind (arith, h)

switched : (c : Criteria) (was now : ℕ) → was ≤ now → one (not (beq (is_covered c.interval was) (is_covered c.interval now))) + changes (Some c) now ≤ changes (Some c) was
unfolding changes
switched c was now h = grind (arith, h)

-- a schedule that begins or ends takes one change off
scheduled_change : (up : Bool) (c : Option Criteria) (was now : ℕ) → was ≤ now → one (not (beq (up && is_scheduled c was) (up && is_scheduled c now))) + changes c now ≤ changes c was
scheduled_change false c was now h = omega (arith, fewer_changes c was now h)
scheduled_change true None was now h = omega (arith, fewer_changes None was now h)
scheduled_change true (Some c) was now h = switched c was now h

covers_change : (c : Option Criteria) (p : Psm) (k : Lsm) (was now : ℕ) → was ≤ now → one (announces (status p k c was) (status p k c now)) + changes c now ≤ changes c was
unfolding status
covers_change c p k was now h = omega (arith, ap one (told_active (status p k c was) (status p k c now) refl refl), scheduled_change (is_up p k) c was now h)

-- a record that only its clock moves
clock_paid : (was now : ℕ) (r q : Record) → was ≤ now → q.rsm ≡ r.rsm → q.psm ≡ r.psm → q.lsm ≡ r.lsm → q.committed ≡ r.committed → 5 * one (is_told (status_of was r) now q) + left now q ≤ left was r
unfolding left
clock_paid was now r q h d e f g =
    omega (
      arith,
      ap left_reserve d,
      ap left_provision e,
      ap left_life f,
      covers_change (last r.committed) r.psm r.lsm was now h,
      ap (λ cs. changes (last cs) now) g,
      ap one (told_same e f g),
    )
  where
    told_same : q.psm ≡ r.psm → q.lsm ≡ r.lsm → q.committed ≡ r.committed → is_told (status_of was r) now q ≡ announces (status_of was r) (status_of now r)
    told_same e f g = rw (e, f, g) refl

left_later : (was now : ℕ) (r : Record) → was ≤ now → left now r ≤ left was r
unfolding left
left_later was now r h = omega (arith, fewer_changes (last r.committed) was now h)

---- A tick

-- the hold's part of a tick: what it says is paid at any second, and nothing else of the record changes
hold_left : (k : Rsm) (deadline : Option ℕ) (now n : ℕ) (origin : Origin) (r : Record) → let x : Moved = reserves_if (hold_end k deadline now origin) now r in replies_cost x.out + left n x.rec ≤ left n r
unfolding hold_end
hold_left Rsm.ReserveHeld deadline now n origin r = by (is_due deadline now)
  where
    by : (b : Bool) → let x : Moved = reserves_if (if b then Some (ReservationMove.HoldEnd origin) else None) now r in replies_cost x.out + left n x.rec ≤ left n r
    by true = omega (arith, reserves_left (ReservationMove.HoldEnd origin) n now r refl)
    by false = omega (arith, stays_left 0 n r)
hold_left _ deadline now n origin r = omega (arith, stays_left 0 n r)

-- the rest stays
record IsHold (r q : Record) : Type 0 where
  psm : q.psm ≡ r.psm
  lsm : q.lsm ≡ r.lsm
  committed : q.committed ≡ r.committed

hold_rest : (k : Rsm) (deadline : Option ℕ) (now : ℕ) (origin : Origin) (r : Record) → IsHold r (reserves_if (hold_end k deadline now origin) now r).rec
unfolding hold_end
hold_rest Rsm.ReserveHeld deadline now origin r = by (is_due deadline now)
  where
    by : (b : Bool) → IsHold r (reserves_if (if b then Some (ReservationMove.HoldEnd origin) else None) now r).rec
    by true =
        record {
          psm = reserves_psm r.rsm (ReservationMove.HoldEnd origin) now r;
          lsm = reserves_lsm r.rsm (ReservationMove.HoldEnd origin) now r;
          committed = reserves_committed r.rsm (ReservationMove.HoldEnd origin) now r refl;
        }
    by false = record { psm = refl; lsm = refl; committed = refl }
hold_rest _ deadline now origin r = record { psm = refl; lsm = refl; committed = refl }

-- a connection whose schedule is over ends where it is created, and else stays
life_ends : (k : Lsm) (now : ℕ) (r : Record) → r.lsm ≡ k → (is_loud k LifecycleMove.EndTime ≡ true) ⊎ (lives k LifecycleMove.EndTime now r ≡ stays r)
unfolding lives lifecycle_step lifecycle_event
life_ends Lsm.Created now r e = inl refl
life_ends _ now r e = inr refl

-- behind the hold's part, as long as the record was so at the second before
ends_paid : (was now : ℕ) (r q : Record) → was ≤ now → IsHold r q → left was q ≤ left was r → (due : Bool) →
    let x : Moved = lives_if (if due then Some LifecycleMove.EndTime else None) now q in
    replies_cost x.out + (5 * one (is_told (status_of was r) now x.rec) + left now x.rec) ≤ left was q
unfolding replies_cost
ends_paid was now r q h a l false = omega (arith, ap one (told_same a), clock_paid was now q q h refl refl refl refl)
  where
    told_same : IsHold r q → is_told (status_of was r) now q ≡ is_told (status_of was q) now q
    told_same a = rw (a.psm, a.lsm, a.committed) refl
ends_paid was now r q h a l true = ended (life_ends q.lsm now q refl)
  where
    told_same : IsHold r q → is_told (status_of was r) now q ≡ is_told (status_of was q) now q
    told_same a = rw (a.psm, a.lsm, a.committed) refl

    few : (b : Bool) → one b ≤ 1
    few b = grind arith

    ended : (is_loud q.lsm LifecycleMove.EndTime ≡ true) ⊎ (lives q.lsm LifecycleMove.EndTime now q ≡ stays q) →
        let x : Moved = lives q.lsm LifecycleMove.EndTime now q in
        replies_cost x.out + (5 * one (is_told (status_of was r) now x.rec) + left now x.rec) ≤ left was q
    ended (inl e) =
        let x : Moved = lives q.lsm LifecycleMove.EndTime now q in
        omega (arith, few (is_told (status_of was r) now x.rec), lives_loud LifecycleMove.EndTime now now q e, left_later was now q h)
    ended (inr e) =
        subst (λ (x : Moved). replies_cost x.out + (5 * one (is_told (status_of was r) now x.rec) + left now x.rec) ≤ left was q) (sym e)
        (omega (arith, ap one (told_same a), clock_paid was now q q h refl refl refl refl))

pub ticks_paid : (live : Bool) (origin : Origin) (was now : ℕ) (r : Record) → was ≤ now → PaysBy 0 was now r (ticks live origin now r) (is_told (status_of was r) now (ticks live origin now r).rec)
unfolding ticks replies_cost
ticks_paid false origin was now r h = record { paid = omega (arith, clock_paid was now r r h refl refl refl refl) }
ticks_paid true origin was now r h =
    let x : Moved = reserves_if (hold_end r.rsm r.deadline now origin) now r in
    let q : Record = x.rec in
    let y : Moved = lives_if (schedule_end (last q.committed) now) now q in
    let a : replies_cost x.out + left was q ≤ left was r = hold_left r.rsm r.deadline now was origin r in
    let b = ends_paid was now r q h (hold_rest r.rsm r.deadline now origin r) (omega (arith, a)) (is_due (end_of (last q.committed)) now) in
    record { paid = omega (arith, a, b, replies_append x.out y.out) }
