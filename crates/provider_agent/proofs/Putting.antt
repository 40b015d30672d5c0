-- What is held and committed is booked.
use Rattle.std.proofs.Common.{◌≡◌, ◌≢◌, ◌<◌, ℕ, Bool, true, false, cond, nat_le, Option, Some, None, IsSome, is_some, List, length, set, refl, sym, ap, subst, ◌∙◌, arith, option_map}
use Rattle.std.proofs.lemmas.List.{append-nil, set-get_or}
use Rattle.std.proofs.lemmas.Bool.Decides.{nat_tests}
use Rattle.nsi_primitive.specs.declared.state.Lsm.{Lsm}
use Rattle.nsi_primitive.specs.declared.state.Machine.{Machine}
use Rattle.nsi_primitive.specs.declared.state.Rsm.{Rsm}
use Rattle.nsi_primitive.specs.declared.message.Cause.{Cause}
use Rattle.nsi_primitive.specs.declared.message.Criteria.{Criteria}
use Rattle.nsi_primitive.specs.declared.message.Notice.{Notice}
use Rattle.nsi_primitive.specs.declared.plane.Plane.{Plane}
use Rattle.nsi_primitive.specs.declared.state.Side.{Side}
use Rattle.capacity_calendar.specs.declared.booking.Booking.{Booking}
use Rattle.capacity_calendar.specs.declared.booking.Capacity.{Capacity}
use Rattle.capacity_calendar.specs.declared.booking.Lack.{Lack}
use Rattle.capacity_calendar.specs.declared.booking.Slot.{Slot}
use Rattle.capacity_calendar.specs.Load.{others}
use Rattle.capacity_calendar.specs.Plan.{committed_of, pending_of, pending_set, with_pending, settled, HasNoneFrom}
use Rattle.capacity_calendar.proofs.SlotsByNumber as slots
use Rattle.capacity_calendar.proofs.ByNumber.{none_from_others, none_from_pending_set, none_from_with_pending, none_from_settled}
use Rattle.reserve_machine.specs.Table.{step as reserve_step}
use Rattle.connection_record.specs.declared.record.Record.{Record}
use Rattle.connection_record.specs.declared.moves.ReservationMove.{ReservationMove}
use Rattle.connection_record.specs.declared.provisioning.ProvisionMove.{ProvisionMove}
use Rattle.connection_record.specs.declared.apply.Move.{Move}
use Rattle.connection_record.specs.Demand.{last, held, is_terminated}
use Rattle.connection_record.specs.Moves.{event_of, reserves, is_live, committed_with}
use Rattle.connection_record.specs.Applied.{closes, moves, tells, waits, work_of, provided, is_provisioning}
use Rattle.provider_agent.specs.Others.{lack_among, cause_among, cause_of}
use Rattle.provider_agent.specs.State.{State, no_record, record_at}
use Rattle.provider_agent.specs.Steps.{is_waiting}
use Rattle.provider_agent.specs.Kept.{booked, slot_of, with_slot, AreKept}
use Rattle.provider_agent.proofs.Indexing.{closed_ended, waits_ending}
use Rattle.provider_agent.proofs.RecordPlaces.{last_pushed}
use Rattle.provider_agent.proofs.Turning.{told_keeps}
use Rattle.provider_agent.proofs.Moved.{IsSamePlace, same_place, booked_same}
use Rattle.provider_agent.proofs.Keeping.{kept_set, nothing}

---- What waits

pub waiting_within : (s : State) (n : ℕ) (machine : Machine) → is_waiting s n machine ≡ true → n < length s.records
waiting_within s n machine h = grind (arith, nat_tests)

pub waiting_waits : (s : State) (n : ℕ) (machine : Machine) → is_waiting s n machine ≡ true → waits machine (record_at n s.records) ≡ true
waiting_waits s n machine h = grind (arith, nat_tests)

-- a connection whose reservation waits is live
pub waits_live : (r : Record) → waits Machine.Reserve r ≡ true → is_live r.lsm ≡ true
unfolding waits
waits_live r h = grind arith

-- what waits at the provision machine is done
pub provision_work_is : (r : Record) (lack : Option Cause) (agent : List ℕ) (deadline : ℕ) → waits Machine.Provision r ≡ true → work_of Machine.Provision r lack agent deadline ≡ Some (Move.Provision ProvisionMove.Done)
unfolding waits work_of provided is_provisioning
provision_work_is r lack agent deadline h = grind arith

---- A hold

pub no_lack : (capacities : List Capacity) (records : List Record) (now n : ℕ) (c : Criteria) → cause_among capacities records now n (Some c) ≡ None → lack_among capacities records n c ≡ None
no_lack capacities records now n c h = by_test (nat_le c.interval.end now) (lack_among capacities records n c) h
  where
    by_test : (b : Bool) (o : Option Lack) → cause_of b o (record_at n records) ≡ None → o ≡ None
    by_test true o e = cc
    by_test false None e = refl
    by_test false (Some l) e = cc

not_terminated : (lsm : Lsm) → is_live lsm ≡ true → is_terminated lsm ≡ false
unfolding is_live
not_terminated lsm h = grind arith

-- what a live record holds is booked
booked_live : (r : Record) (c : Option Criteria) → is_live r.lsm ≡ true → booked r c ≡ option_map (slot_of r) c
booked_live r c live = ap (λ b. cond b None (option_map (slot_of r) c)) (not_terminated r.lsm live)

fitted_committed : (d : Option ℕ) (now : ℕ) (r : Record) → (reserves Rsm.ReserveChecking (ReservationMove.Fit d) now r).rec.committed ≡ r.committed
unfolding reserves reserve_step event_of
fitted_committed d now r = grind arith

fitted_held : (d : Option ℕ) (now : ℕ) (r : Record) → r.rsm ≡ Rsm.ReserveChecking → held (reserves Rsm.ReserveChecking (ReservationMove.Fit d) now r).rec ≡ r.pending
unfolding reserves reserve_step event_of
fitted_held d now r at = grind arith

held_checking : (r : Record) → r.rsm ≡ Rsm.ReserveChecking → held r ≡ None
held_checking r at = grind arith

-- What fits is booked with the hold.
kept_put : (records : List Record) (bs : List Booking) (n : ℕ) (d : Option ℕ) (now : ℕ) (notices : List Notice) → AreKept records bs → n < length records → (record_at n records).rsm ≡ Rsm.ReserveChecking → is_live (record_at n records).lsm ≡ true
    → AreKept (set records n (record (reserves Rsm.ReserveChecking (ReservationMove.Fit d) now (record_at n records)).rec { notices = notices })) (with_slot n (option_map (slot_of (record_at n records)) (record_at n records).pending) bs)
kept_put records bs n d now notices kept l at live = by_pending r.pending refl
  where
    r : Record
    r = record_at n records

    fitted : Record
    fitted = (reserves Rsm.ReserveChecking (ReservationMove.Fit d) now r).rec

    moved : Record
    moved = record fitted { notices = notices }

    place : IsSamePlace r moved
    place = let p = same_place Rsm.ReserveChecking (ReservationMove.Fit d) now r in record { service = p.service; source = p.source; dest = p.dest; ended = p.ended }

    committed_is : booked r (last r.committed) ≡ booked moved (last moved.committed)
    committed_is = ap (λ cs. booked r (last cs)) (sym (fitted_committed d now r)) ∙ sym (booked_same r moved (last moved.committed) place)

    held_is : option_map (slot_of r) r.pending ≡ booked moved (held moved)
    held_is = sym (booked_live r r.pending live) ∙ (ap (booked r) (sym (fitted_held d now r at)) ∙ sym (booked_same r moved (held moved) place))

    by_pending : (o : Option Criteria) → r.pending ≡ o → AreKept (set records n moved) (with_slot n (option_map (slot_of r) o) bs)
    by_pending None e =
        kept_set records bs bs n moved kept l (kept.committed n l ∙ committed_is)
        (kept.held n l ∙ (ap (booked r) (held_checking r at) ∙ (sym (nothing r) ∙ (ap (option_map (slot_of r)) (sym e) ∙ held_is)))) (λ k differ. (refl, refl)) kept.none
    by_pending (Some c) e =
        kept_set records bs (with_pending n (slot_of r c) bs) n moved kept l (slots.committed_of-with_pending_same n (slot_of r c) bs ∙ (kept.committed n l ∙ committed_is))
        (slots.pending_of-with_pending_same n (slot_of r c) bs ∙ (ap (option_map (slot_of r)) (sym e) ∙ held_is))
        (λ k differ. (slots.committed_of-with_pending_other k n (slot_of r c) bs differ, slots.pending_of-with_pending_other k n (slot_of r c) bs differ))
        (none_from_with_pending (length records) n (slot_of r c) bs l kept.none)

-- a move of the reservation machine, from the state in which it is
pub reserves_in : (k : Rsm) (move : ReservationMove) (now : ℕ) (r : Record) → r.rsm ≡ k → moves Side.Provider (Move.Reservation move) now r ≡ reserves k move now r
unfolding moves
reserves_in k move now r at = ap (λ x. reserves x move now r) at

-- the whole turn
pub kept_fit : (records : List Record) (bs : List Booking) (n : ℕ) (d : Option ℕ) (p : Plane) (c now : ℕ) → AreKept records bs → n < length records → (record_at n records).rsm ≡ Rsm.ReserveChecking → waits Machine.Reserve (record_at n records) ≡ true
    → AreKept (set records n (tells p c now (moves Side.Provider (Move.Reservation (ReservationMove.Fit d)) now (record_at n records))).rec) (with_slot n (option_map (slot_of (record_at n records)) (record_at n records).pending) bs)
kept_fit records bs n d p c now kept l at waiting =
    let r = record_at n records in
    let slots_are = with_slot n (option_map (slot_of r) r.pending) bs in
    let live = waits_live r waiting in
    subst (λ x. AreKept (set records n (tells p c now x).rec) slots_are) (sym (reserves_in Rsm.ReserveChecking (ReservationMove.Fit d) now r at))
    (told_keeps (λ x. AreKept (set records n x) slots_are) p c now (reserves Rsm.ReserveChecking (ReservationMove.Fit d) now r) (λ notices. kept_put records bs n d now notices kept l at live))

-- What was booked for nothing is taken out again.
pub kept_taken_out : (records : List Record) (bs : List Booking) (n : ℕ) (o : Option Slot) → AreKept records bs → n < length records → (record_at n records).rsm ≡ Rsm.ReserveChecking
    → AreKept records (pending_set n None (with_slot n o bs))
kept_taken_out records bs n o kept l at =
    subst (λ rs. AreKept rs (pending_set n None (with_slot n o bs))) (set-get_or records n no_record)
    (kept_set records bs (pending_set n None (with_slot n o bs)) n r kept l (slots.committed_of-pending_set_same n None (with_slot n o bs) ∙ (committed_with_slot o ∙ kept.committed n l))
    (slots.pending_of-unset_same n (with_slot n o bs) ∙ (nothing r ∙ ap (booked r) (sym (held_checking r at))))
    (λ k differ. (slots.committed_of-pending_set_other k n None (with_slot n o bs) differ ∙ committed_beside o k differ, slots.pending_of-pending_set_other k n None (with_slot n o bs) differ ∙ pending_beside o k differ))
    (none_from_pending_set (length records) n None (with_slot n o bs) (none_with o)))
  where
    r : Record
    r = record_at n records

    committed_with_slot : (o : Option Slot) → committed_of n (with_slot n o bs) ≡ committed_of n bs
    committed_with_slot None = refl
    committed_with_slot (Some slot) = slots.committed_of-with_pending_same n slot bs

    committed_beside : (o : Option Slot) (k : ℕ) → k ≢ n → committed_of k (with_slot n o bs) ≡ committed_of k bs
    committed_beside None k differ = refl
    committed_beside (Some slot) k differ = slots.committed_of-with_pending_other k n slot bs differ

    pending_beside : (o : Option Slot) (k : ℕ) → k ≢ n → pending_of k (with_slot n o bs) ≡ pending_of k bs
    pending_beside None k differ = refl
    pending_beside (Some slot) k differ = slots.pending_of-with_pending_other k n slot bs differ

    none_with : (o : Option Slot) → HasNoneFrom (length records) (with_slot n o bs)
    none_with None = kept.none
    none_with (Some slot) = none_from_with_pending (length records) n slot bs l kept.none

---- A commit

held_committing : (r : Record) → r.rsm ≡ Rsm.ReserveCommitting → held r ≡ r.pending
held_committing r at = grind arith

pub is_booked_pending : (records : List Record) (bs : List Booking) (n : ℕ) → AreKept records bs → n < length records → (record_at n records).rsm ≡ Rsm.ReserveCommitting → is_live (record_at n records).lsm ≡ true
    → is_some (record_at n records).pending ≡ true → IsSome (pending_of n bs)
is_booked_pending records bs n kept l at live h =
    let r = record_at n records in
    let is : pending_of n bs ≡ option_map (slot_of r) r.pending = kept.held n l ∙ (ap (booked r) (held_committing r at) ∙ booked_live r r.pending live) in
    subst IsSome (sym is) (mapped r.pending h)
  where
    mapped : (o : Option Criteria) → is_some o ≡ true → IsSome (option_map (slot_of (record_at n records)) o)
    mapped o e = grind arith

done_held : (now : ℕ) (r : Record) → held (reserves Rsm.ReserveCommitting ReservationMove.Done now r).rec ≡ None
unfolding reserves reserve_step event_of
done_held now r = refl

done_committed : (now : ℕ) (r : Record) → (reserves Rsm.ReserveCommitting ReservationMove.Done now r).rec.committed ≡ committed_with r.committed r.pending
unfolding reserves reserve_step event_of
done_committed now r = refl

-- What is committed is booked in place of what was committed before.
kept_commit : (records : List Record) (bs : List Booking) (n now : ℕ) (notices : List Notice) → AreKept records bs → n < length records → (record_at n records).rsm ≡ Rsm.ReserveCommitting → is_live (record_at n records).lsm ≡ true
    → AreKept (set records n (record (reserves Rsm.ReserveCommitting ReservationMove.Done now (record_at n records)).rec { notices = notices })) (cond (is_some (record_at n records).pending) (settled n bs) bs)
kept_commit records bs n now notices kept l at live = by_pending r.pending refl
  where
    r : Record
    r = record_at n records

    moved : Record
    moved = record (reserves Rsm.ReserveCommitting ReservationMove.Done now r).rec { notices = notices }

    place : IsSamePlace r moved
    place = let p = same_place Rsm.ReserveCommitting ReservationMove.Done now r in record { service = p.service; source = p.source; dest = p.dest; ended = p.ended }

    last_of : (cs : List Criteria) (o : Option Criteria) (c : Criteria) → o ≡ Some c → last (committed_with cs o) ≡ Some c
    last_of cs o c e = ap (λ x. last (committed_with cs x)) e ∙ last_pushed cs c

    by_pending : (o : Option Criteria) → r.pending ≡ o → AreKept (set records n moved) (cond (is_some o) (settled n bs) bs)
    by_pending None e =
        kept_set records bs bs n moved kept l
        (kept.committed n l ∙ (ap (λ cs. booked r (last cs)) (sym (done_committed now r ∙ (ap (committed_with r.committed) e ∙ append-nil r.committed))) ∙ sym (booked_same r moved (last moved.committed) place)))
        (kept.held n l ∙ (ap (booked r) (held_committing r at ∙ e) ∙ (sym (nothing r) ∙ (nothing moved ∙ ap (booked moved) (sym (done_held now r)))))) (λ k differ. (refl, refl)) kept.none
    by_pending (Some c) e =
        kept_set records bs (settled n bs) n moved kept l
        (slots.committed_of-settled_same n bs ∙ (kept.held n l ∙ (ap (booked r) (held_committing r at ∙ e ∙ sym (ap last (done_committed now r) ∙ last_of r.committed r.pending c e)) ∙ sym (booked_same r moved (last moved.committed) place))))
        (slots.pending_of-settled_same n bs ∙ (nothing moved ∙ ap (booked moved) (sym (done_held now r))))
        (λ k differ. (slots.committed_of-settled_other k n bs differ, slots.pending_of-settled_other k n bs differ))
        (none_from_settled (length records) n bs kept.none)

-- the whole turn
pub kept_done : (records : List Record) (bs : List Booking) (n : ℕ) (p : Plane) (c now : ℕ) → AreKept records bs → n < length records → (record_at n records).rsm ≡ Rsm.ReserveCommitting → waits Machine.Reserve (record_at n records) ≡ true
    → AreKept (set records n (tells p c now (moves Side.Provider (Move.Reservation ReservationMove.Done) now (record_at n records))).rec) (cond (is_some (record_at n records).pending) (settled n bs) bs)
kept_done records bs n p c now kept l at waiting =
    let r = record_at n records in
    let slots_are = cond (is_some r.pending) (settled n bs) bs in
    let live = waits_live r waiting in
    subst (λ x. AreKept (set records n (tells p c now x).rec) slots_are) (sym (reserves_in Rsm.ReserveCommitting ReservationMove.Done now r at))
    (told_keeps (λ x. AreKept (set records n x) slots_are) p c now (reserves Rsm.ReserveCommitting ReservationMove.Done now r) (λ notices. kept_commit records bs n now notices kept l at live))

---- An end

-- a terminated record books nothing
ended_nothing : (r : Record) (o : Option Criteria) → r.lsm ≡ Lsm.Terminated → None ≡ booked r o
ended_nothing r o at = grind arith

close_ended : (agent : List ℕ) (now : ℕ) (r : Record) → waits Machine.Lifecycle r ≡ true → (closes agent Side.Provider now r).rec.lsm ≡ Lsm.Terminated
close_ended agent now r h = closed_ended agent Side.Provider now r (waits_ending r h)

-- the whole turn: nothing of it is booked any more
pub kept_close : (records : List Record) (bs : List Booking) (n : ℕ) (agent : List ℕ) (p : Plane) (c now : ℕ) → AreKept records bs → n < length records → waits Machine.Lifecycle (record_at n records) ≡ true
    → AreKept (set records n (tells p c now (moves Side.Provider (Move.Close agent) now (record_at n records))).rec) (others n bs)
unfolding moves
kept_close records bs n agent p c now kept l waiting =
    told_keeps (λ x. AreKept (set records n x) (others n bs)) p c now (closes agent Side.Provider now r) (λ notices. ended (record closed { notices = notices }) (close_ended agent now r waiting))
  where
    r : Record
    r = record_at n records

    closed : Record
    closed = (closes agent Side.Provider now r).rec

    ended : (x : Record) → x.lsm ≡ Lsm.Terminated → AreKept (set records n x) (others n bs)
    ended x at =
        kept_set records bs (others n bs) n x kept l (slots.committed_of-others_same n bs ∙ ended_nothing x (last x.committed) at) (slots.pending_of-others_same n bs ∙ ended_nothing x (held x) at)
        (λ k differ. (slots.committed_of-others_other k n bs differ, slots.pending_of-others_other k n bs differ)) (none_from_others (length records) n bs kept.none)
