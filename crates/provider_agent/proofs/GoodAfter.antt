-- A good provider is good after each entry.
use Rattle.std.proofs.Common.{◌≡◌, ◌≤◌, ◌<◌, ◌+◌, inl, inr, ◌∙◌, ℕ, Bool, true, false, nat_le, nat_lt, List, [], ◌∷◌, ◌++◌, Option, Some, None, IfSome, IsSome, arith, refl, sym, ap, subst, length, length-append, length-set, slice_get, slice_set, option_map}
use Rattle.std.proofs.lemmas.Bool.{ltb-true, and_parts}
use Rattle.std.proofs.lemmas.Bool.Decides.{nat_tests}
use Rattle.std.proofs.lemmas.List.Sums.{sum_by_push}
use Rattle.std.proofs.lemmas.Option.{slice_get-get_or, get_or_from_slice_get, none-some}
use Rattle.nsi_base.specs.Range.{is_covered}
use Rattle.nsi_base.specs.declared.flow.Flow.{Flow}
use Rattle.nsi_primitive.specs.Ids.{id_of}
use Rattle.nsi_primitive.specs.Kinds.{is_both_ways}
use Rattle.nsi_primitive.specs.Messages.{is_request}
use Rattle.nsi_primitive.specs.Printable.{IsPrintable, IsPrintableBody, IsPrintableReserve, IsPrintableInput}
use Rattle.nsi_primitive.specs.declared.plane.Plane.{Plane}
use Rattle.nsi_primitive.specs.declared.state.Machine.{Machine}
use Rattle.nsi_primitive.specs.declared.state.Rsm.{Rsm}
use Rattle.nsi_primitive.specs.declared.state.Side.{Side}
use Rattle.nsi_primitive.specs.declared.message.Cause.{Cause}
use Rattle.nsi_primitive.specs.declared.message.Criteria.{Criteria}
use Rattle.nsi_primitive.specs.declared.message.Header.{Header}
use Rattle.nsi_primitive.specs.declared.message.Message.{Message}
use Rattle.nsi_primitive.specs.declared.message.ReserveRequest.{ReserveRequest}
use Rattle.nsi_primitive.specs.declared.message.Service.{Service}
use Rattle.nsi_primitive.specs.declared.entry.Entry.{Entry}
use Rattle.nsi_primitive.specs.declared.entry.Input.{Input}
use Rattle.message_retry.specs.Taken.{is_taken}
use Rattle.capacity_calendar.specs.declared.booking.Lack.{Lack}
use Rattle.capacity_calendar.specs.Places.{capacity_at, places}
use Rattle.capacity_calendar.proofs.FirstLack.{room_where_none}
use Rattle.capacity_calendar.proofs.Places.{booked_among_places}
use Rattle.connection_record.specs.declared.record.Record.{Record}
use Rattle.connection_record.specs.declared.moves.ReservationMove.{ReservationMove}
use Rattle.connection_record.specs.declared.apply.Move.{Move}
use Rattle.connection_record.specs.Demand.{is_booked, demand, load}
use Rattle.connection_record.specs.Moves.{reserves, worked, fresh, service_of, is_live, is_working}
use Rattle.connection_record.specs.Refusal.{is_created}
use Rattle.connection_record.specs.Replies.{Moved}
use Rattle.connection_record.specs.Applied.{moves, moves_if, requested, waits, is_provisioning, is_terminating, work_of, status_of, is_told, tells}
use Rattle.connection_record.proofs.Growing.{reserves_later}
use Rattle.connection_record.proofs.InOrder.{fresh_in_order}
use Rattle.provider_agent.specs.declared.agent.Agent.{Agent}
use Rattle.provider_agent.specs.Setting.{Setting}
use Rattle.provider_agent.specs.Others.{others, first_lack, cause_of, lack_of, lacking}
use Rattle.provider_agent.specs.State.{State, Stepped, unchanged, record_at, no_record, blank, name_or}
use Rattle.provider_agent.specs.Steps.{step, receives, works, works_at, work_at, forces, force_move, is_forcible, keeps, drawn, ticks, ticks_at, ticks_all, told_at, own_origin, agent_of, taken_at, with_new, is_waiting, may_take, after_if, after}
use Rattle.provider_agent.specs.Good.{is_asking, IsGoodRecord, IsGood, most_drawn}
use Rattle.provider_agent.specs.Working.{works_in, works_among}
use Rattle.provider_agent.proofs.RecordPlaces.{sum_beside, sum_with, push_here}
use Rattle.provider_agent.proofs.Turning.{told_keeps}
use Rattle.provider_agent.proofs.Growing.{moves_if_later, ticked_later, told_later}
use Rattle.provider_agent.proofs.GoodMoves.{IsFitting, reserves_good, moves_if_good, ticked_good, told_good}
use Rattle.provider_agent.proofs.Demands.{IsNoFit, fit_demand, moves_if_demand, ticked_demand, told_demand}
use Rattle.provider_agent.proofs.FittingMoves.{requested_fitting, first_fitting, requested_no_fit, worked_fitting, lack_no_fit, provision_no_fit}
use Rattle.provider_agent.proofs.WaitingWork.{moves_if_works, ticked_works, told_works}
use Rattle.provider_agent.proofs.EachTicked.{each_ticked, each_length, each_sum_le, drawn_le, ticks_drawn}
use Rattle.provider_agent.proofs.SoundRecords.{AreSound, IsTamer, sound_set, sound_push, sound_each, sound_more}
use Rattle.provider_agent.proofs.RequestCases.{seen_with, new_record, received_by}

-- what a step leaves
abbrev pub LeavesSound : Setting → Stepped → Type 0
LeavesSound setting x = AreSound setting x.state.next x.state.records

-- the record at a place
abbrev at : ℕ → State → Record
at n s = record_at n s.records

-- A move of the record at a place leaves the records sound, with the change of the data plane that is told, where it is good and claims no more than there is room for.
sound_turned : (setting : Setting) (s : State) (n : ℕ) (x : Moved) → AreSound setting s.next s.records → n < length s.records → IsGoodRecord x.rec → x.rec.id ≡ (at n s).id
    → ((flow : Flow) (stp t capacity : ℕ) → capacity_at setting.capacities stp flow ≡ Some capacity → load flow stp t (others n s.records) + demand flow stp t x.rec ≤ capacity) → LeavesSound setting (keeps setting s n x)
sound_turned setting s n x sound lt good same room =
    sound_more setting s.next (s.next + drawn told) (slice_set s.records n y.rec)
    (sound_set setting s.next s.records n (at n s) y.rec sound (slice_get-get_or s.records n no_record lt) (told_good before c s.now x good) (told_keeps (λ z. z.id ≡ (at n s).id) before c s.now x (λ notices. same))
    (λ flow stp t capacity k. omega (arith, room flow stp t capacity k, told_demand before c s.now x flow stp t)))
    (omega arith)
  where
    before : Plane
    before = status_of s.now (at n s)

    c : ℕ
    c = id_of setting.number s.next

    told : Bool
    told = is_told before s.now x.rec

    y : Moved
    y = tells before c s.now x

-- A fitting move that raises no demand does.
sound_kept : (setting : Setting) (s : State) (n : ℕ) (o : Option Move) → AreSound setting s.next s.records → n < length s.records → IfSome o (λ m. IsFitting m (at n s)) → IfSome o IsNoFit
    → LeavesSound setting (keeps setting s n (moves_if Side.Provider o s.now (at n s)))
sound_kept setting s n o sound lt fitting no_fit =
    let r : Record = at n s in
    let there = slice_get-get_or s.records n no_record lt in
    sound_turned setting s n (moves_if Side.Provider o s.now r) sound lt (moves_if_good Side.Provider o s.now r (sound.good n r there) fitting) (moves_if_later Side.Provider o s.now r).id
    (λ flow stp t capacity k. omega (arith, sum_beside (demand flow stp t) s.records n r there, sound.capped flow stp t capacity k, moves_if_demand Side.Provider o s.now r flow stp t no_fit))

---- Requests

sound_taken : (setting : Setting) (s : State) (n : ℕ) (m : Message) → AreSound setting s.next s.records → n < length s.records → IfSome (requested s.now m.body m.header.correlation (at n s)) (λ x. IsFitting x (at n s))
    → LeavesSound setting (taken_at setting s n m)
sound_taken setting s n m sound lt fitting =
    sound_kept setting s n (requested s.now m.body m.header.correlation (at n s)) sound lt fitting (requested_no_fit s.now m.body m.header.correlation (at n s))

-- a record as it is made claims nothing
fresh_demand : (id : ℕ) (owner : List ℕ) (q : ReserveRequest) (a b : List ℕ) (source dest : ℕ) (flow : Flow) (stp t : ℕ) → demand flow stp t (fresh id owner (service_of q a b) source dest) ≡ 0
unfolding demand
fresh_demand id owner q a b source dest flow stp t = grind arith

fresh_good : (id : ℕ) (owner : List ℕ) (q : ReserveRequest) (a b : List ℕ) (source dest : ℕ) → IsPrintableReserve q → IsGoodRecord (fresh id owner (service_of q a b) source dest)
fresh_good id owner q a b source dest p = record {
  rising = tt;
  above = tt;
  asking = λ e. absurd (cc);
  description = p.description;
  global = p.global;
  in_order = fresh_in_order id owner (service_of q a b) source dest;
}

sound_new : (setting : Setting) (s : State) (m : Message) (q : ReserveRequest) (points : ℕ × ℕ) → AreSound setting s.next s.records → IsPrintableReserve q → AreSound setting (with_new setting s m q points).next (with_new setting s m q points).records
sound_new setting s m q points sound p =
    sound_push setting s.next s.records (new_record setting s m q points) sound
    (fresh_good (id_of setting.number s.next) m.header.requester q (name_or q.source) (name_or q.dest) points.0 points.1 p) refl
    (fresh_demand (id_of setting.number s.next) m.header.requester q (name_or q.source) (name_or q.dest) points.0 points.1)

sound_opened : (setting : Setting) (s : State) (m : Message) (q : ReserveRequest) (points : ℕ × ℕ) → AreSound setting s.next s.records → IsPrintableReserve q → LeavesSound setting (taken_at setting (with_new setting s m q points) (length s.records) m)
sound_opened setting s m q points sound p =
    sound_taken setting (with_new setting s m q points) (length s.records) m (sound_new setting s m q points sound p) (omega (arith, length-append s.records (new_record setting s m q points ∷ [])))
    (subst (λ (r : Record). IfSome (requested s.now m.body m.header.correlation r) (λ x. IsFitting x r)) (sym there) (first_fitting s.now m.body m.header.correlation (new_record setting s m q points) refl))
  where
    there : record_at (length s.records) (s.records ++ new_record setting s m q points ∷ []) ≡ new_record setting s m q points
    there = get_or_from_slice_get (s.records ++ new_record setting s m q points ∷ []) (length s.records) (new_record setting s m q points) no_record (push_here s.records (new_record setting s m q points))

sound_received : (setting : Setting) (stp_of : List ℕ → Option ℕ) (s : State) (m : Message) → AreSound setting s.next s.records → IsPrintable m → LeavesSound setting (receives (is_request m.body) (is_taken m.header s.seen) setting stp_of s m)
sound_received setting stp_of s m sound p = received_by setting stp_of s m (LeavesSound setting) (record {
  ignored = sound;
  unopened = sound;
  told = λ q. sound;
  refused = λ error r. sound;
  opened = λ q points e are. sound_opened setting (seen_with s m) m q points sound (subst IsPrintableBody e p);
  moved = λ n lt fine. sound_taken setting (seen_with s m) n m sound lt (requested_fitting s.now m.body m.header.correlation (record_at n s.records) fine);
})

---- Work

-- what fits leaves room
fit_room : (setting : Setting) (s : State) (n : ℕ) (c : Criteria) (deadline : Option ℕ) (flow : Flow) (stp t capacity : ℕ) → AreSound setting s.next s.records → slice_get s.records n ≡ Some (at n s) → (at n s).rsm ≡ Rsm.ReserveChecking
    → (at n s).pending ≡ Some c → first_lack setting n s.records c ≡ None → capacity_at setting.capacities stp flow ≡ Some capacity
    → load flow stp t (others n s.records) + demand flow stp t (reserves Rsm.ReserveChecking (ReservationMove.Fit deadline) s.now (at n s)).rec ≤ capacity
fit_room setting s n c deadline flow stp t capacity sound h e p none k = elim (fit_demand deadline s.now (at n s) c flow stp t e p) [
  | inl le ↦ omega (arith, le, sum_beside (demand flow stp t) s.records n (at n s) h, sound.capped flow stp t capacity k)
  | inr new ↦ omega (arith, new.2, room new.0 new.1)
]
  where
    both_ways : Bool
    both_ways = is_both_ways (at n s).service.directionality

    room : is_booked flow stp (at n s) ≡ true → is_covered c.interval t ≡ true → load flow stp t (others n s.records) + c.capacity ≤ capacity
    room booked covered =
        room_where_none (λ f x u. load f x u (others n s.records)) (places setting.capacities (at n s).source (at n s).dest both_ways) c.interval c.capacity none (record { stp = stp; flow = flow; capacity = capacity })
        (booked_among_places setting.capacities (at n s).source (at n s).dest both_ways flow stp capacity k booked) t covered

-- nothing lacks where no cause is found
no_first_lack : (passed : Bool) (lack : Option Lack) (r : Record) → cause_of passed lack r ≡ None → lack ≡ None
no_first_lack true lack r h = absurd (cc)
no_first_lack false None r h = refl
no_first_lack false (Some l) r h = absurd (cc)

sound_fit : (setting : Setting) (s : State) (n deadline : ℕ) (c : Criteria) → AreSound setting s.next s.records → n < length s.records → (at n s).rsm ≡ Rsm.ReserveChecking → (at n s).pending ≡ Some c
    → lack_of (Some c) setting s n ≡ None → LeavesSound setting (keeps setting s n (reserves Rsm.ReserveChecking (ReservationMove.Fit (Some deadline)) s.now (at n s)))
sound_fit setting s n deadline c sound lt e p none =
    let there = slice_get-get_or s.records n no_record lt in
    sound_turned setting s n (reserves Rsm.ReserveChecking (ReservationMove.Fit (Some deadline)) s.now (at n s)) sound lt
    (reserves_good Rsm.ReserveChecking (ReservationMove.Fit (Some deadline)) s.now (at n s) e (sound.good n (at n s) there) tt)
    (reserves_later Rsm.ReserveChecking (ReservationMove.Fit (Some deadline)) s.now (at n s)).id
    (λ flow stp t capacity k. fit_room setting s n c (Some deadline) flow stp t capacity sound there e p (no_first_lack (nat_le c.interval.end s.now) (first_lack setting n s.records c) (at n s) none) k)

-- what is asked while it is checked
pub asked_at : (k : Rsm) (pending : Option Criteria) → k ≡ Rsm.ReserveChecking → (is_asking k ≡ true → IsSome pending) → (c : Criteria) × (pending ≡ Some c)
asked_at k (Some c) e h = (c, refl)
asked_at k None e h = absurd (let no : false ≡ true = h (ap is_asking e) in cc)

sound_works : (setting : Setting) (s : State) (n : ℕ) (machine : Machine) → AreSound setting s.next s.records → n < length s.records → LeavesSound setting (works_at setting s n machine)
unfolding moves work_of worked lacking
sound_works setting s n machine sound lt = by_lack machine (lacking setting s n) refl
  where
    deadline : ℕ
    deadline = s.now + setting.hold

    quiet : (o : Option Move) → IfSome o (λ m. IsFitting m (at n s)) → IfSome o IsNoFit → LeavesSound setting (keeps setting s n (moves_if Side.Provider o s.now (at n s)))
    quiet o fitting no_fit = sound_kept setting s n o sound lt fitting no_fit

    reserved : Rsm → Option Move
    reserved k = option_map Move.Reservation (worked k None setting.name deadline)

    by_state : (k : Rsm) → (at n s).rsm ≡ k → lacking setting s n ≡ None → LeavesSound setting (keeps setting s n (moves_if Side.Provider (reserved k) s.now (at n s)))
    by_state Rsm.ReserveChecking e l =
        let asked = asked_at (at n s).rsm (at n s).pending e (sound.good n (at n s) (slice_get-get_or s.records n no_record lt)).asking in
        subst (λ k. LeavesSound setting (keeps setting s n (reserves k (ReservationMove.Fit (Some deadline)) s.now (at n s)))) (sym e)
        (sound_fit setting s n deadline asked.0 sound lt e asked.1 (sym (ap (λ o. lack_of o setting s n) asked.1) ∙ l))
    by_state k e l = quiet (reserved k) tt tt

    by_lack : (machine : Machine) (lack : Option Cause) → lacking setting s n ≡ lack → LeavesSound setting (keeps setting s n (moves_if Side.Provider (work_of machine (at n s) lack setting.name deadline) s.now (at n s)))
    by_lack machine (Some cause) l = quiet (work_of machine (at n s) (Some cause) setting.name deadline) (worked_fitting machine (Some cause) setting.name deadline (at n s)) (lack_no_fit machine (at n s) cause setting.name deadline)
    by_lack Machine.Reserve None l = by_state (at n s).rsm refl l
    by_lack Machine.Provision None l = quiet (work_of Machine.Provision (at n s) None setting.name deadline) (worked_fitting Machine.Provision None setting.name deadline (at n s)) (provision_no_fit (at n s) None setting.name deadline)
    by_lack Machine.Lifecycle None l = quiet (work_of Machine.Lifecycle (at n s) None setting.name deadline) tt tt

-- what waits is there
pub waits_within : (s : State) (n : ℕ) (machine : Machine) → is_waiting s n machine ≡ true → n < length s.records
waits_within s n machine e = ltb-true n (length s.records) (and_parts (nat_lt n (length s.records)) (waits machine (at n s)) e).0

sound_worked : (b : Bool) (setting : Setting) (s : State) (n : ℕ) (machine : Machine) → is_waiting s n machine ≡ b → AreSound setting s.next s.records → LeavesSound setting (works b setting s n machine)
unfolding works
sound_worked false setting s n machine e sound = sound
sound_worked true setting s n machine e sound = sound_works setting s n machine sound (waits_within s n machine e)

---- A forced end

-- what is ended by force is there
pub forcible_within : (s : State) (n : ℕ) → is_forcible s n ≡ true → n < length s.records
forcible_within s n e = ltb-true n (length s.records) (and_parts (nat_lt n (length s.records)) (is_created (at n s).lsm) e).0

sound_forced : (b : Bool) (setting : Setting) (s : State) (n : ℕ) → is_forcible s n ≡ b → AreSound setting s.next s.records → LeavesSound setting (forces b setting s n)
unfolding forces
sound_forced false setting s n e sound = sound
sound_forced true setting s n e sound =
    sound_kept setting (record s { next = s.next + 1 }) n (Some (force_move setting s n)) (sound_more setting s.next (s.next + 1) s.records sound (omega arith)) (forcible_within s n e) tt tt

---- Time

tamer_ticked : (agent : Agent) (before now c : ℕ) (r : Record) → IsTamer r (told_at agent before now c r).rec
tamer_ticked agent before now c r =
    let x : Moved = ticks_at agent now r in
    let origin = own_origin agent r in
    record {
      good = λ g. told_good (status_of before r) c now x (ticked_good origin now r g);
      id = (told_later (status_of before r) c now r x (ticked_later origin now r)).id;
      less = λ flow stp t. omega (arith, told_demand (status_of before r) c now x flow stp t, ticked_demand origin now r flow stp t);
      works = omega (arith, told_works (status_of before r) c now x, ticked_works origin now r);
    }

sound_ticks : (setting : Setting) (now : ℕ) (s : State) → AreSound setting s.next s.records → LeavesSound setting (ticks setting now s)
unfolding ticks
sound_ticks setting now s sound =
    let agent : Agent = agent_of setting in
    let x = ticks_all agent s.now now s.next s.records in
    sound_more setting s.next x.next x.records
    (sound_each setting s.next s.records x.records sound (each_ticked IsTamer agent s.now now s.next s.records (tamer_ticked agent s.now now)))
    (ticks_drawn agent s.now now s.next s.records).least

---- Entries

sound_step : (input : Input) (second : ℕ) (setting : Setting) (stp_of : List ℕ → Option ℕ) (s : State) → AreSound setting s.next s.records → IsPrintableInput input → LeavesSound setting (step input second setting stp_of s)
unfolding step
sound_step (Input.Got m) second setting stp_of s sound p = sound_received setting stp_of s m sound p
sound_step (Input.Work n machine) second setting stp_of s sound p = sound_worked (is_waiting s n machine) setting s n machine refl sound
sound_step Input.Tick second setting stp_of s sound p = sound_ticks setting second s sound
sound_step (Input.Force n) second setting stp_of s sound p = sound_forced (is_forcible s n) setting s n refl sound
sound_step _ second setting stp_of s sound p = sound

-- A step makes one record and one work at most, and draws few ids.
record GrowsByOne (s : State) (x : Stepped) : Type 0 where
  records : length x.state.records ≤ length s.records + 1
  works : works_among x.state.records ≤ works_among s.records + 1
  next : x.state.next ≤ s.next + most_drawn
  taken : x.state.taken ≡ s.taken

set_length : (records : List Record) (n most : ℕ) (r : Record) → length records ≤ most → length (slice_set records n r) ≤ most
set_length records n most r h = omega (arith, length-set records n r, h)

push_length : (records : List Record) (r : Record) → length (records ++ r ∷ []) ≤ length records + 1
push_length records r = omega (arith, length-append records (r ∷ []))

-- a record that is made has nothing to do
fresh_works : (id : ℕ) (owner : List ℕ) (service : Service) (source dest : ℕ) → works_in (fresh id owner service source dest) ≡ 0
unfolding waits is_live is_working is_provisioning is_terminating
fresh_works id owner service source dest = refl

works_push : (setting : Setting) (s : State) (m : Message) (q : ReserveRequest) (points : ℕ × ℕ) → works_among (s.records ++ new_record setting s m q points ∷ []) ≡ works_among s.records
works_push setting s m q points =
    omega (arith, sum_by_push works_in s.records (new_record setting s m q points), fresh_works (id_of setting.number s.next) m.header.requester (service_of q (name_or q.source) (name_or q.dest)) points.0 points.1)

grows_kept : (setting : Setting) (old s : State) (n : ℕ) (o : Option Move) → n < length s.records → length s.records ≤ length old.records + 1 → works_among s.records ≡ works_among old.records → s.next ≤ old.next + 1 → s.taken ≡ old.taken
    → GrowsByOne old (keeps setting s n (moves_if Side.Provider o s.now (at n s)))
grows_kept setting old s n o lt long works next taken =
    let r : Record = at n s in
    let x : Moved = moves_if Side.Provider o s.now r in
    let c : ℕ = id_of setting.number s.next in
    let y : Record = (tells (status_of s.now r) c s.now x).rec in
    let there = slice_get-get_or s.records n no_record lt in
    record {
      records = set_length s.records n (length old.records + 1) y long;
      works = omega (arith, works, sum_beside works_in s.records n r there, sum_with works_in s.records n r y there, told_works (status_of s.now r) c s.now x, moves_if_works Side.Provider o s.now r);
      next = omega (arith, next, drawn_le (is_told (status_of s.now r) s.now x.rec));
      taken = taken;
    }

grows_received : (setting : Setting) (stp_of : List ℕ → Option ℕ) (s : State) (m : Message) → GrowsByOne s (receives (is_request m.body) (is_taken m.header s.seen) setting stp_of s m)
grows_received setting stp_of s m = received_by setting stp_of s m (GrowsByOne s) (record {
  ignored = still;
  unopened = still;
  told = λ q. record { records = omega arith; works = omega arith; next = omega arith; taken = refl };
  refused = λ error r. record { records = omega arith; works = omega arith; next = omega arith; taken = refl };
  opened = λ q points e are. taken (with_new setting (seen_with s m) m q points) (length s.records) (omega (arith, length-append s.records (new_record setting s m q points ∷ []))) (push_length s.records (new_record setting s m q points))
      (works_push setting s m q points) (omega arith) refl;
  moved = λ n lt fine. taken (seen_with s m) n lt (omega arith) refl (omega arith) refl;
})
  where
    still : {x : List Header} → GrowsByOne s (unchanged (record s { seen = x }))
    still = record { records = omega arith; works = omega arith; next = omega arith; taken = refl }

    taken : (x : State) (n : ℕ) → n < length x.records → length x.records ≤ length s.records + 1 → works_among x.records ≡ works_among s.records → x.next ≤ s.next + 1 → x.taken ≡ s.taken → GrowsByOne s (taken_at setting x n m)
    taken x n lt long works next same = grows_kept setting s x n (requested x.now m.body m.header.correlation (at n x)) lt long works next same

grows_step : (input : Input) (second : ℕ) (setting : Setting) (stp_of : List ℕ → Option ℕ) (s : State) → length s.records ≤ 4194304 → GrowsByOne s (step input second setting stp_of s)
unfolding step works forces ticks
grows_step (Input.Got m) second setting stp_of s few = grows_received setting stp_of s m
grows_step (Input.Work n machine) second setting stp_of s few = worked_by (is_waiting s n machine) refl
  where
    worked_by : (b : Bool) → is_waiting s n machine ≡ b → GrowsByOne s (works b setting s n machine)
    worked_by true e = grows_kept setting s s n (work_at setting s n machine) (waits_within s n machine e) (omega arith) refl (omega arith) refl
    worked_by false e = record { records = omega arith; works = omega arith; next = omega arith; taken = refl }
grows_step (Input.Force n) second setting stp_of s few = forced_by (is_forcible s n) refl
  where
    forced_by : (b : Bool) → is_forcible s n ≡ b → GrowsByOne s (forces b setting s n)
    forced_by true e = grows_kept setting s (record s { next = s.next + 1 }) n (Some (force_move setting s n)) (forcible_within s n e) (omega arith) refl (omega arith) refl
    forced_by false e = record { records = omega arith; works = omega arith; next = omega arith; taken = refl }
grows_step Input.Tick second setting stp_of s few =
    let agent : Agent = agent_of setting in
    let x = ticks_all agent s.now second s.next s.records in
    let each = each_ticked IsTamer agent s.now second s.next s.records (tamer_ticked agent s.now second) in
    record {
      records = omega (arith, each_length IsTamer s.records x.records each);
      works = omega (arith, each_sum_le IsTamer works_in s.records x.records (λ a b tame. tame.works) each);
      next = omega (arith, few, (ticks_drawn agent s.now second s.next s.records).most_is);
      taken = refl;
    }
grows_step _ second setting stp_of s few = record { records = omega arith; works = omega arith; next = omega arith; taken = refl }

-- entries that are taken are few
pub few_taken : (s : State) (e : Entry) → may_take s e ≡ true → s.taken < 4194304
few_taken s e m = grind (arith, nat_tests)

-- A good provider is good after an entry.
pub good_after : (setting : Setting) (stp_of : List ℕ → Option ℕ) (s : State) (e : Entry) → IsGood setting s → IsPrintableInput e.input → IsGood setting (after setting stp_of s e).state
unfolding after
good_after setting stp_of s e g p = by_may (may_take s e) refl
  where
    by_may : (b : Bool) → may_take s e ≡ b → IsGood setting (after_if b setting stp_of s e).state
    by_may false m = g
    by_may true m =
        let sound = sound_step e.input e.second setting stp_of s (record { capped = g.capped; good = g.records; ordered = g.ordered }) p in
        let grows = grows_step e.input e.second setting stp_of s (omega (arith, g.few, few_taken s e m)) in
        record { capped = sound.capped; records = sound.good; ordered = sound.ordered; few = omega (arith, grows.records, grows.taken, g.few); works = omega (arith, grows.works, grows.taken, g.works); drawn = omega (arith, grows.next, grows.taken, g.drawn) }

-- A provider is good before any entry.
pub good_blank : (setting : Setting) → IsGood setting blank
good_blank setting = record {
  capped = λ flow stp t capacity c. omega arith;
  records = λ n r h. absurd (none-some r h);
  ordered = record { rise = λ i j a b lt p q. absurd (none-some a p); below = λ i a p. absurd (none-some a p) };
  few = omega arith;
  works = omega arith;
  drawn = omega arith;
}
