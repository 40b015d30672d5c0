-- A good provider's work on a reserve is honest, and nothing else causes a refusal for bandwidth.
use Rattle.std.proofs.Common.{◌≡◌, ◌<◌, ◌+◌, ◌⊎◌, inl, inr, ◌∙◌, ℕ, Bool, true, false, ◌&&◌, nat_le, nat_lt, List, [], Option, Some, None, IfSome, arith, refl, sym, ap, subst, length, slice_get, option_map}
use Rattle.std.specs.List.{Contains}
use Rattle.std.proofs.lemmas.Bool.{le-leb, lt-leb, lt-ltb, and_parts, and_from}
use Rattle.std.proofs.lemmas.List.Elements.{All-contains}
use Rattle.std.proofs.lemmas.Option.{slice_get-get_or, slice_get_within, get_or_from_slice_get}
use Rattle.nsi_primitive.specs.Ids.{id_of}
use Rattle.nsi_primitive.specs.Messages.{is_request, has_rows}
use Rattle.nsi_primitive.specs.declared.kind.ErrorName.{ErrorName}
use Rattle.nsi_primitive.specs.declared.state.Lsm.{Lsm}
use Rattle.nsi_primitive.specs.declared.state.Machine.{Machine}
use Rattle.nsi_primitive.specs.declared.state.Psm.{Psm}
use Rattle.nsi_primitive.specs.declared.state.Rsm.{Rsm}
use Rattle.nsi_primitive.specs.declared.state.Side.{Side}
use Rattle.nsi_primitive.specs.declared.message.Body.{Body}
use Rattle.nsi_primitive.specs.declared.message.Cause.{Cause}
use Rattle.nsi_primitive.specs.declared.message.Criteria.{Criteria}
use Rattle.nsi_primitive.specs.declared.message.Message.{Message}
use Rattle.nsi_primitive.specs.declared.entry.Entry.{Entry}
use Rattle.nsi_primitive.specs.declared.entry.Input.{Input}
use Rattle.message_retry.specs.Taken.{is_taken}
use Rattle.capacity_calendar.specs.declared.booking.Lack.{Lack}
use Rattle.reserve_machine.specs.Table.{step as reserve_step}
use Rattle.provision_machine.specs.Table.{step as provision_step}
use Rattle.lifecycle_machine.specs.Table.{step as lifecycle_step}
use Rattle.connection_record.specs.declared.record.Record.{Record}
use Rattle.connection_record.specs.declared.life.LifecycleMove.{LifecycleMove}
use Rattle.connection_record.specs.declared.moves.Origin.{Origin}
use Rattle.connection_record.specs.declared.moves.ReservationMove.{ReservationMove}
use Rattle.connection_record.specs.declared.provisioning.ProvisionMove.{ProvisionMove}
use Rattle.connection_record.specs.declared.apply.Move.{Move}
use Rattle.connection_record.specs.Demand.{last}
use Rattle.connection_record.specs.Lives.{provision_event, lifecycle_event, provisions, provisions_if, lives, lives_if}
use Rattle.connection_record.specs.Moves.{event_of, reserves, reserves_if, worked, fit_or_lack, hold_end, is_live, is_working}
use Rattle.connection_record.specs.Replies.{Moved, confirmation, plain}
use Rattle.connection_record.specs.Applied.{reservation_closing, provision_closing, moves, moves_if, requested, provided, work_of, waits, schedule_end, status_of, tells}
use Rattle.provider_agent.specs.declared.agent.Agent.{Agent}
use Rattle.provider_agent.specs.Setting.{Setting}
use Rattle.provider_agent.specs.Others.{first_lack, bandwidth, cause_of, lack_of, lacking}
use Rattle.provider_agent.specs.State.{State, record_at, no_record}
use Rattle.agent_state.specs.Entries.{error_reply, query_reply}
use Rattle.nsi_query.specs.Answers.{answer_to}
use Rattle.nsi_query.proofs.Answering.{providers_tell_rows}
use Rattle.provider_agent.specs.Steps.{step, receives, works, work_at, forces, force_move, is_forcible, keeps, ticks, taken_at, with_new, messages_of, is_waiting, may_take, after_if, after, agent_of, own_origin}
use Rattle.provider_agent.specs.Safety.{places_of, others_load, said, is_bandwidth, is_refusal, IsHonestWork, IsChecking, IsHonest}
use Rattle.provider_agent.specs.Good.{IsGood}
use Rattle.provider_agent.proofs.Turning.{IsNoCommit, reserves_untold}
use Rattle.provider_agent.proofs.EachSays.{EachReply, EachMessage, EachPlane, nothing_said, one_said, closes_each, ticked_each, kept_each, ticks_each}
use Rattle.provider_agent.proofs.FirstIsOne.{first_lack_found, none_where_room}
use Rattle.provider_agent.proofs.GoodAfter.{waits_within, asked_at}
use Rattle.provider_agent.proofs.RequestCases.{seen_with, received_by}
use Rattle.agent_state.proofs.Querying.{replied_by}

---- Work on a reserve

-- what work on a reserve makes of a record, where this lacks
abbrev tried : Setting → (c now deadline : ℕ) → Option Cause → Record → Moved
tried setting c now deadline lack r = tells (status_of now r) c now (moves_if Side.Provider (work_of Machine.Reserve r lack setting.name deadline) now r)

no_commit : (lack : Option Cause) (agent : List ℕ) (deadline : ℕ) → IsNoCommit (fit_or_lack lack agent deadline)
no_commit None agent deadline = tt
no_commit (Some cause) agent deadline = tt

-- nothing is told of the data plane then
tried_is : (setting : Setting) (c now deadline : ℕ) (lack : Option Cause) (r : Record) → r.rsm ≡ Rsm.ReserveChecking → tried setting c now deadline lack r ≡ reserves r.rsm (fit_or_lack lack setting.name deadline) now r
unfolding work_of worked moves
tried_is setting c now deadline lack r e =
    ap (λ k. tells (status_of now r) c now (moves_if Side.Provider (option_map Move.Reservation (worked k lack setting.name deadline)) now r)) e
    ∙ reserves_untold r.rsm (fit_or_lack lack setting.name deadline) c now r (no_commit lack setting.name deadline)

-- what lacks is told to the owner
says_lack : (setting : Setting) (c now deadline : ℕ) (r : Record) (cause : Cause) → r.rsm ≡ Rsm.ReserveChecking
    → messages_of setting (tried setting c now deadline (Some cause) r) ≡ said setting r (Body.ReserveFailed r.id (record { nsa = setting.name; cause = cause }))
unfolding reserves reserve_step event_of
says_lack setting c now deadline r cause e = ap (messages_of setting) (tried_is setting c now deadline (Some cause) r e) ∙ by_row
  where
    by_row : messages_of setting (reserves r.rsm (fit_or_lack (Some cause) setting.name deadline) now r) ≡ said setting r (Body.ReserveFailed r.id (record { nsa = setting.name; cause = cause }))
    by_row = grind arith

-- and what fits is confirmed
says_fit : (setting : Setting) (c now deadline : ℕ) (r : Record) (criteria : Criteria) → r.rsm ≡ Rsm.ReserveChecking → r.pending ≡ Some criteria
    → messages_of setting (tried setting c now deadline None r) ≡ said setting r (Body.ReserveConfirmed (confirmation r.id r.service criteria))
unfolding reserves reserve_step event_of
says_fit setting c now deadline r criteria e p = ap (messages_of setting) (tried_is setting c now deadline None r e) ∙ by_row
  where
    by_row : messages_of setting (reserves r.rsm (fit_or_lack None setting.name deadline) now r) ≡ said setting r (Body.ReserveConfirmed (confirmation r.id r.service criteria))
    by_row = grind arith

-- what work on the record at a place says
abbrev work_out : Setting → State → ℕ → Machine → List Message
work_out setting s n machine = (keeps setting s n (moves_if Side.Provider (work_at setting s n machine) s.now (record_at n s.records))).out

honest_work : (setting : Setting) (s : State) (n : ℕ) (c : Criteria) → (record_at n s.records).rsm ≡ Rsm.ReserveChecking → (record_at n s.records).pending ≡ Some c → IsHonestWork setting s n (record_at n s.records) c (work_out setting s n Machine.Reserve)
unfolding lacking
honest_work setting s n c e p = record {
  passed = λ late. lacks (Cause.Plain ErrorName.Passed) (lacking_is true (first_lack setting n s.records c) (le-leb c.interval.end s.now late) refl);
  lacking = λ early l f. lacks (bandwidth r l) (lacking_is false (Some l) (lt-leb c.interval.end s.now early) (first_lack_found (others_load s n) (places_of setting r) c.interval c.capacity l f));
  fits = λ early room.
      ap out_with (lacking_is false None (lt-leb c.interval.end s.now early) (none_where_room (others_load s n) (places_of setting r) c.interval c.capacity room))
      ∙ says_fit setting correlation s.now (s.now + setting.hold) r c e p;
}
  where
    r : Record
    r = record_at n s.records

    correlation : ℕ
    correlation = id_of setting.number s.next

    out_with : Option Cause → List Message
    out_with lack = messages_of setting (tried setting correlation s.now (s.now + setting.hold) lack r)

    lacking_is : (passed : Bool) (lack : Option Lack) → nat_le c.interval.end s.now ≡ passed → first_lack setting n s.records c ≡ lack → lacking setting s n ≡ cause_of passed lack r
    lacking_is passed lack t f = ap (λ o. lack_of o setting s n) p ∙ (ap (λ b. cause_of b (first_lack setting n s.records c) r) t ∙ ap (λ l. cause_of passed l r) f)

    lacks : (cause : Cause) → lacking setting s n ≡ Some cause → work_out setting s n Machine.Reserve ≡ said setting r (Body.ReserveFailed r.id (record { nsa = setting.name; cause = cause }))
    lacks cause l = ap out_with l ∙ says_lack setting correlation s.now (s.now + setting.hold) r cause e

---- Where no refusal for bandwidth comes from

-- a body that is no refusal for bandwidth
abbrev IsNoRefusal : Body → Type 0
IsNoRefusal body = is_refusal body ≡ false

no_plane : EachPlane IsNoRefusal
unfolding is_refusal
no_plane notice = refl

-- a move that tells no lack of bandwidth
abbrev IsNoLackReservation : ReservationMove → Type 0
IsNoLackReservation (ReservationMove.Lack exception) = is_bandwidth exception.cause ≡ false
IsNoLackReservation _ = Unit {0}

abbrev IsNoLack : Move → Type 0
IsNoLack (Move.Reservation m) = IsNoLackReservation m
IsNoLack _ = Unit {0}

reserves_quiet : (k : Rsm) (move : ReservationMove) (now : ℕ) (r : Record) → IsNoLackReservation move → EachReply IsNoRefusal (reserves k move now r).out
unfolding reserves reserve_step event_of is_refusal
reserves_quiet k move now r q = grind arith

provisions_quiet : (side : Side) (k : Psm) (move : ProvisionMove) (now : ℕ) (r : Record) → EachReply IsNoRefusal (provisions side k move now r).out
unfolding provisions provision_step provision_event is_refusal
provisions_quiet side k move now r = grind arith

lives_quiet : (k : Lsm) (move : LifecycleMove) (now : ℕ) (r : Record) → EachReply IsNoRefusal (lives k move now r).out
unfolding lives lifecycle_step lifecycle_event is_refusal
lives_quiet k move now r = grind arith

reserves_if_quiet : (o : Option ReservationMove) (now : ℕ) (r : Record) → IfSome o IsNoLackReservation → EachReply IsNoRefusal (reserves_if o now r).out
reserves_if_quiet None now r q = tt
reserves_if_quiet (Some move) now r q = reserves_quiet r.rsm move now r q

provisions_if_quiet : (side : Side) (o : Option ProvisionMove) (now : ℕ) (r : Record) → EachReply IsNoRefusal (provisions_if side o now r).out
provisions_if_quiet side None now r = tt
provisions_if_quiet side (Some move) now r = provisions_quiet side r.psm move now r

lives_if_quiet : (o : Option LifecycleMove) (now : ℕ) (r : Record) → EachReply IsNoRefusal (lives_if o now r).out
lives_if_quiet None now r = tt
lives_if_quiet (Some move) now r = lives_quiet r.lsm move now r

-- the end of a connection answers what is open by GONE
closing_quiet : (k : Rsm) (agent : List ℕ) → IfSome (reservation_closing k (plain agent ErrorName.Gone)) IsNoLackReservation
unfolding reservation_closing
closing_quiet k agent = grind arith

moves_quiet : (side : Side) (move : Move) (now : ℕ) (r : Record) → IsNoLack move → EachReply IsNoRefusal (moves side move now r).out
unfolding moves
moves_quiet side (Move.Reservation m) now r q = reserves_quiet r.rsm m now r q
moves_quiet side (Move.Provision m) now r q = provisions_quiet side r.psm m now r
moves_quiet side (Move.Lifecycle m) now r q = lives_quiet r.lsm m now r
moves_quiet side (Move.Close agent) now r q = closes_each IsNoRefusal agent side now r
    (λ x. reserves_if_quiet (reservation_closing x.rsm (plain agent ErrorName.Gone)) now x (closing_quiet x.rsm agent))
    (λ x. provisions_if_quiet side (provision_closing x.psm (plain agent ErrorName.Gone)) now x)
    (λ x. lives_quiet x.lsm LifecycleMove.Done now x)

moves_if_quiet : (side : Side) (o : Option Move) (now : ℕ) (r : Record) → IfSome o IsNoLack → EachReply IsNoRefusal (moves_if side o now r).out
moves_if_quiet side None now r q = tt
moves_if_quiet side (Some move) now r q = moves_quiet side move now r q

kept_quiet : (setting : Setting) (s : State) (n : ℕ) (o : Option Move) → IfSome o IsNoLack → EachMessage IsNoRefusal (keeps setting s n (moves_if Side.Provider o s.now (record_at n s.records))).out
kept_quiet setting s n o q = kept_each IsNoRefusal setting s n (moves_if Side.Provider o s.now (record_at n s.records)) no_plane (moves_if_quiet Side.Provider o s.now (record_at n s.records) q)

requested_quiet : (now : ℕ) (body : Body) (c : ℕ) (r : Record) → IfSome (requested now body c r) IsNoLack
unfolding requested
requested_quiet now body c r = grind arith

hold_end_quiet : (k : Rsm) (deadline : Option ℕ) (now : ℕ) (origin : Origin) → IfSome (hold_end k deadline now origin) IsNoLackReservation
unfolding hold_end
hold_end_quiet k deadline now origin = grind arith

rows_no_refusal : (body : Body) → has_rows body ≡ true → IsNoRefusal body
unfolding is_refusal
rows_no_refusal body e = grind arith

received_quiet : (setting : Setting) (stp_of : List ℕ → Option ℕ) (s : State) (m : Message) → EachMessage IsNoRefusal (receives (is_request m.body) (is_taken m.header s.seen) setting stp_of s m).out
unfolding is_refusal
received_quiet setting stp_of s m = received_by setting stp_of s m (λ x. EachMessage IsNoRefusal x.out) (record {
  ignored = nothing_said IsNoRefusal;
  unopened = nothing_said IsNoRefusal;
  told = λ q. one_said IsNoRefusal (query_reply setting.name m (answer_to setting.name s.now s.records m))
      (replied_by IsNoRefusal setting.name m (answer_to setting.name s.now s.records m) (λ error plain. refl) (λ body e. rows_no_refusal body (providers_tell_rows setting.name s.now s.records m body e)));
  refused = λ error r. one_said IsNoRefusal (error_reply setting.name m error) refl;
  opened = λ q points e are. taken (with_new setting (seen_with s m) m q points) (length s.records);
  moved = λ n lt fine. taken (seen_with s m) n;
})
  where
    taken : (x : State) (n : ℕ) → EachMessage IsNoRefusal (taken_at setting x n m).out
    taken x n =
        let r : Record = record_at n x.records in
        kept_quiet setting x n (requested x.now m.body m.header.correlation r) (requested_quiet x.now m.body m.header.correlation r)

forced_quiet : (b : Bool) (setting : Setting) (s : State) (n : ℕ) → EachMessage IsNoRefusal (forces b setting s n).out
unfolding forces
forced_quiet false setting s n = nothing_said IsNoRefusal
forced_quiet true setting s n = kept_quiet setting (record s { next = s.next + 1 }) n (Some (force_move setting s n)) tt

ticks_quiet : (setting : Setting) (now : ℕ) (s : State) → EachMessage IsNoRefusal (ticks setting now s).out
unfolding ticks
ticks_quiet setting now s =
    let agent : Agent = agent_of setting in
    ticks_each IsNoRefusal agent s.now now s.next s.records no_plane
    (λ r. ticked_each IsNoRefusal (own_origin agent r) now r
    (reserves_if_quiet (hold_end r.rsm r.deadline now (own_origin agent r)) now r (hold_end_quiet r.rsm r.deadline now (own_origin agent r)))
    (λ x. lives_if_quiet (schedule_end (last x.committed) now) now x))

no_refusal_in : (messages : List Message) (m : Message) → EachMessage IsNoRefusal messages → Contains messages m → is_refusal m.body ≡ true → ⊥
no_refusal_in messages m quiet c is =
    let not : is_refusal m.body ≡ false = All-contains (λ x. IsNoRefusal x.body) messages m quiet c in
    let clash : true ≡ false = sym is ∙ not in
    cc

-- work that isn't on a reserve that is checked refuses nothing for bandwidth
abbrev IsOnChecking : Machine → Record → Type 0
IsOnChecking machine r = (machine ≡ Machine.Reserve) × (r.rsm ≡ Rsm.ReserveChecking)

checking_or_quiet : (machine : Machine) (r : Record) (lack : Option Cause) (agent : List ℕ) (deadline : ℕ) → IsOnChecking machine r ⊎ IfSome (work_of machine r lack agent deadline) IsNoLack
unfolding work_of provided worked
checking_or_quiet Machine.Reserve r lack agent deadline = by_state r.rsm refl
  where
    by_state : (k : Rsm) → r.rsm ≡ k → IsOnChecking Machine.Reserve r ⊎ IfSome (option_map Move.Reservation (worked k lack agent deadline)) IsNoLack
    by_state Rsm.ReserveChecking e = inl (refl, e)
    by_state _ e = inr tt
checking_or_quiet Machine.Provision r lack agent deadline = inr (grind arith)
checking_or_quiet Machine.Lifecycle r lack agent deadline = inr tt

-- work is on a reserve that is checked
record IsCheckedAt (s : State) (n : ℕ) (machine : Machine) : Type 0 where
  machine_is : machine ≡ Machine.Reserve
  own : Record
  record_is : slice_get s.records n ≡ Some own
  checking : own.rsm ≡ Rsm.ReserveChecking
  live : is_live own.lsm ≡ true

waits_live : (machine : Machine) (r : Record) → machine ≡ Machine.Reserve → waits machine r ≡ true → is_live r.lsm ≡ true
unfolding waits
waits_live Machine.Reserve r e h = (and_parts (is_live r.lsm) (is_working r.rsm) h).0
waits_live Machine.Provision r e h = absurd (cc)
waits_live Machine.Lifecycle r e h = absurd (cc)

works_checking : (b : Bool) (setting : Setting) (s : State) (n : ℕ) (machine : Machine) (m : Message) → is_waiting s n machine ≡ b → Contains (works b setting s n machine).out m → is_refusal m.body ≡ true → IsCheckedAt s n machine
unfolding works
works_checking false setting s n machine m w c is = absurd (no_refusal_in [] m (nothing_said IsNoRefusal) c is)
works_checking true setting s n machine m w c is = elim (checking_or_quiet machine r (lacking setting s n) setting.name (s.now + setting.hold)) [
  | inl on ↦ record {
    machine_is = on.0;
    own = r;
    record_is = slice_get-get_or s.records n no_record (waits_within s n machine w);
    checking = on.1;
    live = waits_live machine r on.0 (and_parts (nat_lt n (length s.records)) (waits machine r) w).1;
  }
  | inr q ↦ absurd (no_refusal_in (work_out setting s n machine) m (kept_quiet setting s n (work_at setting s n machine) q) c is)
]
  where
    r : Record
    r = record_at n s.records

step_alone : (i : Input) (setting : Setting) (stp_of : List ℕ → Option ℕ) (s : State) (e : Entry) (m : Message) → e.input ≡ i → Contains (step i e.second setting stp_of s).out m → is_refusal m.body ≡ true → (n : ℕ) × (r : Record) × IsChecking s e n r
unfolding step
step_alone (Input.Got x) setting stp_of s e m w c is = absurd (no_refusal_in (receives (is_request x.body) (is_taken x.header s.seen) setting stp_of s x).out m (received_quiet setting stp_of s x) c is)
step_alone (Input.Work n machine) setting stp_of s e m w c is =
    let at = works_checking (is_waiting s n machine) setting s n machine m refl c is in
    (n, at.own, record { work = w ∙ ap (λ k. Input.Work n k) at.machine_is; record_is = at.record_is; checking = at.checking; live = at.live })
step_alone (Input.Force n) setting stp_of s e m w c is = absurd (no_refusal_in (forces (is_forcible s n) setting s n).out m (forced_quiet (is_forcible s n) setting s n) c is)
step_alone Input.Tick setting stp_of s e m w c is = absurd (no_refusal_in (ticks setting e.second s).out m (ticks_quiet setting e.second s) c is)
step_alone _ setting stp_of s e m w c is = absurd (no_refusal_in [] m (nothing_said IsNoRefusal) c is)

---- Entries

checking_waits : (s : State) (n : ℕ) → n < length s.records → is_live (record_at n s.records).lsm ≡ true → (record_at n s.records).rsm ≡ Rsm.ReserveChecking → is_waiting s n Machine.Reserve ≡ true
unfolding waits is_working
checking_waits s n lt live e =
    let own = record_at n s.records in
    and_from (nat_lt n (length s.records)) (is_live own.lsm && is_working own.rsm) (lt-ltb n (length s.records) lt) (and_from (is_live own.lsm) (is_working own.rsm) live (ap is_working e))

-- An entry that a good provider may take is honest.
pub honest_after : (setting : Setting) (stp_of : List ℕ → Option ℕ) (s : State) (e : Entry) → IsGood setting s → may_take s e ≡ true → IsHonest setting stp_of s e
unfolding after step works
honest_after setting stp_of s e g may = record {
  work = λ n r ch. subst (λ (x : Record). (c : Criteria) × (x.pending ≡ Some c) × IsHonestWork setting s n x c (after setting stp_of s e).out) (at_is n r ch) (at_place n r ch);
  alone = λ m c is. step_alone e.input setting stp_of s e m refl (subst (λ (out : List Message). Contains out m) out_is c) is;
}
  where
    out_is : (after setting stp_of s e).out ≡ (step e.input e.second setting stp_of s).out
    out_is = ap (λ b. (after_if b setting stp_of s e).out) may

    at_is : (n : ℕ) (r : Record) → IsChecking s e n r → record_at n s.records ≡ r
    at_is n r ch = get_or_from_slice_get s.records n r no_record ch.record_is

    work_is : (n : ℕ) (r : Record) → IsChecking s e n r → (after setting stp_of s e).out ≡ work_out setting s n Machine.Reserve
    work_is n r ch =
        let waits = checking_waits s n (slice_get_within s.records n r ch.record_is) (ap (λ (x : Record). is_live x.lsm) (at_is n r ch) ∙ ch.live) (ap (λ (x : Record). x.rsm) (at_is n r ch) ∙ ch.checking) in
        out_is ∙ (ap (λ i. (step i e.second setting stp_of s).out) ch.work ∙ ap (λ b. (works b setting s n Machine.Reserve).out) waits)

    at_place : (n : ℕ) (r : Record) → IsChecking s e n r → (c : Criteria) × ((record_at n s.records).pending ≡ Some c) × IsHonestWork setting s n (record_at n s.records) c (after setting stp_of s e).out
    at_place n r ch =
        let own = record_at n s.records in
        let checking : own.rsm ≡ Rsm.ReserveChecking = ap (λ (x : Record). x.rsm) (at_is n r ch) ∙ ch.checking in
        let there = slice_get-get_or s.records n no_record (slice_get_within s.records n r ch.record_is) in
        let asked = asked_at own.rsm own.pending checking (g.records n own there).asking in
        (asked.0, asked.1, subst (λ out. IsHonestWork setting s n own asked.0 out) (sym (work_is n r ch)) (honest_work setting s n asked.0 checking asked.1))
