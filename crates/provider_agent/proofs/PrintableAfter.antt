-- What a good provider says has a spelling.
use Rattle.std.proofs.Common.{◌≡◌, ℕ, Bool, true, false, nat_le, ◌+◌, get_or, List, Option, Some, None, IfSome, arith, refl, subst, length}
use Rattle.std.specs.List.{All}
use Rattle.std.proofs.lemmas.Option.{slice_get-get_or}
use Rattle.nsi_primitive.specs.Messages.{is_request}
use Rattle.nsi_primitive.specs.Printable.{IsPrintable, IsPrintableBody, IsPrintableCause, IsShort, has_further_keys, IsPrintableInput}
use Rattle.nsi_primitive.specs.declared.kind.ErrorName.{ErrorName}
use Rattle.nsi_primitive.specs.declared.state.Lsm.{Lsm}
use Rattle.nsi_primitive.specs.declared.state.Machine.{Machine}
use Rattle.nsi_primitive.specs.declared.state.Psm.{Psm}
use Rattle.nsi_primitive.specs.declared.state.Rsm.{Rsm}
use Rattle.nsi_primitive.specs.declared.state.Side.{Side}
use Rattle.nsi_primitive.specs.declared.message.Body.{Body}
use Rattle.nsi_primitive.specs.declared.message.Cause.{Cause}
use Rattle.nsi_primitive.specs.declared.message.Criteria.{Criteria}
use Rattle.nsi_primitive.specs.declared.message.Message.{Message}
use Rattle.nsi_primitive.specs.declared.entry.Entry.{Entry}
use Rattle.nsi_primitive.specs.declared.entry.Input.{Input}
use Rattle.message_retry.specs.Taken.{is_taken}
use Rattle.capacity_calendar.specs.declared.booking.Lack.{Lack}
use Rattle.reserve_machine.specs.Table.{step as reserve_step}
use Rattle.provision_machine.specs.Table.{step as provision_step}
use Rattle.lifecycle_machine.specs.Table.{step as lifecycle_step}
use Rattle.connection_record.specs.declared.record.Record.{Record}
use Rattle.connection_record.specs.declared.life.LifecycleMove.{LifecycleMove}
use Rattle.connection_record.specs.declared.moves.Origin.{Origin}
use Rattle.connection_record.specs.declared.moves.ReservationMove.{ReservationMove}
use Rattle.connection_record.specs.declared.provisioning.ProvisionMove.{ProvisionMove}
use Rattle.connection_record.specs.declared.apply.Move.{Move}
use Rattle.connection_record.specs.Demand.{last}
use Rattle.connection_record.specs.Lives.{provision_event, lifecycle_event, provisions, provisions_if, lives, lives_if}
use Rattle.connection_record.specs.Moves.{event_of, reserves, reserves_if, worked, hold_end}
use Rattle.connection_record.specs.Refusal.{refusal, modification_refusal, unnamed_refusal}
use Rattle.connection_record.specs.Replies.{plain}
use Rattle.connection_record.specs.Applied.{reservation_closing, provision_closing, moves, moves_if, requested, provided, work_of, schedule_end}
use Rattle.provider_agent.specs.Setting.{Setting}
use Rattle.provider_agent.specs.Others.{first_lack, cause_of, lack_of, lacking}
use Rattle.provider_agent.specs.State.{State, Stepped, record_at, no_record}
use Rattle.agent_state.specs.Entries.{error_reply, query_reply}
use Rattle.nsi_query.specs.Answers.{answer_to}
use Rattle.nsi_query.specs.Laws.{HasShortService}
use Rattle.nsi_query.proofs.Answering.{providers_are_printable}
use Rattle.provider_agent.specs.Steps.{step, receives, works, work_at, forces, force_move, is_forcible, keeps, ticks, taken_at, with_new, is_waiting, may_take, after_if, after, agent_of, own_origin}
use Rattle.provider_agent.specs.Good.{IsGoodRecord, IsGood}
use Rattle.provider_agent.proofs.EachSays.{EachReply, EachMessage, nothing_said, one_said, closes_each, ticked_each, kept_each, ticks_each}
use Rattle.provider_agent.proofs.GoodAfter.{waits_within}
use Rattle.provider_agent.proofs.RequestCases.{seen_with, received_by}
use Rattle.agent_state.proofs.Querying.{replied_by}

---- Replies

-- what a move says has a spelling, where its exception or what is confirmed has one
abbrev IsPrintableReservation : ReservationMove → Record → Type 0
IsPrintableReservation (ReservationMove.Fit deadline) r = IsShort 256 r.service.description × IsShort 128 r.service.global
IsPrintableReservation (ReservationMove.Lack exception) r = IsPrintableCause exception.cause
IsPrintableReservation (ReservationMove.Spoiled exception mixed) r = IsPrintableCause exception.cause
IsPrintableReservation _ r = Unit {0}

abbrev IsPrintableProvision : ProvisionMove → Type 0
IsPrintableProvision (ProvisionMove.Spoiled exception) = IsPrintableCause exception.cause
IsPrintableProvision _ = Unit {0}

abbrev IsPrintableMove : Move → Record → Type 0
IsPrintableMove (Move.Reservation m) r = IsPrintableReservation m r
IsPrintableMove (Move.Provision m) r = IsPrintableProvision m
IsPrintableMove _ r = Unit {0}

reserves_printable : (k : Rsm) (move : ReservationMove) (now : ℕ) (r : Record) → IsPrintableReservation move r → EachReply IsPrintableBody (reserves k move now r).out
unfolding reserves reserve_step event_of
reserves_printable k move now r p = grind arith

provisions_printable : (side : Side) (k : Psm) (move : ProvisionMove) (now : ℕ) (r : Record) → IsPrintableProvision move → EachReply IsPrintableBody (provisions side k move now r).out
unfolding provisions provision_step provision_event
provisions_printable side k move now r p = grind arith

lives_printable : (k : Lsm) (move : LifecycleMove) (now : ℕ) (r : Record) → EachReply IsPrintableBody (lives k move now r).out
unfolding lives lifecycle_step lifecycle_event
lives_printable k move now r = grind arith

reserves_if_printable : (o : Option ReservationMove) (now : ℕ) (r : Record) → IfSome o (λ m. IsPrintableReservation m r) → EachReply IsPrintableBody (reserves_if o now r).out
reserves_if_printable None now r p = tt
reserves_if_printable (Some move) now r p = reserves_printable r.rsm move now r p

provisions_if_printable : (side : Side) (o : Option ProvisionMove) (now : ℕ) (r : Record) → IfSome o IsPrintableProvision → EachReply IsPrintableBody (provisions_if side o now r).out
provisions_if_printable side None now r p = tt
provisions_if_printable side (Some move) now r p = provisions_printable side r.psm move now r p

lives_if_printable : (o : Option LifecycleMove) (now : ℕ) (r : Record) → EachReply IsPrintableBody (lives_if o now r).out
lives_if_printable None now r = tt
lives_if_printable (Some move) now r = lives_printable r.lsm move now r

-- open requests are answered by an error's name alone
closing_reserve_printable : (k : Rsm) (agent : List ℕ) (r : Record) → IfSome (reservation_closing k (plain agent ErrorName.Gone)) (λ m. IsPrintableReservation m r)
unfolding reservation_closing
closing_reserve_printable k agent r = grind arith

closing_provision_printable : (k : Psm) (agent : List ℕ) → IfSome (provision_closing k (plain agent ErrorName.Gone)) IsPrintableProvision
unfolding provision_closing
closing_provision_printable k agent = grind arith

moves_printable : (side : Side) (move : Move) (now : ℕ) (r : Record) → IsPrintableMove move r → EachReply IsPrintableBody (moves side move now r).out
unfolding moves
moves_printable side (Move.Reservation m) now r p = reserves_printable r.rsm m now r p
moves_printable side (Move.Provision m) now r p = provisions_printable side r.psm m now r p
moves_printable side (Move.Lifecycle m) now r p = lives_printable r.lsm m now r
moves_printable side (Move.Close agent) now r p = closes_each IsPrintableBody agent side now r
    (λ x. reserves_if_printable (reservation_closing x.rsm (plain agent ErrorName.Gone)) now x (closing_reserve_printable x.rsm agent x))
    (λ x. provisions_if_printable side (provision_closing x.psm (plain agent ErrorName.Gone)) now x (closing_provision_printable x.psm agent))
    (λ x. lives_printable x.lsm LifecycleMove.Done now x)

moves_if_printable : (side : Side) (o : Option Move) (now : ℕ) (r : Record) → IfSome o (λ m. IsPrintableMove m r) → EachReply IsPrintableBody (moves_if side o now r).out
moves_if_printable side None now r p = tt
moves_if_printable side (Some move) now r p = moves_printable side move now r p

---- Moves

requested_printable : (now : ℕ) (body : Body) (c : ℕ) (r : Record) → IfSome (requested now body c r) (λ m. IsPrintableMove m r)
unfolding requested
requested_printable now body c r = grind arith

hold_end_printable : (k : Rsm) (deadline : Option ℕ) (now : ℕ) (origin : Origin) (r : Record) → IfSome (hold_end k deadline now origin) (λ m. IsPrintableReservation m r)
unfolding hold_end
hold_end_printable k deadline now origin r = grind arith

worked_printable : (machine : Machine) (lack : Option Cause) (agent : List ℕ) (deadline : ℕ) (r : Record) → IsGoodRecord r → IfSome lack IsPrintableCause → IfSome (work_of machine r lack agent deadline) (λ m. IsPrintableMove m r)
unfolding work_of worked provided
worked_printable machine lack agent deadline r g p = grind arith

cause_printable : (passed : Bool) (lack : Option Lack) (r : Record) → IfSome (cause_of passed lack r) IsPrintableCause
cause_printable true lack r = refl
cause_printable false None r = tt
cause_printable false (Some l) r = tt

lacking_printable : (setting : Setting) (s : State) (n : ℕ) → IfSome (lacking setting s n) IsPrintableCause
unfolding lacking
lacking_printable setting s n = by_pending (record_at n s.records).pending
  where
    by_pending : (o : Option Criteria) → IfSome (lack_of o setting s n) IsPrintableCause
    by_pending None = tt
    by_pending (Some c) = cause_printable (nat_le c.interval.end s.now) (first_lack setting n s.records c) (record_at n s.records)

---- Errors

abbrev IsPlain : Option ErrorName → Type 0
IsPlain o = IfSome o (λ error. has_further_keys error ≡ false)

modification_plain : (now : ℕ) (body : Body) (r : Record) → IsPlain (modification_refusal now body r)
unfolding modification_refusal
modification_plain now body r = grind arith

unnamed_plain : (now : ℕ) (body : Body) (stp_of : List ℕ → Option ℕ) → IsPlain (unnamed_refusal now body stp_of)
unfolding unnamed_refusal
unnamed_plain now body stp_of = grind arith

refusal_plain : (now : ℕ) (agent : List ℕ) (stp_of : List ℕ → Option ℕ) (records : List Record) (m : Message) → IsPlain (refusal now agent stp_of records m)
unfolding refusal
refusal_plain now agent stp_of records m = grind (arith, modification_plain, unnamed_plain)

error_plain : (o : Option ErrorName) (error : ErrorName) → IsPlain o → o ≡ Some error → has_further_keys error ≡ false
error_plain o error p e = subst IsPlain e p

---- Entries

abbrev SaysPrintable : Stepped → Type 0
SaysPrintable x = EachMessage IsPrintableBody x.out

printable_kept : (setting : Setting) (s : State) (n : ℕ) (o : Option Move) → IfSome o (λ m. IsPrintableMove m (record_at n s.records)) → SaysPrintable (keeps setting s n (moves_if Side.Provider o s.now (record_at n s.records)))
printable_kept setting s n o p = kept_each IsPrintableBody setting s n (moves_if Side.Provider o s.now (record_at n s.records)) (λ notice. tt) (moves_if_printable Side.Provider o s.now (record_at n s.records) p)

short_texts : (setting : Setting) (s : State) → IsGood setting s → All HasShortService s.records
short_texts setting s g = λ k d lt. let good = g.records k (get_or s.records k d) (slice_get-get_or s.records k d lt) in (good.description, good.global)

printable_received : (setting : Setting) (stp_of : List ℕ → Option ℕ) (s : State) (m : Message) → IsGood setting s → SaysPrintable (receives (is_request m.body) (is_taken m.header s.seen) setting stp_of s m)
printable_received setting stp_of s m g = received_by setting stp_of s m SaysPrintable (record {
  ignored = nothing_said IsPrintableBody;
  unopened = nothing_said IsPrintableBody;
  told = λ q. one_said IsPrintableBody (query_reply setting.name m (answer_to setting.name s.now s.records m))
      (replied_by IsPrintableBody setting.name m (answer_to setting.name s.now s.records m) (λ error plain. plain)
      (λ body e. providers_are_printable setting.name s.now s.records m body (short_texts setting s g) e));
  refused = λ error r. one_said IsPrintableBody (error_reply setting.name m error) (error_plain (refusal s.now setting.name stp_of s.records m) error (refusal_plain s.now setting.name stp_of s.records m) r);
  opened = λ q points e are. taken (with_new setting (seen_with s m) m q points) (length s.records);
  moved = λ n lt fine. taken (seen_with s m) n;
})
  where
    taken : (x : State) (n : ℕ) → SaysPrintable (taken_at setting x n m)
    taken x n =
        let r : Record = record_at n x.records in
        printable_kept setting x n (requested x.now m.body m.header.correlation r) (requested_printable x.now m.body m.header.correlation r)

printable_worked : (b : Bool) (setting : Setting) (s : State) (n : ℕ) (machine : Machine) → is_waiting s n machine ≡ b → IsGood setting s → SaysPrintable (works b setting s n machine)
unfolding works
printable_worked false setting s n machine e g = nothing_said IsPrintableBody
printable_worked true setting s n machine e g =
    let r : Record = record_at n s.records in
    let good = g.records n r (slice_get-get_or s.records n no_record (waits_within s n machine e)) in
    printable_kept setting s n (work_at setting s n machine) (worked_printable machine (lacking setting s n) setting.name (s.now + setting.hold) r good (lacking_printable setting s n))

printable_forced : (b : Bool) (setting : Setting) (s : State) (n : ℕ) → SaysPrintable (forces b setting s n)
unfolding forces
printable_forced false setting s n = nothing_said IsPrintableBody
printable_forced true setting s n = printable_kept setting (record s { next = s.next + 1 }) n (Some (force_move setting s n)) tt

printable_step : (input : Input) (second : ℕ) (setting : Setting) (stp_of : List ℕ → Option ℕ) (s : State) → IsGood setting s → SaysPrintable (step input second setting stp_of s)
unfolding step ticks
printable_step (Input.Got m) second setting stp_of s g = printable_received setting stp_of s m g
printable_step (Input.Work n machine) second setting stp_of s g = printable_worked (is_waiting s n machine) setting s n machine refl g
printable_step (Input.Force n) second setting stp_of s g = printable_forced (is_forcible s n) setting s n
printable_step Input.Tick second setting stp_of s g = ticks_each IsPrintableBody (agent_of setting) s.now second s.next s.records (λ notice. tt)
    (λ r. ticked_each IsPrintableBody (own_origin (agent_of setting) r) second r
    (reserves_if_printable (hold_end r.rsm r.deadline second (own_origin (agent_of setting) r)) second r (hold_end_printable r.rsm r.deadline second (own_origin (agent_of setting) r) r))
    (λ x. lives_if_printable (schedule_end (last x.committed) second) second x))
printable_step _ second setting stp_of s g = nothing_said IsPrintableBody

-- What a good provider says has a spelling.
pub printable_after : (setting : Setting) (stp_of : List ℕ → Option ℕ) (s : State) (e : Entry) → IsGood setting s → IsPrintableInput e.input → All IsPrintable (after setting stp_of s e).out
unfolding after
printable_after setting stp_of s e g p = by_may (may_take s e)
  where
    by_may : (b : Bool) → All IsPrintable (after_if b setting stp_of s e).out
    by_may false = nothing_said IsPrintableBody
    by_may true = printable_step e.input e.second setting stp_of s g
