-- What an entry leaves of what a provider has.
use Rattle.std.proofs.Common.{ℕ, ◌+◌, Bool, true, false, List, Option, Some, subst, length}
use Rattle.std.proofs.lemmas.Option.{get_or_from_slice_get}
use Rattle.nsi_primitive.specs.Ids.{id_of}
use Rattle.nsi_primitive.specs.Messages.{is_request}
use Rattle.nsi_primitive.specs.declared.state.Machine.{Machine}
use Rattle.nsi_primitive.specs.declared.state.Side.{Side}
use Rattle.nsi_primitive.specs.declared.message.Message.{Message}
use Rattle.nsi_primitive.specs.declared.message.ReserveRequest.{ReserveRequest}
use Rattle.nsi_primitive.specs.declared.entry.Entry.{Entry}
use Rattle.nsi_primitive.specs.declared.entry.Input.{Input}
use Rattle.message_retry.specs.Taken.{is_taken}
use Rattle.connection_record.specs.declared.record.Record.{Record}
use Rattle.connection_record.specs.declared.apply.Move.{Move}
use Rattle.connection_record.specs.Applied.{moves_if, requested, status_of, tells}
use Rattle.connection_record.specs.Later.{IsLater}
use Rattle.connection_record.proofs.Growing.{later_refl, later_trans, moves_if_later}
use Rattle.agent_state.specs.State.{State, no_record, record_at}
use Rattle.provider_agent.specs.declared.agent.Agent.{Agent}
use Rattle.provider_agent.specs.Setting.{Setting}
use Rattle.provider_agent.specs.Steps.{step, receives, works, work_at, forces, force_move, is_forcible, keeps, ticks, ticks_at, ticks_all, told_at, own_origin, agent_of, taken_at, with_new, is_waiting, may_take, after_if, after}
use Rattle.provider_agent.proofs.EachTicked.{each_ticked, each_old}
use Rattle.provider_agent.proofs.Growing.{ticked_later, told_later}
use Rattle.provider_agent.proofs.RequestCases.{seen_with, new_record, received_by}
use Rattle.run_growth.proofs.Staying.{stay_then, stay_set, stay_push}
use Rattle.run_growth.proofs.Growing.{RecordsStay, records_same}

-- a move of the record at a place, with what is told of its data plane
kept_stay : (setting : Setting) (s : State) (n : ℕ) (o : Option Move) → RecordsStay s.records (keeps setting s n (moves_if Side.Provider o s.now (record_at n s.records))).state.records
kept_stay setting s n o =
    let r : Record = record_at n s.records in
    let c : ℕ = id_of setting.number s.next in
    let q : Record = (tells (status_of s.now r) c s.now (moves_if Side.Provider o s.now r)).rec in
    stay_set IsLater later_refl s.records n q
    (λ x e. subst (λ z. IsLater z q) (get_or_from_slice_get s.records n x no_record e) (told_later (status_of s.now r) c s.now r (moves_if Side.Provider o s.now r) (moves_if_later Side.Provider o s.now r)))

taken_stay : (setting : Setting) (s : State) (n : ℕ) (m : Message) → RecordsStay s.records (taken_at setting s n m).state.records
taken_stay setting s n m = kept_stay setting s n (requested s.now m.body m.header.correlation (record_at n s.records))

opened_stay : (setting : Setting) (s : State) (m : Message) (q : ReserveRequest) (points : ℕ × ℕ) → RecordsStay s.records (taken_at setting (with_new setting s m q points) (length s.records) m).state.records
opened_stay setting s m q points =
    let new : State = with_new setting s m q points in
    stay_then IsLater later_trans s.records new.records (taken_at setting new (length s.records) m).state.records
    (stay_push IsLater later_refl s.records (new_record setting s m q points)) (taken_stay setting new (length s.records) m)

received_stay : (setting : Setting) (stp_of : List ℕ → Option ℕ) (s : State) (m : Message) → RecordsStay s.records (receives (is_request m.body) (is_taken m.header s.seen) setting stp_of s m).state.records
received_stay setting stp_of s m = received_by setting stp_of s m (λ x. RecordsStay s.records x.state.records) (record {
  ignored = records_same s.records;
  unopened = records_same s.records;
  told = λ q. records_same s.records;
  refused = λ error r. records_same s.records;
  opened = λ q points e are. opened_stay setting (seen_with s m) m q points;
  moved = λ n lt fine. taken_stay setting (seen_with s m) n m;
})

worked_stay : (b : Bool) (setting : Setting) (s : State) (n : ℕ) (machine : Machine) → RecordsStay s.records (works b setting s n machine).state.records
unfolding works
worked_stay false setting s n machine = records_same s.records
worked_stay true setting s n machine = kept_stay setting s n (work_at setting s n machine)

forced_stay : (b : Bool) (setting : Setting) (s : State) (n : ℕ) → RecordsStay s.records (forces b setting s n).state.records
unfolding forces
forced_stay false setting s n = records_same s.records
forced_stay true setting s n = kept_stay setting (record s { next = s.next + 1 }) n (Some (force_move setting s n))

ticked_stay : (agent : Agent) (before now c : ℕ) (r : Record) → IsLater r (told_at agent before now c r).rec
ticked_stay agent before now c r = told_later (status_of before r) c now r (ticks_at agent now r) (ticked_later (own_origin agent r) now r)

step_stay : (input : Input) (second : ℕ) (setting : Setting) (stp_of : List ℕ → Option ℕ) (s : State) → RecordsStay s.records (step input second setting stp_of s).state.records
unfolding step ticks
step_stay (Input.Got m) second setting stp_of s = received_stay setting stp_of s m
step_stay (Input.Work n machine) second setting stp_of s = worked_stay (is_waiting s n machine) setting s n machine
step_stay (Input.Force n) second setting stp_of s = forced_stay (is_forcible s n) setting s n
step_stay Input.Tick second setting stp_of s =
    let agent : Agent = agent_of setting in
    let x = ticks_all agent s.now second s.next s.records in
    λ n r h. each_old IsLater s.records x.records n r (each_ticked IsLater agent s.now second s.next s.records (ticked_stay agent s.now second)) h
step_stay _ second setting stp_of s = records_same s.records

pub provider_stays : (setting : Setting) (stp_of : List ℕ → Option ℕ) (s : State) (e : Entry) → RecordsStay s.records (after setting stp_of s e).state.records
unfolding after
provider_stays setting stp_of s e = by_may (may_take s e)
  where
    by_may : (b : Bool) → RecordsStay s.records (after_if b setting stp_of s e).state.records
    by_may false = records_same s.records
    by_may true = step_stay e.input e.second setting stp_of s
