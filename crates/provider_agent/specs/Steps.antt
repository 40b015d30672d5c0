-- One entry at a provider.
use Rattle.std.specs.Prelude.{ℕ, ◌+◌, Bool, true, false, List, [], ◌∷◌, ◌++◌, ◌==◌, ◌&&◌, nat_lt, length, slice_set, Option, Some, None, unwrap_or, option_map, option_and_then, position, if◌then◌else◌}
use Rattle.nsi_primitive.specs.Ids.{id_of}
use Rattle.nsi_primitive.specs.Messages.{is_request, is_query, connection_of}
use Rattle.nsi_primitive.specs.declared.kind.ErrorName.{ErrorName}
use Rattle.nsi_primitive.specs.declared.plane.Plane.{Plane}
use Rattle.nsi_primitive.specs.declared.state.Machine.{Machine}
use Rattle.nsi_primitive.specs.declared.state.Side.{Side}
use Rattle.nsi_primitive.specs.declared.message.Body.{Body}
use Rattle.nsi_primitive.specs.declared.message.Message.{Message}
use Rattle.nsi_primitive.specs.declared.message.ReserveRequest.{ReserveRequest}
use Rattle.nsi_primitive.specs.declared.entry.Entry.{Entry}
use Rattle.nsi_primitive.specs.declared.entry.Input.{Input}
use Rattle.message_retry.specs.Taken.{is_taken, with_taken}
use Rattle.message_retry.specs.Retry.{without}
use Rattle.connection_record.specs.declared.record.Record.{Record}
use Rattle.connection_record.specs.declared.life.LifecycleMove.{LifecycleMove}
use Rattle.connection_record.specs.declared.moves.Origin.{Origin}
use Rattle.connection_record.specs.declared.apply.Move.{Move}
use Rattle.connection_record.specs.Replies.{Moved, addressed}
use Rattle.connection_record.specs.Moves.{fresh, service_of}
use Rattle.connection_record.specs.Applied.{moves, moves_if, requested, waits, first_machine, has_work, work_of, ticked, status_of, is_told, tells}
use Rattle.connection_record.specs.Refusal.{is_created, refusal, place_of, points_of}
use Rattle.nsi_query.specs.Answers.{answer_to}
use Rattle.agent_state.specs.Entries.{is_on_time, most_entries, error_reply, query_reply}
use Rattle.provider_agent.specs.declared.agent.Agent.{Agent}
use Rattle.provider_agent.specs.Setting.{Setting}
use Rattle.provider_agent.specs.Others.{lacking}
use Rattle.provider_agent.specs.State.{State, Stepped, unchanged, says, counts, record_at, name_or}

---- One record

-- what a record says, under the owner's header
abbrev pub messages_by : List ℕ → Moved → List Message
messages_by name x = addressed name x.rec.owner x.out

abbrev pub messages_of : Setting → Moved → List Message
messages_of setting x = messages_by setting.name x

-- a record's move is put in its place
abbrev pub put_back : Setting → State → ℕ → Moved → Stepped
put_back setting s n x = says (record s { records = slice_set s.records n x.rec }) (messages_of setting x)

-- one id is drawn for each change of a data plane that is told
abbrev pub drawn : Bool → ℕ
drawn told = if told then 1 else 0

-- a move of a record, and the change of its data plane, which is told under the agent's next id
abbrev pub turned : Plane → Setting → State → ℕ → Moved → Stepped
turned before setting s n x =
    put_back setting (record s { next = s.next + drawn (is_told before s.now x.rec) }) n (tells before (id_of setting.number s.next) s.now x)

-- a move of the record at a place is put back, with what it changes of its data plane
abbrev pub keeps : Setting → State → ℕ → Moved → Stepped
keeps setting s n x = turned (status_of s.now (record_at n s.records)) setting s n x

-- a move of the record at a place
abbrev pub moves_at : Move → ℕ → Setting → State → Stepped
moves_at move n setting s = keeps setting s n (moves Side.Provider move s.now (record_at n s.records))

-- a request that isn't refused moves the record at a place
abbrev pub taken_at : Setting → State → ℕ → Message → Stepped
taken_at setting s n m = keeps setting s n (moves_if Side.Provider (requested s.now m.body m.header.correlation (record_at n s.records)) s.now (record_at n s.records))

-- a first reserve makes a record between the two points, under the agent's next id
abbrev pub with_new : Setting → State → Message → ReserveRequest → ℕ × ℕ → State
with_new setting s m q points =
    record s {
      records = s.records ++ fresh (id_of setting.number s.next) m.header.requester (service_of q (name_or q.source) (name_or q.dest)) points.0 points.1 ∷ [];
      next = s.next + 1;
    }

---- Requests

abbrev pub opens_between : Option (ℕ × ℕ) → Setting → State → Message → ReserveRequest → Stepped
opens_between None setting s m q = unchanged s
opens_between (Some points) setting s m q = taken_at setting (with_new setting s m q points) (length s.records) m

abbrev pub opens : Body → Setting → (List ℕ → Option ℕ) → State → Message → Stepped
opens (Body.Reserve q) setting stp_of s m = opens_between (points_of stp_of q) setting s m q
opens _ setting stp_of s m = unchanged s

-- a request that isn't refused: one without a connection opens one
abbrev pub accepts : Option ℕ → Setting → (List ℕ → Option ℕ) → State → Message → Stepped
accepts None setting stp_of s m = opens m.body setting stp_of s m
accepts (Some id) setting stp_of s m = taken_at setting s (unwrap_or (place_of id m.header.requester s.records) 0) m

abbrev pub answers : Option ErrorName → Setting → (List ℕ → Option ℕ) → State → Message → Stepped
answers (Some error) setting stp_of s m = says s (error_reply setting.name m error ∷ [])
answers None setting stp_of s m = accepts (connection_of m.body) setting stp_of s m

-- whether a request of that requester, provider and correlationId was taken before; a message that is no request is never counted
abbrev pub is_seen : State → Message → Bool
is_seen s m = is_request m.body && is_taken m.header s.seen

-- a query is answered at once by what the agent has, which stays as it is; every other request is one to do something
abbrev pub serves : (is_query : Bool) → Setting → (List ℕ → Option ℕ) → State → Message → Stepped
serves true setting stp_of s m = says s (query_reply setting.name m (answer_to setting.name s.now s.records m) ∷ [])
serves false setting stp_of s m = answers (refusal s.now setting.name stp_of s.records m) setting stp_of s m

-- a request is taken once; a message that isn't a request changes nothing
unfoldable pub receives : (is_request is_taken : Bool) → Setting → (List ℕ → Option ℕ) → State → Message → Stepped
receives true false setting stp_of s m = serves (is_query m.body) setting stp_of (record s { seen = with_taken m.header s.seen }) m
receives _ _ setting stp_of s m = unchanged s

---- Work

abbrev pub is_waiting : State → ℕ → Machine → Bool
is_waiting s n machine = nat_lt n (length s.records) && waits machine (record_at n s.records)

-- the move that work on a machine of the record at a place makes
abbrev pub work_at : Setting → State → ℕ → Machine → Option Move
work_at setting s n machine = work_of machine (record_at n s.records) (lacking setting s n) setting.name (s.now + setting.hold)

abbrev pub works_at : Setting → State → ℕ → Machine → Stepped
works_at setting s n machine = keeps setting s n (moves_if Side.Provider (work_at setting s n machine) s.now (record_at n s.records))

-- work that doesn't wait changes nothing
unfoldable pub works : (is_waiting : Bool) → Setting → State → ℕ → Machine → Stepped
works true setting s n machine = works_at setting s n machine
works false setting s n machine = unchanged s

abbrev pub machine_at : ℕ → List Record → Option (ℕ × Machine)
machine_at n records = option_map (λ machine. (n, machine)) (first_machine (record_at n records))

-- the first record that has work to do, and its first machine that has
abbrev pub first_waiting : List Record → Option (ℕ × Machine)
first_waiting records = option_and_then (λ n. machine_at n records) (position has_work records)

abbrev pub waiting_work : State → Option (ℕ × Machine)
waiting_work s = first_waiting s.records

---- A forced end

abbrev pub agent_of : Setting → Agent
agent_of setting = record { name = setting.name; number = setting.number; hold = setting.hold }

abbrev pub own_origin : Agent → Record → Origin
own_origin agent r = record { connection = r.id; nsa = agent.name; value = agent.hold }

-- a connection that can be ended by force: it is created
abbrev pub is_forcible : State → ℕ → Bool
is_forcible s n = nat_lt n (length s.records) && is_created (record_at n s.records).lsm

-- the notification has the agent's next id
abbrev pub force_move : Setting → State → ℕ → Move
force_move setting s n = Move.Lifecycle (LifecycleMove.Force (id_of setting.number s.next) (own_origin (agent_of setting) (record_at n s.records)))

abbrev pub forces_at : Setting → State → ℕ → Stepped
forces_at setting s n = keeps setting (record s { next = s.next + 1 }) n (moves Side.Provider (force_move setting s n) s.now (record_at n s.records))

-- a connection that has ended, or is about to, isn't ended by force
unfoldable pub forces : (is_forcible : Bool) → Setting → State → ℕ → Stepped
forces true setting s n = forces_at setting s n
forces false setting s n = unchanged s

---- Time

-- what a tick makes of a record, the change of its data plane since the last second apart
abbrev pub ticks_at : Agent → ℕ → Record → Moved
ticks_at agent now r = ticked (own_origin agent r) now r

-- whether its data plane is another since the second before
abbrev pub is_told_at : Agent → (before now : ℕ) → Record → Bool
is_told_at agent before now r = is_told (status_of before r) now (ticks_at agent now r).rec

-- the whole tick of a record, under the id that is drawn for the change of its data plane
abbrev pub told_at : Agent → (before now correlation : ℕ) → Record → Moved
told_at agent before now correlation r = tells (status_of before r) correlation now (ticks_at agent now r)

-- records after a tick, what they say, and the number of the next id then
pub record Ticked : Type 0 where
  pub records : List Record
  pub out : List Message
  pub next : ℕ

abbrev pub no_ticks : ℕ → Ticked
no_ticks next = record { records = []; out = []; next = next }

abbrev pub tick_more : Agent → Moved → Ticked → Ticked
tick_more agent x rest = record { records = x.rec ∷ rest.records; out = messages_by agent.name x ++ rest.out; next = rest.next }

-- each record in order is asked
unfoldable pub ticks_all : Agent → (before now next : ℕ) → List Record → Ticked
ticks_all agent before now next [] = no_ticks next
ticks_all agent before now next (r ∷ rs) =
    tick_more agent (told_at agent before now (id_of agent.number next) r) (ticks_all agent before now (next + drawn (is_told_at agent before now r)) rs)

abbrev pub with_ticks : ℕ → State → Ticked → Stepped
with_ticks now s x = says (record s { now = now; records = x.records; next = x.next }) x.out

-- the clock goes on
unfoldable pub ticks : Setting → ℕ → State → Stepped
ticks setting now s = with_ticks now s (ticks_all (agent_of setting) s.now now s.next s.records)

---- One entry

-- a provider has no asks of its own
abbrev pub is_for_provider : Input → Bool
is_for_provider (Input.Ask _ _) = false
is_for_provider _ = true

abbrev pub may_take : State → Entry → Bool
may_take s e = nat_lt s.taken most_entries && (is_for_provider e.input && is_on_time e.input e.second s.now)

unfoldable pub step : Input → ℕ → Setting → (List ℕ → Option ℕ) → State → Stepped
step (Input.Got m) second setting stp_of s = receives (is_request m.body) (is_taken m.header s.seen) setting stp_of s m
step (Input.Work n machine) second setting stp_of s = works (is_waiting s n machine) setting s n machine
step Input.Tick second setting stp_of s = ticks setting second s
step (Input.Force n) second setting stp_of s = forces (is_forcible s n) setting s n
step (Input.Acked i) second setting stp_of s = unchanged (record s { waiting = without i s.waiting })
step (Input.Ask _ _) second setting stp_of s = unchanged s

abbrev pub after_if : Bool → Setting → (List ℕ → Option ℕ) → State → Entry → Stepped
after_if true setting stp_of s e = counts (step e.input e.second setting stp_of s)
after_if false setting stp_of s e = unchanged s

-- an entry that may not be taken changes nothing
unfoldable pub after : Setting → (List ℕ → Option ℕ) → State → Entry → Stepped
after setting stp_of s e = after_if (may_take s e) setting stp_of s e
