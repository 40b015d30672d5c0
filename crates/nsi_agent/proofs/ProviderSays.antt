-- What a provider says goes in its own name to the owner of a record, or to whom a request came from, and is no request.
use Rattle.std.proofs.Common.{◌≡◌, ◌<◌, ◌+◌, ℕ, Bool, true, false, List, [], ◌∷◌, length, Option, Some, None, refl, sym, subst, arith}
use Rattle.std.specs.List.{All}
use Rattle.std.proofs.lemmas.List.{length_push}
use Rattle.std.proofs.lemmas.List.Elements.{All-nil, All-cons, All-append, All-head, All-tail, All-set, All-get_or}
use Rattle.nsi_primitive.specs.Ids.{id_of}
use Rattle.nsi_primitive.specs.Messages.{is_request}
use Rattle.nsi_primitive.specs.declared.entry.Input.{Input}
use Rattle.nsi_primitive.specs.declared.kind.ErrorName.{ErrorName}
use Rattle.nsi_primitive.specs.declared.state.Lsm.{Lsm}
use Rattle.nsi_primitive.specs.declared.state.Machine.{Machine}
use Rattle.nsi_primitive.specs.declared.state.Psm.{Psm}
use Rattle.nsi_primitive.specs.declared.state.Rsm.{Rsm}
use Rattle.nsi_primitive.specs.declared.state.Side.{Side}
use Rattle.nsi_primitive.specs.declared.message.Body.{Body}
use Rattle.nsi_primitive.specs.declared.message.Header.{Header}
use Rattle.nsi_primitive.specs.declared.message.Message.{Message}
use Rattle.nsi_primitive.specs.declared.message.ReserveRequest.{ReserveRequest}
use Rattle.message_retry.specs.Taken.{is_taken}
use Rattle.reserve_machine.specs.Table.{step as reserve_step}
use Rattle.provision_machine.specs.Table.{step as provision_step}
use Rattle.lifecycle_machine.specs.Table.{step as lifecycle_step}
use Rattle.connection_record.specs.declared.record.Record.{Record}
use Rattle.connection_record.specs.declared.life.LifecycleMove.{LifecycleMove}
use Rattle.connection_record.specs.declared.moves.Reply.{Reply}
use Rattle.connection_record.specs.declared.moves.ReservationMove.{ReservationMove}
use Rattle.connection_record.specs.declared.provisioning.ProvisionMove.{ProvisionMove}
use Rattle.connection_record.specs.declared.apply.Move.{Move}
use Rattle.connection_record.specs.Demand.{last}
use Rattle.connection_record.specs.Lives.{provision_event, lifecycle_event, provisions, provisions_if, lives, lives_if}
use Rattle.connection_record.specs.Moves.{event_of, reserves, reserves_if, hold_end}
use Rattle.connection_record.specs.Replies.{addressed, plain}
use Rattle.connection_record.specs.Applied.{reservation_closing, provision_closing, moves, moves_if, requested, schedule_end, status_of, tells}
use Rattle.connection_record.proofs.Growing.{moves_if_later, tells_later}
use Rattle.nsi_query.specs.Answers.{answer_to}
use Rattle.nsi_query.proofs.Answering.{providers_tell_rows}
use Rattle.agent_state.specs.Entries.{error_reply, query_reply}
use Rattle.agent_state.specs.State.{State, Stepped, no_record, record_at}
use Rattle.provider_agent.specs.declared.agent.Agent.{Agent}
use Rattle.provider_agent.specs.Setting.{Setting}
use Rattle.provider_agent.specs.Steps.{step, receives, works, work_at, forces, force_move, is_waiting, is_forcible, keeps, drawn, is_told_at, told_at, ticks_at, ticks_all, ticks, taken_at, with_new, agent_of, own_origin}
use Rattle.provider_agent.proofs.EachSays.{EachReply, EachMessage, nothing_said, one_said, closes_each, ticked_each, kept_each, ticks_each}
use Rattle.provider_agent.proofs.GoodAfter.{waits_within, forcible_within}
use Rattle.provider_agent.proofs.Growing.{ticked_later}
use Rattle.agent_state.proofs.Querying.{replied_by, reply_header, rows_ask_nothing}
use Rattle.provider_agent.proofs.RequestCases.{seen_with, received_by}

---- No request

abbrev pub AsksNothing : Body → Type 0
AsksNothing body = is_request body ≡ false

reserves_answers : (k : Rsm) (move : ReservationMove) (now : ℕ) (r : Record) → EachReply AsksNothing (reserves k move now r).out
unfolding reserves reserve_step event_of
reserves_answers k move now r = grind arith

provisions_answers : (side : Side) (k : Psm) (move : ProvisionMove) (now : ℕ) (r : Record) → EachReply AsksNothing (provisions side k move now r).out
unfolding provisions provision_step provision_event
provisions_answers side k move now r = grind arith

pub lives_answers : (k : Lsm) (move : LifecycleMove) (now : ℕ) (r : Record) → EachReply AsksNothing (lives k move now r).out
unfolding lives lifecycle_step lifecycle_event
lives_answers k move now r = grind arith

pub reserves_if_answers : (o : Option ReservationMove) (now : ℕ) (r : Record) → EachReply AsksNothing (reserves_if o now r).out
reserves_if_answers None now r = tt
reserves_if_answers (Some move) now r = reserves_answers r.rsm move now r

pub provisions_if_answers : (side : Side) (o : Option ProvisionMove) (now : ℕ) (r : Record) → EachReply AsksNothing (provisions_if side o now r).out
provisions_if_answers side None now r = tt
provisions_if_answers side (Some move) now r = provisions_answers side r.psm move now r

pub lives_if_answers : (o : Option LifecycleMove) (now : ℕ) (r : Record) → EachReply AsksNothing (lives_if o now r).out
lives_if_answers None now r = tt
lives_if_answers (Some move) now r = lives_answers r.lsm move now r

moves_answers : (side : Side) (move : Move) (now : ℕ) (r : Record) → EachReply AsksNothing (moves side move now r).out
unfolding moves
moves_answers side (Move.Reservation m) now r = reserves_answers r.rsm m now r
moves_answers side (Move.Provision m) now r = provisions_answers side r.psm m now r
moves_answers side (Move.Lifecycle m) now r = lives_answers r.lsm m now r
moves_answers side (Move.Close agent) now r = closes_each AsksNothing agent side now r
    (λ x. reserves_if_answers (reservation_closing x.rsm (plain agent ErrorName.Gone)) now x)
    (λ x. provisions_if_answers side (provision_closing x.psm (plain agent ErrorName.Gone)) now x)
    (λ x. lives_answers x.lsm LifecycleMove.Done now x)

pub moves_if_answers : (side : Side) (o : Option Move) (now : ℕ) (r : Record) → EachReply AsksNothing (moves_if side o now r).out
moves_if_answers side None now r = tt
moves_if_answers side (Some move) now r = moves_answers side move now r

---- To whom

-- it is said in a name, to one of those to whom something is owed
abbrev pub IsHeaded : List ℕ → (List ℕ → Type 0) → Message → Type 0
IsHeaded name owed m = (m.header.provider ≡ name) × owed m.header.requester

-- an answer, or a notice
abbrev pub IsAnswer : List ℕ → (List ℕ → Type 0) → Message → Type 0
IsAnswer name owed m = (is_request m.body ≡ false) × IsHeaded name owed m

abbrev pub IsOwed : (List ℕ → Type 0) → Record → Type 0
IsOwed owed r = owed r.owner

pub addressed_headed : (name : List ℕ) (owed : List ℕ → Type 0) (owner : List ℕ) (replies : List Reply) → owed owner → All (IsHeaded name owed) (addressed name owner replies)
addressed_headed name owed owner [] p = All-nil (IsHeaded name owed)
addressed_headed name owed owner (x ∷ xs) p = All-cons (IsHeaded name owed) _ (addressed name owner xs) (refl, p) (addressed_headed name owed owner xs p)

pub addressed_answers : (name owner : List ℕ) (replies : List Reply) → EachReply AsksNothing replies → All (λ m. AsksNothing m.body) (addressed name owner replies)
addressed_answers name owner [] p = All-nil (λ m. AsksNothing m.body)
addressed_answers name owner (x ∷ xs) p = All-cons (λ m. AsksNothing m.body) _ (addressed name owner xs) p.0 (addressed_answers name owner xs p.1)

pub both_answer : (name : List ℕ) (owed : List ℕ → Type 0) (ms : List Message) → All (λ m. AsksNothing m.body) ms → All (IsHeaded name owed) ms → All (IsAnswer name owed) ms
both_answer name owed ms a b = λ k d lt. (a k d lt, b k d lt)

-- what an entry, or a part of one, says, and whose its records are
pub record IsSaying (name : List ℕ) (owed : List ℕ → Type 0) (x : Stepped) : Type 0 where
  pub owners : All (IsOwed owed) x.state.records
  pub says : All (IsAnswer name owed) x.out

-- what is said to a query is no request
reply_asks_nothing : (setting : Setting) (s : State) (m : Message) → AsksNothing (query_reply setting.name m (answer_to setting.name s.now s.records m)).body
reply_asks_nothing setting s m =
    replied_by AsksNothing setting.name m (answer_to setting.name s.now s.records m) (λ error plain. refl)
    (λ body e. rows_ask_nothing body (providers_tell_rows setting.name s.now s.records m body e))

module _ (setting : Setting) (owed : List ℕ → Type 0) where
  kept_saying : (s : State) (n : ℕ) (o : Option Move) → n < length s.records → All (IsOwed owed) s.records → IsSaying setting.name owed (keeps setting s n (moves_if Side.Provider o s.now (record_at n s.records)))
  kept_saying s n o lt all =
      let r = record_at n s.records in
      let x = moves_if Side.Provider o s.now r in
      let before = status_of s.now r in
      let y = tells before (id_of setting.number s.next) s.now x in
      let mine : owed y.rec.owner = subst owed (sym (tells_later before (id_of setting.number s.next) s.now r x (moves_if_later Side.Provider o s.now r)).owner) (All-get_or (IsOwed owed) s.records n no_record lt all) in
      record {
        owners = All-set (IsOwed owed) s.records n y.rec mine all;
        says =
            both_answer setting.name owed (addressed setting.name y.rec.owner y.out) (kept_each AsksNothing setting s n x (λ notice. refl) (moves_if_answers Side.Provider o s.now r))
            (addressed_headed setting.name owed y.rec.owner y.out mine);
      }

  none_saying : (s : State) → All (IsOwed owed) s.records → (t : State) → t.records ≡ s.records → IsSaying setting.name owed (record { state = t; out = [] })
  none_saying s all t e = record { owners = subst (All (IsOwed owed)) (sym e) all; says = All-nil (IsAnswer setting.name owed) }

  more_within : (s : State) (m : Message) (q : ReserveRequest) (points : ℕ × ℕ) → length s.records < length (with_new setting s m q points).records
  more_within s m q points = grind (arith, length_push)

  asked_saying : (stp_of : List ℕ → Option ℕ) (s : State) (m : Message) → All (IsOwed owed) s.records → IsHeaded setting.name owed m → IsSaying setting.name owed (receives (is_request m.body) (is_taken m.header s.seen) setting stp_of s m)
  asked_saying stp_of s m all came = received_by setting stp_of s m (IsSaying setting.name owed) (record {
    ignored = none_saying s all s refl;
    unopened = none_saying s all (seen_with s m) refl;
    told = λ q. record {
      owners = all;
      says = All-cons (IsAnswer setting.name owed) (query_reply setting.name m (answer_to setting.name s.now s.records m)) []
          (reply_asks_nothing setting s m, subst (λ (h : Header). (h.provider ≡ setting.name) × owed h.requester) (sym (reply_header setting.name m (answer_to setting.name s.now s.records m))) came)
          (All-nil (IsAnswer setting.name owed));
    };
    refused = λ error r. record { owners = all; says = All-cons (IsAnswer setting.name owed) (error_reply setting.name m error) [] (refl, came) (All-nil (IsAnswer setting.name owed)) };
    opened = λ q points f are. kept_saying (with_new setting (seen_with s m) m q points) (length s.records) (requested s.now m.body m.header.correlation (record_at (length s.records) (with_new setting (seen_with s m) m q points).records)) (more_within (seen_with s m) m q points)
        (All-append (IsOwed owed) s.records _ all (All-cons (IsOwed owed) _ [] came.1 (All-nil (IsOwed owed))));
    moved = λ n lt fine. kept_saying (seen_with s m) n (requested s.now m.body m.header.correlation (record_at n s.records)) lt all;
  })

  unasked_saying : (is_taken : Bool) (stp_of : List ℕ → Option ℕ) (s : State) (m : Message) → All (IsOwed owed) s.records → IsSaying setting.name owed (receives false is_taken setting stp_of s m)
  unfolding receives
  unasked_saying true stp_of s m all = none_saying s all s refl
  unasked_saying false stp_of s m all = none_saying s all s refl

  received_saying : (stp_of : List ℕ → Option ℕ) (s : State) (m : Message) → All (IsOwed owed) s.records → (is_request m.body ≡ true → IsHeaded setting.name owed m) → IsSaying setting.name owed (receives (is_request m.body) (is_taken m.header s.seen) setting stp_of s m)
  received_saying stp_of s m all came = by (is_request m.body) refl
    where
      by : (b : Bool) → is_request m.body ≡ b → IsSaying setting.name owed (receives (is_request m.body) (is_taken m.header s.seen) setting stp_of s m)
      by true e = asked_saying stp_of s m all (came e)
      by false e = subst (λ b. IsSaying setting.name owed (receives b (is_taken m.header s.seen) setting stp_of s m)) (sym e) (unasked_saying (is_taken m.header s.seen) stp_of s m all)

  worked_saying : (b : Bool) (s : State) (n : ℕ) (machine : Machine) → is_waiting s n machine ≡ b → All (IsOwed owed) s.records → IsSaying setting.name owed (works b setting s n machine)
  unfolding works
  worked_saying false s n machine e all = none_saying s all s refl
  worked_saying true s n machine e all = kept_saying s n (work_at setting s n machine) (waits_within s n machine e) all

  forced_saying : (b : Bool) (s : State) (n : ℕ) → is_forcible s n ≡ b → All (IsOwed owed) s.records → IsSaying setting.name owed (forces b setting s n)
  unfolding forces
  forced_saying false s n e all = none_saying s all s refl
  forced_saying true s n e all = kept_saying (record s { next = s.next + 1 }) n (Some (force_move setting s n)) (forcible_within s n e) all

---- A tick

ticked_owner : (agent : Agent) (before now c : ℕ) (r : Record) → (told_at agent before now c r).rec.owner ≡ r.owner
ticked_owner agent before now c r = (tells_later (status_of before r) c now r (ticks_at agent now r) (ticked_later (own_origin agent r) now r)).owner

ticked_owners : (owed : List ℕ → Type 0) (agent : Agent) (before now next : ℕ) (rs : List Record) → All (IsOwed owed) rs → All (IsOwed owed) (ticks_all agent before now next rs).records
unfolding ticks_all
ticked_owners owed agent before now next [] all = All-nil (IsOwed owed)
ticked_owners owed agent before now next (r ∷ rs) all =
    let x = told_at agent before now (id_of agent.number next) r in
    let later = next + drawn (is_told_at agent before now r) in
    All-cons (IsOwed owed) x.rec (ticks_all agent before now later rs).records (subst owed (sym (ticked_owner agent before now (id_of agent.number next) r)) (All-head (IsOwed owed) r rs all))
    (ticked_owners owed agent before now later rs (All-tail (IsOwed owed) r rs all))

ticked_headed : (owed : List ℕ → Type 0) (agent : Agent) (before now next : ℕ) (rs : List Record) → All (IsOwed owed) rs → All (IsHeaded agent.name owed) (ticks_all agent before now next rs).out
unfolding ticks_all
ticked_headed owed agent before now next [] all = All-nil (IsHeaded agent.name owed)
ticked_headed owed agent before now next (r ∷ rs) all =
    let x = told_at agent before now (id_of agent.number next) r in
    let later = next + drawn (is_told_at agent before now r) in
    All-append (IsHeaded agent.name owed) (addressed agent.name x.rec.owner x.out) (ticks_all agent before now later rs).out
    (addressed_headed agent.name owed x.rec.owner x.out (subst owed (sym (ticked_owner agent before now (id_of agent.number next) r)) (All-head (IsOwed owed) r rs all)))
    (ticked_headed owed agent before now later rs (All-tail (IsOwed owed) r rs all))

ticked_answers : (agent : Agent) (before now next : ℕ) (rs : List Record) → All (λ m. AsksNothing m.body) (ticks_all agent before now next rs).out
ticked_answers agent before now next rs = ticks_each AsksNothing agent before now next rs (λ notice. refl)
    (λ r. ticked_each AsksNothing (own_origin agent r) now r
    (reserves_if_answers (hold_end r.rsm r.deadline now (own_origin agent r)) now r)
    (λ x. lives_if_answers (schedule_end (last x.committed) now) now x))

---- One entry

-- what came is for the provider, and something is owed to whom it came from
abbrev pub CameFor : List ℕ → (List ℕ → Type 0) → Input → Type 0
CameFor name owed (Input.Got m) = is_request m.body ≡ true → IsHeaded name owed m
CameFor name owed _ = Unit {0}

pub step_saying : (input : Input) (second : ℕ) (setting : Setting) (stp_of : List ℕ → Option ℕ) (owed : List ℕ → Type 0) (s : State) → All (IsOwed owed) s.records → CameFor setting.name owed input → IsSaying setting.name owed (step input second setting stp_of s)
unfolding step ticks
step_saying (Input.Got m) second setting stp_of owed s all came = received_saying setting owed stp_of s m all came
step_saying (Input.Work n machine) second setting stp_of owed s all came = worked_saying setting owed (is_waiting s n machine) s n machine refl all
step_saying (Input.Force n) second setting stp_of owed s all came = forced_saying setting owed (is_forcible s n) s n refl all
step_saying Input.Tick second setting stp_of owed s all came =
    let agent = agent_of setting in
    let x = ticks_all agent s.now second s.next s.records in
    record {
      owners = ticked_owners owed agent s.now second s.next s.records all;
      says = both_answer setting.name owed x.out (ticked_answers agent s.now second s.next s.records) (ticked_headed owed agent s.now second s.next s.records all);
    }
step_saying (Input.Acked i) second setting stp_of owed s all came = record { owners = all; says = All-nil (IsAnswer setting.name owed) }
step_saying (Input.Ask n a) second setting stp_of owed s all came = record { owners = all; says = All-nil (IsAnswer setting.name owed) }

---- No entry causes a request

abbrev Answers : Stepped → Type 0
Answers x = EachMessage AsksNothing x.out

kept_answers : (setting : Setting) (s : State) (n : ℕ) (o : Option Move) → Answers (keeps setting s n (moves_if Side.Provider o s.now (record_at n s.records)))
kept_answers setting s n o = kept_each AsksNothing setting s n (moves_if Side.Provider o s.now (record_at n s.records)) (λ notice. refl) (moves_if_answers Side.Provider o s.now (record_at n s.records))

received_answers : (setting : Setting) (stp_of : List ℕ → Option ℕ) (s : State) (m : Message) → Answers (receives (is_request m.body) (is_taken m.header s.seen) setting stp_of s m)
received_answers setting stp_of s m = received_by setting stp_of s m Answers (record {
  ignored = nothing_said AsksNothing;
  unopened = nothing_said AsksNothing;
  told = λ q. one_said AsksNothing (query_reply setting.name m (answer_to setting.name s.now s.records m)) (reply_asks_nothing setting s m);
  refused = λ error r. one_said AsksNothing (error_reply setting.name m error) refl;
  opened = λ q points e are. taken (with_new setting (seen_with s m) m q points) (length s.records);
  moved = λ n lt fine. taken (seen_with s m) n;
})
  where
    taken : (x : State) (n : ℕ) → Answers (taken_at setting x n m)
    taken x n = kept_answers setting x n (requested x.now m.body m.header.correlation (record_at n x.records))

worked_answers : (b : Bool) (setting : Setting) (s : State) (n : ℕ) (machine : Machine) → Answers (works b setting s n machine)
unfolding works
worked_answers false setting s n machine = nothing_said AsksNothing
worked_answers true setting s n machine = kept_answers setting s n (work_at setting s n machine)

forced_answers : (b : Bool) (setting : Setting) (s : State) (n : ℕ) → Answers (forces b setting s n)
unfolding forces
forced_answers false setting s n = nothing_said AsksNothing
forced_answers true setting s n = kept_answers setting (record s { next = s.next + 1 }) n (Some (force_move setting s n))

pub step_answers : (input : Input) (second : ℕ) (setting : Setting) (stp_of : List ℕ → Option ℕ) (s : State) → All (λ m. AsksNothing m.body) (step input second setting stp_of s).out
unfolding step ticks
step_answers (Input.Got m) second setting stp_of s = received_answers setting stp_of s m
step_answers (Input.Work n machine) second setting stp_of s = worked_answers (is_waiting s n machine) setting s n machine
step_answers (Input.Force n) second setting stp_of s = forced_answers (is_forcible s n) setting s n
step_answers Input.Tick second setting stp_of s = ticked_answers (agent_of setting) s.now second s.next s.records
step_answers (Input.Acked i) second setting stp_of s = nothing_said AsksNothing
step_answers (Input.Ask n a) second setting stp_of s = nothing_said AsksNothing
