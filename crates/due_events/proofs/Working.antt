-- A message that is got makes one work more at most, and nothing else makes any.
use Rattle.std.proofs.Common.{◌≡◌, ◌≤◌, ◌<◌, ◌+◌, nat_lt, ℕ, Bool, true, false, List, [], ◌∷◌, Option, Some, refl, sym, ap, subst, arith, length, length-append}
use Rattle.std.proofs.lemmas.Bool.{and_parts, ltb-true}
use Rattle.std.proofs.lemmas.Bool.Decides.{nat_tests}
use Rattle.std.proofs.lemmas.List.Sums.{sum_by-cons, sum_by_push}
use Rattle.std.proofs.lemmas.Option.{slice_get-get_or}
use Rattle.nsi_primitive.specs.Ids.{id_of}
use Rattle.nsi_primitive.specs.Messages.{is_request}
use Rattle.nsi_primitive.specs.declared.entry.Entry.{Entry}
use Rattle.nsi_primitive.specs.declared.entry.Input.{Input}
use Rattle.nsi_primitive.specs.declared.message.Message.{Message}
use Rattle.nsi_primitive.specs.declared.message.Service.{Service}
use Rattle.nsi_primitive.specs.declared.state.Machine.{Machine}
use Rattle.nsi_primitive.specs.declared.state.Side.{Side}
use Rattle.lifecycle_machine.specs.Table.{step as lifecycle_step}
use Rattle.message_retry.specs.Taken.{is_taken}
use Rattle.connection_record.specs.declared.record.Record.{Record}
use Rattle.connection_record.specs.declared.apply.Move.{Move}
use Rattle.connection_record.specs.declared.life.LifecycleMove.{LifecycleMove}
use Rattle.connection_record.specs.declared.moves.Origin.{Origin}
use Rattle.connection_record.specs.Applied.{moves, moves_if, requested, waits, is_provisioning, is_terminating, status_of, tells}
use Rattle.connection_record.specs.Lives.{lifecycle_event, lives}
use Rattle.connection_record.specs.Moves.{fresh, is_live, is_working}
use Rattle.connection_record.specs.Refusal.{is_created}
use Rattle.connection_record.specs.Replies.{Moved}
use Rattle.agent_state.specs.State.{AgentState, State, Stepped, blank_agent, no_record, record_at}
use Rattle.provider_agent.specs.Setting.{Setting}
use Rattle.provider_agent.specs.Steps.{step, receives, forces, force_move, is_forcible, keeps, ticks, ticks_at, ticks_all, own_origin, agent_of, taken_at, with_new}
use Rattle.provider_agent.specs.Working.{works_in, works_among}
use Rattle.provider_agent.proofs.Counting.{taken_is}
use Rattle.provider_agent.proofs.EachTicked.{each_ticked, each_sum_le}
use Rattle.provider_agent.proofs.RecordPlaces.{sum_beside, sum_with}
use Rattle.provider_agent.proofs.RequestCases.{seen_with, new_record, received_by}
use Rattle.provider_agent.proofs.WaitingWork.{moves_if_works, ticked_works, told_works}
use Rattle.nsi_agent.specs.Homes.{Role, provides, aggregates, requests, Home}
use Rattle.nsi_agent.specs.Steps.{after, after_as, may_take_as, work_of, works_left}
use Rattle.nsi_agent.specs.Told.{goes_on}
use Rattle.nsi_agent.specs.Laws.{IsGood, BlankIsGood, EntriesKeepGood, work_now}
use Rattle.nsi_agent.proofs.Entering.{on_time_entry, few_taken}
use Rattle.nsi_agent.proofs.Works.{work_is_done}
use Rattle.due_events.specs.Counts.{is_got, is_work, has_kind, entries_in}
use Rattle.due_events.specs.Due.{IsDueInput}
use Rattle.due_events.specs.Laws.{WorksAreFew}
use Rattle.due_events.proofs.Entries.{one_if}
use Rattle.due_events.proofs.Journals.{IsTakenDue, AreTakenDue, journals_due}

---- A provider's records

-- a move of the record at a place makes so much more work as the move makes of the record
kept_works : (setting : Setting) (s : State) (n more : ℕ) (x : Moved) → n < length s.records → works_in x.rec ≤ works_in (record_at n s.records) + more → works_among (keeps setting s n x).state.records ≤ works_among s.records + more
kept_works setting s n more x lt few =
    let r : Record = record_at n s.records in
    let c : ℕ = id_of setting.number s.next in
    let y : Record = (tells (status_of s.now r) c s.now x).rec in
    let there = slice_get-get_or s.records n no_record lt in
    omega (arith, sum_beside works_in s.records n r there, sum_with works_in s.records n r y there, told_works (status_of s.now r) c s.now x, few)

---- A message

fresh_works : (id : ℕ) (owner : List ℕ) (service : Service) (source dest : ℕ) → works_in (fresh id owner service source dest) ≡ 0
unfolding waits is_live is_working is_provisioning is_terminating
fresh_works id owner service source dest = refl

received_works : (setting : Setting) (stp_of : List ℕ → Option ℕ) (s : State) (m : Message) → works_among (receives (is_request m.body) (is_taken m.header s.seen) setting stp_of s m).state.records ≤ works_among s.records + 1
received_works setting stp_of s m = received_by setting stp_of s m (λ (x : Stepped). works_among x.state.records ≤ works_among s.records + 1) (record {
  ignored = omega arith;
  unopened = omega arith;
  told = λ q. omega arith;
  refused = λ error r. omega arith;
  opened = λ q points e are.
      let t : State = with_new setting (seen_with s m) m q points in
      let new : Record = new_record setting (seen_with s m) m q points in
      let count : works_among t.records ≡ works_among s.records =
      omega (arith, sum_by_push works_in s.records new, fresh_works new.id new.owner new.service new.source new.dest)
      in
      omega (arith, count, moved t (length s.records) (omega (arith, length-append s.records (new ∷ []))));
  moved = λ n lt fine. moved (seen_with s m) n lt;
})
  where
    moved : (t : State) (n : ℕ) → n < length t.records → works_among (taken_at setting t n m).state.records ≤ works_among t.records + 1
    moved t n lt =
        let o : Option Move = requested t.now m.body m.header.correlation (record_at n t.records) in
        kept_works setting t n 1 (moves_if Side.Provider o t.now (record_at n t.records)) lt (moves_if_works Side.Provider o t.now (record_at n t.records))

---- A forced end

force_works : (c : ℕ) (origin : Origin) (now : ℕ) (r : Record) → works_in (moves Side.Provider (Move.Lifecycle (LifecycleMove.Force c origin)) now r).rec ≤ works_in r
unfolding moves lives lifecycle_step lifecycle_event waits is_live is_terminating
force_works c origin now r = grind arith

forced_works : (b : Bool) (setting : Setting) (s : State) (n : ℕ) → is_forcible s n ≡ b → works_among (forces b setting s n).state.records ≤ works_among s.records
unfolding forces
forced_works true setting s n e =
    let t : State = record s { next = s.next + 1 } in
    let r : Record = record_at n s.records in
    let lt : n < length s.records = ltb-true n (length s.records) (and_parts (nat_lt n (length s.records)) (is_created r.lsm) e).0 in
    omega (arith, kept_works setting t n 0 (moves Side.Provider (force_move setting s n) s.now r) lt (omega (arith, force_works (id_of setting.number s.next) (own_origin (agent_of setting) r) s.now r)))
forced_works false setting s n e = omega arith

---- A tick

-- no more to do
abbrev NoMore : Record → Record → Type 0
NoMore a b = works_in b ≤ works_in a

ticks_work : (setting : Setting) (second : ℕ) (s : State) → works_among (ticks setting second s).state.records ≤ works_among s.records
unfolding ticks
ticks_work setting second s =
    let agent = agent_of setting in
    let each = each_ticked NoMore agent s.now second s.next s.records (λ c r. omega (arith, told_works (status_of s.now r) c second (ticks_at agent second r), ticked_works (own_origin agent r) second r)) in
    each_sum_le NoMore works_in s.records (ticks_all agent s.now second s.next s.records).records (λ a b few. few) each

---- An entry

-- what is no work makes one more at most, and only where it is a message
step_works : (input : Input) (second : ℕ) (setting : Setting) (stp_of : List ℕ → Option ℕ) (s : State) → is_work input ≡ false → works_among (step input second setting stp_of s).state.records ≤ works_among s.records + one_if (is_got input)
unfolding step
step_works (Input.Got m) second setting stp_of s e = received_works setting stp_of s m
step_works (Input.Work n machine) second setting stp_of s e = absurd (cc)
step_works (Input.Force n) second setting stp_of s e = omega (arith, forced_works (is_forcible s n) setting s n refl)
step_works Input.Tick second setting stp_of s e = omega (arith, ticks_work setting second s)
step_works (Input.Acked i) second setting stp_of s e = omega arith
step_works (Input.Ask n ask) second setting stp_of s e = omega arith

-- what is done was left, and what is left was, or came with a message
abbrev IsWorked : Role → AgentState → Entry → Type 0
IsWorked role s e = one_if (is_work e.input) + works_left role (after_as role s e).state ≤ works_left role s + one_if (is_got e.input)

provider_entry : (setting : Setting) (stp_of : List ℕ → Option ℕ) (s : AgentState) (e : Entry) → may_take_as (provides setting stp_of) s e ≡ true → is_work e.input ≡ false → works_left (provides setting stp_of) (after_as (provides setting stp_of) s e).state ≤ works_left (provides setting stp_of) s + one_if (is_got e.input)
unfolding after_as
provider_entry setting stp_of s e may none =
    omega (arith, ap (λ (x : Stepped). works_among x.state.records) (taken_is setting stp_of s.base e may), step_works e.input e.second setting stp_of s.base none)

-- work that waits first
worked_entry : (h : Home) (s : AgentState) (n second : ℕ) (machine : Machine) → IsGood h.role s → may_take_as h.role s (record { second = second; input = Input.Work n machine }) ≡ true → work_of h.role s ≡ Some (n, machine)
    → IsWorked h.role s (record { second = second; input = Input.Work n machine })
worked_entry h s n second machine good may due =
    let e : Entry = record { second = second; input = Input.Work n machine } in
    let timed = on_time_entry h.role s e may in
    let now : second ≡ s.base.now = grind (arith, nat_tests, timed) in
    let few = few_taken h.role s e may in
    let is : e ≡ work_now s (n, machine) = ap (λ (k : ℕ). record { second = k; input = Input.Work n machine }) now in
    omega (arith, ap (λ (x : Entry). works_left h.role (after h s x).state) is, work_is_done h s (n, machine) good few due)

work_one : (h : Home) (s : AgentState) (e : Entry) → IsGood h.role s → IsTakenDue h s e → IsWorked h.role s e
work_one h s e good k = by e.input refl k.due
  where
    others : (role : Role) → h.role ≡ role → is_work e.input ≡ false → works_left role (after_as role s e).state ≤ works_left role s + one_if (is_got e.input)
    others (provides setting stp_of) same none = provider_entry setting stp_of s e (subst (λ (role : Role). may_take_as role s e ≡ true) same k.may) none
    others (aggregates setting) same none = omega arith
    others (requests setting) same none = omega arith

    not_work : is_work e.input ≡ false → IsWorked h.role s e
    not_work none = omega (arith, ap one_if none, others h.role refl none)

    by : (input : Input) → e.input ≡ input → IsDueInput h s input → IsWorked h.role s e
    by (Input.Work n machine) is due =
        let same : e ≡ record { second = e.second; input = Input.Work n machine } = ap (λ (i : Input). record { second = e.second; input = i }) is in
        subst (IsWorked h.role s) (sym same) (worked_entry h s n e.second machine good (subst (λ (x : Entry). may_take_as h.role s x ≡ true) same k.may) due)
    by (Input.Got m) is due = not_work (ap is_work is)
    by (Input.Force n) is due = not_work (ap is_work is)
    by (Input.Acked i) is due = not_work (ap is_work is)
    by Input.Tick is due = not_work (ap is_work is)
    by (Input.Ask n ask) is due = not_work (ap is_work is)

---- Entries one after another

works_from : EntriesKeepGood → (h : Home) (s : AgentState) (es : List Entry) → IsGood h.role s → AreTakenDue h s es → entries_in is_work es + works_left h.role (goes_on h s es).state ≤ works_left h.role s + entries_in is_got es
unfolding AreTakenDue goes_on
works_from keep h s [] good all = omega arith
works_from keep h s (e ∷ es) good all =
    omega (
      arith,
      sum_by-cons (λ (y : Entry). one_if (has_kind is_work y)) e es,
      sum_by-cons (λ (y : Entry). one_if (has_kind is_got y)) e es,
      work_one h s e good all.0,
      works_from keep h (after h s e).state es (keep h s e all.0.printable good) all.1,
    )

none_left : (role : Role) → works_left role blank_agent ≡ 0
none_left (provides setting stp_of) = refl
none_left (aggregates setting) = refl
none_left (requests setting) = refl

pub works_are_few : BlankIsGood → EntriesKeepGood → WorksAreFew
works_are_few first keep homes events a run due =
    let works = works_from keep (homes a) blank_agent _ (first (homes a)) (journals_due homes events run due a) in
    omega (arith, works, none_left (homes a).role)
