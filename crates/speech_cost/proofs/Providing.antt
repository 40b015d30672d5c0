-- What an entry makes a provider say is paid by what was left to say, or by the request that it takes.
use Rattle.std.proofs.Common.{ℕ, ◌+◌, ◌≤◌, ◌<◌, ◌≡◌, ◌∙◌, Bool, true, false, List, [], ◌∷◌, Option, Some, None, ◌&&◌, nat_lt, refl, sym, ap, subst, arith, length, length-append, unwrap_or}
use Rattle.std.proofs.lemmas.List.Sums.{sum_by-cons, sum_by-append, sum_by-set}
use Rattle.std.proofs.lemmas.Option.{slice_get_within}
use Rattle.std.proofs.lemmas.Bool.{leb-true, and_parts}
use Rattle.nsi_primitive.specs.Ids.{id_of}
use Rattle.nsi_primitive.specs.Messages.{is_request, is_query, connection_of}
use Rattle.nsi_primitive.specs.declared.entry.Entry.{Entry}
use Rattle.nsi_primitive.specs.declared.entry.Input.{Input}
use Rattle.nsi_primitive.specs.declared.kind.ErrorName.{ErrorName}
use Rattle.nsi_primitive.specs.declared.message.Body.{Body}
use Rattle.nsi_primitive.specs.declared.message.Message.{Message}
use Rattle.nsi_primitive.specs.declared.message.ReserveRequest.{ReserveRequest}
use Rattle.nsi_primitive.specs.declared.message.Service.{Service}
use Rattle.nsi_primitive.specs.declared.plane.Plane.{Plane}
use Rattle.nsi_primitive.specs.declared.state.Lsm.{Lsm}
use Rattle.nsi_primitive.specs.declared.state.Machine.{Machine}
use Rattle.nsi_primitive.specs.declared.state.Side.{Side}
use Rattle.message_retry.specs.Taken.{is_taken}
use Rattle.connection_record.specs.declared.record.Record.{Record}
use Rattle.connection_record.specs.declared.moves.Origin.{Origin}
use Rattle.connection_record.specs.declared.life.LifecycleMove.{LifecycleMove}
use Rattle.connection_record.specs.Applied.{moves, moves_if, requested, waits, status_of, is_told, tells}
use Rattle.connection_record.specs.Moves.{fresh, is_live}
use Rattle.connection_record.specs.Refusal.{is_created, refusal, points_of}
use Rattle.connection_record.specs.Replies.{Moved}
use Rattle.connection_record.specs.Unrefused.{IsTakenAt}
use Rattle.connection_record.proofs.Unrefused.{unrefused_at}
use Rattle.nsi_query.specs.Answers.{answer_to}
use Rattle.agent_state.specs.Entries.{is_on_time, most_entries, error_reply, query_reply}
use Rattle.agent_state.specs.State.{State, Stepped, AgentState, AgentStepped, blank_agent, record_at, no_record}
use Rattle.provider_agent.specs.Setting.{Setting}
use Rattle.provider_agent.specs.declared.agent.Agent.{Agent}
use Rattle.provider_agent.specs.Others.{lacking}
use Rattle.provider_agent.specs.Steps.{messages_by, drawn, keeps, taken_at, with_new, opens_between, opens, accepts, answers, serves, receives, is_waiting, work_at, works_at, works, is_forcible, force_move, forces_at, forces, ticks_at, is_told_at, told_at, Ticked, ticks_all, ticks, step, is_for_provider, may_take, after_if, after as provider_after, agent_of, own_origin}
use Rattle.provider_agent.proofs.GoodAfter.{waits_within, forcible_within}
use Rattle.nsi_agent.specs.Homes.{Home, provides}
use Rattle.nsi_agent.specs.Steps.{after_as, after}
use Rattle.nsi_agent.specs.Told.{Told, goes_on, told}
use Rattle.provider_agent.proofs.RequestCases.{seen_with, new_record}
use Rattle.agent_speech.proofs.Measures.{with_new_taken}
use Rattle.speech_cost.specs.Costs.{messages_cost, left_reserve, left_provision, left_life, changes, left, left_by, IsPaid}
use Rattle.speech_cost.specs.Laws.{EntriesArePaid, ProvidersSayLittle}
use Rattle.speech_cost.proofs.Paying.{messages_append, addressed_cost, one_message, PaysBy, tells_paid}
use Rattle.speech_cost.proofs.Clocks.{takes_paid, works_paid, is_loud, forces_paid, ticks_paid}

---- A record that moves

-- what is said, and left to say then, was left or is a gift; the requests that were taken stay
record IsTurned (gift : ℕ) (s t : State) (out : List Message) : Type 0 where
  paid : messages_cost out + left_by t.now t.records ≤ left_by s.now s.records + gift
  seen : t.seen ≡ s.seen

kept_turned : (gift : ℕ) (setting : Setting) (s : State) (k : ℕ) (x : Moved) → k < length s.records →
    PaysBy gift s.now s.now (record_at k s.records) x (is_told (status_of s.now (record_at k s.records)) s.now x.rec) →
    IsTurned gift s (keeps setting s k x).state (keeps setting s k x).out
kept_turned gift setting s k x l h =
    let r : Record = record_at k s.records in
    let p : Plane = status_of s.now r in
    let y : Moved = tells p (id_of setting.number s.next) s.now x in
    record {
      paid = omega (
        arith,
        addressed_cost setting.name y.rec.owner y.out,
        tells_paid gift s.now s.now p (id_of setting.number s.next) r x h,
        sum_by-set (left s.now) s.records k y.rec no_record l,
      );
      seen = refl;
    }

---- Requests

abbrev Pays : State → Stepped → Type 0
Pays s x = IsPaid s x.state x.out

fresh_left : (now id : ℕ) (owner : List ℕ) (s : Service) (source dest : ℕ) → left now (fresh id owner s source dest) ≡ 6
unfolding left left_reserve left_provision left_life changes
fresh_left now id owner s source dest = refl

no_message : messages_cost [] ≤ 5
unfolding messages_cost
no_message = omega arith

module _ (setting : Setting) (stp_of : List ℕ → Option ℕ) (s : State) (m : Message) (u : is_taken m.header s.seen ≡ false) where
  seen_more : length (seen_with s m).seen ≡ length s.seen + 1
  seen_more = ap length (with_new_taken m.header s.seen u) ∙ length-append s.seen (m.header ∷ [])

  -- what stays as it is but for the request, with one message or none
  says_paid : (out : List Message) → messages_cost out ≤ 5 → Pays s (record { state = seen_with s m; out = out })
  says_paid out h = record { paid = omega (arith, h, seen_more) }

  none_paid : Pays s (record { state = seen_with s m; out = [] })
  none_paid = says_paid [] no_message

  turned_paid : (gift : ℕ) (t : State) (out : List Message) → gift ≤ 30 → IsTurned gift (seen_with s m) t out → Pays s (record { state = t; out = out })
  turned_paid gift t out few h = record { paid = omega (arith, few, h.paid, seen_more, ap length h.seen) }

  taken_turned : (t : State) (k : ℕ) → k < length t.records → IsTurned 21 t (taken_at setting t k m).state (taken_at setting t k m).out
  taken_turned t k l =
      let r : Record = record_at k t.records in
      let x : Moved = moves_if Side.Provider (requested t.now m.body m.header.correlation r) t.now r in
      kept_turned 21 setting t k x l (takes_paid Side.Provider m.body m.header.correlation t.now r (is_told (status_of t.now r) t.now x.rec))

  new_turned : (q : ReserveRequest) (points : ℕ × ℕ) →
      IsTurned 27 (seen_with s m) (taken_at setting (with_new setting (seen_with s m) m q points) (length s.records) m).state
      (taken_at setting (with_new setting (seen_with s m) m q points) (length s.records) m).out
  new_turned q points =
      let t : State = with_new setting (seen_with s m) m q points in
      let r : Record = new_record setting (seen_with s m) m q points in
      let within : length s.records < length t.records = omega (arith, length-append s.records (r ∷ [])) in
      let a : IsTurned 21 t (taken_at setting t (length s.records) m).state (taken_at setting t (length s.records) m).out = taken_turned t (length s.records) within in
      record {
        paid = omega (arith, a.paid, sum_by-append (left s.now) s.records (r ∷ []), sum_by-cons (left s.now) r [], fresh_left s.now r.id m.header.requester r.service points.0 points.1);
        seen = a.seen;
      }

  between_paid : (o : Option (ℕ × ℕ)) (q : ReserveRequest) → Pays s (opens_between o setting (seen_with s m) m q)
  between_paid None q = none_paid
  between_paid (Some points) q =
      let x : Stepped = taken_at setting (with_new setting (seen_with s m) m q points) (length s.records) m in turned_paid 27 x.state x.out (omega arith) (new_turned q points)

  opens_paid : (body : Body) → Pays s (opens body setting stp_of (seen_with s m) m)
  opens_paid (Body.Reserve q) = between_paid (points_of stp_of q) q
  opens_paid _ = none_paid

  accepts_paid : (o : Option ℕ) → connection_of m.body ≡ o → refusal s.now setting.name stp_of s.records m ≡ None → Pays s (accepts o setting stp_of (seen_with s m) m)
  accepts_paid None e r = opens_paid m.body
  accepts_paid (Some id) e r =
      let at : IsTakenAt s.now m s.records id = unrefused_at s.now setting.name stp_of s.records m id e r in
      let within : at.place < length s.records = slice_get_within s.records at.place at.own at.there in
      let x : Stepped = taken_at setting (seen_with s m) at.place m in
      subst (λ (k : ℕ). Pays s (taken_at setting (seen_with s m) k m)) (sym (ap (λ o. unwrap_or o 0) at.found)) (turned_paid 21 x.state x.out (omega arith) (taken_turned (seen_with s m) at.place within))

  answers_paid : (o : Option ErrorName) → refusal s.now setting.name stp_of s.records m ≡ o → Pays s (answers o setting stp_of (seen_with s m) m)
  answers_paid (Some e) r = says_paid (error_reply setting.name m e ∷ []) (one_message (error_reply setting.name m e))
  answers_paid None r = accepts_paid (connection_of m.body) refl r

  serves_paid : (b : Bool) → Pays s (serves b setting stp_of (seen_with s m) m)
  serves_paid true =
      let reply : Message = query_reply setting.name m (answer_to setting.name s.now s.records m) in says_paid (reply ∷ []) (one_message reply)
  serves_paid false = answers_paid (refusal s.now setting.name stp_of s.records m) refl

stays_paid : (s : State) → Pays s (record { state = s; out = [] })
unfolding messages_cost
stays_paid s = record { paid = omega arith }

pub receives_paid : (setting : Setting) (stp_of : List ℕ → Option ℕ) (s : State) (m : Message) → Pays s (receives (is_request m.body) (is_taken m.header s.seen) setting stp_of s m)
unfolding receives
receives_paid setting stp_of s m = by (is_request m.body) (is_taken m.header s.seen) refl
  where
    by : (a b : Bool) → is_taken m.header s.seen ≡ b → Pays s (receives a b setting stp_of s m)
    by true false u = serves_paid setting stp_of s m u (is_query m.body)
    by true true u = stays_paid s
    by false b u = stays_paid s

---- Work, and a forced end

turned_itself : (s t : State) (out : List Message) → IsTurned 0 s t out → Pays s (record { state = t; out = out })
turned_itself s t out a = record { paid = omega (arith, a.paid, ap length a.seen) }

works_pay : (setting : Setting) (s : State) (n : ℕ) (machine : Machine) (b : Bool) → is_waiting s n machine ≡ b → Pays s (works b setting s n machine)
unfolding works
works_pay setting s n machine false e = stays_paid s
works_pay setting s n machine true e =
    let r : Record = record_at n s.records in
    let x : Stepped = works_at setting s n machine in
    turned_itself s x.state x.out
    (kept_turned 0 setting s n (moves_if Side.Provider (work_at setting s n machine) s.now r) (waits_within s n machine e)
    (works_paid machine (lacking setting s n) setting.name (s.now + setting.hold) s.now r (and_parts (nat_lt n (length s.records)) (waits machine r) e).1))

forced_loud : (k : Lsm) (c : ℕ) (origin : Origin) → is_created k ≡ true → is_loud k (LifecycleMove.Force c origin) ≡ true
forced_loud k c origin e = grind (arith, e)

forces_pay : (setting : Setting) (s : State) (n : ℕ) (b : Bool) → is_forcible s n ≡ b → Pays s (forces b setting s n)
unfolding forces
forces_pay setting s n false e = stays_paid s
forces_pay setting s n true e =
    let r : Record = record_at n s.records in
    let t : State = record s { next = s.next + 1 } in
    let c : ℕ = id_of setting.number s.next in
    let origin : Origin = own_origin (agent_of setting) r in
    let x : Stepped = forces_at setting s n in
    let a : IsTurned 0 t x.state x.out =
    kept_turned 0 setting t n (moves Side.Provider (force_move setting s n) s.now r) (forcible_within s n e)
    (forces_paid c origin s.now r (forced_loud r.lsm c origin (and_parts (nat_lt n (length s.records)) (is_created r.lsm) e).1))
    in
    turned_itself s x.state x.out (record { paid = a.paid; seen = a.seen })

---- Time

-- records after a tick
record AreTicked (agent : Agent) (was now : ℕ) (rs : List Record) (x : Ticked) : Type 0 where
  paid : messages_cost x.out + left_by now x.records ≤ left_by was rs

all_ticked : (agent : Agent) (was now next : ℕ) (rs : List Record) → was ≤ now → AreTicked agent was now rs (ticks_all agent was now next rs)
unfolding ticks_all messages_cost
all_ticked agent was now next [] h = record { paid = omega arith }
all_ticked agent was now next (r ∷ rs) h =
    let x : Moved = told_at agent was now (id_of agent.number next) r in
    let rest : Ticked = ticks_all agent was now (next + drawn (is_told_at agent was now r)) rs in
    let t : AreTicked agent was now rs rest = all_ticked agent was now (next + drawn (is_told_at agent was now r)) rs h in
    record {
      paid = omega (
        arith,
        messages_append (messages_by agent.name x) rest.out,
        addressed_cost agent.name x.rec.owner x.out,
        tells_paid 0 was now (status_of was r) (id_of agent.number next) r (ticks_at agent now r) (ticks_paid (is_live r.lsm) (own_origin agent r) was now r h),
        t.paid,
        sum_by-cons (left was) r rs,
        sum_by-cons (left now) x.rec rest.records,
      );
    }

ticks_pay : (setting : Setting) (now : ℕ) (s : State) → s.now ≤ now → Pays s (ticks setting now s)
unfolding ticks
ticks_pay setting now s h = let t : AreTicked (agent_of setting) s.now now s.records (ticks_all (agent_of setting) s.now now s.next s.records) = all_ticked (agent_of setting) s.now now s.next s.records h in record { paid = omega (arith, t.paid) }

---- One entry

step_pays : (i : Input) (second : ℕ) (setting : Setting) (stp_of : List ℕ → Option ℕ) (s : State) → is_on_time i second s.now ≡ true → Pays s (step i second setting stp_of s)
unfolding step messages_cost
step_pays (Input.Got m) second setting stp_of s t = receives_paid setting stp_of s m
step_pays (Input.Work n machine) second setting stp_of s t = works_pay setting s n machine (is_waiting s n machine) refl
step_pays Input.Tick second setting stp_of s t = ticks_pay setting second s (leb-true s.now second t)
step_pays (Input.Force n) second setting stp_of s t = forces_pay setting s n (is_forcible s n) refl
step_pays (Input.Acked i) second setting stp_of s t = record { paid = omega arith }
step_pays (Input.Ask n ask) second setting stp_of s t = stays_paid s

after_pays : (b : Bool) (setting : Setting) (stp_of : List ℕ → Option ℕ) (s : State) (e : Entry) → may_take s e ≡ b → Pays s (after_if b setting stp_of s e)
after_pays false setting stp_of s e t = stays_paid s
after_pays true setting stp_of s e t =
    let a = step_pays e.input e.second setting stp_of s (and_parts (is_for_provider e.input) (is_on_time e.input e.second s.now) (and_parts (nat_lt s.taken most_entries) (is_for_provider e.input && is_on_time e.input e.second s.now) t).1).1 in
    record { paid = a.paid }

pub entries_paid : EntriesArePaid
unfolding provider_after
entries_paid setting stp_of s e = after_pays (may_take s e) setting stp_of s e refl

---- Entries one after another

-- from a state on
goes_on_paid : (h : Home) (setting : Setting) (stp_of : List ℕ → Option ℕ) (s : AgentState) (es : List Entry) → h.role ≡ provides setting stp_of →
    IsPaid s.base (goes_on h s es).state.base (goes_on h s es).out
unfolding goes_on after_as
goes_on_paid h setting stp_of s [] e = stays_paid s.base
goes_on_paid h setting stp_of s (x ∷ xs) e =
    let y : AgentStepped = after h s x in
    let rest : Told = goes_on h y.state xs in
    let a : IsPaid s.base y.state.base y.out = first e in
    let b : IsPaid y.state.base rest.state.base rest.out = goes_on_paid h setting stp_of y.state xs e in
    record { paid = omega (arith, a.paid, b.paid, messages_append y.out rest.out) }
  where
    first : h.role ≡ provides setting stp_of → IsPaid s.base (after h s x).state.base (after h s x).out
    first e = subst (λ role. IsPaid s.base (after_as role s x).state.base (after_as role s x).out) (sym e) (entries_paid setting stp_of s.base x)

pub told_paid : ProvidersSayLittle
told_paid h setting stp_of es e = let a : IsPaid blank_agent.base (told h es).state.base (told h es).out = goes_on_paid h setting stp_of blank_agent es e in omega (arith, a.paid)
