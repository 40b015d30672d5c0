-- What an entry makes a provider do with its requests: each that it works on it goes on with, or answers, and so it does with one that it takes.
use Rattle.std.proofs.Common.{ℕ, ◌+◌, ◌<◌, ◌≡◌, ◌∙◌, inl, inr, Bool, true, false, List, [], ◌∷◌, Option, Some, None, refl, sym, ap, subst, length, not, is_none, bytes_eq, unwrap_or, slice_get, slice_set}
use Rattle.std.proofs.lemmas.Option.{get_or_from_slice_get, slice_get_within}
use Rattle.nsi_primitive.specs.Ids.{id_of}
use Rattle.nsi_primitive.specs.Messages.{kind_of, is_request, is_query, connection_of}
use Rattle.nsi_primitive.specs.declared.entry.Input.{Input}
use Rattle.nsi_primitive.specs.declared.kind.ErrorName.{ErrorName}
use Rattle.nsi_primitive.specs.declared.message.Body.{Body}
use Rattle.nsi_primitive.specs.declared.message.Message.{Message}
use Rattle.nsi_primitive.specs.declared.message.ReserveRequest.{ReserveRequest}
use Rattle.nsi_primitive.specs.declared.plane.Plane.{Plane}
use Rattle.nsi_primitive.specs.declared.state.Machine.{Machine}
use Rattle.nsi_primitive.specs.declared.state.Side.{Side}
use Rattle.message_retry.specs.Taken.{is_taken}
use Rattle.connection_record.specs.declared.apply.Move.{Move}
use Rattle.connection_record.specs.declared.record.Record.{Record}
use Rattle.connection_record.specs.Applied.{moves, moves_if, requested, status_of, tells}
use Rattle.connection_record.specs.Later.{IsLater}
use Rattle.connection_record.specs.Moves.{is_live}
use Rattle.connection_record.specs.Refusal.{refused_if, or_else, points_of, schedule_refusal, first_refusal, unnamed_refusal, record_refusal, about, refusal}
use Rattle.connection_record.specs.Replies.{Moved, addressed}
use Rattle.connection_record.specs.Unrefused.{IsFitFor, IsTakenAt}
use Rattle.connection_record.proofs.Growing.{moves_later, moves_if_later, ticks_later, tells_later}
use Rattle.connection_record.proofs.Unrefused.{unrefused_agent, unrefused_at, unrefused_fits, first_criteria}
use Rattle.agent_state.specs.Entries.{error_reply}
use Rattle.agent_state.specs.State.{State, Stepped, says, no_record, record_at}
use Rattle.provider_agent.specs.declared.agent.Agent.{Agent}
use Rattle.provider_agent.specs.Others.{lacking}
use Rattle.provider_agent.specs.Setting.{Setting}
use Rattle.provider_agent.specs.Steps.{keeps, taken_at, with_new, opens_between, opens, accepts, answers, serves, receives, is_waiting, work_at, works, is_forcible, force_move, forces, ticks_at, is_told_at, told_at, drawn, ticks_all, ticks, step, agent_of, own_origin}
use Rattle.provider_agent.proofs.RecordPlaces.{set_here, push_here}
use Rattle.provider_agent.proofs.RequestCases.{seen_with, new_record, received_by}
use Rattle.request_answers.proofs.Carrying.{is_carried, Carries, moves_carry, moves_if_carry, requested_whole, work_whole, ticks_carry, tells_carry, tells_carried}
use Rattle.request_answers.proofs.Querying.{query_answered}
use Rattle.request_answers.proofs.Serving.{IsServed, Honours, Serves, answered_by, error_answers, carried_serves, carrying_serves, served_there, honours_same, honours_set, honours_cons, worked_push}
use Rattle.request_answers.proofs.Taking.{reserve_taken, request_taken}

abbrev pub Goes : Setting → State → Stepped → Type 0
Goes setting s x = Honours setting.name s.records x.state.records x.out

-- a record moves, and is put back at its place
kept_goes : (setting : Setting) (s : State) (n : ℕ) (x : Moved) → Carries (record_at n s.records) x → IsLater (record_at n s.records) x.rec → Goes setting s (keeps setting s n x)
kept_goes setting s n x carries later =
    let p : Plane = status_of s.now (record_at n s.records) in
    let c : ℕ = id_of setting.number s.next in
    let y : Moved = tells p c s.now x in
    honours_set setting.name s.records n y.rec (addressed setting.name y.rec.owner y.out)
    (λ r at. subst (λ z. Serves setting.name z y.rec (addressed setting.name y.rec.owner y.out)) (get_or_from_slice_get s.records n r no_record at)
    (carrying_serves setting.name (record_at n s.records) y (tells_carry p c s.now (record_at n s.records) x carries) (tells_later p c s.now (record_at n s.records) x later).owner))

taken_goes : (setting : Setting) (s : State) (n : ℕ) (m : Message) → Goes setting s (taken_at setting s n m)
taken_goes setting s n m =
    let r : Record = record_at n s.records in
    let o : Option Move = requested s.now m.body m.header.correlation r in
    kept_goes setting s n (moves_if Side.Provider o s.now r) (moves_if_carry Side.Provider o s.now r (requested_whole s.now m.body m.header.correlation r)) (moves_if_later Side.Provider o s.now r)

-- a request of another one
received_goes : (setting : Setting) (stp_of : List ℕ → Option ℕ) (s : State) (m : Message) → Goes setting s (receives (is_request m.body) (is_taken m.header s.seen) setting stp_of s m)
received_goes setting stp_of s m = received_by setting stp_of s m (Goes setting s) (record {
  ignored = honours_same setting.name s.records [];
  unopened = honours_same setting.name s.records [];
  told = λ q k w. inr w;
  refused = λ error r k w. inr w;
  opened = λ q points e are n w. taken_goes setting (with_new setting (seen_with s m) m q points) (length s.records) m n (worked_push setting.name s.records (new_record setting (seen_with s m) m q points) n w);
  moved = λ n lt fine. taken_goes setting (seen_with s m) n m;
})

worked_goes : (b : Bool) (setting : Setting) (s : State) (n : ℕ) (machine : Machine) → Goes setting s (works b setting s n machine)
unfolding works
worked_goes false setting s n machine = honours_same setting.name s.records []
worked_goes true setting s n machine =
    let r : Record = record_at n s.records in
    let o : Option Move = work_at setting s n machine in
    kept_goes setting s n (moves_if Side.Provider o s.now r)
    (moves_if_carry Side.Provider o s.now r (work_whole machine r (lacking setting s n) setting.name (s.now + setting.hold))) (moves_if_later Side.Provider o s.now r)

forced_goes : (b : Bool) (setting : Setting) (s : State) (n : ℕ) → Goes setting s (forces b setting s n)
unfolding forces
forced_goes false setting s n = honours_same setting.name s.records []
forced_goes true setting s n =
    let r : Record = record_at n s.records in
    let t : State = record s { next = s.next + 1 } in
    kept_goes setting t n (moves Side.Provider (force_move setting s n) s.now r) (moves_carry Side.Provider (force_move setting s n) s.now r refl) (moves_later Side.Provider (force_move setting s n) s.now r)

all_go : (agent : Agent) (before now next : ℕ) (records : List Record) → Honours agent.name records (ticks_all agent before now next records).records (ticks_all agent before now next records).out
unfolding ticks_all
all_go agent before now next [] = honours_same agent.name [] []
all_go agent before now next (r ∷ rs) =
    let d : ℕ = id_of agent.number next in
    let later : ℕ = next + drawn (is_told_at agent before now r) in
    let x : Moved = ticks_at agent now r in
    let p : Plane = status_of before r in
    let y : Moved = told_at agent before now d r in
    honours_cons agent.name r y.rec (addressed agent.name y.rec.owner y.out) rs (ticks_all agent before now later rs).records (ticks_all agent before now later rs).out
    (carrying_serves agent.name r y (tells_carry p d now r x (ticks_carry (is_live r.lsm) (own_origin agent r) now r)) (tells_later p d now r x (ticks_later (is_live r.lsm) (own_origin agent r) now r)).owner)
    (all_go agent before now later rs)

pub provider_goes : (i : Input) (second : ℕ) (setting : Setting) (stp_of : List ℕ → Option ℕ) (s : State) → Goes setting s (step i second setting stp_of s)
unfolding step ticks
provider_goes (Input.Got m) second setting stp_of s = received_goes setting stp_of s m
provider_goes (Input.Work n machine) second setting stp_of s = worked_goes (is_waiting s n machine) setting s n machine
provider_goes Input.Tick second setting stp_of s = all_go (agent_of setting) s.now second s.next s.records
provider_goes (Input.Force n) second setting stp_of s = forced_goes (is_forcible s n) setting s n
provider_goes (Input.Acked i) second setting stp_of s = honours_same setting.name s.records []
provider_goes (Input.Ask n ask) second setting stp_of s = honours_same setting.name s.records []

---- The request that is taken

second_none : (a b : Option ErrorName) → or_else a b ≡ None → b ≡ None
second_none None b h = h
second_none (Some x) b h = absurd (cc)

pub no_points : (now : ℕ) (stp_of : List ℕ → Option ℕ) (q : ReserveRequest) → points_of stp_of q ≡ None → first_refusal now stp_of q ≡ None → ⊥
no_points now stp_of q e h = by (points_of stp_of q) e (second_none (schedule_refusal now q) (refused_if (is_none (points_of stp_of q)) ErrorName.UnknownStp) h)
  where
    by : (o : Option (ℕ × ℕ)) → o ≡ None → refused_if (is_none o) ErrorName.UnknownStp ≡ None → ⊥
    by None e h = cc
    by (Some points) e h = cc

pub unnamed_none : (now : ℕ) (agent : List ℕ) (stp_of : List ℕ → Option ℕ) (records : List Record) (m : Message) → connection_of m.body ≡ None → refusal now agent stp_of records m ≡ None → unnamed_refusal now m.body stp_of ≡ None
unfolding refusal
unnamed_none now agent stp_of records m e h =
    sym (ap (λ o. about now o m.header.requester stp_of records m.body) e)
    ∙ second_none (refused_if (not (bytes_eq m.header.provider agent)) ErrorName.WrongProvider) (about now (connection_of m.body) m.header.requester stp_of records m.body) h

-- a move of a record carries a request of its owner
kept_serves : (setting : Setting) (s : State) (n : ℕ) (x : Moved) (m : Message) → n < length s.records → (record_at n s.records).owner ≡ m.header.requester → m.header.provider ≡ setting.name →
    is_carried (kind_of m.body) m.header.correlation x ≡ true → IsLater (record_at n s.records) x.rec → IsServed setting.name (keeps setting s n x).state.records (keeps setting s n x).out m
kept_serves setting s n x m lt owner agent carried later =
    let p : Plane = status_of s.now (record_at n s.records) in
    let c : ℕ = id_of setting.number s.next in
    let y : Moved = tells p c s.now x in
    served_there setting.name (slice_set s.records n y.rec) n y.rec (addressed setting.name y.rec.owner y.out) m (set_here s.records n y.rec lt) agent
    (carried_serves setting.name m y ((tells_later p c s.now (record_at n s.records) x later).owner ∙ owner) agent (tells_carried (kind_of m.body) p c s.now m.header.correlation x carried))

module _ (setting : Setting) (stp_of : List ℕ → Option ℕ) (s : State) (m : Message) (asks : is_request m.body ≡ true) where
  abbrev Served : Stepped → Type 0
  Served x = IsServed setting.name x.state.records x.out m

  -- an error answers it
  refused_serves : (t : State) (error : ErrorName) → Served (says t (error_reply setting.name m error ∷ []))
  refused_serves t error = inl (answered_by m (error_reply setting.name m error) refl (error_answers (kind_of m.body) asks))

  module _ (todo : is_query m.body ≡ false) where
    moved_serves : (n : ℕ) (own : Record) → slice_get s.records n ≡ Some own → own.owner ≡ m.header.requester → m.header.provider ≡ setting.name → record_refusal s.now m.body own ≡ None → Served (taken_at setting (seen_with s m) n m)
    moved_serves n own there owner agent fine =
        let r : Record = record_at n s.records in
        let same : r ≡ own = get_or_from_slice_get s.records n own no_record there in
        let o : Option Move = requested s.now m.body m.header.correlation r in
        let fit : IsFitFor s.now m.body r = subst (IsFitFor s.now m.body) (sym same) (unrefused_fits s.now m.body own fine) in
        kept_serves setting (seen_with s m) n (moves_if Side.Provider o s.now r) m (slice_get_within s.records n own there) (ap (λ (z : Record). z.owner) same ∙ owner) agent
        (request_taken Side.Provider m.body m.header.correlation s.now r asks todo fit) (moves_if_later Side.Provider o s.now r)

    new_serves : (q : ReserveRequest) (points : ℕ × ℕ) → m.body ≡ Body.Reserve q → m.header.provider ≡ setting.name → first_refusal s.now stp_of q ≡ None → Served (taken_at setting (with_new setting (seen_with s m) m q points) (length s.records) m)
    unfolding is_live
    new_serves q points is agent fine =
        let t : State = with_new setting (seen_with s m) m q points in
        let new : Record = new_record setting (seen_with s m) m q points in
        let r : Record = record_at (length s.records) t.records in
        let same : r ≡ new = get_or_from_slice_get t.records (length s.records) new no_record (push_here s.records new) in
        let o : Option Move = requested s.now m.body m.header.correlation r in
        kept_serves setting t (length s.records) (moves_if Side.Provider o t.now r) m (slice_get_within t.records (length s.records) new (push_here s.records new))
        (ap (λ (z : Record). z.owner) same) agent
        (subst (λ (z : Record). is_carried (kind_of m.body) m.header.correlation (moves_if Side.Provider (requested t.now m.body m.header.correlation z) t.now z) ≡ true) (sym same)
        (subst (λ (b : Body). is_carried (kind_of b) m.header.correlation (moves_if Side.Provider (requested t.now b m.header.correlation new) t.now new) ≡ true) (sym is)
        (reserve_taken Side.Provider q m.header.correlation t.now new refl refl (first_criteria t.now stp_of q fine))))
        (moves_if_later Side.Provider o t.now r)

    opened_serves : (o : Option (ℕ × ℕ)) (q : ReserveRequest) → m.body ≡ Body.Reserve q → m.header.provider ≡ setting.name → first_refusal s.now stp_of q ≡ None → points_of stp_of q ≡ o →
        Served (opens_between o setting (seen_with s m) m q)
    opened_serves None q is agent fine e = absurd (no_points s.now stp_of q e fine)
    opened_serves (Some points) q is agent fine e = new_serves q points is agent fine

    opening_serves : (body : Body) → m.body ≡ body → is_request body ≡ true → is_query body ≡ false → connection_of body ≡ None → m.header.provider ≡ setting.name → unnamed_refusal s.now body stp_of ≡ None →
        Served (opens body setting stp_of (seen_with s m) m)
    unfolding connection_of unnamed_refusal
    opening_serves (Body.Reserve q) is a b c agent fine = opened_serves (points_of stp_of q) q is agent fine refl
    opening_serves _ is a b c agent fine = absurd (cc)

    accepting_serves : (o : Option ℕ) → connection_of m.body ≡ o → refusal s.now setting.name stp_of s.records m ≡ None → Served (accepts o setting stp_of (seen_with s m) m)
    accepting_serves None e r = opening_serves m.body refl asks todo e (unrefused_agent s.now setting.name stp_of s.records m r) (unnamed_none s.now setting.name stp_of s.records m e r)
    accepting_serves (Some id) e r =
        let at : IsTakenAt s.now m s.records id = unrefused_at s.now setting.name stp_of s.records m id e r in
        subst (λ (k : ℕ). Served (taken_at setting (seen_with s m) k m)) (sym (ap (λ o. unwrap_or o 0) at.found))
        (moved_serves at.place at.own at.there at.owner (unrefused_agent s.now setting.name stp_of s.records m r) at.unrefused)

    answering_serves : (o : Option ErrorName) → refusal s.now setting.name stp_of s.records m ≡ o → Served (answers o setting stp_of (seen_with s m) m)
    answering_serves (Some error) r = refused_serves (seen_with s m) error
    answering_serves None r = accepting_serves (connection_of m.body) refl r

  serving_serves : (b : Bool) → is_query m.body ≡ b → Served (serves b setting stp_of (seen_with s m) m)
  serving_serves true q = inl (query_answered setting.name s.now s.records m q)
  serving_serves false todo = answering_serves todo (refusal s.now setting.name stp_of s.records m) refl

  -- what is taken for the first time is answered, or worked on
  receiving_serves : is_taken m.header s.seen ≡ false → Served (receives (is_request m.body) (is_taken m.header s.seen) setting stp_of s m)
  unfolding receives
  receiving_serves new =
      subst (λ a. Served (receives a (is_taken m.header s.seen) setting stp_of s m)) (sym asks)
      (subst (λ b. Served (receives true b setting stp_of s m)) (sym new) (serving_serves (is_query m.body) refl))

pub provider_serves : (m : Message) (second : ℕ) (setting : Setting) (stp_of : List ℕ → Option ℕ) (s : State) → is_request m.body ≡ true → is_taken m.header s.seen ≡ false →
    IsServed setting.name (step (Input.Got m) second setting stp_of s).state.records (step (Input.Got m) second setting stp_of s).out m
unfolding step
provider_serves m second setting stp_of s asks new = receiving_serves setting stp_of s m asks new
