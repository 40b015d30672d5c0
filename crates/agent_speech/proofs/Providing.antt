-- What an entry makes a provider say was owed.
use Rattle.std.proofs.Common.{ℕ, ◌+◌, ◌≤◌, ◌<◌, ◌≡◌, ◌∙◌, Bool, true, false, List, [], ◌∷◌, Option, Some, None, ◌&&◌, refl, sym, ap, subst, arith, length, length-append, unwrap_or, bytes_eq}
use Rattle.std.proofs.lemmas.Option.{slice_get_within, get_or_from_slice_get}
use Rattle.nsi_primitive.specs.Ids.{id_of}
use Rattle.nsi_primitive.specs.Messages.{is_request, is_query, connection_of}
use Rattle.nsi_primitive.specs.declared.entry.Input.{Input}
use Rattle.nsi_primitive.specs.declared.kind.ErrorName.{ErrorName}
use Rattle.nsi_primitive.specs.declared.plane.Plane.{Plane}
use Rattle.nsi_primitive.specs.declared.state.Machine.{Machine}
use Rattle.nsi_primitive.specs.declared.state.Side.{Side}
use Rattle.nsi_primitive.specs.declared.message.Body.{Body}
use Rattle.nsi_primitive.specs.declared.message.Header.{Header}
use Rattle.nsi_primitive.specs.declared.message.Message.{Message}
use Rattle.nsi_primitive.specs.declared.message.ReserveRequest.{ReserveRequest}
use Rattle.message_retry.specs.Taken.{is_taken}
use Rattle.connection_record.specs.declared.record.Record.{Record}
use Rattle.connection_record.specs.Applied.{moves, moves_if, requested, status_of, is_told, tells}
use Rattle.connection_record.specs.Later.{IsLater}
use Rattle.connection_record.specs.Moves.{is_live}
use Rattle.connection_record.specs.Refusal.{refusal, points_of}
use Rattle.connection_record.specs.Replies.{Moved}
use Rattle.connection_record.specs.Speaking.{tally, is_asking, is_noting, is_answering, drawn_of, no_ids, drawn_if, Speaks}
use Rattle.connection_record.specs.Unrefused.{IsTakenAt}
use Rattle.connection_record.proofs.Growing.{moves_later, moves_if_later, ticks_later, tells_later}
use Rattle.connection_record.proofs.Saying.{tally_append, moves_speaks, takes_speaks, works_speaks, ticks_speaks, tells_speaks}
use Rattle.connection_record.proofs.Unrefused.{unrefused_agent, unrefused_at}
use Rattle.nsi_query.specs.Answers.{answer_to}
use Rattle.nsi_query.proofs.Answering.{providers_tell_rows}
use Rattle.agent_state.specs.Entries.{error_reply, query_reply}
use Rattle.agent_state.specs.State.{State, Stepped, record_at, no_record}
use Rattle.provider_agent.specs.declared.agent.Agent.{Agent}
use Rattle.provider_agent.specs.Others.{lacking}
use Rattle.provider_agent.specs.Setting.{Setting}
use Rattle.provider_agent.specs.Steps.{messages_by, drawn, keeps, taken_at, with_new, opens_between, opens, accepts, answers, serves, receives, is_waiting, work_at, works, is_forcible, force_move, forces, ticks_at, is_told_at, told_at, Ticked, ticks_all, ticks, step, agent_of, own_origin}
use Rattle.provider_agent.proofs.GoodAfter.{waits_within, forcible_within}
use Rattle.agent_state.proofs.Querying.{replied_by, reply_header}
use Rattle.provider_agent.proofs.RequestCases.{seen_with, new_record}
use Rattle.agent_speech.specs.Owing.{answers_to, is_drawn, is_foreign, owed_by, has_id, before}
use Rattle.agent_speech.proofs.Measures.{speaks_answers, speaks_drawn, speaks_own, none_begun, before_next}
use Rattle.agent_speech.proofs.Records.{record_pushed}
use Rattle.agent_speech.proofs.Once.{RecordsSay, says_nothing, says_none, HasTaken, says_taken, says_one, IsTurned, by_itself, by_request, owed_set, owed_cons, owed_new, ids_set, ids_cons, ids_new}
use Rattle.agent_speech.proofs.Queried.{rows_answer}

pub told_next : (told : Bool) (number n c : ℕ) → drawn_if told (id_of number n) c + before number n c ≤ before number (n + drawn told) c
told_next true number n c = before_next number n c
told_next false number n c = let e : n + drawn false ≡ n = omega arith in omega (arith, ap (λ z. before number z c) e)

abbrev pub Says : Setting → State → Stepped → Type 0
Says setting s x = RecordsSay setting.name setting.number s x.state x.out

abbrev pub Turns : Setting → Option ℕ → List ℕ → State → Stepped → Type 0
Turns setting begun owner s x = IsTurned setting.name setting.number begun owner s x.state x.out

-- a record's move, which draws the ids from a number up to the state's next
pub kept_turned : (setting : Setting) (s : State) (k from : ℕ) (begun : Option ℕ) (f : ℕ → ℕ) (x : Moved) → k < length s.records → Speaks begun f (record_at k s.records) x →
    IsLater (record_at k s.records) x.rec → ((c : ℕ) → f c + before setting.number from c ≤ before setting.number s.next c) → Turns setting begun (record_at k s.records).owner (record s { next = from }) (keeps setting s k x)
kept_turned setting s k from begun f x l speaks later draws =
    let r : Record = record_at k s.records in
    let p : Plane = status_of s.now r in
    let y : Moved = tells p (id_of setting.number s.next) s.now x in
    let g : ℕ → ℕ = λ c. f c + drawn_if (is_told p s.now x.rec) (id_of setting.number s.next) c in
    let t : Speaks begun g r y = tells_speaks p begun f (id_of setting.number s.next) s.now r x speaks in
    record {
      answers = λ h n. omega (arith, speaks_answers begun g setting.name r y t h n, owed_set setting.name h n s.records k y.rec l);
      drawn = λ c.
          omega (
            arith,
            speaks_drawn begun g setting.name r y t c,
            told_next (is_told p s.now x.rec) setting.number s.next c,
            draws c,
            ids_set c s.records k y.rec l (tells_later p (id_of setting.number s.next) s.now r x later).id,
          );
      own = speaks_own begun g setting.name r y t;
      seen = refl;
    }

---- Requests

pub taken_turned : (setting : Setting) (s : State) (k : ℕ) (m : Message) → k < length s.records → Turns setting (Some m.header.correlation) (record_at k s.records).owner s (taken_at setting s k m)
taken_turned setting s k m l =
    let r : Record = record_at k s.records in
    kept_turned setting s k s.next (Some m.header.correlation) no_ids (moves_if Side.Provider (requested s.now m.body m.header.correlation r) s.now r) l
    (takes_speaks Side.Provider m.body m.header.correlation s.now r) (moves_if_later Side.Provider (requested s.now m.body m.header.correlation r) s.now r) (λ c. omega arith)

error_answers : (agent : List ℕ) (m : Message) (e : ErrorName) → is_answering (error_reply agent m e).body ≡ true
unfolding is_answering is_asking is_noting
error_answers agent m e = refl

reply_answers : (setting : Setting) (s : State) (m : Message) → is_answering (query_reply setting.name m (answer_to setting.name s.now s.records m)).body ≡ true
reply_answers setting s m =
    replied_by (λ b. is_answering b ≡ true) setting.name m (answer_to setting.name s.now s.records m) (λ error plain. error_answers setting.name m error)
    (λ body e. rows_answer body (providers_tell_rows setting.name s.now s.records m body e))

module _ (setting : Setting) (stp_of : List ℕ → Option ℕ) (s : State) (m : Message) (u : is_taken m.header s.seen ≡ false) where
  new_turned : (q : ReserveRequest) (points : ℕ × ℕ) → Turns setting (Some m.header.correlation) m.header.requester (seen_with s m) (taken_at setting (with_new setting (seen_with s m) m q points) (length s.records) m)
  new_turned q points =
      let t : State = with_new setting (seen_with s m) m q points in
      let r : Record = new_record setting (seen_with s m) m q points in
      let within : length s.records < length t.records = omega (arith, length-append s.records (r ∷ [])) in
      let is : (record_at (length s.records) t.records).owner ≡ m.header.requester = ap (λ (z : Record). z.owner) (record_pushed s.records r) in
      let a : Turns setting (Some m.header.correlation) (record_at (length s.records) t.records).owner t (taken_at setting t (length s.records) m) = taken_turned setting t (length s.records) m within in
      let b : Turns setting (Some m.header.correlation) m.header.requester t (taken_at setting t (length s.records) m) =
      subst (λ (o : List ℕ). Turns setting (Some m.header.correlation) o t (taken_at setting t (length s.records) m)) is a
      in
      record {
        answers = λ h n. omega (arith, b.answers h n, owed_new setting.name h n s.records r.id m.header.requester r.service points.0 points.1);
        drawn = λ c. omega (arith, b.drawn c, ids_new setting.number s.next c s.records m.header.requester r.service points.0 points.1);
        own = b.own;
        seen = b.seen;
      }

  has_taken : HasTaken m.header s (seen_with s m)
  has_taken = record { new = u; records = refl; next = refl; seen = refl }

  only_seen : Says setting s (record { state = seen_with s m; out = [] })
  only_seen = says_taken setting.name setting.number m.header s (seen_with s m) has_taken

  between_says : (o : Option (ℕ × ℕ)) (q : ReserveRequest) → m.header.provider ≡ setting.name → Says setting s (opens_between o setting (seen_with s m) m q)
  between_says None q p = only_seen
  between_says (Some points) q p =
      let x : Stepped = taken_at setting (with_new setting (seen_with s m) m q points) (length s.records) m in
      by_request setting.name setting.number m.header m.header.requester s (seen_with s m) x.state x.out refl p has_taken (new_turned q points)

  opens_says : (body : Body) → m.header.provider ≡ setting.name → Says setting s (opens body setting stp_of (seen_with s m) m)
  opens_says (Body.Reserve q) p = between_says (points_of stp_of q) q p
  opens_says _ p = only_seen

  accepts_says : (o : Option ℕ) → connection_of m.body ≡ o → refusal s.now setting.name stp_of s.records m ≡ None → Says setting s (accepts o setting stp_of (seen_with s m) m)
  accepts_says None e r = opens_says m.body (unrefused_agent s.now setting.name stp_of s.records m r)
  accepts_says (Some id) e r =
      let at : IsTakenAt s.now m s.records id = unrefused_at s.now setting.name stp_of s.records m id e r in
      let within : at.place < length s.records = slice_get_within s.records at.place at.own at.there in
      let owner : (record_at at.place s.records).owner ≡ m.header.requester = ap (λ (z : Record). z.owner) (get_or_from_slice_get s.records at.place at.own no_record at.there) ∙ at.owner in
      let x : Stepped = taken_at setting (seen_with s m) at.place m in
      subst (λ (k : ℕ). Says setting s (taken_at setting (seen_with s m) k m)) (sym (ap (λ o. unwrap_or o 0) at.found))
      (by_request setting.name setting.number m.header (record_at at.place s.records).owner s (seen_with s m) x.state x.out owner (unrefused_agent s.now setting.name stp_of s.records m r) has_taken
      (taken_turned setting (seen_with s m) at.place m within))

  answers_says : (o : Option ErrorName) → refusal s.now setting.name stp_of s.records m ≡ o → Says setting s (answers o setting stp_of (seen_with s m) m)
  answers_says (Some e) r = says_one setting.name setting.number s (seen_with s m) m (error_reply setting.name m e) has_taken refl (error_answers setting.name m e)
  answers_says None r = accepts_says (connection_of m.body) refl r

  serves_says : (b : Bool) → Says setting s (serves b setting stp_of (seen_with s m) m)
  serves_says true =
      says_one setting.name setting.number s (seen_with s m) m (query_reply setting.name m (answer_to setting.name s.now s.records m)) has_taken
      (reply_header setting.name m (answer_to setting.name s.now s.records m)) (reply_answers setting s m)
  serves_says false = answers_says (refusal s.now setting.name stp_of s.records m) refl

pub receives_says : (setting : Setting) (stp_of : List ℕ → Option ℕ) (s : State) (m : Message) → Says setting s (receives (is_request m.body) (is_taken m.header s.seen) setting stp_of s m)
unfolding receives
receives_says setting stp_of s m = by (is_request m.body) (is_taken m.header s.seen) refl
  where
    by : (a b : Bool) → is_taken m.header s.seen ≡ b → Says setting s (receives a b setting stp_of s m)
    by true false u = serves_says setting stp_of s m u (is_query m.body)
    by true true u = says_none setting.name setting.number s
    by false b u = says_none setting.name setting.number s

---- Work, and a forced end

works_says : (setting : Setting) (s : State) (n : ℕ) (machine : Machine) (b : Bool) → is_waiting s n machine ≡ b → Says setting s (works b setting s n machine)
unfolding works
works_says setting s n machine false e = says_none setting.name setting.number s
works_says setting s n machine true e =
    let r : Record = record_at n s.records in
    let x : Stepped = keeps setting s n (moves_if Side.Provider (work_at setting s n machine) s.now r) in
    by_itself setting.name setting.number r.owner s x.state x.out
    (kept_turned setting s n s.next None no_ids (moves_if Side.Provider (work_at setting s n machine) s.now r) (waits_within s n machine e)
    (works_speaks Side.Provider machine (lacking setting s n) setting.name (s.now + setting.hold) s.now r) (moves_if_later Side.Provider (work_at setting s n machine) s.now r) (λ c. omega arith))

forces_says : (setting : Setting) (s : State) (n : ℕ) (b : Bool) → is_forcible s n ≡ b → Says setting s (forces b setting s n)
unfolding forces
forces_says setting s n false e = says_none setting.name setting.number s
forces_says setting s n true e =
    let r : Record = record_at n s.records in
    let t : State = record s { next = s.next + 1 } in
    let x : Stepped = keeps setting t n (moves Side.Provider (force_move setting s n) s.now r) in
    by_itself setting.name setting.number r.owner s x.state x.out
    (kept_turned setting t n s.next None (drawn_of (force_move setting s n)) (moves Side.Provider (force_move setting s n) s.now r) (forcible_within s n e)
    (moves_speaks Side.Provider (force_move setting s n) s.now r) (moves_later Side.Provider (force_move setting s n) s.now r) (λ c. before_next setting.number s.next c))

---- Time

-- records after a tick, and what they say
record IsTicked (agent : Agent) (next : ℕ) (rs : List Record) (x : Ticked) : Type 0 where
  answers : (h : Header) (n : ℕ) → tally (answers_to h n) x.out + owed_by agent.name h n x.records ≤ owed_by agent.name h n rs
  drawn : (c : ℕ) → tally (is_drawn c) x.out + (tally (has_id c) x.records + before agent.number next c) ≤ tally (has_id c) rs + before agent.number x.next c
  own : tally (is_foreign agent.name) x.out ≡ 0

all_ticked : (agent : Agent) (old now next : ℕ) (rs : List Record) → IsTicked agent next rs (ticks_all agent old now next rs)
unfolding ticks_all tally
all_ticked agent old now next [] = record { answers = λ h n. omega arith; drawn = λ c. omega arith; own = refl }
all_ticked agent old now next (r ∷ rs) =
    let x : Moved = told_at agent old now (id_of agent.number next) r in
    let told : Bool = is_told_at agent old now r in
    let f : ℕ → ℕ = λ c. no_ids c + drawn_if told (id_of agent.number next) c in
    let speaks : Speaks None f r x = tells_speaks (status_of old r) None no_ids (id_of agent.number next) now r (ticks_at agent now r) (ticks_speaks (is_live r.lsm) (own_origin agent r) now r) in
    let rest : Ticked = ticks_all agent old now (next + drawn told) rs in
    let t : IsTicked agent (next + drawn told) rs rest = all_ticked agent old now (next + drawn told) rs in
    record {
      answers = λ h n. omega (
        arith,
        tally_append (answers_to h n) (messages_by agent.name x) rest.out,
        speaks_answers None f agent.name r x speaks h n,
        t.answers h n,
        owed_cons agent.name h n r rs,
        owed_cons agent.name h n x.rec rest.records,
        none_begun (bytes_eq h.requester r.owner && bytes_eq h.provider agent.name) h,
      );
      drawn = λ c.
          omega (
            arith,
            tally_append (is_drawn c) (messages_by agent.name x) rest.out,
            speaks_drawn None f agent.name r x speaks c,
            told_next told agent.number next c,
            t.drawn c,
            ids_cons c r x.rec rest.records (tells_later (status_of old r) (id_of agent.number next) now r (ticks_at agent now r) (ticks_later (is_live r.lsm) (own_origin agent r) now r)).id,
            ids_cons c r r rs refl,
          );
      own = omega (arith, tally_append (is_foreign agent.name) (messages_by agent.name x) rest.out, speaks_own None f agent.name r x speaks, t.own);
    }

ticks_says : (setting : Setting) (now : ℕ) (s : State) → Says setting s (ticks setting now s)
unfolding ticks
ticks_says setting now s =
    let t : IsTicked (agent_of setting) s.next s.records (ticks_all (agent_of setting) s.now now s.next s.records) = all_ticked (agent_of setting) s.now now s.next s.records in
    record { answers = λ h n. omega (arith, t.answers h n); drawn = t.drawn; own = t.own }

---- One entry

pub provider_says : (i : Input) (second : ℕ) (setting : Setting) (stp_of : List ℕ → Option ℕ) (s : State) → Says setting s (step i second setting stp_of s)
unfolding step
provider_says (Input.Got m) second setting stp_of s = receives_says setting stp_of s m
provider_says (Input.Work n machine) second setting stp_of s = works_says setting s n machine (is_waiting s n machine) refl
provider_says Input.Tick second setting stp_of s = ticks_says setting second s
provider_says (Input.Force n) second setting stp_of s = forces_says setting s n (is_forcible s n) refl
provider_says (Input.Acked i) second setting stp_of s = says_nothing setting.name setting.number s _ refl refl (λ h. omega arith)
provider_says (Input.Ask n ask) second setting stp_of s = says_none setting.name setting.number s
