-- What an entry makes an aggregator say was owed, and what it asks its views hold.
use Rattle.std.proofs.Common.{ℕ, zero, suc, ◌+◌, ◌≤◌, ◌<◌, ◌≡◌, Bool, true, false, List, [], ◌∷◌, Option, Some, None, ◌==◌, ◌&&◌, refl, sym, ap, ◌∙◌, subst, arith, length, length-append, length-set, bytes_eq}
use Rattle.std.specs.List.{list_any}
use Rattle.std.specs.Prelude.{sum_by}
use Rattle.std.proofs.lemmas.List.Sums.{sum_by-cons, sum_by-append, sum_by-set}
use Rattle.std.proofs.lemmas.Option.{slice_get_within, get_or_from_slice_get}
use Rattle.nsi_primitive.specs.Ids.{id_of}
use Rattle.nsi_primitive.specs.Messages.{is_request, connection_of, is_query}
use Rattle.nsi_primitive.specs.declared.entry.Input.{Input}
use Rattle.nsi_primitive.specs.declared.kind.ErrorName.{ErrorName}
use Rattle.nsi_primitive.specs.declared.message.Body.{Body}
use Rattle.nsi_primitive.specs.declared.message.Header.{Header}
use Rattle.nsi_primitive.specs.declared.message.Message.{Message}
use Rattle.nsi_primitive.specs.declared.message.ReserveRequest.{ReserveRequest}
use Rattle.connection_record.specs.declared.record.Record.{Record}
use Rattle.connection_record.specs.Demand.{last}
use Rattle.connection_record.specs.declared.life.LifecycleMove.{LifecycleMove}
use Rattle.connection_record.specs.Lives.{lives_if}
use Rattle.connection_record.specs.Moves.{fresh, service_of, is_live}
use Rattle.connection_record.specs.Refusal.{refusal, points_of}
use Rattle.connection_record.specs.Replies.{Moved, addressed}
use Rattle.connection_record.specs.Applied.{schedule_end}
use Rattle.connection_record.specs.Speaking.{one, tally, is_asking, is_noting, is_answering, answers_as, notes_as, asks_for, owed_reserve, owed_provision, owed_life, owed, no_ids, Speaks}
use Rattle.connection_record.specs.Unrefused.{IsTakenAt}
use Rattle.connection_record.proofs.Growing.{lives_if_later}
use Rattle.connection_record.proofs.Saying.{tally_append, stays_speaks}
use Rattle.connection_record.proofs.Unrefused.{unrefused_agent, unrefused_at}
use Rattle.child_connection.specs.Views.{ChildConnection}
use Rattle.agent_state.specs.declared.parent.Due.{Due}
use Rattle.agent_state.specs.declared.parent.OpenQuery.{OpenQuery}
use Rattle.agent_state.specs.Entries.{error_reply, is_recursive, retry_of, query_reply}
use Rattle.agent_state.specs.State.{sends, AgentState, AgentStepped, stays, record_at, no_record, name_or, children_at}
use Rattle.aggregator_agent.specs.declared.agent.Agent.{Agent}
use Rattle.aggregator_agent.specs.Asking.{Turn}
use Rattle.aggregator_agent.specs.Below.{Sought, is_asked, seek, opened, nested_reply, Heard, hear_below}
use Rattle.aggregator_agent.specs.Clock.{tells_late, Told, tell_one, tell_all, is_late_of, ends, clocked, Clocked, clock_then, clock_all}
use Rattle.aggregator_agent.specs.Setting.{Setting}
use Rattle.aggregator_agent.specs.Steps.{is_seen, sees, children_for, request_at, with_new, opens_between, opens, request_to, accepts, answers, Passed, pass_then, hear_all, hears, opens_query, asks_below, asks_if_own, place_named, queries, receives, ticks, step, serves}
use Rattle.aggregator_agent.specs.Turns.{request_turn, answer_turn, spoken}
use Rattle.agent_speech.specs.Owing.{answers_to, is_drawn, is_foreign, owed_under, owed_by, owes_rows, has_id, before, took, SaysWhatItOwes}
use Rattle.agent_speech.specs.Unanswered.{reserves_at, answers_at, holding, held, misfitting, unfit, AreEven}
use Rattle.agent_speech.proofs.Measures.{addressed_answers, addressed_drawn, addressed_foreign, none_begun, before_next, taken_more}
use Rattle.agent_speech.proofs.Below.{IsSought, all_sought, owes_most, IsToldBelow, told_below}
use Rattle.agent_speech.proofs.Counting.{tally_none, tally_cons}
use Rattle.agent_speech.proofs.Once.{records_say, says_nothing, says_none, HasTaken, says_taken, says_one, IsTurned, by_request, owed_set, owed_cons, owed_new, ids_set, ids_cons, ids_new}
use Rattle.agent_speech.proofs.Records.{record_pushed}
use Rattle.agent_speech.proofs.Noting.{saw_leaves, saw_other, new_request, saw_request}
use Rattle.agent_speech.proofs.Holding.{IsHolding, holds_still, holds_same, nothing_asked, answer_reserves, addressed_reserves}
use Rattle.agent_speech.proofs.Asking.{Any, Unless, path_holds, path_fits}
use Rattle.agent_speech.proofs.Turning.{IsTurning, request_turning, answer_turning, spoken_answers, spoken_drawn, spoken_own, spoken_reserves, lives_if_speaks, life_draws, ending_own}
use Rattle.aggregator_agent.specs.Queries.{answer_to}
use Rattle.agent_state.proofs.Querying.{replied_by, reply_header}
use Rattle.aggregator_agent.proofs.Queried.{tells_rows}
use Rattle.agent_speech.proofs.Queried.{rows_answer, rows_ask}

-- what an entry says, what the views hold then but for what is heard, and that records and views stand side by side
pub record IsStep (setting : Setting) (s : AgentState) (x : AgentStepped) : Type 0 where
  pub says : SaysWhatItOwes setting.agent.name setting.agent.number s x.state x.out
  pub holds : AreEven s → IsHolding s x.state x.out
  pub even : AreEven s → AreEven x.state

stays_step : (setting : Setting) (s : AgentState) → IsStep setting s (stays s)
stays_step setting s =
    record {
      says = records_say setting.agent.name setting.agent.number s s [] refl (says_none setting.agent.name setting.agent.number s.base);
      holds = λ e. holds_same s;
      even = λ e. e;
    }

---- A connection that takes a request

-- the views of one connection count no more than all
at_most : (f : List ChildConnection → ℕ) (n : ℕ) (all : List (List ChildConnection)) → n < length all → f (children_at n all) ≤ sum_by f all
at_most f n [] l = absurd (omega (arith, l))
at_most f zero (xs ∷ xss) l = omega (arith, sum_by-cons f xs xss)
at_most f (suc n) (xs ∷ xss) l = omega (arith, sum_by-cons f xs xss, at_most f n xss (omega (arith, l)))

-- a part of an entry that begins with this state
record IsPart (setting : Setting) (g : Header) (owner : List ℕ) (s : AgentState) (x : AgentStepped) : Type 0 where
  turned : IsTurned setting.agent.name setting.agent.number (Some g.correlation) owner s.base x.state.base x.out
  queries : x.state.queries ≡ s.queries
  holds : AreEven s → IsHolding s x.state x.out
  even : AreEven s → AreEven x.state

request_part : (setting : Setting) (s : AgentState) (n : ℕ) (m : Message) → n < length s.base.records → IsPart setting m.header (record_at n s.base.records).owner s (request_at setting s n m)
unfolding request_at held unfit
request_part setting s n m l =
    let r : Record = record_at n s.base.records in
    let old : List ChildConnection = children_at n s.children in
    let xs : List ChildConnection = children_for setting s n m in
    let t : Turn = request_turn setting.agent s.base.now m r xs s.base.next in
    let c : Option ℕ = Some m.header.correlation in
    let u : IsTurning Any setting.agent c r xs s.base.next t = request_turning setting.agent s.base.now m r xs s.base.next in
    record {
      turned = record {
        answers = λ h k. omega (arith, spoken_answers Any setting.agent c r xs s.base.next t u h k, owed_set setting.agent.name h k s.base.records n t.own l);
        drawn = λ d. omega (arith, spoken_drawn Any setting.agent c r xs s.base.next t u d, ids_set d s.base.records n t.own l u.id);
        own = spoken_own Any setting.agent c r xs s.base.next t u;
        seen = refl;
      };
      queries = refl;
      holds = λ e.
          let k : n < length s.children = omega (arith, l, e) in
          record {
            fit = omega (arith, sum_by-set misfitting s.children n t.children [] k, u.fit, path_fits m.body old (setting.route r.source r.dest));
            holds_on = λ p d a.
                omega (
                  arith,
                  sum_by-set (holding p d) s.children n t.children [] k,
                  u.holds_on p d tt,
                  path_holds p d m.body old (setting.route r.source r.dest),
                  path_fits m.body old (setting.route r.source r.dest),
                  at_most misfitting n s.children k,
                  spoken_reserves Any setting.agent c r xs s.base.next t u p d,
                );
            few = λ p d.
                omega (
                  arith,
                  sum_by-set (holding p d) s.children n t.children [] k,
                  u.few p d,
                  path_holds p d m.body old (setting.route r.source r.dest),
                  spoken_reserves Any setting.agent c r xs s.base.next t u p d,
                );
          };
      even = λ e. length-set s.children n t.children ∙ e ∙ sym (length-set s.base.records n t.own);
    }

---- A request

module _ (setting : Setting) (s : AgentState) (m : Message) (asks : is_request m.body ≡ true) (new : is_seen s m ≡ false) where
  abbrev t : AgentState
  t = sees m s

  has_taken : HasTaken m.header s.base t.base
  has_taken = record { new = new_request m (retry_of s.base) asks new; records = refl; next = refl; seen = saw_request m (retry_of s.base) asks }

  -- what begins behind the request that was noted begins with the entry
  noted_holds : (x : AgentStepped) → IsHolding t x.state x.out → IsHolding s x.state x.out
  unfolding held unfit
  noted_holds x a = record { fit = a.fit; holds_on = a.holds_on; few = a.few }

  quiet_step : IsStep setting s (stays t)
  quiet_step =
      record {
        says = records_say setting.agent.name setting.agent.number s t [] refl (says_taken setting.agent.name setting.agent.number m.header s.base t.base has_taken);
        holds = λ e. holds_still s t [] refl refl nothing_asked;
        even = λ e. e;
      }

  answer_is : (e : ErrorName) → is_answering (error_reply setting.agent.name m e).body ≡ true
  unfolding is_answering is_asking is_noting
  answer_is e = refl

  answer_asks : (e : ErrorName) → is_asking (error_reply setting.agent.name m e).body ≡ false
  unfolding is_asking
  answer_asks e = refl

  -- one answer, and nothing else
  answered_step : (reply : Message) → reply.header ≡ m.header → is_answering reply.body ≡ true → is_asking reply.body ≡ false → IsStep setting s (sends t (reply ∷ []))
  answered_step reply e answers asks_nothing =
      record {
        says = records_say setting.agent.name setting.agent.number s t (reply ∷ []) refl (says_one setting.agent.name setting.agent.number s.base t.base m reply has_taken e answers);
        holds = λ v. holds_still s t _ refl refl (λ p c. answer_reserves p c reply [] asks_nothing ∙ nothing_asked p c);
        even = λ v. v;
      }

  refused_step : (e : ErrorName) → IsStep setting s (sends t (error_reply setting.agent.name m e ∷ []))
  refused_step e = answered_step (error_reply setting.agent.name m e) refl (answer_is e) (answer_asks e)

  told_step : IsStep setting s (sends t (query_reply setting.agent.name m (answer_to setting.agent.name t m) ∷ []))
  told_step =
      let answer = answer_to setting.agent.name t m in
      answered_step (query_reply setting.agent.name m answer) (reply_header setting.agent.name m answer)
      (replied_by (λ b. is_answering b ≡ true) setting.agent.name m answer (λ e plain. answer_is e) (λ body e. rows_answer body (tells_rows setting.agent.name t m body e)))
      (replied_by (λ b. is_asking b ≡ false) setting.agent.name m answer (λ e plain. answer_asks e) (λ body e. rows_ask body (tells_rows setting.agent.name t m body e)))

  -- a query that waits is a request that was taken, and owes its answer
  opened_step : (waits : Bool) (n : ℕ) (x : Sought) → IsSought setting.agent s.base.next x → IsStep setting s (opens_query waits setting t n m x)
  unfolding is_answering is_asking is_noting
  opened_step true n x a =
      let q : OpenQuery = opened m n x in
      record {
        says = record {
          answers = λ h k.
              omega (
                arith,
                a.answers h k,
                tally_append (owes_rows h k) s.queries (q ∷ []),
                tally_cons (owes_rows h k) q [],
                tally_none (owes_rows h k),
                owes_most h k q,
                taken_more h m.header s.base.seen has_taken.new,
                ap (took h) has_taken.seen,
              );
          drawn = λ c. omega (arith, a.drawn c);
          own = a.own;
        };
        holds = λ v. holds_still s _ x.asked refl refl a.reserves;
        even = λ v. v;
      }
  opened_step false n x a = answered_step (nested_reply setting.agent.name (record_at n s.base.records) (opened m n x)) refl refl refl

  below_step : (n : ℕ) → IsStep setting s (asks_below setting t n m)
  unfolding asks_below
  below_step n =
      let x : Sought = seek setting.agent s.base.next (children_at n s.children) in
      opened_step (list_any is_asked x.parts) n x (all_sought setting.agent s.base.next (children_at n s.children))

  owned_step : (is_own : Bool) (o : Option ℕ) → IsStep setting s (asks_if_own is_own o setting t m)
  owned_step true (Some n) = below_step n
  owned_step true None = refused_step ErrorName.Nonexistent
  owned_step false o = refused_step ErrorName.WrongProvider

  query_step : (is_recursive : Bool) → IsStep setting s (queries is_recursive setting t m)
  query_step true = owned_step (bytes_eq m.header.provider setting.agent.name) (place_named m s.base.records)
  query_step false = told_step

  at_step : (n : ℕ) → n < length s.base.records → (record_at n s.base.records).owner ≡ m.header.requester → m.header.provider ≡ setting.agent.name → IsStep setting s (request_at setting t n m)
  at_step n l o p =
      let a : IsPart setting m.header (record_at n s.base.records).owner t (request_at setting t n m) = request_part setting t n m l in
      let x : AgentStepped = request_at setting t n m in
      record {
        says =
            records_say setting.agent.name setting.agent.number s x.state x.out a.queries
            (by_request setting.agent.name setting.agent.number m.header (record_at n s.base.records).owner s.base t.base x.state.base x.out o p has_taken a.turned);
        holds = λ e. noted_holds x (a.holds e);
        even = λ e. a.even e;
      }

  new_even : (q : ReserveRequest) (points : ℕ × ℕ) → AreEven s → AreEven (with_new setting t m q points)
  new_even q points e = omega (arith, length-append s.children ([] ∷ []), length-append s.base.records (fresh (id_of setting.agent.number s.base.next) m.header.requester (service_of q (name_or q.source) (name_or q.dest)) points.0 points.1 ∷ []), e)

  between_step : (o : Option (ℕ × ℕ)) (q : ReserveRequest) → m.header.provider ≡ setting.agent.name → IsStep setting s (opens_between o setting t m q)
  unfolding held unfit tally
  between_step None q p = quiet_step
  between_step (Some points) q p =
      let w : AgentState = with_new setting t m q points in
      let r : Record = fresh (id_of setting.agent.number s.base.next) m.header.requester (service_of q (name_or q.source) (name_or q.dest)) points.0 points.1 in
      let within : length s.base.records < length w.base.records = omega (arith, length-append s.base.records (r ∷ [])) in
      let x : AgentStepped = request_at setting w (length s.base.records) m in
      let a : IsPart setting m.header (record_at (length s.base.records) w.base.records).owner w x = request_part setting w (length s.base.records) m within in
      let is : (record_at (length s.base.records) w.base.records).owner ≡ m.header.requester = ap (λ (z : Record). z.owner) (record_pushed s.base.records r) in
      let b : IsTurned setting.agent.name setting.agent.number (Some m.header.correlation) m.header.requester w.base x.state.base x.out =
      subst (λ (o : List ℕ). IsTurned setting.agent.name setting.agent.number (Some m.header.correlation) o w.base x.state.base x.out) is a.turned
      in
      let turned : IsTurned setting.agent.name setting.agent.number (Some m.header.correlation) m.header.requester t.base x.state.base x.out = record {
        answers = λ h n. omega (arith, b.answers h n, owed_new setting.agent.name h n s.base.records r.id m.header.requester r.service points.0 points.1);
        drawn = λ c. omega (arith, b.drawn c, ids_new setting.agent.number s.base.next c s.base.records m.header.requester r.service points.0 points.1);
        own = b.own;
        seen = b.seen;
      } in
      record {
        says =
            records_say setting.agent.name setting.agent.number s x.state x.out a.queries
            (by_request setting.agent.name setting.agent.number m.header m.header.requester s.base t.base x.state.base x.out refl p has_taken turned);
        holds = λ e. let h : IsHolding w x.state x.out = a.holds (new_even q points e) in
            record {
              fit = omega (arith, h.fit, sum_by-append misfitting s.children ([] ∷ []), sum_by-cons misfitting [] []);
              holds_on = λ c d n.
                  omega (
                    arith,
                    h.holds_on c d n,
                    sum_by-append misfitting s.children ([] ∷ []),
                    sum_by-cons misfitting [] [],
                    sum_by-append (holding c d) s.children ([] ∷ []),
                    sum_by-cons (holding c d) [] [],
                  );
              few = λ c d. omega (arith, h.few c d, sum_by-append (holding c d) s.children ([] ∷ []), sum_by-cons (holding c d) [] []);
            };
        even = λ e. a.even (new_even q points e);
      }

  opens_step : (body : Body) → m.header.provider ≡ setting.agent.name → IsStep setting s (opens body setting t m)
  opens_step (Body.Reserve q) p = between_step (points_of setting.stp_of q) q p
  opens_step _ p = quiet_step

  accepts_step : (o : Option ℕ) → connection_of m.body ≡ o → refusal s.base.now setting.agent.name setting.stp_of s.base.records m ≡ None → IsStep setting s (accepts o setting t m)
  accepts_step None e r = opens_step m.body (unrefused_agent s.base.now setting.agent.name setting.stp_of s.base.records m r)
  accepts_step (Some id) e r =
      let at : IsTakenAt s.base.now m s.base.records id = unrefused_at s.base.now setting.agent.name setting.stp_of s.base.records m id e r in
      let within : at.place < length s.base.records = slice_get_within s.base.records at.place at.own at.there in
      let owner : (record_at at.place s.base.records).owner ≡ m.header.requester =
      ap (λ (z : Record). z.owner) (get_or_from_slice_get s.base.records at.place at.own no_record at.there) ∙ at.owner
      in
      subst (λ (o : Option ℕ). IsStep setting s (request_to o setting t m)) (sym at.found) (at_step at.place within owner (unrefused_agent s.base.now setting.agent.name setting.stp_of s.base.records m r))

  pub answers_step : (o : Option ErrorName) → refusal s.base.now setting.agent.name setting.stp_of s.base.records m ≡ o → IsStep setting s (answers o setting t m)
  unfolding answers
  answers_step (Some e) r = refused_step e
  answers_step None r = accepts_step (connection_of m.body) refl r

  pub serves_step : (b : Bool) → IsStep setting s (serves b setting t m)
  serves_step true = query_step (is_recursive m.body)
  serves_step false = answers_step (refusal s.base.now setting.agent.name setting.stp_of s.base.records m) refl

---- All else that came

-- connections that hear a message
record IsPassed (agent : Agent) (m : Message) (next : ℕ) (rs : List Record) (xss : List (List ChildConnection)) (x : Passed) : Type 0 where
  answers : (h : Header) (n : ℕ) → tally (answers_to h n) x.out + owed_by agent.name h n x.records ≤ owed_by agent.name h n rs
  drawn : (c : ℕ) → tally (is_drawn c) x.out + (tally (has_id c) x.records + before agent.number next c) ≤ tally (has_id c) rs + before agent.number x.next c
  own : tally (is_foreign agent.name) x.out ≡ 0
  fit : sum_by misfitting x.children ≤ sum_by misfitting xss
  holds_on : (p : List ℕ) (c : ℕ) → answers_at p c m ≡ false → tally (reserves_at p c) x.out + sum_by (holding p c) xss ≤ sum_by (holding p c) x.children + sum_by misfitting xss
  few : (p : List ℕ) (c : ℕ) → sum_by (holding p c) x.children ≤ sum_by (holding p c) xss + tally (reserves_at p c) x.out
  even : length xss ≡ length rs → length x.children ≡ length x.records

all_passed : (agent : Agent) (now number : ℕ) (m : Message) (next : ℕ) (rs : List Record) (xss : List (List ChildConnection)) → IsPassed agent m next rs xss (hear_all agent now number m next rs xss)
unfolding hear_all pass_then tally
all_passed agent now number m next [] xss =
    record {
      answers = λ h n. omega arith;
      drawn = λ c. omega arith;
      own = refl;
      fit = omega arith;
      holds_on = λ p c a. omega arith;
      few = λ p c. omega arith;
      even = λ e. e;
    }
all_passed agent now number m next (r ∷ rs) [] =
    record {
      answers = λ h n. omega arith;
      drawn = λ c. omega arith;
      own = refl;
      fit = omega arith;
      holds_on = λ p c a. omega arith;
      few = λ p c. omega arith;
      even = λ e. e;
    }
all_passed agent now number m next (r ∷ rs) (xs ∷ xss) =
    let t : Turn = answer_turn agent now m r xs next in
    let u : IsTurning (Unless m) agent None r xs next t = answer_turning agent now m r xs next in
    let rest : Passed = hear_all agent now (number + 1) m t.next rs xss in
    let v : IsPassed agent m t.next rs xss rest = all_passed agent now (number + 1) m t.next rs xss in
    record {
      answers = λ h n. omega (
        arith,
        tally_append (answers_to h n) (spoken agent t) rest.out,
        spoken_answers (Unless m) agent None r xs next t u h n,
        v.answers h n,
        none_begun (bytes_eq h.requester r.owner && bytes_eq h.provider agent.name) h,
        owed_cons agent.name h n r rs,
        owed_cons agent.name h n t.own rest.records,
      );
      drawn = λ c.
          omega (
            arith,
            tally_append (is_drawn c) (spoken agent t) rest.out,
            spoken_drawn (Unless m) agent None r xs next t u c,
            v.drawn c,
            ids_cons c r t.own rest.records u.id,
            ids_cons c r r rs refl,
          );
      own = omega (arith, tally_append (is_foreign agent.name) (spoken agent t) rest.out, spoken_own (Unless m) agent None r xs next t u, v.own);
      fit = omega (arith, u.fit, v.fit, sum_by-cons misfitting xs xss, sum_by-cons misfitting t.children rest.children);
      holds_on = λ p c a.
          omega (
            arith,
            u.holds_on p c a,
            v.holds_on p c a,
            tally_append (reserves_at p c) (spoken agent t) rest.out,
            spoken_reserves (Unless m) agent None r xs next t u p c,
            sum_by-cons misfitting xs xss,
            sum_by-cons (holding p c) xs xss,
            sum_by-cons (holding p c) t.children rest.children,
          );
      few = λ p c.
          omega (
            arith,
            u.few p c,
            v.few p c,
            tally_append (reserves_at p c) (spoken agent t) rest.out,
            spoken_reserves (Unless m) agent None r xs next t u p c,
            sum_by-cons (holding p c) xs xss,
            sum_by-cons (holding p c) t.children rest.children,
          );
      even = λ e. ap suc (v.even (one_less (length xss) (length rs) e));
    }
  where
    one_less : (a b : ℕ) → suc a ≡ suc b → a ≡ b
    one_less a b e = omega (arith, e)

hears_step : (setting : Setting) (s : AgentState) (m : Message) → is_request m.body ≡ false → is_seen s m ≡ false → IsStep setting s (hears setting (sees m s) m)
unfolding hears held unfit
hears_step setting s m other new =
    let x : Passed = hear_all setting.agent s.base.now 0 m s.base.next s.base.records s.children in
    let v : IsPassed setting.agent m s.base.next s.base.records s.children x = all_passed setting.agent s.base.now 0 m s.base.next s.base.records s.children in
    let y : Heard = hear_below setting.agent.name s.base.records m s.queries in
    let w : IsToldBelow s.queries y = told_below setting.agent.name s.base.records m s.queries in
    record {
      says = record {
        answers = λ h n. omega (arith, tally_append (answers_to h n) x.out y.out, v.answers h n, w.answers h n, ap (took h) (saw_other m (retry_of s.base) other));
        drawn = λ c. omega (arith, tally_append (is_drawn c) x.out y.out, v.drawn c, w.drawn c);
        own = omega (arith, tally_append (is_foreign setting.agent.name) x.out y.out, v.own, w.own setting.agent.name);
      };
      holds = λ e. record {
        fit = omega (arith, v.fit);
        holds_on = λ p c n. omega (arith, tally_append (reserves_at p c) x.out y.out, w.reserves p c, v.holds_on p c (saw_leaves p c m (retry_of s.base) new n));
        few = λ p c. omega (arith, tally_append (reserves_at p c) x.out y.out, w.reserves p c, v.few p c);
      };
      even = λ e. v.even e;
    }

receives_step : (asks old : Bool) (setting : Setting) (s : AgentState) (m : Message) → is_request m.body ≡ asks → is_seen s m ≡ old → IsStep setting s (receives asks old setting s m)
unfolding receives
receives_step true false setting s m asks new = serves_step setting s m asks new (is_query m.body)
receives_step false false setting s m asks new = hears_step setting s m asks new
receives_step true true setting s m asks new = stays_step setting s
receives_step false true setting s m asks new = stays_step setting s

---- Time

-- a record in the course of a tick
record IsTold (agent : Agent) (next : ℕ) (own : Record) (t : Told) : Type 0 where
  id : t.own.id ≡ own.id
  owner : t.own.owner ≡ own.owner
  answers : (c n : ℕ) → tally (answers_as c n) t.out + owed c n t.own ≤ owed c n own
  drawn : (c : ℕ) → tally (notes_as c) t.out + before agent.number next c ≤ before agent.number t.next c
  asks : tally asks_for t.out ≡ 0

late_answers : (delivery d now : ℕ) (r : Record) (c n : ℕ) → tally (answers_as c n) (tells_late delivery d now r).out + owed c n (tells_late delivery d now r).rec ≤ owed c n r
unfolding tells_late tally is_answering is_asking is_noting owed owed_reserve owed_provision owed_life
late_answers delivery d now r c n = grind arith

late_notes : (delivery d now : ℕ) (r : Record) (c : ℕ) → tally (notes_as c) (tells_late delivery d now r).out ≤ one (c == d)
unfolding tells_late tally is_noting
late_notes delivery d now r c = grind arith

late_asks : (delivery d now : ℕ) (r : Record) → tally asks_for (tells_late delivery d now r).out ≡ 0
unfolding tells_late tally is_asking
late_asks delivery d now r = grind arith

late_owner : (delivery d now : ℕ) (r : Record) → (tells_late delivery d now r).rec.owner ≡ r.owner
unfolding tells_late
late_owner delivery d now r = refl

late_id : (delivery d now : ℕ) (r : Record) → (tells_late delivery d now r).rec.id ≡ r.id
unfolding tells_late
late_id delivery d now r = refl

one_told : (b : Bool) (agent : Agent) (now next : ℕ) (own : Record) (d : Due) (rest : Record → ℕ → Told) → ((r : Record) (k : ℕ) → IsTold agent k r (rest r k)) → IsTold agent next own (tell_one b agent now next own d rest)
unfolding tell_one
one_told false agent now next own d rest h = h own next
one_told true agent now next own d rest h =
    let id : ℕ = id_of agent.number next in
    let x : Moved = tells_late d.correlation id now own in
    let t : Told = rest x.rec (next + 1) in
    let a : IsTold agent (next + 1) x.rec t = h x.rec (next + 1) in
    record {
      id = a.id ∙ late_id d.correlation id now own;
      owner = a.owner ∙ late_owner d.correlation id now own;
      answers = λ c n. omega (arith, tally_append (answers_as c n) x.out t.out, late_answers d.correlation id now own c n, a.answers c n);
      drawn = λ c. omega (arith, tally_append (notes_as c) x.out t.out, late_notes d.correlation id now own c, a.drawn c, before_next agent.number next c);
      asks = omega (arith, tally_append asks_for x.out t.out, late_asks d.correlation id now own, a.asks);
    }

all_told : (ds : List Due) (agent : Agent) (now number : ℕ) (waiting : List Message) (own : Record) (next : ℕ) → IsTold agent next own (tell_all ds agent now number waiting own next)
unfolding tell_all tally
all_told [] agent now number waiting own next = record { id = refl; owner = refl; answers = λ c n. omega arith; drawn = λ c. omega arith; asks = refl }
all_told (d ∷ ds) agent now number waiting own next =
    one_told (is_late_of number now waiting d) agent now next own d (λ r n. tell_all ds agent now number waiting r n) (λ r n. all_told ds agent now number waiting r n)

ends_speak : (b : Bool) (now : ℕ) (r : Record) → Speaks None no_ids r (ends b now r)
unfolding ends
ends_speak false now r = stays_speaks None no_ids r
ends_speak true now r =
    let o : Option LifecycleMove = schedule_end (last r.committed) now in
    let own = ending_own (last r.committed) now in
    let speaks : Speaks None (life_draws o) r (lives_if o now r) = lives_if_speaks o now r own.0 in
    record { owner = speaks.owner; answers = speaks.answers; notes = λ c. omega (arith, speaks.notes c, own.1 c); asks = speaks.asks }

ends_id : (b : Bool) (now : ℕ) (r : Record) → (ends b now r).rec.id ≡ r.id
unfolding ends
ends_id false now r = refl
ends_id true now r = (lives_if_later (schedule_end (last r.committed) now) now r).id

clocked_told : (agent : Agent) (now number : ℕ) (ds : List Due) (waiting : List Message) (own : Record) (next : ℕ) → IsTold agent next own (clocked agent now number ds waiting own next)
unfolding clocked
clocked_told agent now number ds waiting own next =
    let x : Moved = ends (is_live own.lsm) now own in
    let speaks : Speaks None no_ids own x = ends_speak (is_live own.lsm) now own in
    let t : Told = tell_all ds agent now number waiting x.rec next in
    let a : IsTold agent next x.rec t = all_told ds agent now number waiting x.rec next in
    record {
      id = a.id ∙ ends_id (is_live own.lsm) now own;
      owner = a.owner ∙ speaks.owner;
      answers = λ c n. omega (arith, tally_append (answers_as c n) x.out t.out, speaks.answers c n, a.answers c n);
      drawn = λ c. omega (arith, tally_append (notes_as c) x.out t.out, speaks.notes c, a.drawn c);
      asks = omega (arith, tally_append asks_for x.out t.out, speaks.asks, a.asks);
    }

-- records after a tick
record IsClocked (agent : Agent) (next : ℕ) (rs : List Record) (x : Clocked) : Type 0 where
  answers : (h : Header) (n : ℕ) → tally (answers_to h n) x.out + owed_by agent.name h n x.records ≤ owed_by agent.name h n rs
  drawn : (c : ℕ) → tally (is_drawn c) x.out + (tally (has_id c) x.records + before agent.number next c) ≤ tally (has_id c) rs + before agent.number x.next c
  own : tally (is_foreign agent.name) x.out ≡ 0
  reserves : (p : List ℕ) (c : ℕ) → tally (reserves_at p c) x.out ≡ 0
  many : length x.records ≡ length rs

told_answers : (agent : Agent) (next : ℕ) (own : Record) (t : Told) → IsTold agent next own t → (h : Header) (n : ℕ) →
    tally (answers_to h n) (addressed agent.name t.own.owner t.out) + owed_under agent.name h n t.own ≤ owed_under agent.name h n own
unfolding owed_under
told_answers agent next own t a h n =
    let b = addressed_answers h n agent.name t.own.owner t.out in
    let c = a.answers h.correlation n in
    let o = a.owner in
    grind (arith, b, c, o)

all_clocked : (agent : Agent) (now number : ℕ) (ds : List Due) (waiting : List Message) (next : ℕ) (rs : List Record) → IsClocked agent next rs (clock_all agent now number ds waiting next rs)
unfolding clock_all clock_then tally
all_clocked agent now number ds waiting next [] =
    record { answers = λ h n. omega arith; drawn = λ c. omega arith; own = refl; reserves = λ p c. refl; many = refl }
all_clocked agent now number ds waiting next (r ∷ rs) =
    let t : Told = clocked agent now number ds waiting r next in
    let a : IsTold agent next r t = clocked_told agent now number ds waiting r next in
    let rest : Clocked = clock_all agent now (number + 1) ds waiting t.next rs in
    let b : IsClocked agent t.next rs rest = all_clocked agent now (number + 1) ds waiting t.next rs in
    let ms : List Message = addressed agent.name t.own.owner t.out in
    record {
      answers = λ h n. omega (
        arith,
        tally_append (answers_to h n) ms rest.out,
        told_answers agent next r t a h n,
        b.answers h n,
        owed_cons agent.name h n r rs,
        owed_cons agent.name h n t.own rest.records,
      );
      drawn = λ c.
          omega (
            arith,
            tally_append (is_drawn c) ms rest.out,
            addressed_drawn c agent.name t.own.owner t.out,
            a.drawn c,
            a.asks,
            b.drawn c,
            ids_cons c r t.own rest.records a.id,
            ids_cons c r r rs refl,
          );
      own = omega (arith, tally_append (is_foreign agent.name) ms rest.out, addressed_foreign agent.name t.own.owner t.out, a.asks, b.own);
      reserves = λ p c. omega (arith, tally_append (reserves_at p c) ms rest.out, addressed_reserves p c agent.name t.own.owner t.out, a.asks, b.reserves p c);
      many = ap suc b.many;
    }

ticks_step : (setting : Setting) (now : ℕ) (s : AgentState) → IsStep setting s (ticks setting now s)
unfolding ticks
ticks_step setting now s =
    let x : Clocked = clock_all setting.agent now 0 s.dues s.base.waiting s.base.next s.base.records in
    let v : IsClocked setting.agent s.base.next s.base.records x = all_clocked setting.agent now 0 s.dues s.base.waiting s.base.next s.base.records in
    record {
      says = record { answers = λ h n. omega (arith, v.answers h n); drawn = v.drawn; own = v.own };
      holds = λ e. holds_still s _ x.out refl refl v.reserves;
      even = λ e. e ∙ sym v.many;
    }

---- One entry

pub aggregator_step : (i : Input) (second : ℕ) (setting : Setting) (s : AgentState) → IsStep setting s (step i second setting s)
unfolding step
aggregator_step (Input.Got m) second setting s = receives_step (is_request m.body) (is_seen s m) setting s m refl refl
aggregator_step Input.Tick second setting s = ticks_step setting second s
aggregator_step (Input.Acked i) second setting s =
    record {
      says = records_say setting.agent.name setting.agent.number s _ [] refl (says_nothing setting.agent.name setting.agent.number s.base _ refl refl (λ h. omega arith));
      holds = λ e. holds_still s _ [] refl refl nothing_asked;
      even = λ e. e;
    }
aggregator_step (Input.Work n machine) second setting s = stays_step setting s
aggregator_step (Input.Force n) second setting s = stays_step setting s
aggregator_step (Input.Ask n ask) second setting s = stays_step setting s
