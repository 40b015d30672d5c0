-- What an entry makes an aggregator ask is worth less than the request that it takes, or was owed.
use Rattle.std.proofs.Common.{ℕ, zero, suc, ◌+◌, ◌≤◌, ◌<◌, ◌≡◌, ◌∙◌, ◌&&◌, ◌==◌, not, Bool, true, false, List, [], ◌∷◌, ◌++◌, Option, Some, None, refl, sym, ap, subst, arith, length, length-append, bytes_eq, eqb-true, option_and_then, if◌then◌else◌}
use Rattle.std.specs.List.{All, list_any, sum_by}
use Rattle.std.proofs.lemmas.List.Elements.{All-nil, All-cons, All-append, All-head, All-tail, All-get_or}
use Rattle.std.proofs.lemmas.List.Quantifiers.{position-Some}
use Rattle.std.proofs.lemmas.List.Sums.{sum_by-cons}
use Rattle.std.proofs.lemmas.Option.{none-some, get_or_from_slice_get}
use Rattle.std.proofs.lemmas.Slice.Eq.{bytes_eq-Decides}
use Rattle.nsi_primitive.specs.Ids.{id_of}
use Rattle.nsi_primitive.specs.Messages.{is_request, is_query, connection_of}
use Rattle.nsi_primitive.specs.declared.entry.Entry.{Entry}
use Rattle.nsi_primitive.specs.declared.entry.Input.{Input}
use Rattle.nsi_primitive.specs.declared.kind.ErrorName.{ErrorName}
use Rattle.nsi_primitive.specs.declared.message.Body.{Body}
use Rattle.nsi_primitive.specs.declared.message.Message.{Message}
use Rattle.nsi_primitive.specs.declared.message.ReserveRequest.{ReserveRequest}
use Rattle.nsi_primitive.specs.declared.message.Service.{Service}
use Rattle.nsi_primitive.specs.declared.state.Lsm.{Lsm}
use Rattle.connection_record.specs.declared.record.Record.{Record}
use Rattle.connection_record.specs.Applied.{is_terminating}
use Rattle.connection_record.specs.Moves.{fresh, service_of, is_live}
use Rattle.connection_record.specs.Refusal.{refusal, place_of, points_of, both}
use Rattle.connection_record.specs.Unrefused.{IsTakenAt}
use Rattle.connection_record.proofs.Unrefused.{unrefused_agent, unrefused_at, unrefused_fits}
use Rattle.child_connection.specs.Asks.{to_child}
use Rattle.child_connection.specs.Views.{ChildConnection}
use Rattle.agent_state.specs.declared.parent.Leg.{Leg}
use Rattle.agent_state.specs.Entries.{error_reply, is_recursive, retry_of, query_reply}
use Rattle.agent_state.specs.State.{sends, AgentState, AgentStepped, stays, record_at, no_record, name_or, children_at}
use Rattle.agent_state.proofs.Querying.{replied_by, rows_ask_nothing}
use Rattle.aggregator_agent.specs.Asking.{Turn}
use Rattle.aggregator_agent.specs.Below.{Sought, is_asked, seek_of, seek_one, seek, opened, nested_reply, Heard, hear_below}
use Rattle.aggregator_agent.specs.Clock.{clock_all}
use Rattle.aggregator_agent.specs.Queries.{answer_to}
use Rattle.aggregator_agent.specs.Setting.{Setting}
use Rattle.aggregator_agent.specs.Steps.{is_seen, sees, children_for, request_at, with_new, opens_between, opens, request_to, accepts, answers, Passed, pass_then, hear_all, hears, opens_query, asks_below, asks_if_own, place_named, queries, receives, ticks, step, serves, may_take, after_if, after as aggregator_after}
use Rattle.aggregator_agent.specs.Turns.{request_turn, answer_turn, spoken}
use Rattle.aggregator_agent.proofs.Queried.{tells_rows}
use Rattle.agent_speech.proofs.Measures.{with_new_taken}
use Rattle.agent_speech.proofs.Noting.{saw_other, new_request as was_new, saw_request}
use Rattle.request_worth.specs.Worth.{worth_of, leg_in, leg_to, IsFee, CostsItsLeg, PaysItsLeg, AreFees, owed_ends}
use Rattle.request_worth.proofs.Fees.{worth_none, worth_append, worth_few, worth_other}
use Rattle.request_worth.proofs.Clocks.{below_quiet, IsClocked, all_clocked}
use Rattle.request_worth.proofs.Sides.{IsWayPaid, ArePaid, path_price, path_costs, paid_later, paid_at, paid_set, paid_push, owed_set, owed_push}
use Rattle.request_worth.proofs.Turns.{leg_price, views_price, IsPassedOn, request_passed, IsAnswered, answer_answered}
use Rattle.request_worth.proofs.Views.{named_costs}

same_bytes : (xs ys : List ℕ) → bytes_eq xs ys ≡ true → xs ≡ ys
same_bytes xs ys e = (bytes_eq-Decides xs ys).0 e

both_true : (a b : Bool) → (a && b) ≡ true → (a ≡ true) × (b ≡ true)
both_true true true e = (refl, refl)
both_true true false e = absurd (cc)
both_true false b e = absurd (cc)

live_lasts : (k : Lsm) → is_live k ≡ true → is_terminating k ≡ false
unfolding is_live is_terminating
live_lasts k e = grind (arith, e)

fresh_lives : (id : ℕ) (owner : List ℕ) (s : Service) (source dest : ℕ) → is_terminating (fresh id owner s source dest).lsm ≡ false
unfolding is_terminating
fresh_lives id owner s source dest = refl

pushed : (rs : List Record) (r : Record) → record_at (length rs) (rs ++ r ∷ []) ≡ r
pushed [] r = refl
pushed (x ∷ xs) r = pushed xs r

---- The record that a request names

record IsNamed (records : List Record) (m : Message) (id n : ℕ) : Type 0 where
  within : n < length records
  its_id : (record_at n records).id ≡ id
  owner : (record_at n records).owner ≡ m.header.requester

named_at : (records : List Record) (m : Message) (id n : ℕ) → place_of id m.header.requester records ≡ Some n → IsNamed records m id n
named_at records m id n e =
    let found = position-Some (λ (r : Record). (id == r.id) && bytes_eq m.header.requester r.owner) records n no_record e in
    let parts = both_true (id == (record_at n records).id) (bytes_eq m.header.requester (record_at n records).owner) found.1 in
    record { within = found.0; its_id = sym (eqb-true id (record_at n records).id parts.0); owner = sym (same_bytes m.header.requester (record_at n records).owner parts.1) }

-- the points of a first reserve are those of its two names
record ArePoints (stp_of : List ℕ → Option ℕ) (q : ReserveRequest) (points : ℕ × ℕ) : Type 0 where
  from : q.source ≡ Some (name_or q.source)
  to : q.dest ≡ Some (name_or q.dest)
  source : stp_of (name_or q.source) ≡ Some points.0
  dest : stp_of (name_or q.dest) ≡ Some points.1

points_are : (stp_of : List ℕ → Option ℕ) (q : ReserveRequest) (points : ℕ × ℕ) → points_of stp_of q ≡ Some points → ArePoints stp_of q points
points_are stp_of q points e = by q.source q.dest refl refl e
  where
    none_dest : (o : Option ℕ) → both o None ≡ Some points → ⊥
    none_dest None f = none-some points f
    none_dest (Some a) f = none-some points f

    by_points : (a b : Option ℕ) → both a b ≡ Some points → (a ≡ Some points.0) × (b ≡ Some points.1)
    by_points None b f = absurd (none-some points f)
    by_points (Some a) None f = absurd (none-some points f)
    by_points (Some a) (Some b) f = let same : (a, b) ≡ points = cc in (ap (λ (p : ℕ × ℕ). Some p.0) same, ap (λ (p : ℕ × ℕ). Some p.1) same)

    by : (source dest : Option (List ℕ)) → q.source ≡ source → q.dest ≡ dest → both (option_and_then stp_of source) (option_and_then stp_of dest) ≡ Some points → ArePoints stp_of q points
    by None dest s d f = absurd (none-some points f)
    by (Some source) None s d f = absurd (none_dest (stp_of source) f)
    by (Some source) (Some dest) s d f =
        let p = by_points (stp_of source) (stp_of dest) f in
        record {
          from = s ∙ ap (λ o. Some (name_or o)) (sym s);
          to = d ∙ ap (λ o. Some (name_or o)) (sym d);
          source = ap (λ o. stp_of (name_or o)) s ∙ p.0;
          dest = ap (λ o. stp_of (name_or o)) d ∙ p.1;
        }

reserve_unnamed : (body : Body) (q : ReserveRequest) → body ≡ Body.Reserve q → connection_of body ≡ None → q.connection ≡ None
unfolding connection_of
reserve_unnamed body q e c = sym (ap connection_of e) ∙ c

module _ (price : Leg → ℕ) (fee : Message → ℕ) (is : IsFee price fee) (setting : Setting)
    (ways : (source dest : List ℕ) (p q : ℕ) → setting.stp_of source ≡ Some p → setting.stp_of dest ≡ Some q →
    1 + sum_by price (setting.route p q) ≤ price (record { child = setting.agent.name; source = source; dest = dest })) where
  abbrev name : List ℕ
  name = setting.agent.name

  abbrev Fees : AgentState → Type 0
  Fees s = AreFees price fee name s

  abbrev Viewed : List ChildConnection → Type 0
  Viewed xs = All (CostsItsLeg price fee name) xs

  abbrev pub AllPaid : AgentState → Type 0
  AllPaid s = ArePaid price fee setting s.base.records s.children

  abbrev owed : AgentState → ℕ
  owed s = owed_ends price s.base.records s.children

  -- what an entry asks, the requests that it takes and what is still owed are paid by what was owed and the requests that came
  pub record IsStep (s : AgentState) (x : AgentStepped) (got : List Message) : Type 0 where
    pub kept : AllPaid x.state
    pub paid : Fees x.state → worth_of fee x.out + (length x.state.base.seen + owed x.state) ≤ length s.base.seen + owed s + sum_by fee got

  ---- A connection that takes a request

  -- a part of an entry
  record IsPart (w : AgentState) (n : ℕ) (x : AgentStepped) : Type 0 where
    kept : AllPaid x.state
    paid : 1 + (worth_of fee x.out + owed x.state) ≤ owed w + price (leg_to name (record_at n w.base.records))
    seen : x.state.base.seen ≡ w.base.seen

  views_at : (n : ℕ) (xss : List (List ChildConnection)) → All Viewed xss → Viewed (children_at n xss)
  views_at n [] all = All-nil (CostsItsLeg price fee name)
  views_at zero (xs ∷ xss) all = All-head Viewed xs xss all
  views_at (suc n) (xs ∷ xss) all = views_at n xss (All-tail Viewed xs xss all)

  request_part : (w : AgentState) (n : ℕ) (m : Message) → n < length w.base.records → is_terminating (record_at n w.base.records).lsm ≡ false → AllPaid w → All Viewed w.children → IsPart w n (request_at setting w n m)
  unfolding request_at
  request_part w n m within live ok all =
      let r : Record = record_at n w.base.records in
      let old : List ChildConnection = children_at n w.children in
      let legs : List Leg = setting.route r.source r.dest in
      let xs : List ChildConnection = children_for setting w n m in
      let here : IsWayPaid price fee setting r old = paid_at price fee setting n w.base.records w.children within ok in
      let few : views_price price fee xs ≤ sum_by price legs = path_price price fee m.body old legs here.views in
      let t : Turn = request_turn setting.agent w.base.now m r xs w.base.next in
      let a : IsPassedOn price fee is setting.agent r xs t =
      request_passed price fee is setting.agent w.base.now m r xs w.base.next live (path_costs price fee m.body name old legs (views_at n w.children all))
      in
      let later : IsWayPaid price fee setting t.own t.children = paid_later price fee setting r t.own old t.children a.later here (omega (arith, a.legs, few)) in
      record {
        kept = paid_set price fee setting n w.base.records w.children t.own t.children later ok;
        paid = omega (arith, a.paid, few, here.way, owed_set price fee setting n w.base.records w.children t.own t.children within ok);
        seen = refl;
      }

  ---- Children that are asked below

  sought_costs : (o : Option ℕ) (next : ℕ) (x : ChildConnection) → x.connection ≡ o → CostsItsLeg price fee name x → worth_of fee (seek_of o setting.agent next x).asked ≤ price (leg_in x)
  unfolding connection_of
  sought_costs None next x e costs = omega (arith, worth_none fee)
  sought_costs (Some id) next x e costs =
      let c : ℕ = id_of setting.agent.number next in
      omega (arith, worth_few fee (to_child name c x (Body.QueryRecursive id)), named_costs price fee is name c x costs id (Body.QueryRecursive id) e refl)

  seek_costs : (next : ℕ) (xs : List ChildConnection) → Viewed xs → worth_of fee (seek setting.agent next xs).asked ≤ views_price price fee xs
  unfolding seek
  seek_costs next [] all = omega (arith, worth_none fee)
  seek_costs next (x ∷ xs) all =
      let first : Sought = seek_one setting.agent next x in
      let rest : Sought = seek setting.agent first.next xs in
      omega (
        arith,
        worth_append fee first.asked rest.asked,
        sought_costs x.connection next x refl (All-head (CostsItsLeg price fee name) x xs all),
        seek_costs first.next xs (All-tail (CostsItsLeg price fee name) x xs all),
        sum_by-cons (leg_price price fee) x xs,
      )

  module _ (s : AgentState) (ok : AllPaid s) where
    stays_step : IsStep s (stays s) []
    stays_step = record { kept = ok; paid = λ f. omega (arith, worth_none fee) }

    ---- A request

    module _ (fees : Fees s) (m : Message) (asks : is_request m.body ≡ true) (new : is_seen s m ≡ false) where
      abbrev t : AgentState
      t = sees m s

      seen_more : length t.base.seen ≡ length s.base.seen + 1
      seen_more =
          ap length (saw_request m (retry_of s.base) asks ∙ with_new_taken m.header s.base.seen (was_new m (retry_of s.base) asks new)) ∙ length-append s.base.seen (m.header ∷ [])

      got_one : sum_by fee (m ∷ []) ≡ fee m
      got_one = omega (arith, sum_by-cons fee m [])

      -- a request pays for itself
      quiet_step : IsStep s (stays t) (m ∷ [])
      quiet_step = record { kept = ok; paid = λ f. omega (arith, worth_none fee, seen_more, got_one, is.something m) }

      answered_step : (reply : Message) → is_request reply.body ≡ false → IsStep s (sends t (reply ∷ [])) (m ∷ [])
      answered_step reply e = record { kept = ok; paid = λ f. omega (arith, worth_other fee reply e, seen_more, got_one, is.something m) }

      -- what a request about a record pays
      pays : (id n : ℕ) → IsNamed s.base.records m id n → m.header.provider ≡ name → connection_of m.body ≡ Some id → price (leg_to name (record_at n s.base.records)) ≤ fee m
      pays id n named own e =
          let here : PaysItsLeg price fee name (record_at n s.base.records) = All-get_or (PaysItsLeg price fee name) s.base.records n no_record named.within fees.records in
          here m (record { asked_by = sym named.owner; asked_of = own; names = e ∙ ap Some (sym named.its_id) })

      opened_step : (waits : Bool) (n : ℕ) (x : Sought) → 1 + worth_of fee x.asked ≤ fee m → IsStep s (opens_query waits setting t n m x) (m ∷ [])
      opened_step true n x a = record { kept = ok; paid = λ f. omega (arith, seen_more, got_one, a) }
      opened_step false n x a = answered_step (nested_reply name (record_at n s.base.records) (opened m n x)) refl

      below_step : (n : ℕ) → m.header.provider ≡ name → place_named m s.base.records ≡ Some n → IsStep s (asks_below setting t n m) (m ∷ [])
      unfolding asks_below
      below_step n own at = by (connection_of m.body) refl at
        where
          x : Sought
          x = seek setting.agent s.base.next (children_at n s.children)

          by : (o : Option ℕ) → connection_of m.body ≡ o → option_and_then (λ id. place_of id m.header.requester s.base.records) o ≡ Some n → IsStep s (opens_query (list_any is_asked x.parts) setting t n m x) (m ∷ [])
          by None e at = absurd (none-some n at)
          by (Some id) e at =
              let named : IsNamed s.base.records m id n = named_at s.base.records m id n at in
              let here : IsWayPaid price fee setting (record_at n s.base.records) (children_at n s.children) = paid_at price fee setting n s.base.records s.children named.within ok in
              opened_step (list_any is_asked x.parts) n x
              (omega (arith, seek_costs s.base.next (children_at n s.children) (views_at n s.children fees.children), here.views, here.way, pays id n named own e))

      owned_step : (is_own : Bool) (o : Option ℕ) → bytes_eq m.header.provider name ≡ is_own → place_named m s.base.records ≡ o → IsStep s (asks_if_own is_own o setting t m) (m ∷ [])
      owned_step true (Some n) own at = below_step n (same_bytes m.header.provider name own) at
      owned_step true None own at = answered_step (error_reply name m ErrorName.Nonexistent) refl
      owned_step false o own at = answered_step (error_reply name m ErrorName.WrongProvider) refl

      query_step : (is_recursive : Bool) → IsStep s (queries is_recursive setting t m) (m ∷ [])
      query_step true = owned_step (bytes_eq m.header.provider name) (place_named m s.base.records) refl refl
      query_step false =
          answered_step (query_reply name m (answer_to name t m))
          (replied_by (λ b. is_request b ≡ false) name m (answer_to name t m) (λ e plain. refl) (λ body e. rows_ask_nothing body (tells_rows name t m body e)))

      -- a connection that is made between two points
      between_step : (o : Option (ℕ × ℕ)) (q : ReserveRequest) → points_of setting.stp_of q ≡ o → m.body ≡ Body.Reserve q → q.connection ≡ None → m.header.provider ≡ name → IsStep s (opens_between o setting t m q) (m ∷ [])
      between_step None q p b c own = quiet_step
      between_step (Some points) q p b c own = made
        where
          are : ArePoints setting.stp_of q points
          are = points_are setting.stp_of q points p

          r : Record
          r = fresh (id_of setting.agent.number s.base.next) m.header.requester (service_of q (name_or q.source) (name_or q.dest)) points.0 points.1

          w : AgentState
          w = with_new setting t m q points

          n : ℕ
          n = length s.base.records

          at : record_at n w.base.records ≡ r
          at = pushed s.base.records r

          first : fee m ≡ price (leg_to name r)
          first = is.first m (leg_to name r) (record { reserve = q; body = b; unnamed = c; child = own; from = are.from; to = are.to })

          paid : AllPaid w
          paid = paid_push price fee setting s.base.records s.children r [] (record { way = ways (name_or q.source) (name_or q.dest) points.0 points.1 are.source are.dest; views = omega arith }) ok

          all : All Viewed w.children
          all = All-append Viewed s.children ([] ∷ []) fees.children (All-cons Viewed [] [] (All-nil (CostsItsLeg price fee name)) (All-nil Viewed))

          x : AgentStepped
          x = request_at setting w n m

          a : IsPart w n x
          a = request_part w n m (omega (arith, length-append s.base.records (r ∷ []))) (ap (λ (y : Record). is_terminating y.lsm) at ∙ fresh_lives r.id r.owner r.service points.0 points.1) paid all

          made : IsStep s x (m ∷ [])
          made =
              record {
                kept = a.kept;
                paid = λ f. omega (
                  arith,
                  a.paid,
                  owed_push price fee setting s.base.records s.children r ok,
                  ap length a.seen,
                  seen_more,
                  got_one,
                  first,
                  ap (λ (y : Record). price (leg_to name y)) at,
                );
              }

      opens_step : (body : Body) → m.body ≡ body → connection_of m.body ≡ None → m.header.provider ≡ name → IsStep s (opens body setting t m) (m ∷ [])
      opens_step (Body.Reserve q) b c own = between_step (points_of setting.stp_of q) q refl b (reserve_unnamed m.body q b c) own
      opens_step _ b c own = quiet_step

      accepts_step : (o : Option ℕ) → connection_of m.body ≡ o → refusal s.base.now name setting.stp_of s.base.records m ≡ None → IsStep s (accepts o setting t m) (m ∷ [])
      accepts_step None e r = opens_step m.body refl e (unrefused_agent s.base.now name setting.stp_of s.base.records m r)
      accepts_step (Some id) e r =
          let taken : IsTakenAt s.base.now m s.base.records id = unrefused_at s.base.now name setting.stp_of s.base.records m id e r in
          let n : ℕ = taken.place in
          let named : IsNamed s.base.records m id n = named_at s.base.records m id n taken.found in
          let at : record_at n s.base.records ≡ taken.own = get_or_from_slice_get s.base.records n taken.own no_record taken.there in
          let live : is_terminating (record_at n s.base.records).lsm ≡ false =
          ap (λ (y : Record). is_terminating y.lsm) at ∙ live_lasts taken.own.lsm (unrefused_fits s.base.now m.body taken.own taken.unrefused).live
          in
          let a : IsPart t n (request_at setting t n m) = request_part t n m named.within live ok fees.children in
          subst (λ (o : Option ℕ). IsStep s (request_to o setting t m) (m ∷ [])) (sym taken.found)
          (record {
            kept = a.kept;
            paid = λ f. omega (arith, a.paid, ap length a.seen, seen_more, got_one, pays id n named (unrefused_agent s.base.now name setting.stp_of s.base.records m r) e);
          })

      answers_step : (o : Option ErrorName) → refusal s.base.now name setting.stp_of s.base.records m ≡ o → IsStep s (answers o setting t m) (m ∷ [])
      unfolding answers
      answers_step (Some e) r = answered_step (error_reply name m e) refl
      answers_step None r = accepts_step (connection_of m.body) refl r

      serves_step : (b : Bool) → IsStep s (serves b setting t m) (m ∷ [])
      serves_step true = query_step (is_recursive m.body)
      serves_step false = answers_step (refusal s.base.now name setting.stp_of s.base.records m) refl

  ---- All else that came

  -- connections that hear a message
  record IsPassed (rs : List Record) (xss : List (List ChildConnection)) (x : Passed) : Type 0 where
    kept : ArePaid price fee setting x.records x.children
    paid : All Viewed x.children → worth_of fee x.out + owed_ends price x.records x.children ≤ owed_ends price rs xss

  all_passed : (now number : ℕ) (m : Message) (next : ℕ) (rs : List Record) (xss : List (List ChildConnection)) → ArePaid price fee setting rs xss → IsPassed rs xss (hear_all setting.agent now number m next rs xss)
  unfolding hear_all pass_then owed_ends
  all_passed now number m next [] [] ok = record { kept = tt; paid = λ all. omega (arith, worth_none fee) }
  all_passed now number m next [] (xs ∷ xss) ok = absurd ok
  all_passed now number m next (r ∷ rs) [] ok = absurd ok
  all_passed now number m next (r ∷ rs) (xs ∷ xss) ok =
      let t : Turn = answer_turn setting.agent now m r xs next in
      let a : IsAnswered price fee is setting.agent r xs t = answer_answered price fee is setting.agent now m r xs next in
      let rest : Passed = hear_all setting.agent now (number + 1) m t.next rs xss in
      let b : IsPassed rs xss rest = all_passed now (number + 1) m t.next rs xss ok.1 in
      record {
        kept = (paid_later price fee setting r t.own xs t.children a.later ok.0 (omega (arith, a.legs, ok.0.views)), b.kept);
        paid = λ all. omega (
          arith,
          worth_append fee (spoken setting.agent t) rest.out,
          a.paid (All-head Viewed t.children rest.children all),
          b.paid (All-tail Viewed t.children rest.children all),
        );
      }

  hears_step : (s : AgentState) (m : Message) → AllPaid s → is_request m.body ≡ false → IsStep s (hears setting (sees m s) m) []
  unfolding hears
  hears_step s m ok other =
      let x : Passed = hear_all setting.agent s.base.now 0 m s.base.next s.base.records s.children in
      let v : IsPassed s.base.records s.children x = all_passed s.base.now 0 m s.base.next s.base.records s.children ok in
      let y : Heard = hear_below name s.base.records m s.queries in
      record {
        kept = v.kept;
        paid = λ f. omega (arith, worth_append fee x.out y.out, v.paid f.children, below_quiet fee name s.base.records m s.queries, ap length (saw_other m (retry_of s.base) other));
      }

  -- the request that comes, where it is new
  abbrev pub got : (asks old : Bool) → Message → List Message
  got asks old m = if asks && not old then m ∷ [] else []

  receives_step : (asks old : Bool) (s : AgentState) (m : Message) → AllPaid s → Fees s → is_request m.body ≡ asks → is_seen s m ≡ old → IsStep s (receives asks old setting s m) (got asks old m)
  unfolding receives
  receives_step true false s m ok fees asks new = serves_step s ok fees m asks new (is_query m.body)
  receives_step false false s m ok fees asks new = hears_step s m ok asks
  receives_step true true s m ok fees asks new = stays_step s ok
  receives_step false true s m ok fees asks new = stays_step s ok

  ---- One entry

  abbrev pub got_by : AgentState → Input → List Message
  got_by s (Input.Got m) = got (is_request m.body) (is_seen s m) m
  got_by s input = []

  input_step : (i : Input) (second : ℕ) (s : AgentState) → AllPaid s → Fees s → IsStep s (step i second setting s) (got_by s i)
  unfolding step ticks
  input_step (Input.Got m) second s ok fees = receives_step (is_request m.body) (is_seen s m) s m ok fees refl refl
  input_step Input.Tick second s ok fees =
      let a : IsClocked price fee setting s.base.records s.children (clock_all setting.agent second 0 s.dues s.base.waiting s.base.next s.base.records) =
      all_clocked price fee setting setting.agent second 0 s.dues s.base.waiting s.base.next s.base.records s.children ok
      in
      record { kept = a.kept; paid = λ f. omega (arith, a.paid) }
  input_step (Input.Acked i) second s ok fees = record { kept = ok; paid = λ f. omega (arith, worth_none fee) }
  input_step (Input.Work n machine) second s ok fees = stays_step s ok
  input_step (Input.Force n) second s ok fees = stays_step s ok
  input_step (Input.Ask n ask) second s ok fees = stays_step s ok

  abbrev pub got_if : Bool → AgentState → Input → List Message
  got_if true s i = got_by s i
  got_if false s i = []

  taken_step : (b : Bool) (s : AgentState) (e : Entry) → AllPaid s → Fees s → IsStep s (after_if b setting s e) (got_if b s e.input)
  taken_step false s e ok fees = stays_step s ok
  taken_step true s e ok fees = let a = input_step e.input e.second s ok fees in record { kept = a.kept; paid = λ f. a.paid (record { children = f.children; records = f.records }) }

  pub entry_step : (s : AgentState) (e : Entry) → AllPaid s → Fees s → IsStep s (aggregator_after setting s e) (got_if (may_take s e) s e.input)
  unfolding aggregator_after
  entry_step s e ok fees = taken_step (may_take s e) s e ok fees
