-- Each record of an agent that is asked was opened by a first reserve of its owner, and has its service.
use Rattle.std.proofs.Common.{ℕ, suc, ◌≡◌, ◌<◌, ◌+◌, ◌∙◌, ◌⊎◌, inl, inr, Bool, true, false, List, [], ◌∷◌, ◌++◌, length, take, slice_set, Contains, Option, Some, None, refl, sym, ap, subst, arith, length-append, get_or-set_same}
use Rattle.std.proofs.lemmas.Bool.{cases_eq}
use Rattle.std.proofs.lemmas.List.{length-set}
use Rattle.std.proofs.lemmas.List.Elements.{All-contains, All-take, Contains-append_left, Contains-append_right}
use Rattle.std.proofs.lemmas.Option.{get_or_from_slice_get, slice_get-get_or, slice_get_within}
use Rattle.nsi_primitive.specs.Ids.{id_of}
use Rattle.nsi_primitive.specs.Messages.{is_request, is_query, connection_of}
use Rattle.nsi_primitive.specs.declared.entry.Entry.{Entry}
use Rattle.nsi_primitive.specs.declared.entry.Input.{Input}
use Rattle.nsi_primitive.specs.declared.kind.ErrorName.{ErrorName}
use Rattle.nsi_primitive.specs.declared.message.Body.{Body}
use Rattle.nsi_primitive.specs.declared.message.Header.{Header}
use Rattle.nsi_primitive.specs.declared.message.Message.{Message}
use Rattle.nsi_primitive.specs.declared.message.ReserveRequest.{ReserveRequest}
use Rattle.nsi_primitive.specs.declared.state.Side.{Side}
use Rattle.message_retry.specs.Taken.{is_taken, with_taken}
use Rattle.connection_record.specs.declared.record.Record.{Record}
use Rattle.connection_record.specs.Applied.{moves_if, requested, status_of}
use Rattle.connection_record.specs.Later.{IsLater}
use Rattle.connection_record.specs.Moves.{fresh, service_of}
use Rattle.connection_record.specs.Refusal.{refusal, points_of}
use Rattle.connection_record.specs.Replies.{Moved}
use Rattle.connection_record.proofs.Growing.{moves_if_later, tells_later}
use Rattle.agent_state.specs.State.{State, AgentState, no_record, record_at, name_or, blank_agent}
use Rattle.provider_agent.specs.Setting.{Setting as ProviderSetting}
use Rattle.provider_agent.specs.Steps.{with_new as provider_new, opens_between as provider_between, opens as provider_opens, accepts as provider_accepts, answers as provider_answers, serves as provider_serves_by, receives as provider_receives, step as provider_step, after_if as provider_if, after as provider_after, may_take as provider_may}
use Rattle.aggregator_agent.specs.Setting.{Setting as AggregatorSetting}
use Rattle.aggregator_agent.specs.Steps.{sees, is_seen, children_for, request_at, with_new, opens_between, opens, accepts, answers, serves, receives, step, after_if, after as aggregator_after, may_take}
use Rattle.run_growth.specs.Growth.{Stay}
use Rattle.run_growth.proofs.Roles.{entries_grow}
use Rattle.run_growth.proofs.Turned.{request_later}
use Rattle.nsi_agent.specs.Homes.{Role, provides, aggregates, requests, Home}
use Rattle.nsi_agent.specs.Steps.{after, after_as}
use Rattle.nsi_agent.specs.Told.{told, goes_on}
use Rattle.nsi_agent.specs.Said.{name_in}
use Rattle.nsi_world.specs.Worlds.{World, empty}
use Rattle.nsi_world.specs.Runs.{is_requester, world_after}
use Rattle.nsi_world.specs.Heard.{WasSent, IsHeard}
use Rattle.nsi_world.specs.Laws.{HeardWasSent}
use Rattle.run_growth.specs.Cuts.{state_of_cut}
use Rattle.circuit_link.specs.Children.{Child}
use Rattle.circuit_link.specs.Serving.{child_of, Serves}
use Rattle.circuit_link.proofs.Opening.{last_here}
use Rattle.circuit_laws.specs.Laws.{RecordsWereOpened}
use Rattle.circuit_laws.proofs.Roles.{serves_as}

---- One entry

-- the first reserve opens the record
pub record IsOpenedBy (m : Message) (q : ReserveRequest) (r : Record) : Type 0 where
  pub body : m.body ≡ Body.Reserve q
  pub unnamed : q.connection ≡ None
  pub owner : r.owner ≡ m.header.requester
  pub service : r.service ≡ service_of q (name_or q.source) (name_or q.dest)

-- an entry opens no record, or a first reserve opens one behind the others
pub data Opening (input : Input) (old new : List Record) : Type 0 where
  none : length new ≡ length old → Opening input old new
  begun : (m : Message) (q : ReserveRequest) → input ≡ Input.Got m → length new ≡ suc (length old) → IsOpenedBy m q (record_at (length old) new) → Opening input old new

-- a record of that service, which has become another
opened_at : (m : Message) (q : ReserveRequest) (rs : List Record) (id : ℕ) (points : ℕ × ℕ) (r : Record) → m.body ≡ Body.Reserve q → q.connection ≡ None →
    (let f : Record = fresh id m.header.requester (service_of q (name_or q.source) (name_or q.dest)) points.0 points.1 in IsLater (record_at (length rs) (rs ++ f ∷ [])) r → Opening (Input.Got m) rs (slice_set (rs ++ f ∷ []) (length rs) r))
opened_at m q rs id points r body unnamed later =
    Opening.begun m q refl (omega (arith, length-set (rs ++ f ∷ []) (length rs) r, long))
    (record {
      body = body;
      unnamed = unnamed;
      owner = ap (λ (z : Record). z.owner) here ∙ (later.owner ∙ ap (λ (z : Record). z.owner) (last_here rs f no_record));
      service = ap (λ (z : Record). z.service) here ∙ (later.service ∙ ap (λ (z : Record). z.service) (last_here rs f no_record));
    })
  where
    f : Record
    f = fresh id m.header.requester (service_of q (name_or q.source) (name_or q.dest)) points.0 points.1

    long : length (rs ++ f ∷ []) ≡ length rs + 1
    long = length-append rs (f ∷ [])

    here : record_at (length rs) (slice_set (rs ++ f ∷ []) (length rs) r) ≡ r
    here = get_or-set_same (rs ++ f ∷ []) (length rs) r no_record (omega (arith, long))

module _ (m : Message) (q : ReserveRequest) (body : m.body ≡ Body.Reserve q) (unnamed : q.connection ≡ None) where
  no_connection : connection_of m.body ≡ None
  unfolding connection_of
  no_connection = ap connection_of body ∙ unnamed

  ---- A provider

  module _ (setting : ProviderSetting) (stp_of : List ℕ → Option ℕ) where
    provided_between : (s : State) (o : Option (ℕ × ℕ)) → Opening (Input.Got m) s.records (provider_between o setting s m q).state.records
    provided_between s None = Opening.none refl
    provided_between s (Some points) =
        let rs : List Record = (provider_new setting s m q points).records in
        let own : Record = record_at (length s.records) rs in
        let x : Moved = moves_if Side.Provider (requested s.now m.body m.header.correlation own) s.now own in
        opened_at m q s.records (id_of setting.number s.next) points _ body unnamed
        (tells_later (status_of s.now own) (id_of setting.number (s.next + 1)) s.now own x (moves_if_later Side.Provider (requested s.now m.body m.header.correlation own) s.now own))

    provided_opens : (s : State) → Opening (Input.Got m) s.records (provider_opens m.body setting stp_of s m).state.records
    provided_opens s = subst (λ (b : Body). Opening (Input.Got m) s.records (provider_opens b setting stp_of s m).state.records) (sym body) (provided_between s (points_of stp_of q))

    provided_accepts : (s : State) → Opening (Input.Got m) s.records (provider_accepts (connection_of m.body) setting stp_of s m).state.records
    provided_accepts s = subst (λ (o : Option ℕ). Opening (Input.Got m) s.records (provider_accepts o setting stp_of s m).state.records) (sym no_connection) (provided_opens s)

    provided_answers : (s : State) (o : Option ErrorName) → Opening (Input.Got m) s.records (provider_answers o setting stp_of s m).state.records
    provided_answers s (Some error) = Opening.none refl
    provided_answers s None = provided_accepts s

    provided_serves : (s : State) (b : Bool) → Opening (Input.Got m) s.records (provider_serves_by b setting stp_of s m).state.records
    provided_serves s true = Opening.none refl
    provided_serves s false = provided_answers s (refusal s.now setting.name stp_of s.records m)

    provided_receives : (s : State) (a b : Bool) → Opening (Input.Got m) s.records (provider_receives a b setting stp_of s m).state.records
    unfolding provider_receives
    provided_receives s true false = provided_serves (record s { seen = with_taken m.header s.seen }) (is_query m.body)
    provided_receives s true true = Opening.none refl
    provided_receives s false b = Opening.none refl

    provided_step : (s : State) (second : ℕ) → Opening (Input.Got m) s.records (provider_step (Input.Got m) second setting stp_of s).state.records
    unfolding provider_step
    provided_step s second = provided_receives s (is_request m.body) (is_taken m.header s.seen)

    provided_after : (s : State) (e : Entry) → e.input ≡ Input.Got m → Opening (Input.Got m) s.records (provider_after setting stp_of s e).state.records
    unfolding provider_after
    provided_after s e got = by_test (provider_may s e)
      where
        by_test : (b : Bool) → Opening (Input.Got m) s.records (provider_if b setting stp_of s e).state.records
        by_test true = subst (λ (i : Input). Opening (Input.Got m) s.records (provider_step i e.second setting stp_of s).state.records) (sym got) (provided_step s e.second)
        by_test false = Opening.none refl

  ---- An aggregator

  module _ (setting : AggregatorSetting) where
    aggregated_between : (s : AgentState) (o : Option (ℕ × ℕ)) → Opening (Input.Got m) s.base.records (opens_between o setting s m q).state.base.records
    unfolding request_at
    aggregated_between s None = Opening.none refl
    aggregated_between s (Some points) =
        let new : AgentState = with_new setting s m q points in
        let n : ℕ = length s.base.records in
        opened_at m q s.base.records (id_of setting.agent.number s.base.next) points _ body unnamed
        (request_later setting.agent s.base.now m (record_at n new.base.records) (children_for setting new n m) new.base.next)

    aggregated_opens : (s : AgentState) → Opening (Input.Got m) s.base.records (opens m.body setting s m).state.base.records
    aggregated_opens s = subst (λ (b : Body). Opening (Input.Got m) s.base.records (opens b setting s m).state.base.records) (sym body) (aggregated_between s (points_of setting.stp_of q))

    aggregated_accepts : (s : AgentState) → Opening (Input.Got m) s.base.records (accepts (connection_of m.body) setting s m).state.base.records
    aggregated_accepts s = subst (λ (o : Option ℕ). Opening (Input.Got m) s.base.records (accepts o setting s m).state.base.records) (sym no_connection) (aggregated_opens s)

    aggregated_answers : (s : AgentState) (o : Option ErrorName) → Opening (Input.Got m) s.base.records (answers o setting s m).state.base.records
    unfolding answers
    aggregated_answers s (Some error) = Opening.none refl
    aggregated_answers s None = aggregated_accepts s

    aggregated_serves : (s : AgentState) → Opening (Input.Got m) s.base.records (serves (is_query m.body) setting s m).state.base.records
    aggregated_serves s =
        subst (λ (b : Bool). Opening (Input.Got m) s.base.records (serves b setting s m).state.base.records) (sym (ap is_query body))
        (aggregated_answers s (refusal s.base.now setting.agent.name setting.stp_of s.base.records m))

    aggregated_receives : (s : AgentState) (b : Bool) → Opening (Input.Got m) s.base.records (receives true b setting s m).state.base.records
    unfolding receives
    aggregated_receives s false = aggregated_serves (sees m s)
    aggregated_receives s true = Opening.none refl

    aggregated_step : (s : AgentState) (second : ℕ) → is_request m.body ≡ true → Opening (Input.Got m) s.base.records (step (Input.Got m) second setting s).state.base.records
    unfolding step
    aggregated_step s second asks = subst (λ (a : Bool). Opening (Input.Got m) s.base.records (receives a (is_seen s m) setting s m).state.base.records) (sym asks) (aggregated_receives s (is_seen s m))

    aggregated_after : (s : AgentState) (e : Entry) → e.input ≡ Input.Got m → is_request m.body ≡ true → Opening (Input.Got m) s.base.records (aggregator_after setting s e).state.base.records
    unfolding aggregator_after
    aggregated_after s e got asks = by_test (may_take s e)
      where
        by_test : (b : Bool) → Opening (Input.Got m) s.base.records (after_if b setting s e).state.base.records
        by_test true = subst (λ (i : Input). Opening (Input.Got m) s.base.records (step i e.second setting s).state.base.records) (sym got) (aggregated_step s e.second asks)
        by_test false = Opening.none refl

  opening_of : (role : Role) → is_requester role ≡ false → (s : AgentState) (e : Entry) → e.input ≡ Input.Got m → is_request m.body ≡ true → Opening e.input s.base.records (after_as role s e).state.base.records
  unfolding after_as
  opening_of (provides setting stp_of) asked s e got asks = subst (λ (i : Input). Opening i s.base.records (provider_after setting stp_of s.base e).state.records) (sym got) (provided_after setting stp_of s.base e got)
  opening_of (aggregates setting) asked s e got asks = subst (λ (i : Input). Opening i s.base.records (aggregator_after setting s e).state.base.records) (sym got) (aggregated_after setting s e got asks)
  opening_of (requests setting) asked s e got asks = absurd (cc)

-- by what an entry does at an agent that is asked
by_serving : (name : List ℕ) (input : Input) (d : Child) (new : List Record) (seen : List Header) (out : List Message) → Serves name input d new seen out →
    ((m : Message) (q : ReserveRequest) → m.body ≡ Body.Reserve q → q.connection ≡ None → input ≡ Input.Got m → is_request m.body ≡ true → Opening input d.records new) → Opening input d.records new
by_serving name input d new seen out (Serves.acts same courses) begun_by = Opening.none courses.long
by_serving name input d new seen out (Serves.leaves m is_new kind same silent) begun_by = Opening.none (ap length same)
by_serving name input d new seen out (Serves.refuses m error now is_new refused same one_said) begun_by = Opening.none (ap length same)
by_serving name input d new seen out (Serves.takes m n side now is_new about turn) begun_by = Opening.none (ap length turn.records ∙ length-set d.records n turn.after)
by_serving name input d new seen out (Serves.opens m id service source dest side now is_new first turn) begun_by = begun_by m first.reserve first.body first.unnamed is_new.got is_new.request

pub entry_opens : (h : Home) → is_requester h.role ≡ false → (s : AgentState) (e : Entry) → Opening e.input s.base.records (after h s e).state.base.records
entry_opens h asked s e =
    by_serving (name_in h.role) e.input (child_of s.base []) (after h s e).state.base.records (after h s e).state.base.seen (after h s e).out (serves_as h.role asked s e [])
    (λ m q body unnamed got asks. opening_of m q body unnamed h.role asked s e got asks)

---- What each record of an agent was opened by

-- one of the entries takes a first reserve of the owner, of whose service the record is
pub record WasOpened (es : List Entry) (r : Record) : Type 0 where
  pub entry : Entry
  pub there : Contains es entry
  pub message : Message
  pub got : entry.input ≡ Input.Got message
  pub reserve : ReserveRequest
  pub by : IsOpenedBy message reserve r

abbrev pub AllOpened : List Entry → List Record → Type 0
AllOpened es rs = (n : ℕ) → n < length rs → WasOpened es (record_at n rs)

opened_more : (es fs : List Entry) (r : Record) → WasOpened es r → WasOpened (es ++ fs) r
opened_more es fs r w = record { entry = w.entry; there = Contains-append_left es fs w.entry w.there; message = w.message; got = w.got; reserve = w.reserve; by = w.by }

opened_later : (es : List Entry) (r q : Record) → IsLater r q → WasOpened es r → WasOpened es q
opened_later es r q later w =
    record {
      entry = w.entry;
      there = w.there;
      message = w.message;
      got = w.got;
      reserve = w.reserve;
      by = record { body = w.by.body; unnamed = w.by.unnamed; owner = later.owner ∙ w.by.owner; service = later.service ∙ w.by.service };
    }

opened_then : (es : List Entry) (e : Entry) (old new : List Record) → Opening e.input old new → Stay IsLater old new → AllOpened es old → AllOpened (es ++ e ∷ []) new
opened_then es e old new opening stay all n l = by opening (cases_eq n (length old))
  where
    before : n < length old → WasOpened (es ++ e ∷ []) (record_at n new)
    before k =
        let (later, there, is) = stay n (record_at n old) (slice_get-get_or old n no_record k) in
        opened_later (es ++ e ∷ []) (record_at n old) (record_at n new) (subst (IsLater (record_at n old)) (sym (get_or_from_slice_get new n later no_record there)) is) (opened_more es (e ∷ []) (record_at n old) (all n k))

    by : Opening e.input old new → (n ≡ length old) ⊎ (n ≡ length old → ⊥) → WasOpened (es ++ e ∷ []) (record_at n new)
    by (Opening.none long) o = before (omega (arith, l, long))
    by (Opening.begun m q got long is) (inr d) = before (lower n (length old) d (omega (arith, l, long)))
      where
        lower : (i k : ℕ) → (i ≡ k → ⊥) → i < k + 1 → i < k
        lower i k d l = omega (arith, d, l)
    by (Opening.begun m q got long is) (inl here) =
        subst (λ (i : ℕ). WasOpened (es ++ e ∷ []) (record_at i new)) (sym here)
        (record { entry = e; there = Contains-append_right es (e ∷ []) e (0, omega arith, refl); message = m; got = got; reserve = q; by = is })

opened_from : (h : Home) → is_requester h.role ≡ false → (before es : List Entry) (s : AgentState) → AllOpened before s.base.records → AllOpened (before ++ es) (goes_on h s es).state.base.records
unfolding goes_on
opened_from h asked before [] s all = λ n l. opened_more before [] (record_at n s.base.records) (all n l)
opened_from h asked before (e ∷ es) s all =
    subst (λ (fs : List Entry). AllOpened fs (goes_on h (after h s e).state es).state.base.records) (in_front before e es)
    (opened_from h asked (before ++ e ∷ []) es (after h s e).state
    (opened_then before e s.base.records (after h s e).state.base.records (entry_opens h asked s e) (entries_grow h s e).records all))
  where
    in_front : (xs : List Entry) (y : Entry) (ys : List Entry) → (xs ++ y ∷ []) ++ ys ≡ xs ++ y ∷ ys
    in_front [] y ys = refl
    in_front (x ∷ xs) y ys = ap (λ zs. x ∷ zs) (in_front xs y ys)

pub told_opened : (h : Home) → is_requester h.role ≡ false → (es : List Entry) → AllOpened es (told h es).state.base.records
told_opened h asked es = opened_from h asked [] es blank_agent (λ n l. absurd (none n l))
  where
    none : (n : ℕ) → n < 0 → ⊥
    none n l = omega (arith, l)

---- Runs

pub records_were_opened : HeardWasSent → RecordsWereOpened
records_were_opened heard homes events allowed b j n r agent asked cut there =
    let w : World = world_after empty events in
    let es : List Entry = take j (w.journal b) in
    let rs : List Record = (state_of_cut homes w b j).base.records in
    let o : WasOpened es r = subst (WasOpened es) (get_or_from_slice_get rs n r no_record there) (told_opened (homes b) asked es n (slice_get_within rs n r there)) in
    let h : IsHeard homes w b o.entry = All-contains (IsHeard homes w b) es o.entry (All-take (IsHeard homes w b) j (w.journal b) ((heard homes events allowed).heard b)) o.there in
    let s = subst (λ (i : Input). WasSent homes w b i) o.got h.sent in
    record { message = o.message; sent = s.0; to = s.1; from = sym o.by.owner; reserve = o.reserve; body = o.by.body; unnamed = o.by.unnamed; service = o.by.service }
