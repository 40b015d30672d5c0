-- The requests that an agent takes are those that it has seen, each once.
use Rattle.std.proofs.Common.{ℕ, ◌≡◌, ◌≢◌, ◌∙◌, ◌&&◌, ◌||◌, inl, inr, not, Bool, true, false, List, [], ◌∷◌, ◌++◌, Option, Some, None, refl, sym, ap, subst, arith, bytes_eq, if◌then◌else◌}
use Rattle.std.specs.List.{All, Contains, list_any}
use Rattle.std.proofs.lemmas.List.{append-nil, append_assoc, map-append}
use Rattle.std.proofs.lemmas.List.Elements.{All-nil, All-cons, All-head, All-tail, All-weaker, All-contains_itself}
use Rattle.std.proofs.lemmas.List.Folds.{list_any-append}
use Rattle.nsi_primitive.specs.Messages.{is_request, is_query, connection_of}
use Rattle.nsi_primitive.specs.declared.entry.Entry.{Entry}
use Rattle.nsi_primitive.specs.declared.entry.Input.{Input}
use Rattle.nsi_primitive.specs.declared.kind.ErrorName.{ErrorName}
use Rattle.nsi_primitive.specs.declared.message.Body.{Body}
use Rattle.nsi_primitive.specs.declared.message.Header.{Header}
use Rattle.nsi_primitive.specs.declared.message.Message.{Message}
use Rattle.nsi_primitive.specs.declared.message.ReserveRequest.{ReserveRequest}
use Rattle.message_retry.specs.Retry.{is_old}
use Rattle.message_retry.specs.Taken.{is_taken, is_same_request, with_taken}
use Rattle.connection_record.specs.Refusal.{refusal, place_of, points_of}
use Rattle.agent_state.specs.Entries.{is_recursive, retry_of}
use Rattle.agent_state.specs.State.{State, AgentState, blank_agent, children_at}
use Rattle.provider_agent.specs.Setting.{Setting as ProviderSetting}
use Rattle.provider_agent.specs.Steps.{step as provider_step, receives as provider_receives, after_if as provider_if, after as provider_after}
use Rattle.aggregator_agent.specs.Below.{Sought, is_asked, seek}
use Rattle.aggregator_agent.specs.Setting.{Setting}
use Rattle.aggregator_agent.specs.Steps.{is_seen, sees, request_at, opens_between, opens, request_to, accepts, answers, hears, opens_query, asks_below, asks_if_own, place_named, queries, serves, receives, step, after_if, after as aggregator_after}
use Rattle.requester_agent.specs.Setting.{Setting as RequesterSetting}
use Rattle.requester_agent.specs.Steps.{hears_if, step as requester_step, after_if as requester_if, after as requester_after}
use Rattle.nsi_agent.specs.Homes.{Role, Home, provides, aggregates, requests}
use Rattle.nsi_agent.specs.Steps.{after_as, after, may_take_as, is_new, is_seen as was_seen}
use Rattle.nsi_agent.specs.Told.{goes_on}
use Rattle.nsi_agent.proofs.AggregatorKeeps.{aggregator_saw}
use Rattle.nsi_agent.proofs.ProviderKeeps.{HasSeen, provider_saw}
use Rattle.nsi_agent.proofs.RequesterKeeps.{requester_saw}
use Rattle.agent_speech.proofs.Measures.{with_new_taken, itself}
use Rattle.agent_speech.proofs.Noting.{saw_other, new_request as was_new, saw_request}
use Rattle.request_worth.specs.Laws.{RequestsAreTakenOnce}
use Rattle.request_worth.specs.Worth.{new_request, requests_from, WasBrought, HaveOwnHeaders, headers_of}

---- One entry

-- the request that comes, where it is new
abbrev got : (asks old : Bool) → Message → List Message
got asks old m = if asks && not old then m ∷ [] else []

-- what was seen, and that one besides
abbrev Sees : State → State → List Message → Type 0
Sees s t ms = t.seen ≡ s.seen ++ headers_of ms

same_sees : (s t : State) → t.seen ≡ s.seen → Sees s t []
same_sees s t e = e ∙ sym (append-nil s.seen)

provider_got : (asks taken : Bool) (setting : ProviderSetting) (stp_of : List ℕ → Option ℕ) (s : State) (m : Message) → is_taken m.header s.seen ≡ taken →
    Sees s (provider_receives asks taken setting stp_of s m).state (got asks (asks && taken) m)
unfolding provider_receives
provider_got true false setting stp_of s m e =
    let noted : (provider_receives true false setting stp_of s m).state.seen ≡ with_taken m.header s.seen = grind arith in noted ∙ with_new_taken m.header s.seen e
provider_got true true setting stp_of s m e = same_sees s s refl
provider_got false true setting stp_of s m e = same_sees s s refl
provider_got false false setting stp_of s m e = same_sees s s refl

-- what is done with a request leaves what was seen
between_seen : (o : Option (ℕ × ℕ)) (setting : Setting) (s : AgentState) (m : Message) (q : ReserveRequest) → (opens_between o setting s m q).state.base.seen ≡ s.base.seen
unfolding request_at
between_seen None setting s m q = refl
between_seen (Some points) setting s m q = refl

opens_seen : (body : Body) (setting : Setting) (s : AgentState) (m : Message) → (opens body setting s m).state.base.seen ≡ s.base.seen
opens_seen (Body.Reserve q) setting s m = between_seen (points_of setting.stp_of q) setting s m q
opens_seen _ setting s m = refl

to_seen : (o : Option ℕ) (setting : Setting) (s : AgentState) (m : Message) → (request_to o setting s m).state.base.seen ≡ s.base.seen
unfolding request_at
to_seen None setting s m = refl
to_seen (Some n) setting s m = refl

accepts_seen : (o : Option ℕ) (setting : Setting) (s : AgentState) (m : Message) → (accepts o setting s m).state.base.seen ≡ s.base.seen
accepts_seen None setting s m = opens_seen m.body setting s m
accepts_seen (Some id) setting s m = to_seen (place_of id m.header.requester s.base.records) setting s m

answers_seen : (o : Option ErrorName) (setting : Setting) (s : AgentState) (m : Message) → (answers o setting s m).state.base.seen ≡ s.base.seen
unfolding answers
answers_seen (Some error) setting s m = refl
answers_seen None setting s m = accepts_seen (connection_of m.body) setting s m

sought_seen : (waits : Bool) (setting : Setting) (s : AgentState) (n : ℕ) (m : Message) (x : Sought) → (opens_query waits setting s n m x).state.base.seen ≡ s.base.seen
sought_seen true setting s n m x = refl
sought_seen false setting s n m x = refl

own_seen : (is_own : Bool) (o : Option ℕ) (setting : Setting) (s : AgentState) (m : Message) → (asks_if_own is_own o setting s m).state.base.seen ≡ s.base.seen
unfolding asks_below
own_seen true (Some n) setting s m = let x : Sought = seek setting.agent s.base.next (children_at n s.children) in sought_seen (list_any is_asked x.parts) setting s n m x
own_seen true None setting s m = refl
own_seen false o setting s m = refl

serves_seen : (is_query recursive : Bool) (setting : Setting) (s : AgentState) (m : Message) → is_recursive m.body ≡ recursive → (serves is_query setting s m).state.base.seen ≡ s.base.seen
serves_seen true true setting s m e =
    subst (λ b. (queries b setting s m).state.base.seen ≡ s.base.seen) (sym e) (own_seen (bytes_eq m.header.provider setting.agent.name) (place_named m s.base.records) setting s m)
serves_seen true false setting s m e = subst (λ b. (queries b setting s m).state.base.seen ≡ s.base.seen) (sym e) refl
serves_seen false b setting s m e = answers_seen (refusal s.base.now setting.agent.name setting.stp_of s.base.records m) setting s m

aggregator_got : (asks old : Bool) (setting : Setting) (s : AgentState) (m : Message) → is_request m.body ≡ asks → is_seen s m ≡ old → Sees s.base (receives asks old setting s m).state.base (got asks old m)
unfolding receives hears
aggregator_got true false setting s m asks new =
    serves_seen (is_query m.body) (is_recursive m.body) setting (sees m s) m refl
    ∙ (saw_request m (retry_of s.base) asks ∙ with_new_taken m.header s.base.seen (was_new m (retry_of s.base) asks new))
aggregator_got false false setting s m asks new = saw_other m (retry_of s.base) asks ∙ sym (append-nil s.base.seen)
aggregator_got true true setting s m asks new = same_sees s.base s.base refl
aggregator_got false true setting s m asks new = same_sees s.base s.base refl

requester_got : (asks old : Bool) (s : AgentState) (m : Message) → is_request m.body ≡ asks → is_old m (retry_of s.base) ≡ old → Sees s.base (hears_if old m s).state.base (got asks old m)
unfolding hears_if
requester_got true false s m asks new = saw_request m (retry_of s.base) asks ∙ with_new_taken m.header s.base.seen (was_new m (retry_of s.base) asks new)
requester_got false false s m asks new = saw_other m (retry_of s.base) asks ∙ sym (append-nil s.base.seen)
requester_got true true s m asks new = same_sees s.base s.base refl
requester_got false true s m asks new = same_sees s.base s.base refl

---- An agent of any kind

-- the request that an entry brings to an agent of that role
abbrev brings : Role → (is_taken : Bool) → AgentState → Input → List Message
brings role true s (Input.Got m) = got (is_request m.body) (was_seen role s m) m
brings role _ s input = []

abbrev is_got : Input → Bool
is_got (Input.Got m) = true
is_got input = false

-- what isn't a message leaves what was seen
others_seen : (i : Input) (s t : State) → is_got i ≡ false → HasSeen i s t → Sees s t []
others_seen i s t e (inl same) = same_sees s t same.seen
others_seen (Input.Got m) s t e (inr noted) = absurd (cc)
others_seen (Input.Work n machine) s t e (inr noted) = absurd noted
others_seen (Input.Force n) s t e (inr noted) = absurd noted
others_seen (Input.Acked i) s t e (inr noted) = absurd noted
others_seen Input.Tick s t e (inr noted) = absurd noted
others_seen (Input.Ask n a) s t e (inr noted) = absurd noted

provider_input : (setting : ProviderSetting) (stp_of : List ℕ → Option ℕ) (s : AgentState) (i : Input) (second : ℕ) → Sees s.base (provider_step i second setting stp_of s.base).state (brings (provides setting stp_of) true s i)
unfolding provider_step
provider_input setting stp_of s (Input.Got m) second = provider_got (is_request m.body) (is_taken m.header s.base.seen) setting stp_of s.base m refl
provider_input setting stp_of s (Input.Work n machine) second = others_seen (Input.Work n machine) s.base _ refl (provider_saw (Input.Work n machine) second setting stp_of s.base)
provider_input setting stp_of s (Input.Force n) second = others_seen (Input.Force n) s.base _ refl (provider_saw (Input.Force n) second setting stp_of s.base)
provider_input setting stp_of s (Input.Acked i) second = others_seen (Input.Acked i) s.base _ refl (provider_saw (Input.Acked i) second setting stp_of s.base)
provider_input setting stp_of s Input.Tick second = others_seen Input.Tick s.base _ refl (provider_saw Input.Tick second setting stp_of s.base)
provider_input setting stp_of s (Input.Ask n a) second = others_seen (Input.Ask n a) s.base _ refl (provider_saw (Input.Ask n a) second setting stp_of s.base)

aggregator_input : (setting : Setting) (s : AgentState) (i : Input) (second : ℕ) → Sees s.base (step i second setting s).state.base (brings (aggregates setting) true s i)
unfolding step
aggregator_input setting s (Input.Got m) second = aggregator_got (is_request m.body) (is_seen s m) setting s m refl refl
aggregator_input setting s (Input.Work n machine) second = others_seen (Input.Work n machine) s.base _ refl (aggregator_saw (Input.Work n machine) second setting s)
aggregator_input setting s (Input.Force n) second = others_seen (Input.Force n) s.base _ refl (aggregator_saw (Input.Force n) second setting s)
aggregator_input setting s (Input.Acked i) second = others_seen (Input.Acked i) s.base _ refl (aggregator_saw (Input.Acked i) second setting s)
aggregator_input setting s Input.Tick second = others_seen Input.Tick s.base _ refl (aggregator_saw Input.Tick second setting s)
aggregator_input setting s (Input.Ask n a) second = others_seen (Input.Ask n a) s.base _ refl (aggregator_saw (Input.Ask n a) second setting s)

requester_input : (set : RequesterSetting) (s : AgentState) (i : Input) (second : ℕ) → Sees s.base (requester_step i second set s).state.base (brings (requests set) true s i)
unfolding requester_step
requester_input set s (Input.Got m) second = requester_got (is_request m.body) (is_old m (retry_of s.base)) s m refl refl
requester_input set s (Input.Work n machine) second = others_seen (Input.Work n machine) s.base _ refl (requester_saw (Input.Work n machine) second set s)
requester_input set s (Input.Force n) second = others_seen (Input.Force n) s.base _ refl (requester_saw (Input.Force n) second set s)
requester_input set s (Input.Acked i) second = others_seen (Input.Acked i) s.base _ refl (requester_saw (Input.Acked i) second set s)
requester_input set s Input.Tick second = others_seen Input.Tick s.base _ refl (requester_saw Input.Tick second set s)
requester_input set s (Input.Ask n a) second = others_seen (Input.Ask n a) s.base _ refl (requester_saw (Input.Ask n a) second set s)

provider_taken : (b : Bool) (setting : ProviderSetting) (stp_of : List ℕ → Option ℕ) (s : AgentState) (e : Entry) → Sees s.base (provider_if b setting stp_of s.base e).state (brings (provides setting stp_of) b s e.input)
provider_taken true setting stp_of s e = provider_input setting stp_of s e.input e.second
provider_taken false setting stp_of s e = same_sees s.base s.base refl

aggregator_taken : (b : Bool) (setting : Setting) (s : AgentState) (e : Entry) → Sees s.base (after_if b setting s e).state.base (brings (aggregates setting) b s e.input)
aggregator_taken true setting s e = aggregator_input setting s e.input e.second
aggregator_taken false setting s e = same_sees s.base s.base refl

requester_taken : (b : Bool) (set : RequesterSetting) (s : AgentState) (e : Entry) → Sees s.base (requester_if b set s e).state.base (brings (requests set) b s e.input)
requester_taken true set s e = requester_input set s e.input e.second
requester_taken false set s e = same_sees s.base s.base refl

entry_sees : (role : Role) (s : AgentState) (e : Entry) → Sees s.base (after_as role s e).state.base (brings role (may_take_as role s e) s e.input)
unfolding after_as provider_after aggregator_after requester_after
entry_sees (provides setting stp_of) s e = provider_taken (may_take_as (provides setting stp_of) s e) setting stp_of s e
entry_sees (aggregates setting) s e = aggregator_taken (may_take_as (aggregates setting) s e) setting s e
entry_sees (requests set) s e = requester_taken (may_take_as (requests set) s e) set s e

---- What an entry brings

-- it comes by the entry, asks for something, and wasn't seen
record IsNewBy (input : Input) (seen : List Header) (m : Message) : Type 0 where
  got : input ≡ Input.Got m
  asks : is_request m.body ≡ true
  new : is_taken m.header seen ≡ false

-- nothing, or one such message
data BringsOne (input : Input) (seen : List Header) : List Message → Type 0 where
  none : BringsOne input seen []
  one : (m : Message) → IsNewBy input seen m → BringsOne input seen (m ∷ [])

-- for a request no kind of agent looks at more than what was seen
seen_is : (role : Role) (s : AgentState) (m : Message) → is_request m.body ≡ true → was_seen role s m ≡ false → is_taken m.header s.base.seen ≡ false
seen_is (provides setting stp_of) s m asks e = sym (ap (λ b. b && is_taken m.header s.base.seen) asks) ∙ e
seen_is (aggregates setting) s m asks e = was_new m (retry_of s.base) asks e
seen_is (requests set) s m asks e = was_new m (retry_of s.base) asks e

got_one : (asks old : Bool) (role : Role) (s : AgentState) (m : Message) → is_request m.body ≡ asks → was_seen role s m ≡ old → BringsOne (Input.Got m) s.base.seen (got asks old m)
got_one true false role s m asks new = BringsOne.one m (record { got = refl; asks = asks; new = seen_is role s m asks new })
got_one true true role s m asks new = BringsOne.none
got_one false b role s m asks new = BringsOne.none

brings_one : (role : Role) (b : Bool) (s : AgentState) (i : Input) → BringsOne i s.base.seen (brings role b s i)
brings_one role true s (Input.Got m) = got_one (is_request m.body) (was_seen role s m) role s m refl refl
brings_one role true s _ = BringsOne.none
brings_one role false s i = BringsOne.none

-- it is the request that is told
brings_is : (h : Home) (b : Bool) (s : AgentState) (i : Input) → new_request b h s i ≡ brings h.role b s i
unfolding is_new
brings_is h true s (Input.Got m) = refl
brings_is h true s _ = refl
brings_is h false s i = refl

---- Entries one after another

headers_append : (ms ns : List Message) → headers_of (ms ++ ns) ≡ headers_of ms ++ headers_of ns
headers_append ms ns = map-append (λ (m : Message). m.header) ms ns

all_seen : (h : Home) (s : AgentState) (es : List Entry) → (goes_on h s es).state.base.seen ≡ s.base.seen ++ headers_of (requests_from h s es)
unfolding goes_on requests_from
all_seen h s [] = sym (append-nil s.base.seen)
all_seen h s (x ∷ xs) =
    let y : AgentState = (after h s x).state in
    let b : Bool = may_take_as h.role s x in
    let ms : List Message = new_request b h s x.input in
    let rest : List Message = requests_from h y xs in
    let first : y.base.seen ≡ s.base.seen ++ headers_of ms = subst (λ ns. y.base.seen ≡ s.base.seen ++ headers_of ns) (sym (brings_is h b s x.input)) (entry_sees h.role s x) in
    all_seen h y xs
    ∙ (ap (λ hs. hs ++ headers_of rest) first
    ∙ (append_assoc s.base.seen (headers_of ms) (headers_of rest)
    ∙ ap (λ hs. s.base.seen ++ hs) (sym (headers_append ms rest))))

-- what isn't among more headers isn't among fewer, and is none of the others
taken_parts : (a b : Header) (seen : List Header) → is_taken a (seen ++ b ∷ []) ≡ false → (is_taken a seen ≡ false) × (a ≢ b)
unfolding is_taken
taken_parts a b seen e = (by (list_any (is_same_request a) seen) (is_same_request a b) all, λ same. apart (ap (λ z. is_same_request a z) (sym same) ∙ itself a))
  where
    all : (list_any (is_same_request a) seen || (is_same_request a b || false)) ≡ false
    all = sym (list_any-append (is_same_request a) seen (b ∷ [])) ∙ e

    by : (p q : Bool) → (p || (q || false)) ≡ false → p ≡ false
    by true q f = absurd (cc)
    by false q f = refl

    other : (p q : Bool) → (p || (q || false)) ≡ false → q ≡ true → ⊥
    other p true f g = absurd (grind (arith, f))
    other p false f g = cc

    apart : is_same_request a b ≡ true → ⊥
    apart = other (list_any (is_same_request a) seen) (is_same_request a b) all

-- a message that wasn't seen
abbrev IsUnseen : List Header → Message → Type 0
IsUnseen seen m = is_taken m.header seen ≡ false

record AreNew (whole : List Entry) (seen : List Header) (ms : List Message) : Type 0 where
  brought : All (WasBrought whole) ms
  unseen : All (IsUnseen seen) ms
  apart : HaveOwnHeaders ms

module _ (whole : List Entry) where
  -- behind what an entry brings
  behind_new : (e : Entry) (seen later : List Header) (ms rest : List Message) → Contains whole e → BringsOne e.input seen ms → later ≡ seen ++ headers_of ms → AreNew whole later rest → AreNew whole seen (ms ++ rest)
  behind_new e seen later _ rest there BringsOne.none same are = record { brought = are.brought; unseen = subst (λ hs. All (IsUnseen hs) rest) (same ∙ append-nil seen) are.unseen; apart = are.apart }
  behind_new e seen later _ rest there (BringsOne.one m is) same are =
      let unseen : All (IsUnseen (seen ++ m.header ∷ [])) rest = subst (λ hs. All (IsUnseen hs) rest) same are.unseen in
      record {
        brought = All-cons (WasBrought whole) m rest (record { entry = e; there = there; got = is.got; asks = is.asks }) are.brought;
        unseen = All-cons (IsUnseen seen) m rest is.new (All-weaker (IsUnseen (seen ++ m.header ∷ [])) (IsUnseen seen) (λ n u. (taken_parts n.header m.header seen u).0) rest unseen);
        apart = (All-weaker (IsUnseen (seen ++ m.header ∷ [])) (λ n. n.header ≢ m.header) (λ n u. (taken_parts n.header m.header seen u).1) rest unseen, are.apart);
      }

  all_new : (h : Home) (s : AgentState) (es : List Entry) → All (Contains whole) es → AreNew whole s.base.seen (requests_from h s es)
  unfolding requests_from
  all_new h s [] all = record { brought = All-nil (WasBrought whole); unseen = All-nil (IsUnseen s.base.seen); apart = tt }
  all_new h s (x ∷ xs) all =
      let y : AgentState = (after h s x).state in
      let b : Bool = may_take_as h.role s x in
      subst (λ ms. AreNew whole s.base.seen (ms ++ requests_from h y xs)) (sym (brings_is h b s x.input))
      (behind_new x s.base.seen y.base.seen (brings h.role b s x.input) (requests_from h y xs) (All-head (Contains whole) x xs all) (brings_one h.role b s x.input) (entry_sees h.role s x)
      (all_new h y xs (All-tail (Contains whole) x xs all)))

pub requests_are_taken_once : RequestsAreTakenOnce
requests_are_taken_once h es =
    let are : AreNew es [] (requests_from h blank_agent es) = all_new es h blank_agent es (All-contains_itself es) in
    record { seen = sym (all_seen h blank_agent es); brought = are.brought; apart = are.apart }
