-- Where it is known what each request is worth, there are no more of them than asks are worth.
use Rattle.std.proofs.Common.{◌≡◌, ◌≤◌, ◌<◌, ◌+◌, ◌∙◌, ℕ, zero, suc, Bool, true, false, cond, List, [], ◌∷◌, Option, Some, refl, sym, ap, subst, arith, length, get_or}
use Rattle.std.specs.List.{All, Contains, sum_by, filter}
use Rattle.std.proofs.lemmas.List.{length-map}
use Rattle.std.proofs.lemmas.List.Elements.{All-head, All-tail, All-contains_itself, All-weaker}
use Rattle.std.proofs.lemmas.List.Sums.{sum_by-cons}
use Rattle.std.proofs.lemmas.Option.{slice_get-get_or}
use Rattle.nsi_primitive.specs.Messages.{is_request}
use Rattle.nsi_primitive.specs.declared.entry.Entry.{Entry}
use Rattle.nsi_primitive.specs.declared.entry.Event.{Event}
use Rattle.nsi_primitive.specs.declared.entry.Input.{Input}
use Rattle.nsi_primitive.specs.declared.message.Message.{Message}
use Rattle.stp_topology.specs.Laws.{IsWellFormed}
use Rattle.stp_topology.specs.Network.{kind_of}
use Rattle.stp_topology.specs.Sound.{IsSound}
use Rattle.stp_topology.specs.declared.network.AgentKind.{AgentKind}
use Rattle.stp_topology.specs.declared.network.Network.{Network}
use Rattle.connection_record.specs.Speaking.{tally, is_asking}
use Rattle.provider_agent.specs.Setting.{Setting as ProviderSetting}
use Rattle.nsi_agent.specs.Homes.{Role, provides, Routes, AreRoutes, role_in, home_in}
use Rattle.nsi_agent.specs.Laws.{WhatIsSaidIsItsOwn}
use Rattle.nsi_agent.specs.Said.{name_in, HasAsked, Asks, IsSaid, IsSaidAs, IsForIn, IsFor}
use Rattle.nsi_agent.specs.Told.{told}
use Rattle.agent_node.specs.Openings.{agents}
use Rattle.nsi_world.specs.Worlds.{Homes, World, empty, IsAgent}
use Rattle.nsi_world.specs.Runs.{world_after, AreAllowed}
use Rattle.nsi_world.specs.Heard.{IsHeard, IsFair, WasSent}
use Rattle.nsi_world.specs.Laws.{HeardWasSent}
use Rattle.settled_play.proofs.Links.{agents_within}
use Rattle.run_growth.proofs.Sent.{given_in}
use Rattle.speech_cost.specs.Costs.{asks}
use Rattle.due_events.specs.Counts.{input_worth, ask_worth}
use Rattle.request_worth.specs.Laws.{RequestsAreTakenOnce, AggregatorsAskNoMore, RequestersAskNoMore}
use Rattle.request_worth.specs.Worth.{requests_of, asks as is_asked, ask_worth as label_worth, entry_worth, asks_worth}
use Rattle.run_changes.specs.Told.{requests_asked, requests_taken}
use Rattle.run_changes.proofs.Sums.{tally_filter}
use Rattle.run_requests.specs.Laws.{TakenWereSaid, AreFew, PaidRequestsAreFew}
use Rattle.run_requests.specs.Requests.{said_by, taken_by, Worth, by_label, worth_of_asks, AreFeesIn}
use Rattle.run_requests.proofs.Taken.{is_agent}

---- Sums

-- what is worth more than one, by one less
less : ℕ → ℕ
less zero = zero
less (suc n) = n

one_and_less : (n : ℕ) → 1 ≤ n → n ≡ 1 + less n
unfolding less
one_and_less zero low = absurd (omega (arith, low))
one_and_less (suc n) low = omega arith

module _ (fee : Message → ℕ) (something : (m : Message) → 1 ≤ fee m) where
  abbrev rest : Message → ℕ
  rest m = less (fee m)

  each_one : (ms : List Message) → sum_by fee ms ≡ length ms + sum_by rest ms
  each_one [] = refl
  each_one (m ∷ ms) = omega (arith, one_and_less (fee m) (something m), each_one ms, sum_by-cons fee m ms, sum_by-cons rest m ms)

abbrev alone : Message → ℕ
alone m = 1

all_alone : (ms : List Message) → sum_by alone ms ≡ length ms
all_alone [] = refl
all_alone (m ∷ ms) = omega (arith, all_alone ms, sum_by-cons alone m ms)

counted : (ms : List Message) → tally asks ms ≡ length (requests_of ms)
unfolding is_asking
counted ms = sym (tally_filter asks ms)

-- where each term is no more than two others together
sum_of_two : (f g h : ℕ → ℕ) (ns : List ℕ) → All (λ n. f n ≤ g n + h n) ns → sum_by f ns ≤ sum_by g ns + sum_by h ns
sum_of_two f g h [] all = omega arith
sum_of_two f g h (n ∷ ns) all =
    omega (
      arith,
      All-head (λ m. f m ≤ g m + h m) n ns all,
      sum_of_two f g h ns (All-tail (λ m. f m ≤ g m + h m) n ns all),
      sum_by-cons f n ns,
      sum_by-cons g n ns,
      sum_by-cons h n ns,
    )

-- where each term is two others together
sum_is_two : (f g h : ℕ → ℕ) → ((n : ℕ) → f n ≡ g n + h n) → (ns : List ℕ) → sum_by f ns ≡ sum_by g ns + sum_by h ns
sum_is_two f g h each [] = refl
sum_is_two f g h each (n ∷ ns) = omega (arith, each n, sum_is_two f g h each ns, sum_by-cons f n ns, sum_by-cons g n ns, sum_by-cons h n ns)

same_sum : {X : Type 0} (f g : X → ℕ) → ((x : X) → f x ≡ g x) → (xs : List X) → sum_by f xs ≡ sum_by g xs
same_sum f g each [] = refl
same_sum f g each (x ∷ xs) = omega (arith, each x, same_sum f g each xs, sum_by-cons f x xs, sum_by-cons g x xs)

---- Asks

same_ask : (worth : Worth) (a : ℕ) (input : Input) → label_worth (worth a) input ≡ input_worth (by_label worth) a input
same_ask worth a (Input.Ask n ask) = refl
same_ask worth a _ = refl

same_asks : (worth : Worth) (a : ℕ) (es : List Entry) → asks_worth (worth a) es ≡ sum_by (ask_worth (by_label worth) a) es
same_asks worth a es = same_sum (entry_worth (worth a)) (ask_worth (by_label worth) a) (λ e. same_ask worth a e.input) es

---- Providers

none_asked : (fee : Message → ℕ) (name : List ℕ) (setting : ProviderSetting) (stp_of : List ℕ → Option ℕ) (owed : List ℕ → Type 0) (ms : List Message) →
    All (IsSaid name (Asks (provides setting stp_of)) owed) ms → sum_by fee (requests_of ms) ≡ 0
none_asked fee name setting stp_of owed [] all = refl
none_asked fee name setting stp_of owed (m ∷ ms) all =
    by (is_request m.body) (All-head (IsSaid name (Asks (provides setting stp_of)) owed) m ms all) (none_asked fee name setting stp_of owed ms (All-tail (IsSaid name (Asks (provides setting stp_of)) owed) m ms all))
  where
    by : (b : Bool) → IsSaidAs b name (Asks (provides setting stp_of)) owed m → sum_by fee (filter is_asked ms) ≡ 0 → sum_by fee (cond b (m ∷ filter is_asked ms) (filter is_asked ms)) ≡ 0
    by true said e = absurd (said.1)
    by false said e = e

---- Each agent

module _ (own : WhatIsSaidIsItsOwn) (heard : HeardWasSent) (once : RequestsAreTakenOnce) (aggregators : AggregatorsAskNoMore) (requesters : RequestersAskNoMore) (taken : TakenWereSaid)
    (t : Network) (routes : Routes) (events : List Event) (sound : IsSound t) (formed : IsWellFormed t) (routed : AreRoutes t routes) (run : AreAllowed (home_in t routes) empty events)
    (worth : Worth) (fee : Message → ℕ) (are : AreFeesIn t routes (world_after empty events) worth fee) where
  abbrev homes : Homes
  homes = home_in t routes

  abbrev w : World
  w = world_after empty events

  abbrev left : Message → ℕ
  left m = less (fee m)

  taken_count : (a : ℕ) → length (told (homes a) (w.journal a)).state.base.seen ≡ length (taken_by homes w a)
  taken_count a = ap length (sym (once (homes a) (w.journal a)).seen) ∙ length-map (taken_by homes w a) (λ (m : Message). m.header)

  for_agent : (a : ℕ) → All (IsForIn (name_in (homes a).role)) (w.journal a)
  for_agent a =
      All-weaker (IsHeard homes w a) (IsForIn (name_in (homes a).role)) (λ e h. by e.input h.sent) (w.journal a)
      (let fair : IsFair homes w = heard homes events run in fair.heard a)
    where
      by : (input : Input) → WasSent homes w a input → IsFor (name_in (homes a).role) input
      by (Input.Got m) sent = sent.1 ∙ sym ((given_in t routes).named a)
      by (Input.Work n machine) sent = tt
      by (Input.Force n) sent = tt
      by (Input.Acked i) sent = tt
      by Input.Tick sent = tt
      by (Input.Ask n ask) sent = tt

  role_is : (a : ℕ) (o : Option AgentKind) → kind_of t a ≡ o → (homes a).role ≡ role_in o t routes a
  unfolding home_in
  role_is a o e = ap (λ (k : Option AgentKind). role_in k t routes a) e

  provider_none : (a : ℕ) (setting : ProviderSetting) (stp_of : List ℕ → Option ℕ) → (homes a).role ≡ provides setting stp_of → sum_by fee (said_by homes w a) ≡ 0
  provider_none a setting stp_of role =
      let es : List Entry = w.journal a in
      let out : List Message = (told (homes a) es).out in
      let all : All (IsSaid (name_in (homes a).role) (Asks (homes a).role) (HasAsked es)) out = own (homes a) es (for_agent a) in
      none_asked fee (name_in (homes a).role) setting stp_of (HasAsked es) out (subst (λ (r : Role). All (IsSaid (name_in (homes a).role) (Asks r) (HasAsked es)) out) role all)

  -- what an agent says is worth no more than what it takes, each by one less, and the asks that it takes
  abbrev IsPaidBy : ℕ → Type 0
  IsPaidBy a = sum_by fee (said_by homes w a) ≤ sum_by left (taken_by homes w a) + sum_by (ask_worth (by_label worth) a) (w.journal a)

  by_kind : (a : ℕ) (k : AgentKind) → IsAgent homes a → kind_of t a ≡ Some k → IsPaidBy a
  by_kind a (AgentKind.Provider hold) is e = omega (arith, provider_none a _ _ (role_is a (Some (AgentKind.Provider hold)) e))
  by_kind a AgentKind.Aggregator is e =
      omega (
        arith,
        aggregators t routes a fee (w.journal a) sound formed routed e are.pays (are.aggregators a e),
        each_one fee are.pays.something (taken_by homes w a),
        taken_count a,
      )
  by_kind a (AgentKind.Requester provider) is e =
      omega (
        arith,
        requesters (homes a) _ _ fee (worth a) (w.journal a) (role_is a (Some (AgentKind.Requester provider)) e) are.pays (are.summaries a)
            (are.requesters a _ is (role_is a (Some (AgentKind.Requester provider)) e)),
        same_asks worth a (w.journal a),
      )

  each_paid : (a : ℕ) → a < length t.agents → IsPaidBy a
  each_paid a lt =
      by_kind a (get_or t.kinds a AgentKind.Aggregator) (is_agent t routes a formed lt) (slice_get-get_or t.kinds a AgentKind.Aggregator (omega (arith, lt, sound.fit.kinds)))

  ---- All agents

  all_paid : All IsPaidBy (agents t)
  all_paid = All-weaker (Contains (agents t)) IsPaidBy (λ a c. each_paid a (agents_within t a c)) (agents t) (All-contains_itself (agents t))

  abbrev number : ℕ → ℕ
  number a = tally asks (told (homes a) (w.journal a)).out

  said_is : (a : ℕ) → sum_by fee (said_by homes w a) ≡ tally asks (told (homes a) (w.journal a)).out + sum_by left (said_by homes w a)
  said_is a = omega (arith, each_one fee are.pays.something (said_by homes w a), counted (told (homes a) (w.journal a)).out)

  few_asked : requests_asked homes w (agents t) ≤ worth_of_asks worth w (agents t)
  few_asked =
      omega (
        arith,
        sum_of_two (λ a. sum_by fee (said_by homes w a)) (λ a. sum_by left (taken_by homes w a)) (λ a. sum_by (ask_worth (by_label worth) a) (w.journal a)) (agents t) all_paid,
        sum_is_two (λ a. sum_by fee (said_by homes w a)) number (λ a. sum_by left (said_by homes w a)) said_is (agents t),
        taken t routes events left formed run,
      )

  few_taken : requests_taken homes w (agents t) ≤ worth_of_asks worth w (agents t)
  few_taken =
      omega (
        arith,
        few_asked,
        taken t routes events alone formed run,
        same_sum (λ a. length (told (homes a) (w.journal a)).state.base.seen) (λ a. sum_by alone (taken_by homes w a)) (λ a. taken_count a ∙ sym (all_alone (taken_by homes w a))) (agents t),
        same_sum number (λ a. sum_by alone (said_by homes w a)) (λ a. counted (told (homes a) (w.journal a)).out ∙ sym (all_alone (said_by homes w a))) (agents t),
      )

  few : AreFew t routes w (worth_of_asks worth w (agents t))
  few = record { asked = few_asked; taken = few_taken }

pub paid_requests_are_few : WhatIsSaidIsItsOwn → HeardWasSent → RequestsAreTakenOnce → AggregatorsAskNoMore → RequestersAskNoMore → TakenWereSaid → PaidRequestsAreFew
paid_requests_are_few own heard once aggregators requesters taken t routes events sound formed routed run worth fee are =
    few own heard once aggregators requesters taken t routes events sound formed routed run worth fee are
