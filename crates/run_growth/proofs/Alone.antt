-- Nothing but a provider's own work refuses for bandwidth.
use Rattle.std.proofs.Common.{ℕ, ◌≡◌, true, false, List, [], Option, Some, None, ◌∷◌, ◌++◌, refl, sym, ◌∙◌, subst, take}
use Rattle.std.specs.List.{All, Contains}
use Rattle.std.proofs.lemmas.Bool.{false≢true}
use Rattle.std.proofs.lemmas.List.Elements.{All-take, All-push, All-contains, Contains-append_left, Contains-append_right}
use Rattle.nsi_primitive.specs.Messages.{is_request}
use Rattle.nsi_primitive.specs.declared.entry.Entry.{Entry}
use Rattle.nsi_primitive.specs.declared.entry.Event.{Event}
use Rattle.nsi_primitive.specs.declared.message.Body.{Body}
use Rattle.nsi_primitive.specs.declared.message.Message.{Message}
use Rattle.stp_topology.specs.declared.network.AgentKind.{AgentKind}
use Rattle.stp_topology.specs.declared.network.Network.{Network}
use Rattle.stp_topology.specs.Network.{name_of, kind_of}
use Rattle.stp_topology.specs.Sound.{IsProvider}
use Rattle.agent_state.specs.State.{AgentState, blank_agent}
use Rattle.provider_agent.specs.Safety.{IsHonest, is_refusal}
use Rattle.provider_agent.specs.Setting.{setting_of, own_stp}
use Rattle.provider_agent.specs.Steps.{after as provider_after}
use Rattle.aggregator_agent.specs.Setting.{setting_of as aggregator_of, agent_in}
use Rattle.aggregator_agent.specs.Steps.{after as aggregator_after}
use Rattle.requester_agent.specs.Setting.{setting_of as requester_of}
use Rattle.requester_agent.specs.Steps.{after as requester_after}
use Rattle.nsi_agent.specs.Homes.{Role, Home, Routes, role_in, home_in}
use Rattle.nsi_agent.specs.Steps.{after, after_as}
use Rattle.nsi_agent.specs.Told.{Told, goes_on, told}
use Rattle.nsi_agent.specs.Said.{name_in, HasAsked, Asks, IsSaid, IsSaidAs, IsForIn}
use Rattle.nsi_agent.specs.Laws.{WhatIsSaidIsItsOwn, IsNamedAsDeclared}
use Rattle.nsi_agent.proofs.Telling.{telling_is_in_parts}
use Rattle.nsi_world.specs.Worlds.{Homes, World, empty}
use Rattle.nsi_world.specs.Runs.{world_after, AreAllowed}
use Rattle.run_growth.specs.AgentLaws.{IsAlwaysGood}
use Rattle.run_growth.specs.Cuts.{state_before}
use Rattle.run_growth.specs.Kept.{IsCausedBy, IsCheckAt, IsProvidersCheck}
use Rattle.run_growth.specs.Laws.{NothingElseRefuses}
use Rattle.run_growth.proofs.Entered.{AreEntries, entries_of, all_for}
use Rattle.run_growth.proofs.Mild.{is_rough, IsMildMessage, aggregator_mild, requester_mild}
use Rattle.run_growth.proofs.Honest.{role_is, runs_are_honest}

-- what an entry causes is among what it and those before it cause
entry_out : (h : Home) (s : AgentState) (e : Entry) (m : Message) → Contains (after h s e).out m → Contains (goes_on h s (e ∷ [])).out m
unfolding goes_on
entry_out h s e m c = Contains-append_left (after h s e).out [] m c

caused_out : (h : Home) (es : List Entry) (e : Entry) (m : Message) → Contains (after h (told h es).state e).out m → Contains (told h (es ++ e ∷ [])).out m
caused_out h es e m c =
    subst (λ (x : Told). Contains x.out m) (sym (telling_is_in_parts h blank_agent es (e ∷ [])))
    (Contains-append_right (told h es).out (goes_on h (told h es).state (e ∷ [])).out m (entry_out h (told h es).state e m c))

no_request : (body : Body) → is_refusal body ≡ true → is_request body ≡ false
unfolding is_refusal
no_request (Body.ReserveFailed id exception) h = refl
no_request _ h = absurd (false≢true h)

refusal_is_rough : (body : Body) → is_refusal body ≡ true → is_rough body ≡ true
unfolding is_refusal is_rough
refusal_is_rough (Body.ReserveFailed id exception) h = h
refusal_is_rough _ h = absurd (false≢true h)

not_mild : (m : Message) → is_refusal m.body ≡ true → IsMildMessage m → ⊥
not_mild m r h = false≢true (sym h ∙ refusal_is_rough m.body r)

-- what is no request is said in the agent's own name
own_name : WhatIsSaidIsItsOwn → (h : Home) (es : List Entry) (m : Message) → All (IsForIn (name_in h.role)) es → Contains (told h es).out m → is_request m.body ≡ false → m.header.provider ≡ name_in h.role
own_name own h es m all c r =
    let said : IsSaid (name_in h.role) (Asks h.role) (HasAsked es) m = All-contains (IsSaid (name_in h.role) (Asks h.role) (HasAsked es)) (told h es).out m (own h es all) c in
    let as_answer : IsSaidAs false (name_in h.role) (Asks h.role) (HasAsked es) m = subst (λ b. IsSaidAs b (name_in h.role) (Asks h.role) (HasAsked es) m) r said in
    as_answer.0

-- an agent that refuses for bandwidth is a provider
by_kind : (t : Network) (routes : Routes) (a : ℕ) (s : AgentState) (e : Entry) (m : Message) (o : Option AgentKind) → kind_of t a ≡ o → Contains (after_as (role_in o t routes a) s e).out m → is_refusal m.body ≡ true → IsProvider t a
unfolding after_as
by_kind t routes a s e m (Some (AgentKind.Provider hold)) k c r = (hold, k)
by_kind t routes a s e m (Some (AgentKind.Requester provider)) k c r = absurd (not_mild m r (All-contains IsMildMessage (requester_after (requester_of t a) s e).out m (requester_mild (requester_of t a) s e) c))
by_kind t routes a s e m (Some AgentKind.Aggregator) k c r =
    absurd (not_mild m r (All-contains IsMildMessage (aggregator_after (aggregator_of t (agent_in t a) (routes a)) s e).out m (aggregator_mild (aggregator_of t (agent_in t a) (routes a)) s e) c))
by_kind t routes a s e m None k c r =
    absurd (not_mild m r (All-contains IsMildMessage (aggregator_after (aggregator_of t (agent_in t a) (routes a)) s e).out m (aggregator_mild (aggregator_of t (agent_in t a) (routes a)) s e) c))

module _ (good : IsAlwaysGood) (own : WhatIsSaidIsItsOwn) (named : IsNamedAsDeclared) (t : Network) (routes : Routes) (events : List Event) (run : AreAllowed (home_in t routes) empty events) where
  abbrev homes : Homes
  homes = home_in t routes

  abbrev w : World
  w = world_after empty events

  -- whoever says it says it in its own name
  named_so : (b n : ℕ) (e : Entry) (m : Message) → IsCausedBy homes w b n e m → is_refusal m.body ≡ true → m.header.provider ≡ (homes b).name
  named_so b n e m c r =
      let all : AreEntries homes b (w.journal b) (w.synced b) = entries_of homes events run b in
      let name : name_in (homes b).role ≡ (homes b).name = (named t routes b).0 in
      let every : All (IsForIn (name_in (homes b).role)) (w.journal b) = all_for homes b (name_in (homes b).role) (w.journal b) (w.synced b) name all in
      let front : List Entry = take n (w.journal b) in
      let e_own : IsForIn (name_in (homes b).role) e = subst (λ z. IsForIn z e) (sym name) (all.entered n e c.0).addressed in
      own_name own (homes b) (front ++ e ∷ []) m (All-push (IsForIn (name_in (homes b).role)) front e (All-take (IsForIn (name_in (homes b).role)) n (w.journal b) every) e_own)
      (caused_out (homes b) front e m c.1) (no_request m.body r)
      ∙ name

  own_of : (a n : ℕ) (e : Entry) (m : Message) → IsCausedBy homes w a n e m → is_refusal m.body ≡ true → m.header.provider ≡ name_of t a
  unfolding home_in
  own_of a n e m c r = named_so a n e m c r

  provider_at : (a : ℕ) (s : AgentState) (e : Entry) (m : Message) → Contains (after (homes a) s e).out m → is_refusal m.body ≡ true → IsProvider t a
  unfolding home_in
  provider_at a s e m c r = by_kind t routes a s e m (kind_of t a) refl c r

  -- the provider's own entry
  provider_out : (a : ℕ) (s : AgentState) (e : Entry) (m : Message) → IsProvider t a → Contains (after (homes a) s e).out m → Contains (provider_after (setting_of t a) (own_stp t a) s.base e).out m
  unfolding after_as
  provider_out a s e m p c = subst (λ (role : Role). Contains (after_as role s e).out m) (role_is t routes a p) c

  checks_at : (a n : ℕ) (e : Entry) (m : Message) → IsProvider t a → IsCausedBy homes w a n e m → is_refusal m.body ≡ true → IsCheckAt homes w a n e
  checks_at a n e m p c r =
      let honest : IsHonest (setting_of t a) (own_stp t a) (state_before homes w a n).base e = runs_are_honest good t routes events run a n e p c.0 in
      let found = honest.alone m (provider_out a (state_before homes w a n) e m p c.1) r in
      record { place = found.0; own = found.1; checking = found.2 }

  alone_in : (a n : ℕ) (e : Entry) (m : Message) → IsCausedBy homes w a n e m → is_refusal m.body ≡ true → IsProvidersCheck t routes w a n e m
  alone_in a n e m c r =
      let p = provider_at a (state_before homes w a n) e m c.1 r in
      record { provider = p; own = own_of a n e m c r; check = checks_at a n e m p c r }

pub nothing_else_refuses : IsAlwaysGood → WhatIsSaidIsItsOwn → IsNamedAsDeclared → NothingElseRefuses
nothing_else_refuses good own named t routes events run a n e m c r = alone_in good own named t routes events run a n e m c r
