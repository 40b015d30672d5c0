-- What an agent of any kind says is its own, and goes along a link.
use Rattle.std.proofs.Common.{◌≡◌, inl, inr, ◌∙◌, ℕ, Bool, true, false, cond, List, [], ◌∷◌, refl, sym, ap, subst, arith}
use Rattle.std.specs.List.{All, Contains}
use Rattle.std.proofs.lemmas.List.Elements.{All-nil, All-append, All-head, All-tail, All-weaker, All-contains_itself}
use Rattle.nsi_primitive.specs.declared.entry.Entry.{Entry}
use Rattle.nsi_primitive.specs.declared.entry.Input.{Input}
use Rattle.nsi_primitive.specs.declared.message.Message.{Message}
use Rattle.stp_topology.specs.declared.network.Network.{Network}
use Rattle.agent_state.specs.declared.parent.Leg.{Leg}
use Rattle.agent_state.specs.State.{Stepped, AgentState, AgentStepped, blank_agent}
use Rattle.provider_agent.proofs.Counting.{taken_is as provider_takes}
use Rattle.aggregator_agent.proofs.Entries.{after_is as aggregator_takes}
use Rattle.aggregator_agent.specs.Setting.{Setting as AggregatorSetting}
use Rattle.requester_agent.proofs.Entries.{after_is as requester_takes}
use Rattle.nsi_agent.specs.Homes.{Role, provides, aggregates, requests, Home, Routes, home_in}
use Rattle.nsi_agent.specs.Steps.{after, after_as, may_take_as, with_base}
use Rattle.nsi_agent.specs.Told.{goes_on}
use Rattle.nsi_agent.specs.Said.{name_in, drawer_of, AsksFor, HasAsked, Asks, IsSaidAs, IsSaid, IsFor}
use Rattle.nsi_agent.specs.Laws.{WhatIsSaidIsItsOwn, IsNamedAsDeclared}
use Rattle.nsi_agent.proofs.ProviderSays.{IsAnswer, IsOwed, CameFor, step_saying as provider_says}
use Rattle.nsi_agent.proofs.RequesterSays.{AreLaws, IsWish, IsOf, step_saying as requester_says}
use Rattle.nsi_agent.proofs.Below.{IsChild, IsRequestTo, IsOpen}
use Rattle.nsi_agent.proofs.AggregatorSays.{IsMine, IsHeld, step_saying as aggregator_says}
use Rattle.nsi_agent.proofs.Staying.{left_out_by}

---- A message

answer_said : (name : List ℕ) (to owed : List ℕ → Type 0) (m : Message) → IsAnswer name owed m → IsSaid name to owed m
answer_said name to owed m a = subst (λ b. IsSaidAs b name to owed m) (sym a.0) a.1

request_said : (name : List ℕ) (to owed : List ℕ → Type 0) (m : Message) → IsRequestTo name to m → IsSaid name to owed m
request_said name to owed m a = subst (λ b. IsSaidAs b name to owed m) (sym a.0) (a.1, a.2)

mine_said : (name : List ℕ) (to owed : List ℕ → Type 0) (m : Message) → IsMine name to owed m → IsSaid name to owed m
mine_said name to owed m (inl a) = answer_said name to owed m a
mine_said name to owed m (inr a) = request_said name to owed m a

---- One entry

-- whose the records are, of whom the views, and under which headers queries wait
abbrev IsPlaced : (owed : List ℕ → Type 0) → Role → AgentState → Type 0
IsPlaced owed (provides setting stp_of) s = All (IsOwed owed) s.base.records
IsPlaced owed (aggregates setting) s = IsHeld setting.agent.name (Asks (aggregates setting)) owed s
IsPlaced owed (requests setting) s = All (IsOf setting.provider) s.views

record IsOwn (owed : List ℕ → Type 0) (role : Role) (x : AgentStepped) : Type 0 where
  placed : IsPlaced owed role x.state
  said : All (IsSaid (name_in role) (Asks role) owed) x.out

-- an aggregator asks the children on its ways
own_ways : (setting : AggregatorSetting) (source dest : ℕ) → All (λ (leg : Leg). Asks (aggregates setting) leg.child) (setting.route source dest)
own_ways setting source dest =
    All-weaker (Contains (setting.route source dest)) (λ (leg : Leg). Asks (aggregates setting) leg.child) (λ leg c. (source, dest, leg, c, refl)) (setting.route source dest) (All-contains_itself (setting.route source dest))

taken_own : AreLaws → (owed : List ℕ → Type 0) (role : Role) (s : AgentState) (e : Entry) → may_take_as role s e ≡ true → IsPlaced owed role s → CameFor (name_in role) owed e.input → IsOwn owed role (after_as role s e)
unfolding after_as
taken_own laws owed (provides setting stp_of) s e may placed came =
    let x = provider_says e.input e.second setting stp_of owed s.base placed came in
    let to = Asks (provides setting stp_of) in
    subst (λ (y : Stepped). IsOwn owed (provides setting stp_of) (with_base s y)) (sym (provider_takes setting stp_of s.base e may))
    (record { placed = x.owners; said = All-weaker (IsAnswer setting.name owed) (IsSaid setting.name to owed) (answer_said setting.name to owed) _ x.says })
taken_own laws owed (aggregates setting) s e may placed came =
    let to = Asks (aggregates setting) in
    let x = aggregator_says laws setting to owed (own_ways setting) e.input e.second s placed came in
    let name = setting.agent.name in
    subst (λ (y : AgentStepped). IsOwn owed (aggregates setting) y) (sym (aggregator_takes setting s e may))
    (record { placed = x.held; said = All-weaker (IsMine name to owed) (IsSaid name to owed) (mine_said name to owed) _ x.says })
taken_own laws owed (requests setting) s e may placed came =
    let to = Asks (requests setting) in
    let x = requester_says laws setting s placed e.input e.second in
    subst (λ (y : AgentStepped). IsOwn owed (requests setting) y) (sym (requester_takes setting s e may))
    (record { placed = x.views; said = All-weaker (IsWish setting.name setting.provider) (IsSaid setting.name to owed) (request_said setting.name to owed) _ x.says })

entry_own : AreLaws → (owed : List ℕ → Type 0) (role : Role) (s : AgentState) (e : Entry) → IsPlaced owed role s → CameFor (name_in role) owed e.input → IsOwn owed role (after_as role s e)
entry_own laws owed role s e placed came = by (may_take_as role s e) refl
  where
    by : (b : Bool) → may_take_as role s e ≡ b → IsOwn owed role (after_as role s e)
    by true may = taken_own laws owed role s e may placed came
    by false may = subst (λ (y : AgentStepped). IsOwn owed role y) (sym (left_out_by role s e may)) (record { placed = placed; said = All-nil (IsSaid (name_in role) (Asks role) owed) })

---- Entries one after another

own_from : AreLaws → (owed : List ℕ → Type 0) (h : Home) (es : List Entry) (s : AgentState) → IsPlaced owed h.role s → All (λ (e : Entry). CameFor (name_in h.role) owed e.input) es
    → All (IsSaid (name_in h.role) (Asks h.role) owed) (goes_on h s es).out
unfolding goes_on
own_from laws owed h [] s placed came = All-nil (IsSaid (name_in h.role) (Asks h.role) owed)
own_from laws owed h (e ∷ es) s placed came =
    let x = after h s e in
    let own = entry_own laws owed h.role s e placed (All-head (λ (e : Entry). CameFor (name_in h.role) owed e.input) e es came) in
    All-append (IsSaid (name_in h.role) (Asks h.role) owed) x.out (goes_on h x.state es).out own.said
    (own_from laws owed h es x.state own.placed (All-tail (λ (e : Entry). CameFor (name_in h.role) owed e.input) e es came))

blank_placed : (owed : List ℕ → Type 0) (role : Role) → IsPlaced owed role blank_agent
blank_placed owed (provides setting stp_of) = All-nil (IsOwed owed)
blank_placed owed (aggregates setting) =
    record { owners = All-nil (IsOwed owed); children = All-nil (λ xs. All (IsChild (Asks (aggregates setting))) xs); queries = All-nil (IsOpen setting.agent.name owed) }
blank_placed owed (requests setting) = All-nil (IsOf setting.provider)

came_by : (name : List ℕ) (es : List Entry) (e : Entry) → Contains es e → (input : Input) → e.input ≡ input → IsFor name input → CameFor name (HasAsked es) input
came_by name es e c (Input.Got m) is for =
    λ asks. (sym (ap (λ b. cond b m.header.provider m.header.requester) asks) ∙ for, (e, c, subst (AsksFor m.header.requester) (sym is) (asks, refl)))
came_by name es e c (Input.Work n machine) is for = tt
came_by name es e c (Input.Force n) is for = tt
came_by name es e c (Input.Acked i) is for = tt
came_by name es e c Input.Tick is for = tt
came_by name es e c (Input.Ask n a) is for = tt

pub what_is_said_is_its_own : AreLaws → WhatIsSaidIsItsOwn
what_is_said_is_its_own laws h es for =
    let inside = All-contains_itself es in
    own_from laws (HasAsked es) h es blank_agent (blank_placed (HasAsked es) h.role) (λ k d lt. came_by (name_in h.role) es _ (inside k d lt) _ refl (for k d lt))

---- Its name

named_by : (t : Network) (routes : Routes) (a : ℕ) → (name_in (home_in t routes a).role ≡ (home_in t routes a).name) × (drawer_of (home_in t routes a).role ≡ (home_in t routes a).number)
unfolding home_in
named_by t routes a = grind arith

pub is_named_as_declared : IsNamedAsDeclared
is_named_as_declared t routes a = named_by t routes a
