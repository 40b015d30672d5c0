-- What the topology says to an agent is what the agent itself knows.
use Rattle.std.proofs.Common.{◌≡◌, ◌∙◌, ◌+◌, ℕ, Bool, true, not, List, Ok, Err, refl, sym, ap, subst, OnOk, OnErr, IfOk}
use Rattle.std.specs.List.{All}
use Rattle.nsi_primitive.specs.Printable.{IsPrintable}
use Rattle.nsi_primitive.specs.declared.entry.Entry.{Entry}
use Rattle.nsi_primitive.specs.declared.message.Message.{Message}
use Rattle.stp_topology.specs.declared.network.Network.{Network}
use Rattle.stp_topology.specs.Network.{kind_of}
use Rattle.agent_state.specs.declared.parent.Leg.{Leg}
use Rattle.agent_state.specs.State.{AgentState, AgentStepped}
use Rattle.provider_agent.specs.Setting.{Setting as ProviderSetting, own_stp}
use Rattle.aggregator_agent.specs.Setting.{IsRoute, setting_of as aggregator_of}
use Rattle.aggregator_agent.specs.declared.agent.Agent.{Agent as AggregatorAgent}
use Rattle.requester_agent.specs.Setting.{Setting as RequesterSetting}
use Rattle.nsi_agent.specs.declared.kind.Kind.{Kind}
use Rattle.nsi_agent.specs.Homes.{Role, provides, aggregates, requests, Routes, AreRoutes, role_in, home_in}
use Rattle.nsi_agent.specs.Steps.{after, after_as, may_take, may_take_as, is_seen, is_new}
use Rattle.nsi_agent.specs.Kinds.{IsAt, IsAgent, IsFit, Answer, IsStepped, IsSteppedBySome, alone, may_take_by, number_in, role_by, state_in, with_state}
use Rattle.nsi_agent.specs.Standing.{Standing, IsAfterBySome}
use Rattle.nsi_agent.proofs.Entering.{entered, fit_entered}

---- Its role

pub role_is : (t : Network) (a : ℕ) (k : Kind) → IsAt t a k → (routes : Routes) → role_in (kind_of t a) t routes a ≡ role_by t (routes a) k
role_is t a (Kind.Provider p) h routes =
    ap (λ o. role_in o t routes a) h.kind.1 ∙ ap (λ (z : ProviderSetting). provides z (own_stp t z.number)) (sym h.setting)
role_is t a (Kind.Aggregator x) h routes = ap (λ o. role_in o t routes a) h.kind ∙ ap (λ (z : AggregatorAgent). aggregates (aggregator_of t z (routes a))) (sym h.agent)
role_is t a (Kind.Requester r) h routes = ap (λ o. role_in o t routes a) h.kind.1 ∙ ap (λ (z : RequesterSetting). requests z) (sym h.setting)

may_is : (t : Network) (a : ℕ) (k : Kind) → IsAt t a k → (e : Entry) → may_take (kind_of t a) (state_in k) e ≡ may_take_by k e
may_is t a (Kind.Provider p) h e = ap (λ o. may_take o (alone p.state) e) h.kind.1
may_is t a (Kind.Aggregator x) h e = ap (λ o. may_take o x.state e) h.kind
may_is t a (Kind.Requester r) h e = ap (λ o. may_take o r.state e) h.kind.1

may_as : (t : Network) (route : ℕ → ℕ → List Leg) (k : Kind) (e : Entry) → may_take_by k e ≡ true → may_take_as (role_by t route k) (state_in k) e ≡ true
may_as t route (Kind.Provider p) e may = may
may_as t route (Kind.Aggregator x) e may = may
may_as t route (Kind.Requester r) e may = may

number_is : (t : Network) (a : ℕ) (k : Kind) → IsAt t a k → number_in k ≡ a
number_is t a (Kind.Provider p) h = ap (λ (z : ProviderSetting). z.number) h.setting
number_is t a (Kind.Aggregator x) h = ap (λ (z : AggregatorAgent). z.number) h.agent
number_is t a (Kind.Requester r) h = ap (λ (z : RequesterSetting). z.number) h.setting

pub own_route : (t : Network) (a : ℕ) (k : Kind) → IsAt t a k → (routes : Routes) → AreRoutes t routes → IsRoute t (number_in k) (routes a)
own_route t a k h routes are = subst (λ n. IsRoute t n (routes a)) (sym (number_is t a k h)) (are a)

---- The same agent in another state

at_state : (t : Network) (a : ℕ) (k : Kind) (s : AgentState) → IsAt t a k → IsAt t a (with_state k s)
at_state t a (Kind.Provider p) s h = record { kind = h.kind; setting = h.setting }
at_state t a (Kind.Aggregator x) s h = record { kind = h.kind; agent = h.agent }
at_state t a (Kind.Requester r) s h = record { kind = h.kind; setting = h.setting }

-- a step's state is that of an agent of the kind
state_is : (t : Network) (route : ℕ → ℕ → List Leg) (k : Kind) (e : Entry) → state_in (with_state k (after_as (role_by t route k) (state_in k) e).state) ≡ (after_as (role_by t route k) (state_in k) e).state
unfolding after_as
state_is t route (Kind.Provider p) e = refl
state_is t route (Kind.Aggregator x) e = refl
state_is t route (Kind.Requester r) e = refl

---- A call that takes an entry

abbrev pub standing_of : Network → ℕ → Kind → Standing
standing_of t a k = record { network = t; number = a; state = state_in k }

abbrev pub standing_in : Network → ℕ → AgentState → Standing
standing_in t a s = record { network = t; number = a; state = s }

abbrev step_by : Network → (ℕ → ℕ → List Leg) → Kind → Entry → AgentStepped
step_by t route k e = after_as (role_by t route k) (state_in k) e

-- by some ways, whatever they are
abbrev IsSome : Network → Kind → Kind → Answer → Entry → Type 0
IsSome t old new r e = OnOk r (IsSteppedBySome t old new r e)

-- by each route of the topology
abbrev IsBy : Network → Kind → Kind → Answer → Entry → Type 0
IsBy t old new r e = (route : ℕ → ℕ → List Leg) → IsRoute t (number_in old) route → IsStepped old new r (step_by t route old e)

-- the same ways for all agents
abbrev for_all : (ℕ → ℕ → List Leg) → Routes
for_all route = λ _. route

new_state : (t : Network) (route : ℕ → ℕ → List Leg) (old new : Kind) (e : Entry) → new ≡ with_state old (step_by t route old e).state → state_in new ≡ (step_by t route old e).state
new_state t route old new e is = ap state_in is ∙ state_is t route old e

pub home_role : (t : Network) (a : ℕ) (k : Kind) → IsAt t a k → (routes : Routes) → (home_in t routes a).role ≡ role_by t (routes a) k
unfolding home_in
home_role t a k h routes = role_is t a k h routes

module _ (t : Network) (a : ℕ) (old new : Kind) (e : Entry) (stands : IsAgent t a old) where
  -- the definition's step, by the home of the agent
  home_step : (routes : Routes) → after (home_in t routes a) (state_in old) e ≡ step_by t (routes a) old e
  home_step routes = ap (λ (h : Role). after_as h (state_in old) e) (home_role t a old stands.is_at routes)

  pub state_by : (r : Answer) → IsBy t old new r e → (routes : Routes) → AreRoutes t routes → OnOk r (standing_of t a new ≡ record (standing_of t a old) { state = (after (home_in t routes a) (state_in old) e).state })
  state_by (Err x) by routes are = tt
  state_by (Ok v) by routes are =
      let q = by (routes a) (own_route t a old stands.is_at routes are) in
      ap (λ (s : AgentState). standing_in t a s) (new_state t (routes a) old new e q.state ∙ ap (λ (x : AgentStepped). x.state) (sym (home_step routes)))

  pub answer_by : (r : Answer) → IsBy t old new r e → (routes : Routes) → AreRoutes t routes → IfOk r (λ v. v.0 ≡ (after (home_in t routes a) (state_in old) e).answer)
  answer_by (Err x) by routes are = tt
  answer_by (Ok v) by routes are = (by (routes a) (own_route t a old stands.is_at routes are)).answer ∙ ap (λ (x : AgentStepped). x.answer) (sym (home_step routes))

  pub out_by : (r : Answer) → IsBy t old new r e → (routes : Routes) → AreRoutes t routes → IfOk r (λ v. v.1.items ≡ (after (home_in t routes a) (state_in old) e).out)
  out_by (Err x) by routes are = tt
  out_by (Ok v) by routes are = (by (routes a) (own_route t a old stands.is_at routes are)).out ∙ ap (λ (x : AgentStepped). x.out) (sym (home_step routes))

  pub some_by : (r : Answer) → IsSome t old new r e → IfOk r (λ v. IsAfterBySome (standing_of t a old) (standing_of t a new) v.0 v.1.items e)
  some_by (Err x) some = tt
  some_by (Ok v) some =
      let routes = for_all some.route in
      let back = sym (home_step routes) in
      record {
        routes = routes;
        state = ap (λ (s : AgentState). standing_in t a s) (new_state t some.route old new e some.stepped.state ∙ ap (λ (x : AgentStepped). x.state) back);
        answered = some.stepped.answer ∙ ap (λ (x : AgentStepped). x.answer) back;
        said = some.stepped.out ∙ ap (λ (x : AgentStepped). x.out) back;
      }

  module _ (may : may_take (kind_of t a) (state_in old) e ≡ true) where
    pub may_own : may_take_by old e ≡ true
    may_own = sym (may_is t a old stands.is_at e) ∙ may

    may_by : (route : ℕ → ℕ → List Leg) → may_take_as (role_by t route old) (state_in old) e ≡ true
    may_by route = may_as t route old e may_own

    pub kept_agent : (r : Answer) → IsSome t old new r e → OnErr r (new ≡ old) → IfOk r (λ v. All IsPrintable v.1.items) → IsAgent t a new
    kept_agent (Err x) some err prints = subst (IsAgent t a) (sym err) stands
    kept_agent (Ok v) some err prints =
        let route = some.route in
        let x = step_by t route old e in
        record {
          within = stands.within;
          is_at = subst (IsAt t a) (sym some.stepped.state) (at_state t a old x.state stands.is_at);
          fit = subst IsFit (sym (new_state t route old new e some.stepped.state)) (fit_entered (role_by t route old) (state_in old) e (may_by route) (subst (All IsPrintable) some.stepped.out prints) stands.fit);
        }

    pub taken_by : (r : Answer) → IsSome t old new r e → OnOk r ((state_in new).base.taken ≡ (state_in old).base.taken + 1)
    taken_by (Err x) some = tt
    taken_by (Ok v) some = ap (λ (s : AgentState). s.base.taken) (new_state t some.route old new e some.stepped.state) ∙ (entered (role_by t some.route old) (state_in old) e (may_by some.route)).taken

    pub now_by : (r : Answer) → IsSome t old new r e → OnOk r ((state_in new).base.now ≡ e.second)
    now_by (Err x) some = tt
    now_by (Ok v) some = ap (λ (s : AgentState). s.base.now) (new_state t some.route old new e some.stepped.state) ∙ (entered (role_by t some.route old) (state_in old) e (may_by some.route)).now

---- What an agent can be asked

module _ (t : Network) (a : ℕ) (k : Kind) (stands : IsAgent t a k) (routes : Routes) where
  -- a fact of the role that the agent knows is one of its home's
  pub by_home : (P : Role → Type 0) → P (role_by t (routes a) k) → P (home_in t routes a).role
  by_home P p = subst P (sym (home_role t a k stands.is_at routes)) p

  pub new_home : (m : Message) (r : Bool) → r ≡ not (is_seen (role_by t (routes a) k) (state_in k) m) → r ≡ is_new (home_in t routes a) (state_in k) m
  unfolding is_new
  new_home m r e = by_home (λ (role : Role). r ≡ not (is_seen role (state_in k) m)) e
