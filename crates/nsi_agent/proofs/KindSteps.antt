-- A call of an agent of a kind is the step of its role.
use Rattle.std.proofs.Common.{◌≡◌, ℕ, List, [], None, Ok, Err, OnOk, IfOk, Vec, Global, refl, sym, ap, subst}
use Rattle.nsi_primitive.specs.declared.entry.Entry.{Entry}
use Rattle.nsi_primitive.specs.declared.message.Message.{Message}
use Rattle.stp_topology.specs.declared.network.Network.{Network}
use Rattle.agent_state.specs.declared.parent.Leg.{Leg}
use Rattle.provider_agent.specs.State.{Standing as ProviderStanding}
use Rattle.provider_agent.specs.Setting.{own_stp}
use Rattle.provider_agent.specs.Steps.{after as provider_after}
use Rattle.aggregator_agent.specs.Setting.{Standing as AggregatorStanding, IsRoute, setting_of as aggregator_of}
use Rattle.aggregator_agent.specs.Steps.{after as aggregator_after}
use Rattle.aggregator_agent.specs.Entering.{IsStepBySome}
use Rattle.requester_agent.specs.State.{Standing as RequesterStanding}
use Rattle.requester_agent.specs.Steps.{after as requester_after}
use Rattle.nsi_agent.specs.declared.kind.Kind.{Kind}
use Rattle.nsi_agent.specs.Steps.{after_as}
use Rattle.nsi_agent.specs.Kinds.{Answer, IsStepped, IsSteppedBySome, number_in, role_by, state_in}

-- the step of the role that an agent knows
abbrev Steps : Network → (ℕ → ℕ → List Leg) → Kind → Kind → Answer → Entry → Type 0
Steps t route old new r e = IsStepped old new r (after_as (role_by t route old) (state_in old) e)

-- no ways at all
abbrev pub no_ways : ℕ → ℕ → List Leg
no_ways source dest = []

---- A provider

module _ (t : Network) (old : Kind) (p new : ProviderStanding) (out : Vec Message Global) (e : Entry) (is : old ≡ Kind.Provider p)
    (state : new ≡ record p { state = (provider_after p.setting (own_stp t p.setting.number) p.state e).state }) (said : out.items ≡ (provider_after p.setting (own_stp t p.setting.number) p.state e).out) where
  plain_provider : (route : ℕ → ℕ → List Leg) → Steps t route (Kind.Provider p) (Kind.Provider new) (Ok (None, out)) e
  unfolding after_as
  plain_provider route = record { state = ap (λ (x : ProviderStanding). Kind.Provider x) state; answer = refl; out = said }

  pub provider_stepped : (route : ℕ → ℕ → List Leg) → Steps t route old (Kind.Provider new) (Ok (None, out)) e
  provider_stepped route = subst (λ k. Steps t route k (Kind.Provider new) (Ok (None, out)) e) (sym is) (plain_provider route)

  pub provider_by_some : IsSteppedBySome t old (Kind.Provider new) (Ok (None, out)) e
  provider_by_some = record { route = no_ways; stepped = provider_stepped no_ways }

---- An aggregator

module _ (t : Network) (old : Kind) (a new : AggregatorStanding) (out : Vec Message Global) (e : Entry) (is : old ≡ Kind.Aggregator a)
    (answer : (route : ℕ → ℕ → List Leg) → (aggregator_after (aggregator_of t a.agent route) a.state e).answer ≡ None) where
  plain_aggregator : (route : ℕ → ℕ → List Leg) → new ≡ record a { state = (aggregator_after (aggregator_of t a.agent route) a.state e).state } → out.items ≡ (aggregator_after (aggregator_of t a.agent route) a.state e).out
      → Steps t route (Kind.Aggregator a) (Kind.Aggregator new) (Ok (None, out)) e
  unfolding after_as
  plain_aggregator route state said = record { state = ap (λ (x : AggregatorStanding). Kind.Aggregator x) state; answer = sym (answer route); out = said }

  aggregator_by_route : (route : ℕ → ℕ → List Leg) → new ≡ record a { state = (aggregator_after (aggregator_of t a.agent route) a.state e).state } → out.items ≡ (aggregator_after (aggregator_of t a.agent route) a.state e).out
      → Steps t route old (Kind.Aggregator new) (Ok (None, out)) e
  aggregator_by_route route state said = subst (λ k. Steps t route k (Kind.Aggregator new) (Ok (None, out)) e) (sym is) (plain_aggregator route state said)

  pub aggregator_stepped : ((route : ℕ → ℕ → List Leg) → IsRoute t a.agent.number route → new ≡ record a { state = (aggregator_after (aggregator_of t a.agent route) a.state e).state })
      → ((route : ℕ → ℕ → List Leg) → IsRoute t a.agent.number route → out.items ≡ (aggregator_after (aggregator_of t a.agent route) a.state e).out)
      → (route : ℕ → ℕ → List Leg) → IsRoute t (number_in old) route → Steps t route old (Kind.Aggregator new) (Ok (None, out)) e
  aggregator_stepped state said route h =
      let mine : IsRoute t a.agent.number route = subst (λ k. IsRoute t (number_in k) route) is h in
      aggregator_by_route route (state route mine) (said route mine)

  pub aggregator_by_some : IsStepBySome t a new out.items e → IsSteppedBySome t old (Kind.Aggregator new) (Ok (None, out)) e
  aggregator_by_some some = record { route = some.route; stepped = aggregator_by_route some.route some.state some.said }

---- A requester

module _ (t : Network) (old : Kind) (q new : RequesterStanding) (e : Entry) (is : old ≡ Kind.Requester q) where
  plain_requester : (r : Answer) (route : ℕ → ℕ → List Leg) → OnOk r (new ≡ record q { state = (requester_after q.setting q.state e).state }) → IfOk r (λ v. v.0 ≡ (requester_after q.setting q.state e).answer)
      → IfOk r (λ v. v.1.items ≡ (requester_after q.setting q.state e).out) → Steps t route (Kind.Requester q) (Kind.Requester new) r e
  unfolding after_as
  plain_requester (Ok v) route state answer said = record { state = ap (λ (x : RequesterStanding). Kind.Requester x) state; answer = answer; out = said }
  plain_requester (Err x) route state answer said = record { state = tt; answer = tt; out = tt }

  pub requester_stepped : (r : Answer) (route : ℕ → ℕ → List Leg) → OnOk r (new ≡ record q { state = (requester_after q.setting q.state e).state }) → IfOk r (λ v. v.0 ≡ (requester_after q.setting q.state e).answer)
      → IfOk r (λ v. v.1.items ≡ (requester_after q.setting q.state e).out) → Steps t route old (Kind.Requester new) r e
  requester_stepped r route state answer said = subst (λ k. Steps t route k (Kind.Requester new) r e) (sym is) (plain_requester r route state answer said)

  on_ok : (r : Answer) (P : Type 0) → P → OnOk r P
  on_ok (Ok v) P p = p
  on_ok (Err x) P p = tt

  pub requester_by_some : (r : Answer) → OnOk r (new ≡ record q { state = (requester_after q.setting q.state e).state }) → IfOk r (λ v. v.0 ≡ (requester_after q.setting q.state e).answer)
      → IfOk r (λ v. v.1.items ≡ (requester_after q.setting q.state e).out) → OnOk r (IsSteppedBySome t old (Kind.Requester new) r e)
  requester_by_some r state answer said = on_ok r (IsSteppedBySome t old (Kind.Requester new) r e) (record { route = no_ways; stepped = requester_stepped r no_ways state answer said })
