use Rattle.std.proofs.Common.{◌<◌, length, arith, sym, ap, subst, ◌∙◌}
use Rattle.std.specs.List.{position_from}
use Rattle.stp_topology.specs.Network.{Network, is_provider}
use Rattle.stp_topology.specs.Sound.{IsProvider}
use Rattle.stp_topology.proofs.SoundLemmas.{first_is, provider_within}
use Rattle.stp_topology.proofs.topology.Topology.first_provider.Goals as goal

pub agent_at-requires : goal.agent_at-requires
agent_at-requires c =
    let t = c.self.inside.network in
    let first = ap (position_from is_provider 0) (sym c.items.ensures) ∙ sym c.first_provider.ensures ∙ c.in-Some.is in
    omega (arith, provider_within t c.in-Some.a c.self.invariant (first_is t c.in-Some.a first), c.self.invariant.fit.few_agents)

pub returns-in-Some-clause-is_provider : goal.returns-in-Some-clause-is_provider
returns-in-Some-clause-is_provider c =
    let t = c.self.inside.network in
    let first = ap (position_from is_provider 0) (sym c.items.ensures) ∙ sym c.first_provider.ensures ∙ c.in-Some.is in
    subst (λ (u : Network). IsProvider u c.agent_at.result) c.self.view_is (subst (IsProvider t) (sym c.agent_at.ensures) (first_is t c.in-Some.a first))

pub returns-in-Some-clause-within : goal.returns-in-Some-clause-within
returns-in-Some-clause-within c =
    let t = c.self.inside.network in
    let first = ap (position_from is_provider 0) (sym c.items.ensures) ∙ sym c.first_provider.ensures ∙ c.in-Some.is in
    let within = provider_within t c.in-Some.a c.self.invariant (first_is t c.in-Some.a first) in
    subst (λ (u : Network). c.agent_at.result < length u.agents) c.self.view_is (omega (arith, within, c.agent_at.ensures))
