use Rattle.std.proofs.Common.{ℕ, List, Option, get_or, ap, subst, ◌∙◌}
use Rattle.stp_topology.specs.Network.{Network}
use Rattle.stp_topology.specs.Sound.{IsSound}
use Rattle.stp_topology.proofs.SoundLemmas.{partner_within}
use Rattle.stp_topology.proofs.topology.Topology.partner.Goals as goal

pub returns-clause-within : goal.returns-clause-within
returns-clause-within c =
    let r = c.index-items-get.result in
    partner_within c.args.self.now c.args.s r r (subst IsSound c.self.view_is c.self.invariant) c.requires
    (c.index-items-get.is ∙ ap (λ (n : ℕ). get_or c.items.result.now n r) c.get.ensures.value
    ∙ ap (λ (ps : List (Option ℕ)). get_or ps c.args.s r) (c.items.ensures ∙ ap (λ (t : Network). t.partners) c.self.view_is))
