-- Entries that are taken again, one after another.
use Rattle.std.proofs.Common.{ℕ, zero, suc, ◌+◌, ◌<◌, ◌≡◌, ◌∙◌, List, [], ◌∷◌, length, drop, get_or, refl, sym, ap, subst, arith}
use Rattle.nsi_primitive.specs.declared.entry.Entry.{Entry}
use Rattle.stp_topology.specs.declared.network.Network.{Network}
use Rattle.agent_state.specs.State.{AgentState}
use Rattle.nsi_agent.specs.Homes.{Home}
use Rattle.nsi_agent.specs.Steps.{after}
use Rattle.nsi_agent.specs.Told.{goes_on}
use Rattle.agent_node.specs.Seated.{At}

pub drop_is : (xs : List Entry) (i : ℕ) (e : Entry) → i < length xs → e ≡ get_or xs i e → drop i xs ≡ e ∷ drop (i + 1) xs
drop_is [] i e lt is = absurd (omega (arith, lt))
drop_is (x ∷ xs) zero e lt is = ap (λ (y : Entry). y ∷ xs) (sym is)
drop_is (x ∷ xs) (suc i) e lt is =
    let next : suc i + 1 ≡ suc (i + 1) = omega arith in
    drop_is xs i e (omega (arith, lt)) is ∙ ap (λ k. e ∷ drop k (x ∷ xs)) (sym next)

first_state : (h : Home) (s : AgentState) (e : Entry) (es : List Entry) → (goes_on h s (e ∷ es)).state ≡ (goes_on h (after h s e).state es).state
unfolding goes_on
first_state h s e es = refl

-- one more
pub read_more : (h : Home) (s u : AgentState) (e : Entry) (es rest : List Entry) (whole : AgentState) → u ≡ (after h s e).state → es ≡ e ∷ rest → (goes_on h s es).state ≡ whole → (goes_on h u rest).state ≡ whole
read_more h s u e es rest whole is cut all =
    ap (λ (v : AgentState). (goes_on h v rest).state) is
    ∙ (sym (first_state h s e rest) ∙ (sym (ap (λ (xs : List Entry). (goes_on h s xs).state) cut) ∙ all))

-- none is left
pub none_left : (h : Home) (s : AgentState) (es : List Entry) (whole : AgentState) → es ≡ [] → (goes_on h s es).state ≡ whole → s ≡ whole
unfolding goes_on
none_left h s es whole e all = sym (ap (λ (xs : List Entry). (goes_on h s xs).state) e) ∙ all

-- the same agent of the same topology
pub moved : (t u : Network) (a b : ℕ) (P : Home → Type 0) → u ≡ t → b ≡ a → At u b P → At t a P
moved t u a b P p q x = subst (λ v. At v a P) p (subst (λ n. At u n P) q x)
