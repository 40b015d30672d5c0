use Rattle.std.proofs.Common.{rules, ◌≡◌, ◌<◌, ◌+◌, ◌-◌, ◌++◌, ◌∷◌, [], ◌∙◌, ap, length, filter, List, ℕ}
use Rattle.std.specs.List.{range_with_len}
use Rattle.agent_node.specs.Openings.{are_linked}
use Rattle.agent_node.proofs.Beginning.{linked_next}
use Rattle.agent_node.proofs.opening.others.Goals as goal

pub loop-place-preserved : goal.loop-place-preserved
loop-place-preserved c =
    let l = c.loop-place in
    let t = c.args.topology.now in
    let f = are_linked t c.args.agent in
    let h : l.place < length t.agents = search rules in
    let place : c.agent_at.result ≡ l.place = search rules in
    let pushed : c.push_linked.new.others.items ≡ l.others.items ++ filter f (c.agent_at.result ∷ []) = c.in_ok-push_linked.ensures in
    ap (λ (xs : List ℕ). xs ++ filter f (range_with_len (l.place + 1) (length t.agents - (l.place + 1)))) (pushed ∙ ap (λ (n : ℕ). l.others.items ++ filter f (n ∷ [])) place)
    ∙ (linked_next f l.others.items l.place (length t.agents) h ∙ l.invariant)
