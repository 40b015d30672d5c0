use Rattle.std.proofs.Common.{rules, ◌≡◌, ◌∷◌, subst}
use Rattle.std.specs.List.{All}
use Rattle.std.proofs.lemmas.List.Elements.{All-head, All-tail}
use Rattle.agent_node.specs.Passing.{HasMet}
use Rattle.agent_node.specs.Linked.{door_of, doors}
use Rattle.agent_node.proofs.links.+begin_rounds.Goals as goal

pub begin_round-requires : goal.begin_round-requires
begin_round-requires t c =
    let l = c.in-Some.first.now in
    let ls = c.in-Some.rest.now in
    let e : c.args.links.now ≡ l ∷ ls = search rules in
    All-head HasMet (door_of l) (doors ls) (subst (λ ks. All HasMet (doors ks)) e c.requires)

pub begin_rounds-requires : goal.begin_rounds-requires
begin_rounds-requires t c =
    let l = c.in-Some.first.now in
    let ls = c.in-Some.rest.now in
    let e : c.args.links.now ≡ l ∷ ls = search rules in
    (search rules, All-tail HasMet (door_of l) (doors ls) (subst (λ ks. All HasMet (doors ks)) e c.requires))
