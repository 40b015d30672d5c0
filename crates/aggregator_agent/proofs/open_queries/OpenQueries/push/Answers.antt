use Rattle.std.proofs.Common.{◌∙◌, ◌++◌, ◌∷◌, [], All, ap, sym, subst}
use Rattle.std.specs.Map.{values_of}
use Rattle.aggregator_agent.specs.OpenTable.{IsPartNamed}
use Rattle.aggregator_agent.proofs.OpenTold.{pushed_named, pushed_values}
use Rattle.aggregator_agent.proofs.open_queries.OpenQueries.push.Goals as goal

pub invariant_of-self-2 : goal.invariant_of-self-2
invariant_of-self-2 c =
    let o = c.self.inside in
    let q = c.args.query in
    let n = c.in_ok-number.number in
    pushed_named o.ids c.name_parts.new.ids n q o.queries.entries c.insert.new.self.entries c.name_parts.ensures.grows c.in_ok-number.ensures c.in_ok-insert.ensures.entries
    (subst (All (IsPartNamed c.name_parts.new.ids n)) c.items.ensures c.in_ok-name_parts.ensures.named) c.self.invariant

pub returns-clause-ok : goal.returns-clause-ok
returns-clause-ok c =
    let o = c.self.inside in
    let q = c.args.query in
    pushed_values c.in_ok-number.number q o.queries.entries c.insert.new.self.entries c.in_ok-number.ensures c.in_ok-insert.ensures.entries ∙ ap (λ es. values_of es ++ q ∷ []) c.self.view_is
