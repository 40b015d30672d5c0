use Rattle.std.proofs.Common.{rules, arith, refl, ◌≡◌, ◌++◌, ◌∷◌, [], ap, ◌∙◌, subst, List, ℕ}
use Rattle.race_run.specs.declared.item.Item.{Item}
use Rattle.race_run.specs.Replay.{items_at}
use Rattle.race_run.proofs.Replaying.{one_more}
use Rattle.race_run.proofs.replayed.empty_lists.Goals as goal

pub lists-preserved : goal.lists-preserved
lists-preserved c =
    let more = one_more c.lists.found.items c.lists.invariant.0 in
    (λ a. ap (λ (v : List (List Item)). items_at v a) (search rules) ∙ more a, search rules)
