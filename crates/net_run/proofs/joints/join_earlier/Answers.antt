use Rattle.std.proofs.Common.{◌++◌, ◌∙◌, ℕ, List, sym, ap, append-nil}
use Rattle.net_run.specs.Joints.{ends_of, added}
use Rattle.net_run.proofs.Ends.{joined_next, none_left}
use Rattle.net_run.proofs.joints.join_earlier.Goals as goal

pub returns-clause-joined : goal.returns-clause-joined
returns-clause-joined c =
    let a = c.args.agent in
    let now = c.loop-other.joints.items in
    let rest = c.loop-other.other-iterator.rest in
    let none = none_left rest.items (sym rest.ok.0 ∙ c.in-None.ensures.steps.0) in
    joined_next c.args.topology.now a c.args.joints.now.items now c.laws.ensures c.requires.within c.requires.joined
    (λ b. sym (append-nil (ends_of b now)) ∙ (ap (λ (ns : List ℕ). ends_of b now ++ added a ns b) (sym none) ∙ c.loop-other.invariant.ends b))
