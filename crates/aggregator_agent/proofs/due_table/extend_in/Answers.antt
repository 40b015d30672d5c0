use Rattle.std.proofs.Common.{◌≡◌, ◌∙◌, List, length, take, rules, ap, sym, subst}
use Rattle.std.proofs.Math.Seq.{take-append_seam}
use Rattle.agent_state.specs.declared.parent.Due.{Due}
use Rattle.aggregator_agent.specs.Dues.{AreDuesNamed, AreNamedBetween}
use Rattle.aggregator_agent.proofs.Overdue.{more_named, stays_named}
use Rattle.aggregator_agent.proofs.due_table.extend_in.Goals as goal

pub returns-in_err-extend_from_slice-clause-named : goal.returns-in_err-extend_from_slice-clause-named
returns-in_err-extend_from_slice-clause-named c = subst (AreDuesNamed c.args.ids.now) (sym c.in_err-extend_from_slice.ensures.items) c.requires

pub returns-in-Ok-clause-named : goal.returns-in-Ok-clause-named
returns-in-Ok-clause-named c =
    let old = c.args.items.now.items in
    let new = c.extend_from_slice.new.self.items in
    more_named c.args.ids.now c.name_from.new.ids old c.args.dues.now new c.len-count.result c.in_ok-extend_from_slice.ensures.items (search rules) c.name_from.ensures.grows c.requires
    (subst (λ (ds : List Due). AreNamedBetween c.len-count.result (length ds) c.name_from.new.ids ds) c.deref.ensures.value c.in-Ok.ensures.named)

pub returns-in-Err-clause-named : goal.returns-in-Err-clause-named
returns-in-Err-clause-named c =
    let old = c.args.items.now.items in
    let counted : c.len-count.result ≡ length old = search rules in
    let back : c.truncate.new.self.items ≡ old =
    c.truncate.ensures.items ∙ (ap (λ n. take n c.extend_from_slice.new.self.items) counted ∙ (ap (take (length old)) c.in_ok-extend_from_slice.ensures.items ∙ take-append_seam old c.args.dues.now)) in
    subst (AreDuesNamed c.name_from.new.ids) (sym back) (stays_named c.args.ids.now c.name_from.new.ids old c.name_from.ensures.grows c.requires)
