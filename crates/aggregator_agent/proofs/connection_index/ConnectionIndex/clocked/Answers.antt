use Rattle.std.proofs.Common.{◌≡◌, ◌↔◌, ◌++◌, ◌∙◌, ap, subst, sym}
use Rattle.std.specs.List.{Contains}
use Rattle.aggregator_agent.specs.Indexed.{MayChange}
use Rattle.aggregator_agent.proofs.Noting.{below_is, may_change}
use Rattle.aggregator_agent.proofs.connection_index.ConnectionIndex.clocked.Goals as goal

pub returns : goal.returns
returns c =
    let ends = c.args.self.now.ends in
    let e = c.args.clocking.now in
    let due = c.in_ok-due.due in
    let none = c.new-places.result.items in
    let one = c.extend_from_slice.new.self.items in
    let all = c.note_late.new.places.items in
    let put : one ≡ none ++ due = c.in_ok-extend_from_slice.ensures.items ∙ ap (λ xs. none ++ xs) c.items.ensures.items in
    below_is (λ p. Contains c.deref.result.now p) (λ p. MayChange ends e.second e.late.now p) c.args.count c.places_below.result
    (λ p. subst (λ xs. Contains xs p ↔ MayChange ends e.second e.late.now p) (sym c.deref.ensures.value) (may_change ends e.second e.late.now due none one all c.new-places.ensures.items put c.in_ok-note_late.ensures c.in_ok-due.ensures p))
    c.places_below.ensures
