use Rattle.std.proofs.Common.{◌∙◌, ap, subst, sym}
use Rattle.std.specs.List.{insert}
use Rattle.std.specs.List.Sorted.{IsStrictlyIncreasing}
use Rattle.record_index.proofs.Rising.{gap_at, rising_insert, added}
use Rattle.record_index.proofs.places.Places.add.Goals as goal

pub invariant_of-self : goal.invariant_of-self
invariant_of-self c =
    let xs = c.self.inside.items.items in
    let gap = gap_at xs c.args.place c.in-Err.at c.self.invariant (rw c.deref.ensures.value at c.in-Err.ensures.position) in
    subst IsStrictlyIncreasing (sym c.in_ok-insert.ensures.items) (rising_insert xs c.in-Err.at c.args.place c.self.invariant gap)

pub returns-in_ok-insert-clause-ok : goal.returns-in_ok-insert-clause-ok
returns-in_ok-insert-clause-ok c =
    added c.args.self.now c.insert.new.self.items c.in-Err.at c.args.place (c.in_ok-insert.ensures.items ∙ ap (λ xs. insert xs c.in-Err.at c.args.place) c.self.view_is)
