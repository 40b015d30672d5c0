use Rattle.record_index.proofs.Rising.{found_at, gap_at, removed, as_before}
use Rattle.record_index.proofs.places.Places.remove.Goals as goal

pub returns-in-Ok : goal.returns-in-Ok
returns-in-Ok c =
    let xs = c.self.inside.items.items in
    let found = found_at xs c.args.place c.in-Ok.at c.self.invariant (rw c.deref.ensures.value at c.in-Ok.ensures.position) in
    rw (← c.self.view_is) (removed xs c.remove.new.self.items c.in-Ok.at c.args.place c.self.invariant found c.remove.ensures.items)

pub returns-in_default : goal.returns-in_default
returns-in_default c =
    let xs = c.self.inside.items.items in
    let gap = gap_at xs c.args.place c.in_default.field-0 c.self.invariant (rw c.deref.ensures.value at c.in_default.ensures.position) in
    rw (← c.self.view_is) (as_before xs c.in_default.field-0 c.args.place gap)
