use Rattle.std.proofs.Common.{◌<◌, arith}
use Rattle.capacity_calendar.proofs.Points.{counts_rise, orderly_restated}
use Rattle.capacity_calendar.proofs.index.Index.restate.Goals as goal

pub restate_between-requires-clause-between : goal.restate_between-requires-clause-between
restate_between-requires-clause-between c =
    let lt : c.get.result < c.get-2.result = omega (arith, c.get.ensures.value, c.get-2.ensures.value, c.start.ensures.start, c.end.ensures.end, c.start.ensures.ordered) in
    counts_rise _ c.get.result c.get-2.result _ _ lt c.count_before-from.ensures.count c.count_before-to.ensures.count

pub invariant_of-self : goal.invariant_of-self
invariant_of-self c = orderly_restated _ _ _ _ _ _ _ _ c.restate_between.ensures c.self.invariant
