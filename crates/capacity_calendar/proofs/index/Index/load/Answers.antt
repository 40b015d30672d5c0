use Rattle.std.proofs.Common.{◌∙◌, ◌+◌, ap}
use Rattle.capacity_calendar.proofs.Steady.{told_before}
use Rattle.capacity_calendar.proofs.index.Index.load.Goals as goal

pub returns : goal.returns
returns c = λ f h. c.load_before.ensures.load ∙ told_before f _ _ _ c.args.t c.count_before-place.ensures.orderly c.count_before-place.ensures.count (ap (λ n. n + 1) c.get.ensures.value) h
