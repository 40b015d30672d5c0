use Rattle.std.proofs.Common.{◌∙◌, ap, sym}
use Rattle.aggregator_agent.proofs.OpenTold.{told_by_none, told_by_one, told_part}
use Rattle.aggregator_agent.proofs.aggregator_core.Core.told_below.Goals as goal

pub told-requires : goal.told-requires
told-requires c = told_part c.args.message.now.body c.in-Some.part (sym c.in_ok-answer.ensures ∙ c.in-Some.is)
