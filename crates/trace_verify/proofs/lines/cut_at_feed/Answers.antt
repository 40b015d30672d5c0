use Rattle.std.proofs.Common.{sym, ◌∙◌}
use Rattle.trace_verify.proofs.Cutting.{cut_end, cut_last}
use Rattle.trace_verify.proofs.lines.cut_at_feed.Goals as goal

pub returns-in-Some-clause-lines : goal.returns-in-Some-clause-lines
returns-in-Some-clause-lines c =
    cut_end c.args.text.now c.split_at.result.0.now c.split_at.result.1.now c.split_at-in-Some.result.1.now c.in-Some.i (sym c.feed_at.ensures.value ∙ c.in-Some.is) c.split_at.ensures.front c.split_at.ensures.back
    c.split_at-in-Some.ensures.back

pub returns-in-None-clause-lines : goal.returns-in-None-clause-lines
returns-in-None-clause-lines c =
    cut_last c.args.text.now c.split_at-in-None.result.0.now c.split_at-in-None.result.1.now c.requires (sym c.feed_at.ensures.value ∙ c.in-None.is) c.split_at-in-None.ensures.front c.split_at-in-None.ensures.back
