use Rattle.std.proofs.Common.{arith, ap, ◌∙◌}
use Rattle.jiff_core.proofs.SignedLemmas.{signed_casts}
use Rattle.date_time.specs.Reading.{on_time_line}
use Rattle.date_time.proofs.reading.second_at.Goals as goal

pub returns : goal.returns
returns c =
    c.on_time_line.ensures ∙ ap on_time_line (omega (arith, signed_casts, c.requires.days, c.requires.time, c.requires.offset, c.from.ensures))
