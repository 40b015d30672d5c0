use Rattle.std.proofs.Common.{arith}
use Rattle.jiff_core.proofs.SignedLemmas.{signed_arith, signed_casts}
use Rattle.date_time.proofs.Dates.{IsSame, date_only}
use Rattle.date_time.proofs.printing.date_of.Goals as goal

same : (c : goal.After-unsigned_abs) → IsSame c.args.days c.from_days_since_min-date.result
same c = date_only c.args.days c.from_days_since_min-date.result c.requires (omega (arith, signed_arith, c.from_days_since_min-date.ensures))

pub returns-clause-year : goal.returns-clause-year
returns-clause-year c = omega (arith, signed_casts, c.unsigned_abs.ensures.value, (same c).year, c.from_days_since_min-date.result.year_in)

pub returns-clause-month : goal.returns-clause-month
returns-clause-month c = (same c).month

pub returns-clause-day : goal.returns-clause-day
returns-clause-day c = (same c).day
