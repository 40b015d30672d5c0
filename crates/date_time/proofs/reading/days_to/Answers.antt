use Rattle.std.proofs.Common.{rules}
use Rattle.date_time.proofs.Again.{days_are}
use Rattle.date_time.proofs.reading.days_to.Goals as goal

pub returns-in-Ok-clause-value : goal.returns-in-Ok-clause-value
returns-in-Ok-clause-value c =
    let days = days_are c.args.year c.args.month c.args.day c.in-Ok.date c.requires.year c.requires.month c.requires.day c.in-Ok.ensures.value in
    rw days (search rules)
