use Rattle.std.proofs.Common.{ap, Err}
use Rattle.race_command.proofs.Closing.{closed, closed_cut, closed_wanting}
use Rattle.race_command.proofs.ending.close.Goals as goal

pub returns-in-Ok : goal.returns-in-Ok
returns-in-Ok g c = closed c.args.text.now c.args.end c.requires _ _ _ _ (c.in-Ok.ensures.all) (c.in-Ok.ensures.quiet)

pub returns-in-Err-Failed : goal.returns-in-Err-Failed
returns-in-Err-Failed g c = closed_cut c.args.text.now c.args.end c.requires _ _ _ _ (c.in-Err-Failed.ensures.front) (c.in-Err-Failed.ensures.failed (ap (λ e. Err e) c.in-Err-Failed.field-0-is))

pub returns-in-Err-NoMemory : goal.returns-in-Err-NoMemory
returns-in-Err-NoMemory g c = closed_wanting c.args.text.now c.args.end c.requires _ _ _ _ (c.in-Err-NoMemory.ensures.front) (c.in-Err-NoMemory.ensures.memory (ap (λ e. Err e) c.in-Err-NoMemory.field-0-is))
