use Rattle.date_time.proofs.Printed.{printed_again}
use Rattle.date_time.proofs.laws.printed_again.Goals as goal

pub returns : goal.returns
returns c = printed_again
