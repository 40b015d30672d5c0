use Rattle.date_time.proofs.Again.{read_again}
use Rattle.date_time.proofs.printing.print_second.Goals as goal

pub returns-clause-again : goal.returns-clause-again
returns-clause-again c = read_again c.args.second c.get.ensures.in_range
