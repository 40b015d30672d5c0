use Rattle.ask_text.proofs.Again.{all_again}
use Rattle.ask_text.proofs.laws.asks_are_read_again.Goals as goal

pub returns : goal.returns
returns c = all_again
