use Rattle.ask_text.proofs.Again.{text_again}
use Rattle.ask_text.proofs.printing.print_ask.Goals as goal

pub returns-clause-again : goal.returns-clause-again
returns-clause-again c = text_again c.text_of.result c.args.ask.now c.requires c.text_of.ensures.ranged c.text_of.ensures.spelled
