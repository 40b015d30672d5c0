use Rattle.nsi_base.proofs.Joined.{words_again}
use Rattle.nsi_base.proofs.words.words_again.Goals as goal

pub returns : goal.returns
returns c = words_again c.args.blanks
