use Rattle.nsi_play.proofs.OnePlay.{no_longer as lemma}
use Rattle.nsi_play.proofs.laws.no_longer.Goals as goal

pub returns : goal.returns
returns c = lemma
