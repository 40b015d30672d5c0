use Rattle.nsi_play.proofs.OnePlay.{one_play as lemma}
use Rattle.nsi_play.proofs.laws.one_play.Goals as goal

pub returns : goal.returns
returns c = lemma
