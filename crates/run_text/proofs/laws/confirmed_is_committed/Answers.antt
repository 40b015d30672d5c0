use Rattle.run_text.proofs.Committing as lemmas
use Rattle.run_text.proofs.laws.confirmed_is_committed.Goals as goal

pub returns : goal.returns
returns c = lemmas.confirmed_is_committed
