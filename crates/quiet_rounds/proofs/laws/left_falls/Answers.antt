use Rattle.quiet_rounds.proofs.Ending.{telling_leaves, left_is_few}
use Rattle.quiet_rounds.proofs.Falling.{left_falls as lemma}
use Rattle.quiet_rounds.proofs.laws.left_falls.Goals as goal

pub returns-clause-falls : goal.returns-clause-falls
returns-clause-falls c = lemma

pub returns-clause-told : goal.returns-clause-told
returns-clause-told c = telling_leaves

pub returns-clause-few : goal.returns-clause-few
returns-clause-few c = left_is_few
