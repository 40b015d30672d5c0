use Rattle.quiet_rounds.proofs.Playing.{plays_end as lemma, scripts_end}
use Rattle.quiet_rounds.proofs.laws.plays_end.Goals as goal

pub returns-clause-nets : goal.returns-clause-nets
returns-clause-nets c = lemma

pub returns-clause-scripts : goal.returns-clause-scripts
returns-clause-scripts c = scripts_end
