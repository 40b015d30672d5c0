use Rattle.quiet_rounds.proofs.Ending.{rounds_end as lemma, enough_rounds, enough_is_few}
use Rattle.quiet_rounds.proofs.laws.rounds_end.Goals as goal

pub returns-clause-end : goal.returns-clause-end
returns-clause-end c = lemma

pub returns-clause-enough : goal.returns-clause-enough
returns-clause-enough c = enough_rounds

pub returns-clause-few : goal.returns-clause-few
returns-clause-few c = enough_is_few
