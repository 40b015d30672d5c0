use Rattle.durable_mark.proofs.Steps.{loads, raises, splits, joins}
use Rattle.durable_mark.proofs.laws.every_step.Goals as goal

pub returns-clause-load : goal.returns-clause-load
returns-clause-load c = loads

pub returns-clause-raise : goal.returns-clause-raise
returns-clause-raise c = raises

pub returns-clause-split : goal.returns-clause-split
returns-clause-split c = splits

pub returns-clause-join : goal.returns-clause-join
returns-clause-join c = joins
