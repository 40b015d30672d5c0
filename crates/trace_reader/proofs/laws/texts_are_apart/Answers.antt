use Rattle.std.proofs.Common.{[]}
use Rattle.trace_reader.proofs.Runs.{texts_apart}
use Rattle.trace_reader.proofs.laws.texts_are_apart.Goals as goal

pub returns-clause-journals : goal.returns-clause-journals
returns-clause-journals c = λ t p es fs names h g same. texts_apart _ _ _ c.texts_are_read_again.ensures t p es fs names h g same

pub returns-clause-any_clock : goal.returns-clause-any_clock
returns-clause-any_clock c = λ t seconds asks es fs names h g same. texts_apart seconds asks _ c.texts_are_read_again.ensures t [] es fs names h g same
