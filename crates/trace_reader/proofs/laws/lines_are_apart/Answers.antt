use Rattle.trace_reader.proofs.Again.{apart}
use Rattle.trace_reader.proofs.laws.lines_are_apart.Goals as goal

pub returns : goal.returns
returns c = apart c.texts_are_read_again.ensures
