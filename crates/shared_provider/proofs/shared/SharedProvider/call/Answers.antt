use Rattle.json_primitives.specs.Lines.{line_of}
use Rattle.shared_provider.proofs.Calling.{called_of}
use Rattle.shared_provider.proofs.shared.SharedProvider.call.Goals as goal

pub returns-in-Ok-clause-called : goal.returns-in-Ok-clause-called
returns-in-Ok-clause-called g c = called_of (line_of c.args.line.now) c.in-Ok.message c.tell.result c.in-Ok.ensures.request (c.tell.ensures.held _ c.take-answer.ensures.held)
