use Rattle.run_command.proofs.Inputs.{nothing_begun}
use Rattle.run_command.proofs.command.begins_with_nothing.Goals as goal

pub returns : goal.returns
returns c = λ options d up left old. nothing_begun c.nothing_throughout.ensures options d up left old
