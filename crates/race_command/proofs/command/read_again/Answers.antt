use Rattle.race_command.proofs.Racing.{same_topology}
use Rattle.race_command.proofs.command.read_again.Goals as goal

pub returns-in-Ok : goal.returns-in-Ok
returns-in-Ok c = λ first is. same_topology c.args.bytes.now c.in-Ok.declared first c.in-Ok.ensures.reads is
