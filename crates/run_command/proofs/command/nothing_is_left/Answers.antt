use Rattle.run_command.proofs.command.nothing_is_left.Goals as goal

pub returns : goal.returns
returns c = c.settled.ensures.each
