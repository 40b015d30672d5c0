use Rattle.race_command.proofs.command.ended_well.Goals as goal

pub returns : goal.returns
returns g c = c.told-outcome.ensures _
