use Rattle.race_tests.proofs.racing.network.Goals as goal

pub returns-in-Ok : goal.returns-in-Ok
returns-in-Ok c = record { behind = c.in-Ok.read.1; read = c.in-Ok.ensures }
