use Rattle.race_tests.proofs.Owed.{fit_printable}
use Rattle.race_tests.proofs.racing.script_of.Goals as goal

pub returns-in-Ok : goal.returns-in-Ok
returns-in-Ok c = fit_printable c.args.topology.now c.in-Ok.script c.in-Ok.ensures.fits
