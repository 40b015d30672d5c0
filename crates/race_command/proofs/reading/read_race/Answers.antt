use Rattle.race_command.proofs.Acts.{is_race}
use Rattle.race_command.proofs.reading.read_race.Goals as goal

pub returns-in-None-clause-race : goal.returns-in-None-clause-race
returns-in-None-clause-race c = is_race c.args.topology.now c.args.provider c.args.first_line c.args.text.now c.read_script-read.result c.in-Ok.strange c.in-Ok.ensures c.in-None.is c.read_script-read.ensures.reads c.read_script-read.ensures.fits
