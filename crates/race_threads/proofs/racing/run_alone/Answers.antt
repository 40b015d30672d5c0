use Rattle.std.proofs.Common.{Some, ap}
use Rattle.race_threads.proofs.Served.{same_alone}
use Rattle.race_threads.proofs.racing.run_alone.Goals as goal

pub returns-clause-same : goal.returns-clause-same
returns-clause-same g c = λ few running.
    let race = c.args.race.now in
    same_alone c.args.topology.now race.provider race.start _ c.serve_alone-owns.result running (c.serve_alone-owns.ensures.same few (ap Some c.requires.begun))
