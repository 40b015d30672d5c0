use Rattle.race_threads.specs.Serving.{IsServing}
use Rattle.race_threads.proofs.alone.serve_alone.Given as goal

abbrev pub invariant-loop-place : goal.invariant-loop-place
invariant-loop-place g l = IsServing l.fn.topology l.fn.race.provider l.fn.race.start l.fn.race.acts.now l.fn.asked l.place (g.D.Desk.book l.fn.desk) (g.D.Desk.book l.desk) l.owns.items
