use Rattle.race_caller.specs.Played.{HasPlayedOn}
use Rattle.race_caller.proofs.serving.all_acts.Given as goal

abbrev pub invariant-loop-act : goal.invariant-loop-act
invariant-loop-act g l = HasPlayedOn l.fn.topology l.fn.acts l.act-index (g.D.Desk.book l.fn.desk) l.fn.asker (g.D.Desk.book l.desk) l.asker
