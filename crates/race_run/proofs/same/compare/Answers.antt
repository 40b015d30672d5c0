use Rattle.race_run.proofs.Fronts.{compared_of, told_of}
use Rattle.race_run.proofs.same.compare.Goals as goal

pub returns-clause-compared : goal.returns-clause-compared
returns-clause-compared c = compared_of c.args.kept.now c.args.found.now c.in_ok-front.front c.in_ok-told.told c.in_ok-front.ensures c.in_ok-told.ensures

pub returns-clause-told : goal.returns-clause-told
returns-clause-told c = λ t a b. told_of t c.args.kept.now c.args.found.now c.in_ok-front.front c.in_ok-told.told c.in_ok-told.ensures a b
