use Rattle.std.proofs.Common.{sym, subst}
use Rattle.std.specs.Prelude.{IfOk}
use Rattle.race_command.specs.Outcomes.{HasRaced}
use Rattle.race_command.proofs.command.ended_badly.Goals as goal

pub returns : goal.returns
returns g c =
    let contest = c.args.contest.now in
    subst (λ d. IfOk c.explained-outcome.result (HasRaced c.args.most contest.topology contest.provider contest.script (g.D.Disk.meter d))) (sym c.disk_of.ensures) (c.explained-outcome.ensures c.args.most)
