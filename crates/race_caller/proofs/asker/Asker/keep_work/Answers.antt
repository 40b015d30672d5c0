use Rattle.std.proofs.Common.{rules, ◌≡◌, true, refl}
use Rattle.race_caller.specs.Plays.{is_work_by}
use Rattle.race_caller.proofs.Asking.{heard_work}
use Rattle.race_caller.proofs.asker.Asker.keep_work.Goals as goal

pub returns-clause-heard : goal.returns-clause-heard
returns-clause-heard c =
    let work : is_work_by c.args.self.now.call.provider c.args.event ≡ true = search rules in
    heard_work c.args.topology.now c.args.self.now _ c.args.place c.args.event c.requires.is work c.in_ok-push.ensures.ok refl refl refl
