use Rattle.std.proofs.Common.{rules, ◌≡◌}
use Rattle.race_caller.proofs.Asking.{heard_kept}
use Rattle.race_caller.proofs.HearingAll.{one_heard}
use Rattle.race_caller.proofs.asker.Asker.hear.Goals as goal

pub returns-clause-heard : goal.returns-clause-heard
returns-clause-heard c =
    let now : c.now.result ≡ c.args.self.now.requester.state.base.now = search rules in
    heard_kept c.args.topology.now c.args.self.now c.take.new.self c.keep_entry.new.self c.args.place c.now.result c.args.message c.in_ok-_said._said c.requires.printable now c.in_ok-_said.ensures c.in_ok-keep_entry.ensures

pub returns-clause-these : goal.returns-clause-these
returns-clause-these c = λ room.
    let now : c.now.result ≡ c.args.self.now.requester.state.base.now = search rules in
    one_heard c.args.topology.now c.args.self.now c.take.new.self c.keep_entry.new.self c.args.place c.now.result c.args.message c.in_ok-_said._said now c.in_ok-_said.ensures c.in_ok-keep_entry.ensures
