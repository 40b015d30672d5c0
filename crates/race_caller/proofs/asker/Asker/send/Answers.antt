use Rattle.std.proofs.Common.{rules, ◌≡◌}
use Rattle.race_caller.proofs.Asking.{sent_copy}
use Rattle.race_caller.proofs.asker.Asker.send.Goals as goal

pub returns : goal.returns
returns c =
    let are : c.deref.result.now ≡ c.in_ok-out.out.items = search rules in
    let now : c.now.result ≡ c.args.self.now.requester.state.base.now = search rules in
    sent_copy c.args.topology.now c.args.ask.now c.in_ok-ask.ask c.args.self.now c.take_whole.new.self c.pick.new.self c.now.result c.in_ok-out.out c.deref.result.now c.in_ok-sent.sent c.in_ok-ask.ensures now are c.in_ok-out.ensures
    c.in_ok-sent.ensures
