use Rattle.race_caller.proofs.Asking.{kept_request}
use Rattle.race_caller.proofs.asker.Asker.keep_request.Goals as goal

pub returns-clause-is : goal.returns-clause-is
returns-clause-is c = rw c.in_ok-push_got.ensures (kept_request c.args.topology.now c.args.self.now c.args.place c.args.request.now c.requires.is c.requires.printable)
