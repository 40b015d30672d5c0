use Rattle.std.proofs.Common.{IfOk, subst}
use Rattle.std.specs.Prelude.{IfSome}
use Rattle.followed_agent.specs.Messages.{IsFoundIn}
use Rattle.followed_agent.proofs.agent.Followed.said_as.Goals as goal

pub returns : goal.returns
returns c = λ routes are. subst (λ ms. IfOk c.find.result (λ found. IfSome found (IsFoundIn ms c.args.text.now))) (c.requires.kept.said routes are) c.find.ensures
