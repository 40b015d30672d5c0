use Rattle.std.proofs.Common.{◌≡◌, ◌↔◌, true, IfOk, subst}
use Rattle.std.specs.List.{Contains}
use Rattle.followed_agent.proofs.agent.Followed.has_said.Goals as goal

pub returns : goal.returns
returns c = λ routes are. subst (λ ms. IfOk c.has.result (λ is. (is ≡ true) ↔ Contains ms c.args.message.now)) (c.requires.kept.said routes are) c.has.ensures
