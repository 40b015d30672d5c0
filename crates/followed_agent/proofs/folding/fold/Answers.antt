use Rattle.std.proofs.Common.{◌≡◌, subst}
use Rattle.nsi_agent.specs.Standing.{Standing}
use Rattle.nsi_agent.specs.Told.{behind, goes_on}
use Rattle.followed_agent.specs.Kept.{At, telling}
use Rattle.followed_agent.proofs.folding.fold.Goals as goal

pub returns-in-Ok-clause-told : goal.returns-in-Ok-clause-told
returns-in-Ok-clause-told c = λ routes are.
    subst (λ (a : Standing). At a.network a.number (λ h. telling c.take_all.new.agent.state c.take_all.new.out.items ≡ behind c.args.out.now.items (goes_on h a.state c.args.entries.now))) c.in_ok-agent.ensures
    c.in-Ok.ensures.told routes are
