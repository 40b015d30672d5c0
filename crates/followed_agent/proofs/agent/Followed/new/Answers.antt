use Rattle.std.proofs.Common.{refl, ap}
use Rattle.nsi_agent.specs.Standing.{Standing}
use Rattle.followed_agent.proofs.Noting.{kept_new}
use Rattle.followed_agent.proofs.agent.Followed.new.Goals as goal

pub returns-clause-kept : goal.returns-clause-kept
returns-clause-kept c = kept_new _ (ap (λ (a : Standing). a.state) c.in_ok-agent.ensures) c.new-2.ensures.items refl c.new-3.ensures.none c.new-3.ensures.indexed c.new-4.ensures.items
