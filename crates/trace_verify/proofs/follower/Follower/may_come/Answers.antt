use Rattle.std.proofs.Common.{◌≡◌, ◌↔◌, true, IfOk, subst, sym}
use Rattle.nsi_agent.specs.Homes.{home_in}
use Rattle.nsi_world.specs.Runs.{MayCome}
use Rattle.trace_verify.proofs.Allowing.{of_provider, of_requester, of_work_or_force}
use Rattle.trace_verify.proofs.follower.Follower.may_come.Goals as goal

pub returns-in-Ask : goal.returns-in-Ask
returns-in-Ask c = λ routes are w shows fair.
    let t = c.args.topology.now in
    let a = c.args.agent in
    subst (λ i. (c.is_requester.result ≡ true) ↔ MayCome (home_in t routes) w a i) (sym c.in-Ask.is) (of_requester t routes a c.kind.result c.is_requester.result c.kind.ensures (c.is_requester.ensures t routes a))

pub returns-in-Work : goal.returns-in-Work
returns-in-Work c = λ routes are w shows fair.
    let t = c.args.topology.now in
    let a = c.args.agent in
    of_work_or_force (home_in t routes) w a c.args.input.now c.is_provider.result c.in-Work.is (of_provider t routes a c.kind-in-Work.result c.is_provider.result c.kind-in-Work.ensures (c.is_provider.ensures t routes a))

pub returns-in-Acked : goal.returns-in-Acked
returns-in-Acked c = λ routes are w shows fair.
    subst (λ i. IfOk c.may_hear.result (λ is. (is ≡ true) ↔ MayCome (home_in c.args.topology.now routes) w c.args.agent i)) (sym c.in-Acked.is) (c.may_hear.ensures routes are w shows fair)
