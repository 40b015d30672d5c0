use Rattle.std.specs.Prelude.{IfSome}
use Rattle.followed_agent.specs.Kept.{said_by, seen}
use Rattle.followed_agent.specs.Messages.{IsFoundIn}
use Rattle.nsi_agent.specs.Homes.{home_in}
use Rattle.trace_verify.proofs.Allowing.{at_number}
use Rattle.trace_verify.proofs.Coming.{at_home, placed}
use Rattle.trace_verify.proofs.Delivering.{sent_so, spelled_so}
use Rattle.trace_verify.proofs.follower.Follower.said_as.Goals as goal

pub returns-clause-spelled : goal.returns-clause-spelled
returns-clause-spelled c =
    let f = c.agent.result.now in
    let some = c.routes_exist.ensures.exist f.agent.network in
    spelled_so (said_by (home_in f.agent.network some.0 f.agent.number) (seen f)) c.args.text.now c.in_ok-found.found (c.in_ok-found.ensures some.0 some.1)

pub returns-clause-sent : goal.returns-clause-sent
returns-clause-sent c = λ routes are w shows fair.
    let t = c.args.topology.now in
    let x = c.args.self.now in
    let b = c.in-Some-agent_of.sender in
    let f = c.agent.result.now in
    let there = placed t x w b f c.requires.follower shows (at_number x.agents.items b c.get.result f c.agent.ensures.stands c.get.ensures.value) in
    sent_so t routes w b f c.args.text.now c.in_ok-found.found c.facts.ensures c.in-Some-agent_of.ensures.within there
    (at_home t w b f (λ h. IfSome c.in_ok-found.found (IsFoundIn (said_by h (seen f)) c.args.text.now)) there c.in_ok-found.ensures routes are)
