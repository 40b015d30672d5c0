use Rattle.std.proofs.Common.{◌≡◌, ◌↔◌, ◌∙◌, true, sym}
use Rattle.std.specs.List.{Contains}
use Rattle.followed_agent.specs.Kept.{said_by, seen}
use Rattle.trace_verify.proofs.Allowing.{at_number}
use Rattle.trace_verify.proofs.Coming.{at_home, placed, says}
use Rattle.trace_verify.proofs.Naming.{sent_of, sent_of_nobody}
use Rattle.trace_verify.proofs.follower.Follower.is_sent.Goals as goal

pub returns-in_default : goal.returns-in_default
returns-in_default c = λ routes are w shows fair.
    let laws = c.every_message.ensures in
    sent_of_nobody laws.own laws.named c.args.topology.now routes w fair c.facts.ensures c.args.message.now c.bytes.result.now (c.bytes.ensures.bytes ∙ c.sender.ensures) (sym c.agent_of.ensures.agent ∙ c.in_default.is)

pub returns : goal.returns
returns c = λ routes are w shows fair.
    let laws = c.every_message.ensures in
    let t = c.args.topology.now in
    let x = c.args.self.now in
    let m = c.args.message.now in
    let b = c.in-Some.sender in
    let f = c.agent.result.now in
    let is = c.in_ok-is_said.is_said in
    let there = placed t x w b f c.requires.follower shows (at_number x.agents.items b c.get.result f c.agent.ensures.stands c.get.ensures.value) in
    sent_of laws.own laws.named t routes w fair c.facts.ensures m c.bytes.result.now b is (c.bytes.ensures.bytes ∙ c.sender.ensures) (sym c.agent_of.ensures.agent ∙ c.in-Some.is) c.in-Some.ensures.within
    (says t routes w b f m is there (at_home t w b f (λ h. (is ≡ true) ↔ Contains (said_by h (seen f)) m) there c.in_ok-is_said.ensures routes are))
