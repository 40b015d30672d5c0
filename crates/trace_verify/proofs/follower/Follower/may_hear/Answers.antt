use Rattle.std.proofs.Common.{◌∙◌, sym}
use Rattle.trace_verify.proofs.Allowing.{at_number}
use Rattle.trace_verify.proofs.Coming.{named_back, placed}
use Rattle.trace_verify.proofs.Hearing.{heard_by_another, heard_of, heard_of_nobody}
use Rattle.trace_verify.proofs.follower.Follower.may_hear.Goals as goal

pub returns-then-not-is : goal.returns-then-not-is
returns-then-not-is c = λ routes are w shows fair.
    let laws = c.every_message.ensures in
    heard_by_another laws.own laws.named c.args.topology.now routes w fair c.args.agent c.args.identity.now c.sender.result.now c.name.result.now c.is.result c.sender.ensures c.name.ensures c.is.ensures c.if-not-is.true

pub returns-in_default : goal.returns-in_default
returns-in_default c = λ routes are w shows fair.
    heard_of_nobody c.args.topology.now routes c.args.self.now w c.args.agent c.args.identity.now c.bytes.result.now c.facts.ensures c.requires.follower shows (c.bytes.ensures.bytes ∙ c.addressee.ensures)
    (sym c.agent_of.ensures.agent ∙ c.in_default.is)

pub returns : goal.returns
returns c = λ routes are w shows fair.
    let laws = c.every_message.ensures in
    let t = c.args.topology.now in
    let x = c.args.self.now in
    let b = c.in-Some.addressee in
    let g = c.agent.result.now in
    let other = placed t x w b g c.requires.follower shows (at_number x.agents.items b c.get.result g c.agent.ensures.stands c.get.ensures.value) in
    let found = sym c.agent_of.ensures.agent ∙ c.in-Some.is in
    heard_of laws.own laws.named t routes w fair x c.args.agent b g c.args.identity.now c.sender.result.now c.name.result.now c.bytes.result.now c.is.result c.in_ok-has_taken.has_taken c.facts.ensures c.requires.follower shows other
    c.requires.within c.sender.ensures c.name.ensures c.is.ensures c.if-not-is.false (c.bytes.ensures.bytes ∙ c.addressee.ensures) found (named_back t c.bytes.result.now b found) c.in_ok-has_taken.ensures
