use Rattle.trace_verify.proofs.Coming.{to_another, to_this}
use Rattle.trace_verify.proofs.follower.Follower.may_get.Goals as goal

pub returns-then-not-is : goal.returns-then-not-is
returns-then-not-is c = λ routes are w shows fair.
    to_another c.args.topology.now routes w c.args.agent c.args.message.now c.addressee.result.now c.name.result.now c.is.result c.addressee.ensures c.name.ensures c.is.ensures c.if-not-is.true

pub returns : goal.returns
returns c = λ routes are w shows fair.
    to_this c.args.topology.now routes w c.args.agent c.args.message.now c.addressee.result.now c.name.result.now c.is.result c.in_ok-is_sent.is_sent c.addressee.ensures c.name.ensures c.is.ensures c.if-not-is.false
    (c.in_ok-is_sent.ensures routes are w shows fair)
