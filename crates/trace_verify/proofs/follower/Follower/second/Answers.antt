use Rattle.trace_verify.proofs.Allowing.{at_number, clock_of}
use Rattle.trace_verify.proofs.Coming.{placed}
use Rattle.trace_verify.proofs.follower.Follower.second.Goals as goal

pub returns : goal.returns
returns c = λ routes are w shows fair.
    let t = c.args.topology.now in
    let x = c.args.self.now in
    let a = c.args.agent in
    let f = c.agent.result.now in
    clock_of t routes w a f c.now.result are (placed t x w a f c.requires.follower shows (at_number x.agents.items a c.get.result f c.agent.ensures.stands c.get.ensures.value)) c.now.ensures
