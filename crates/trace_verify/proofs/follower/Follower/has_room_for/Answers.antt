use Rattle.std.proofs.Common.{◌<◌, length, arith}
use Rattle.agent_state.specs.Entries.{most_entries}
use Rattle.trace_verify.proofs.Allowing.{at_number}
use Rattle.trace_verify.proofs.Coming.{placed}
use Rattle.trace_verify.proofs.Delivering.{room_for}
use Rattle.trace_verify.proofs.follower.Follower.has_room_for.Goals as goal

pub returns-then-len-lt4194304 : goal.returns-then-len-lt4194304
returns-then-len-lt4194304 c = λ routes are w shows fair.
    let t = c.args.topology.now in
    let x = c.args.self.now in
    let a = c.args.agent in
    let f = c.agent.result.now in
    let room : length f.journal.items < most_entries = omega (arith, c.if-len-lt4194304.true, c.len.ensures) in
    room_for t routes w a f c.args.message.now c.addressee.result.now c.name.result.now c.is.result (placed t x w a f c.requires.follower shows (at_number x.agents.items a c.get.result f c.agent.ensures.stands c.get.ensures.value)) room
    c.addressee.ensures c.name.ensures c.is.ensures
