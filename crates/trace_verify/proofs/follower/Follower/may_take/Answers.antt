use Rattle.std.proofs.Common.{◌<◌, length, arith}
use Rattle.agent_state.specs.Entries.{most_entries}
use Rattle.nsi_agent.specs.Homes.{home_in}
use Rattle.trace_verify.proofs.Allowing.{at_number, clock_of, in_time_and_room}
use Rattle.trace_verify.proofs.Coming.{placed}
use Rattle.trace_verify.proofs.follower.Follower.may_take.Goals as goal

pub returns : goal.returns
returns c = λ routes are w shows fair.
    let t = c.args.topology.now in
    let x = c.args.self.now in
    let a = c.args.agent in
    let f = c.agent-followed.result.now in
    let there = placed t x w a f c.requires.follower shows (at_number x.agents.items a c.get.result f c.agent-followed.ensures.stands c.get.ensures.value) in
    let room : length f.journal.items < most_entries = omega (arith, c.if-len-ge4194304.false, c.len.ensures) in
    in_time_and_room (home_in t routes) w a c.now.result c.args.entry.now f c.is_in_time.result c.in_ok-may_come.may_come there.journal room (clock_of t routes w a f c.now.result are there c.now.ensures) c.is_in_time.ensures c.if-not-is_in_time.false
    (c.in_ok-may_come.ensures routes are w shows fair)
