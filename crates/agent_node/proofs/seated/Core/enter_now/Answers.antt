use Rattle.std.proofs.Common.{rules, ◌≡◌, ◌<◌, arith, subst, sym, true}
use Rattle.stp_topology.specs.Network.{kind_of}
use Rattle.agent_state.specs.Entries.{most_entries}
use Rattle.nsi_agent.specs.Homes.{home_in}
use Rattle.nsi_agent.specs.Steps.{may_take}
use Rattle.agent_node.specs.Seat.{enters_now, now_at}
use Rattle.agent_node.specs.Seated.{entry_at}
use Rattle.agent_node.proofs.Allowed.{allowed, now_on_time}
use Rattle.agent_node.proofs.Growing.{entered_one}
use Rattle.agent_node.proofs.Stepping.{too_long}
use Rattle.agent_node.proofs.seated.Core.enter_now.Goals as goal

pub returns-then-room-eq0-clause-goes : goal.returns-then-room-eq0-clause-goes
returns-then-room-eq0-clause-goes c =
    let a = c.args.self.now in
    let none : c.args.room.now ≡ 0 = search rules in
    too_long (λ h s. enters_now h c.args.input s) c.args.room.now a none
    (λ routes are. let one = entered_one (home_in a.network routes a.seat.number) (now_at a.seat c.args.input) a.seat in omega (arith, one))

pub enter-requires-clause-may_take : goal.enter-requires-clause-may_take
enter-requires-clause-may_take c =
    let a = c.args.self.now in
    let s = a.seat.state in
    let now : c.now-now.result ≡ s.base.now = search rules in
    let few : s.base.taken < most_entries = search rules in
    subst (λ n. may_take (kind_of a.network a.seat.number) s (entry_at n c.args.input) ≡ true) (sym now)
    (allowed (kind_of a.network a.seat.number) s s.base.now c.args.input few c.requires.kind (now_on_time c.args.input s.base.now c.requires.now))
