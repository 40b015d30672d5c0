use Rattle.std.proofs.Common.{rules, ◌≤◌, length, refl, ap, arith}
use Rattle.nsi_agent.specs.Homes.{home_in}
use Rattle.followed_agent.specs.declared.agent.Followed.{Followed}
use Rattle.trace_verify.proofs.Allowing.{at_number}
use Rattle.trace_verify.proofs.Placing.{at_place, follower_put, put_at, restart_done, same_item}
use Rattle.trace_verify.proofs.follower.Follower.restart.Goals as goal

pub returns-clause-follower : goal.returns-clause-follower
returns-clause-follower c =
    let t = c.args.topology.now in
    let x = c.args.self.now in
    let f = c.index_mut.result.now in
    follower_put t x _ c.args.agent f c.restart.new.self _ c.requires.follower (at_place t x c.args.agent c.get-place.result f c.requires.follower c.requires.within c.get-place.ensures.value c.index_mut.ensures.value)
    (record { put = put_at x.agents.items c.args.agent c.get-place.result c.restart.new.self c.get-place.ensures.value; is = c.in_ok-restart.ensures.seen; kept = c.in_ok-restart.ensures.kept; network = refl; number = refl })

pub returns-clause-happened : goal.returns-clause-happened
returns-clause-happened c = λ routes are w shows fair.
    let t = c.args.topology.now in
    let x = c.args.self.now in
    let f = c.index_mut.result.now in
    let g = c.agent-followed.result.now in
    let at = at_place t x c.args.agent c.get-place.result f c.requires.follower c.requires.within c.get-place.ensures.value c.index_mut.ensures.value in
    let one = same_item x.agents.items c.args.agent g f (at_number x.agents.items c.args.agent c.get-place.result g c.agent-followed.ensures.stands c.get-place.ensures.value) at in
    let low : g.synced ≤ c.args.count = search rules in
    let high : c.args.count ≤ length g.journal.items = search rules in
    restart_done (home_in t routes) t x _ w c.args.agent c.args.count f c.restart.new.self (record { stands = at; follower = c.requires.follower; shows = shows }) (omega (arith, low, ap (λ (h : Followed). h.synced) one))
    (omega (arith, high, ap (λ (h : Followed). length h.journal.items) one))
    (record { put = put_at x.agents.items c.args.agent c.get-place.result c.restart.new.self c.get-place.ensures.value; is = c.in_ok-restart.ensures.seen; kept = c.in_ok-restart.ensures.kept; network = refl; number = refl })
