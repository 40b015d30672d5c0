use Rattle.std.proofs.Common.{rules, ◌≡◌, ◌∙◌, length, refl, sym, ap}
use Rattle.nsi_agent.specs.Homes.{home_in}
use Rattle.followed_agent.specs.declared.agent.Followed.{Followed}
use Rattle.trace_verify.proofs.Allowing.{at_number}
use Rattle.trace_verify.proofs.Placing.{at_place, follower_put, put_at, same_item, sync_done}
use Rattle.trace_verify.proofs.follower.Follower.sync.Goals as goal

pub returns-clause-follower : goal.returns-clause-follower
returns-clause-follower c =
    let t = c.args.topology.now in
    let x = c.args.self.now in
    let f = c.index_mut.result.now in
    follower_put t x _ c.args.agent f c.sync.new.self _ c.requires.follower (at_place t x c.args.agent c.get-place.result f c.requires.follower c.requires.within c.get-place.ensures.value c.index_mut.ensures.value)
    (record { put = put_at x.agents.items c.args.agent c.get-place.result c.sync.new.self c.get-place.ensures.value; is = c.in_ok-sync.ensures.seen; kept = c.in_ok-sync.ensures.kept; network = refl; number = refl })

pub returns-clause-happened : goal.returns-clause-happened
returns-clause-happened c = λ routes are w shows fair.
    let t = c.args.topology.now in
    let x = c.args.self.now in
    let f = c.index_mut.result.now in
    let g = c.agent.result.now in
    let at = at_place t x c.args.agent c.get-place.result f c.requires.follower c.requires.within c.get-place.ensures.value c.index_mut.ensures.value in
    let before = at_number x.agents.items c.args.agent c.get-place.result g c.agent.ensures.stands c.get-place.ensures.value in
    let long : length g.journal.items ≡ c.args.count = search rules in
    let many : c.args.count ≡ length f.journal.items = sym long ∙ ap (λ (h : Followed). length h.journal.items) (same_item x.agents.items c.args.agent g f before at) in
    sync_done (home_in t routes) t x _ w c.args.agent c.args.count f c.sync.new.self (record { stands = at; follower = c.requires.follower; shows = shows }) many
    (record { put = put_at x.agents.items c.args.agent c.get-place.result c.sync.new.self c.get-place.ensures.value; is = c.in_ok-sync.ensures.seen; kept = c.in_ok-sync.ensures.kept; network = refl; number = refl })
