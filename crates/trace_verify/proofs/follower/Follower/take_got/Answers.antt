use Rattle.std.proofs.Common.{◌≡◌, None, refl}
use Rattle.nsi_primitive.specs.declared.entry.Entry.{Entry}
use Rattle.nsi_primitive.specs.declared.entry.Input.{Input}
use Rattle.nsi_agent.specs.Homes.{home_in}
use Rattle.nsi_agent.specs.Steps.{after}
use Rattle.nsi_agent.specs.Told.{told}
use Rattle.trace_verify.proofs.Coming.{at_home, placed}
use Rattle.trace_verify.proofs.Delivering.{got_now, no_room}
use Rattle.trace_verify.proofs.Placing.{at_place, entry_done, follower_put, put_at}
use Rattle.trace_verify.proofs.follower.Follower.take_got.Goals as goal

pub returns-in_ok-given-clause-follower : goal.returns-in_ok-given-clause-follower
returns-in_ok-given-clause-follower c =
    let t = c.args.topology.now in
    let x = c.args.self.now in
    let f = c.index_mut.result.now in
    let entered = c.in_ok-given.ensures in
    follower_put t x _ c.args.agent f c.enter.new.self _ c.requires.follower (at_place t x c.args.agent c.get.result f c.requires.follower c.requires.within c.get.ensures.value c.index_mut.ensures.value)
    (record { put = put_at x.agents.items c.args.agent c.get.result c.enter.new.self c.get.ensures.value; is = entered.seen; kept = entered.kept; network = refl; number = refl })

pub returns-in_ok-given-clause-happened : goal.returns-in_ok-given-clause-happened
returns-in_ok-given-clause-happened c = λ routes are w shows fair.
    let t = c.args.topology.now in
    let x = c.args.self.now in
    let a = c.args.agent in
    let e : Entry = record { second = c.second.result; input = Input.Got c.args.message } in
    let f = c.index_mut.result.now in
    let given = c.in_ok-given.given in
    let entered = c.in_ok-given.ensures in
    let at = at_place t x a c.get.result f c.requires.follower c.requires.within c.get.ensures.value c.index_mut.ensures.value in
    let answered = at_home t w a f (λ h. given ≡ (after h (told h f.journal.items).state e).answer) (placed t x w a f c.requires.follower shows at) entered.answer routes are in
    let room = (c.has_room_for-has_room.ensures routes are w shows fair).0 c.if-has_room.true in
    let now = c.second.ensures routes are w shows fair in
    got_now (home_in t routes) w a c.second.result c.args.message _ c.is_same_answer.result now
    (entry_done t routes x _ w a e given None c.is_same_answer.result f c.enter.new.self (record { stands = at; follower = c.requires.follower; shows = shows })
    (record { room = room.room; in_time = now; comes = (c.requires.sent routes are w shows fair, room.addressed) }) c.requires.printable answered c.is_same_answer.ensures
    (record { put = put_at x.agents.items a c.get.result c.enter.new.self c.get.ensures.value; is = entered.seen; kept = entered.kept; network = refl; number = refl }))

pub returns-else-has_room-clause-happened : goal.returns-else-has_room-clause-happened
returns-else-has_room-clause-happened c = λ routes are w shows fair.
    no_room (home_in c.args.topology.now routes) w c.args.agent c.args.message _ c.has_room_for-has_room.result (c.has_room_for-has_room.ensures routes are w shows fair) c.if-has_room.false
