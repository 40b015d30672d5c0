use Rattle.std.proofs.Common.{◌≡◌, refl}
use Rattle.nsi_agent.specs.Steps.{after}
use Rattle.nsi_agent.specs.Told.{told}
use Rattle.trace_verify.proofs.Coming.{at_home, placed}
use Rattle.trace_verify.proofs.Placing.{at_place, entry_done, follower_put, put_at}
use Rattle.trace_verify.proofs.follower.Follower.take_entry.Goals as goal

pub returns-in_ok-given-in-Ok-true-clause-follower : goal.returns-in_ok-given-in-Ok-true-clause-follower
returns-in_ok-given-in-Ok-true-clause-follower c =
    let t = c.args.topology.now in
    let x = c.args.self.now in
    let f = c.index_mut.result.now in
    let entered = c.in_ok-given-in-Ok-true.ensures in
    follower_put t x _ c.args.agent f c.enter.new.self _ c.requires.follower (at_place t x c.args.agent c.get-place.result f c.requires.follower c.requires.within c.get-place.ensures.value c.index_mut.ensures.value)
    (record { put = put_at x.agents.items c.args.agent c.get-place.result c.enter.new.self c.get-place.ensures.value; is = entered.seen; kept = entered.kept; network = refl; number = refl })

pub returns-in_ok-given-in-Ok-true-clause-happened : goal.returns-in_ok-given-in-Ok-true-clause-happened
returns-in_ok-given-in-Ok-true-clause-happened c = λ routes are w shows fair.
    let t = c.args.topology.now in
    let x = c.args.self.now in
    let a = c.args.agent in
    let e = c.args.entry in
    let f = c.index_mut.result.now in
    let given = c.in_ok-given-in-Ok-true.given in
    let entered = c.in_ok-given-in-Ok-true.ensures in
    let at = at_place t x a c.get-place.result f c.requires.follower c.requires.within c.get-place.ensures.value c.index_mut.ensures.value in
    let answered = at_home t w a f (λ h. given ≡ (after h (told h f.journal.items).state e).answer) (placed t x w a f c.requires.follower shows at) entered.answer routes are in
    entry_done t routes x _ w a e given c.args.answer c.is_same_answer.result f c.enter.new.self (record { stands = at; follower = c.requires.follower; shows = shows })
    ((c.in-Ok-true.ensures routes are w shows fair).0 c.in-Ok-true.field-0-test) c.requires.printable answered c.is_same_answer.ensures
    (record { put = put_at x.agents.items a c.get-place.result c.enter.new.self c.get-place.ensures.value; is = entered.seen; kept = entered.kept; network = refl; number = refl })
