use Rattle.std.proofs.Common.{arith}
use Rattle.followed_agent.proofs.receipts.note_all.Goals as goal

pub returns : goal.returns
returns c = λ p second m lt at.
    let l = c.loop-place in
    l.invariant p second m (omega (arith, lt, c.loop-place-test.false)) at
