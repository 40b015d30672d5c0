use Rattle.std.proofs.Common.{◌≡◌, ◌∙◌, ◌&&◌, nat_le, ℕ, true, false, inl, inr, refl, sym, ap₂}
use Rattle.agent_threads.proofs.Restarting.{untold, same_again, is_restarted, goes_again}
use Rattle.agent_threads.proofs.restart.restart_one.Goals as goal

pub returns-then-is_own-clause-done : goal.returns-then-is_own-clause-done
returns-then-is_own-clause-done g c = λ f.
    let x = c.args.node in
    let y = c.in-Ok.again in
    let within : (nat_le y.seat.state.base.taken x.seat.state.base.taken && nat_le y.seat.state.base.now x.seat.state.base.now) ≡ true =
    ap₂ (λ (a b : ℕ). nat_le y.seat.state.base.taken a && nat_le y.seat.state.base.now b) (sym c.taken-taken.ensures) (sym c.now-now.ensures) ∙ (sym c.is_within-is_own.ensures ∙ c.if-is_own.true) in
    (y, c.push_reserved.ensures.items, is_restarted c.routes_exist.ensures.exist x y (c.in-Ok.ensures.made f) within)

pub returns-then-is_own-clause-again : goal.returns-then-is_own-clause-again
returns-then-is_own-clause-again g c = λ f.
    let x = c.args.node in
    let y = c.in-Ok.again in
    let within : (nat_le y.seat.state.base.taken x.seat.state.base.taken && nat_le y.seat.state.base.now x.seat.state.base.now) ≡ true =
    ap₂ (λ (a b : ℕ). nat_le y.seat.state.base.taken a && nat_le y.seat.state.base.now b) (sym c.taken-taken.ensures) (sym c.now-now.ensures) ∙ (sym c.is_within-is_own.ensures ∙ c.if-is_own.true) in
    (y, c.push_reserved.ensures.items, goes_again c.routes_exist.ensures.exist x y (c.in-Ok.ensures.reopened f) within)

pub returns-else-is_own-clause-failed : goal.returns-else-is_own-clause-failed
returns-else-is_own-clause-failed g c = inr ((c.in-Ok.again, c.push_reserved.ensures.items, same_again c.args.node c.in-Ok.again c.requires.going c.in-Ok.ensures.made c.in-Ok.ensures.reopened), c.in-Ok.ensures.same_stops)

pub returns-else-is_own-clause-cause : goal.returns-else-is_own-clause-cause
returns-else-is_own-clause-cause g c =
    let x = c.args.node in
    let y = c.in-Ok.again in
    let more : (nat_le y.seat.state.base.taken x.seat.state.base.taken && nat_le y.seat.state.base.now x.seat.state.base.now) ≡ false =
    ap₂ (λ (a b : ℕ). nat_le y.seat.state.base.taken a && nat_le y.seat.state.base.now b) (sym c.taken-taken.ensures) (sym c.now-now.ensures) ∙ (sym c.is_within-is_own.ensures ∙ c.if-is_own.false) in
    (c.number-agent.ensures, untold x y c.requires.going c.in-Ok.ensures.made c.in-Ok.ensures.reopened more)

pub returns-in-Err-clause-failed : goal.returns-in-Err-clause-failed
returns-in-Err-clause-failed g c = inl (refl, c.in-Err.ensures.lost)
