use Rattle.std.proofs.Common.{ℕ, ◌≡◌, ◌<◌, ◌+◌, [], ◌∷◌, length, ap, subst, sym, arith}
use Rattle.std.proofs.lemmas.List.{length-append}
use Rattle.nsi_agent.specs.Homes.{home_in}
use Rattle.trace_reader.specs.Pasts.{seconds_of}
use Rattle.trace_verify.specs.Traces.{seconds_in}
use Rattle.trace_verify.proofs.Allowing.{clock_of, second_more}
use Rattle.trace_verify.proofs.Coming.{placed}
use Rattle.trace_verify.proofs.follower.Follower.seconds.Goals as goal

pub loop-place-preserved : goal.loop-place-preserved
loop-place-preserved c =
    let t = c.args.topology.now in
    let x = c.args.self.now in
    let l = c.loop-place in
    let f = c.agent.result.now in
    record {
      many = omega (arith, ap length c.in_ok-push.ensures.items, length-append l.seconds.items (c.now.result ∷ []), l.invariant.many);
      value = λ routes are w shows fair.
          subst (λ xs. (a : ℕ) → a < l.place + 1 → seconds_of xs a ≡ seconds_in (home_in t routes) w a) (sym c.in_ok-push.ensures.items)
          (second_more l.seconds.items l.place c.now.result (seconds_in (home_in t routes) w) l.invariant.many (l.invariant.value routes are w shows fair)
          (clock_of t routes w l.place f c.now.result are (placed t x w l.place f c.requires.follower shows c.agent.ensures.stands) c.now.ensures));
    }
