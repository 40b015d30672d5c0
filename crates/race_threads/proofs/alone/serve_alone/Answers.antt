use Rattle.std.proofs.Common.{◌≡◌, length, sym, subst, arith}
use Rattle.race_threads.specs.Alone.{IsOneOf, AreKeptBelow}
use Rattle.race_threads.specs.Serving.{IsServing}
use Rattle.race_threads.proofs.Lone.{none_alone, next_alone, kept_alone}
use Rattle.race_threads.proofs.Served.{served_none, served_at, ended_same}
use Rattle.race_threads.proofs.alone.serve_alone.Goals as goal

pub loop-place-init : goal.loop-place-init
loop-place-init g c =
    let t = c.args.topology.now in
    let race = c.args.race.now in
    subst (IsServing t race.provider race.start race.acts.now c.args.asked 0 _ _) (sym c.new-owns.ensures.items)
    (record { kept = none_alone t race.provider race.start race.acts.now; served = λ few told. served_none t race.provider race.start c.args.asked _ told })

pub loop-place-preserved : goal.loop-place-preserved
loop-place-preserved g c =
    let t = c.args.topology.now in
    let race = c.args.race.now in
    let n = c.loop-place.place in
    let own = c.in_ok-own.own in
    let of = subst (λ k. IsOneOf t race.provider race.start race.acts.now k own) c.agent_at-agent.ensures c.in_ok-own.ensures.of in
    record {
      kept = next_alone t race.provider race.start race.acts.now n c.loop-place.owns.items _ own c.loop-place.invariant.kept of c.in_ok-push_some.ensures;
      served = λ few told.
          served_at t race.provider race.start race.acts.now c.args.asked n c.agent_at-agent.result _ _ c.loop-place.owns.items _ own c.agent_at-agent.ensures (c.loop-place.invariant.served few told) c.in_ok-own.ensures.of (c.in_ok-own.ensures.served few)
          c.in_ok-push_some.ensures;
    }

pub returns-clause-kept : goal.returns-clause-kept
returns-clause-kept g c =
    let t = c.args.topology.now in
    let race = c.args.race.now in
    let all : c.loop-place.place ≡ length t.agents = omega (arith, c.loop-place.auto.place-end, c.loop-place-test.false, c.agents-place-end.ensures.count) in
    kept_alone t race.provider race.start race.acts.now c.loop-place.owns.items (subst (λ n. AreKeptBelow t race.provider race.start race.acts.now n c.loop-place.owns.items) all c.loop-place.invariant.kept)

pub returns-clause-same : goal.returns-clause-same
returns-clause-same g c = λ few told.
    let race = c.args.race.now in
    ended_same c.args.topology.now race.provider race.start c.args.asked c.loop-place.place _ c.loop-place.owns.items (c.loop-place.invariant.served few told)
