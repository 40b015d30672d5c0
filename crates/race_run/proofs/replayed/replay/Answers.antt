use Rattle.std.proofs.Common.{◌+◌, sym, ap, subst, drop, arith}
use Rattle.provider_agent.specs.State.{State, Standing}
use Rattle.race_run.specs.Replay.{IsAt}
use Rattle.race_run.proofs.Replaying.{begins, goes_on, may_here, at_end, standing_of}
use Rattle.race_run.proofs.replayed.replay.Goals as goal

pub loop-place-init : goal.loop-place-init
loop-place-init c =
    let fresh = c.in_ok-provider.ensures in
    let told = c.in_ok-lists.ensures in (
      subst (λ (s : State). IsAt c.args.topology.now c.args.agent c.args.second c.args.history.now s 0 c.args.history.now c.in_ok-lists.lists) (sym (ap (λ (x : Standing). x.state) fresh))
          (begins c.args.topology.now c.args.agent c.args.second c.args.history.now c.in_ok-lists.lists told.nothing.0 told.nothing.1 told.found told.all c.requires.may),
      ap (λ (x : Standing). x.setting) fresh,
    )

pub take-requires-clause-may : goal.take-requires-clause-may
take-requires-clause-may c =
    may_here c.args.topology.now c.args.agent c.args.second c.args.history.now c.loop-place.provider.state c.loop-place.place c.index-history-place.result c.loop-place.lists
    c.loop-place-test.true c.index-history-place.is c.loop-place.invariant.0

pub take-requires-clause-own : goal.take-requires-clause-own
take-requires-clause-own c = c.loop-place.invariant.1

pub take-requires-clause-all : goal.take-requires-clause-all
take-requires-clause-all c = c.loop-place.invariant.0.all

pub loop-place-preserved : goal.loop-place-preserved
loop-place-preserved c =
    let moved = c.in_ok-take.ensures.state in (
      subst (λ (s : State). IsAt c.args.topology.now c.args.agent c.args.second c.args.history.now s (c.loop-place.place + 1) (drop (c.loop-place.place + 1) c.args.history.now) c.take.new.self) (sym (ap (λ (x : Standing). x.state) moved))
          (goes_on c.args.topology.now c.args.agent c.args.second c.args.history.now c.loop-place.provider.state c.loop-place.place c.index-history-place.result c.loop-place.lists c.take.new.self
          c.loop-place-test.true c.index-history-place.is c.loop-place.invariant.0 c.in_ok-take.ensures.adds),
      ap (λ (x : Standing). x.setting) moved,
    )

pub returns-clause-lists : goal.returns-clause-lists
returns-clause-lists c = (at_end c.args.topology.now c.args.agent c.args.second c.args.history.now c.loop-place.provider.state c.loop-place.place c.loop-place.lists (omega (arith, c.loop-place-test.false)) c.loop-place.invariant.0).0

pub returns-clause-provider : goal.returns-clause-provider
returns-clause-provider c =
    let ends = (at_end c.args.topology.now c.args.agent c.args.second c.args.history.now c.loop-place.provider.state c.loop-place.place c.loop-place.lists (omega (arith, c.loop-place-test.false)) c.loop-place.invariant.0).1 in
    standing_of c.loop-place.provider _ _ c.loop-place.invariant.1 ends
