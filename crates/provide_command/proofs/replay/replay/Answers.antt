use Rattle.std.proofs.Common.{◌+◌, ◌∙◌, drop, arith, ap}
use Rattle.std.proofs.lemmas.List.{drop_all}
use Rattle.provider_agent.specs.Setting.{own_stp}
use Rattle.provider_agent.specs.State.{Standing}
use Rattle.provider_run.proofs.UnderWay.{standing_is}
use Rattle.provide_command.proofs.Replayed.{drop_is, replayed_more, none_left}
use Rattle.provide_command.proofs.Serves.{taken_one}
use Rattle.provide_command.proofs.replay.replay.Goals as goal

pub loop-entry-preserved : goal.loop-entry-preserved
loop-entry-preserved c =
    let p = c.args.provider.now in
    let l = c.loop-entry in
    let e = c.entry-item.result in
    record {
      setting = ap (λ (x : Standing). x.setting) c.in_ok-replay_one.ensures ∙ l.invariant.setting;
      state = replayed_more p.setting (own_stp c.args.topology.now) l.provider c.replay_one.new.provider e (drop l.entry-index c.args.entries.now) (drop (l.entry-index + 1) c.args.entries.now) _ l.invariant.setting c.in_ok-replay_one.ensures
          (drop_is c.args.entries.now l.entry-index e c.loop-entry-test.true c.entry-item.is) l.invariant.state;
      taken = omega (arith, l.invariant.taken, ap (λ (x : Standing). x.state.taken) c.in_ok-replay_one.ensures, taken_one l.provider.setting (own_stp c.args.topology.now l.provider.setting.number) l.provider.state e);
    }

pub returns-clause-state : goal.returns-clause-state
returns-clause-state c =
    let p = c.args.provider.now in
    let l = c.loop-entry in
    standing_is l.provider p.setting _ l.invariant.setting
    (none_left p.setting (own_stp c.args.topology.now p.setting.number) l.provider.state (drop l.entry-index c.args.entries.now) _ (drop_all l.entry-index c.args.entries.now c.loop-entry-test.false) l.invariant.state)
