use Rattle.std.proofs.Common.{◌≡◌, ◌+◌, ◌<◌, ◌++◌, ◌∷◌, [], Bool, true, List, length, take, drop, ap, sym, ◌∙◌, subst, arith}
use Rattle.std.proofs.lemmas.List.{take_more, take_all, drop_all}
use Rattle.nsi_script.specs.declared.script.Act.{Act}
use Rattle.race_run.specs.declared.replayed.Call.{Call}
use Rattle.race_run.specs.Scripts.{asks_by}
use Rattle.race_caller.specs.Askers.{HasPlayed}
use Rattle.race_caller.specs.Alone.{idle, EndsAlone}
use Rattle.race_caller.proofs.Asking.{played_more}
use Rattle.race_caller.proofs.Playing.{played_no_acts}
use Rattle.race_caller.proofs.Going.{plays_on, played_out, ends_early}
use Rattle.race_caller.proofs.serving.all_acts.Goals as goal

pub loop-act-init : goal.loop-act-init
loop-act-init g c = record { played = played_no_acts c.args.topology.now c.args.asker.now.call.agent c.args.asker.now _ c.requires.is; alone = λ first b told h. record { now = b; told = told; ends = h } }

pub loop-act-preserved : goal.loop-act-preserved
loop-act-preserved g c =
    let acts = c.args.acts.now in
    let n = c.loop-act.act-index in
    let a = c.args.asker.now.call.agent in
    let within : n < length acts = omega (arith, c.loop-act-test.true) in
    let more : take (n + 1) acts ≡ take n acts ++ c.act-item.result ∷ [] = take_more acts n c.act-item.result within ∙ ap (λ (a : Act). take n acts ++ a ∷ []) (sym c.act-item.is) in
    record {
      played = subst (λ (b : Bool). HasPlayed c.args.topology.now (asks_by a (take (n + 1) acts)) c.args.asker.now c.act_once.new.asker b) c.if-not-on.false
          (played_more c.args.topology.now a (take n acts) (take (n + 1) acts) c.act-item.result c.args.asker.now c.loop-act.asker c.act_once.new.asker c.in_ok-on.on more (ap (λ (k : Call). k.agent) c.loop-act.invariant.played.call) c.loop-act.invariant.played c.in_ok-on.ensures.played);
      alone = λ first b told h.
          subst (EndsAlone c.args.topology.now first (idle (length (asks_by a (drop (n + 1) acts)))) _ c.act_once.new.asker) c.if-not-on.false
          (plays_on c.args.topology.now first acts n c.act-item.result within c.act-item.is a _ c.loop-act.asker _ c.act_once.new.asker c.in_ok-on.on (ap (λ (k : Call). k.agent) c.loop-act.invariant.played.call) (c.loop-act.invariant.alone first b told h)
          (λ j w is k. c.in_ok-on.ensures.alone first j w is k));
    }

pub returns-then-not-on-clause-alone : goal.returns-then-not-on-clause-alone
returns-then-not-on-clause-alone g c = λ first b told h.
    let acts = c.args.acts.now in
    let n = c.loop-act.act-index in
    let a = c.args.asker.now.call.agent in
    let within : n < length acts = omega (arith, c.loop-act-test.true) in
    ends_early c.args.topology.now first (idle (length (asks_by a (drop (n + 1) acts)))) (idle 0) _ c.act_once.new.asker c.in_ok-on.on c.if-not-on.true
    (plays_on c.args.topology.now first acts n c.act-item.result within c.act-item.is a _ c.loop-act.asker _ c.act_once.new.asker c.in_ok-on.on (ap (λ (k : Call). k.agent) c.loop-act.invariant.played.call) (c.loop-act.invariant.alone first b told h)
    (λ j w is k. c.in_ok-on.ensures.alone first j w is k))

pub returns-clause-played : goal.returns-clause-played
returns-clause-played g c =
    let acts = c.args.acts.now in
    subst (λ (l : List Act). HasPlayed c.args.topology.now (asks_by c.args.asker.now.call.agent l) c.args.asker.now c.loop-act.asker true) (take_all c.loop-act.act-index acts (omega (arith, c.loop-act-test.false))) c.loop-act.invariant.played

pub returns-clause-alone : goal.returns-clause-alone
returns-clause-alone g c = λ first b told h.
    let acts = c.args.acts.now in
    played_out c.args.topology.now first c.args.asker.now.call.agent (drop c.loop-act.act-index acts) _ c.loop-act.asker (drop_all c.loop-act.act-index acts (omega (arith, c.loop-act-test.false))) (c.loop-act.invariant.alone first b told h)
