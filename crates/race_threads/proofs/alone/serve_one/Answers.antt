use Rattle.std.proofs.Common.{rules, refl, subst}
use Rattle.race_run.specs.Scripts.{asks_by}
use Rattle.race_caller.specs.Plays.{IsOwn}
use Rattle.race_judging.specs.Pairs.{second_of}
use Rattle.race_threads.specs.Raced.{call_of}
use Rattle.race_threads.proofs.Sitting.{is_requester, is_apart}
use Rattle.race_threads.proofs.Served.{serves_own, one_apart, one_asked}
use Rattle.race_threads.proofs.Lone.{none_asked, own_nothing, apart_of}
use Rattle.race_threads.proofs.alone.serve_one.Goals as goal

pub served_by-requires-clause-requester : goal.served_by-requires-clause-requester
served_by-requires-clause-requester g c = is_requester c.args.topology.now c.args.race.now.provider c.args.agent c.requires.caller

pub served_by-requires-clause-apart : goal.served_by-requires-clause-apart
served_by-requires-clause-apart g c = is_apart c.args.topology.now c.args.race.now.provider c.args.agent c.requires.provider c.requires.caller

pub returns-clause-own : goal.returns-clause-own
returns-clause-own g c =
    let race = c.args.race.now in
    subst (λ n. IsOwn c.args.topology.now (call_of race.provider c.args.agent n) race.start (asks_by c.args.agent race.acts.now) c.in_ok-items.items) c.second_of-second.ensures c.in_ok-items.ensures.own

pub returns-then-ne-clause-own : goal.returns-then-ne-clause-own
returns-then-ne-clause-own g c =
    let race = c.args.race.now in
    let apart = apart_of c.args.asked c.args.agent c.if-ne.ensures in
    own_nothing c.args.topology.now (call_of race.provider c.args.agent (second_of race.start)) race.start (asks_by c.args.agent race.acts.now) _ (none_asked c.args.asked c.args.agent race.acts.now apart c.requires.asks) c.new.ensures

pub returns-then-ne-clause-served : goal.returns-then-ne-clause-served
returns-then-ne-clause-served g c = λ few.
    let race = c.args.race.now in
    one_apart c.args.topology.now race.provider race.start c.args.asked c.args.agent _ _ _ c.if-ne.ensures refl c.new.ensures

pub returns-clause-served : goal.returns-clause-served
returns-clause-served g c = λ few.
    let race = c.args.race.now in
    one_asked c.args.topology.now race.provider race.start c.args.asked c.args.agent _ _ c.in_ok-items.items (search rules)
    (λ told. serves_own c.args.topology.now race.provider c.args.agent c.second_of-second.result race.start race.acts.now _ _ c.in_ok-items.items c.second_of-second.ensures c.requires.caller
    (c.laws.ensures.agents c.args.agent c.requires.agent) few told (λ first b is ready. c.in_ok-items.ensures.alone first b is ready))
